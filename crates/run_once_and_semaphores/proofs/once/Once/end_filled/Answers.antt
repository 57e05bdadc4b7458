use Rattle.std.proofs.Common.{List}
use Rattle.core_words.specs.declared.owners.Ownership.{Ownership}
use Rattle.run_once_and_semaphores.proofs.once.Once.end_filled.Goals as goal

pub returns-clause-owns : goal.returns-clause-owns
returns-clause-owns g c = λ (base : List Ownership) runs. let ended =
    c.end_run.ensures.owns base runs in (ended.1, ended.0)
