use Rattle.std.proofs.Common.{List}
use Rattle.core_words.specs.declared.owners.Ownership.{Ownership}
use Rattle.run_once_and_semaphores.proofs.once.Once.fill.Goals as goal

pub returns-in-Err-clause-owns : goal.returns-in-Err-clause-owns
returns-in-Err-clause-owns g c = λ (base : List Ownership) runs. let ended =
    c.end_run.ensures.owns base runs in (ended.1, tt)
