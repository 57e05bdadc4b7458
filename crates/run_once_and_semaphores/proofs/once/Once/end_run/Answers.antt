use Rattle.std.proofs.Common.{List}
use Rattle.core_words.specs.declared.owners.Ownership.{Ownership}
use Rattle.run_base.specs.Telling.{owns_of}
use Rattle.run_once_and_semaphores.proofs.Knowing.{after_run, has_run}
use Rattle.run_once_and_semaphores.proofs.once.Once.end_run.Goals as goal

pub close-requires-clause-runs : goal.close-requires-clause-runs
close-requires-clause-runs g c = has_run c.args.self.now.word.number c.requires.runs.0
    (owns_of c.args.token.now) c.requires.runs.1

pub returns-clause-owns : goal.returns-clause-owns
returns-clause-owns g c = λ (base : List Ownership) r. after_run c.args.self.now.word.number c.args.succeeded
    base (owns_of c.args.token.now) (owns_of c.close.new.token) r c.close.ensures.owns
