use Rattle.std.proofs.Common.{◌∙◌, false, true, inr}
use Rattle.run_base.specs.Telling.{owns_of}
use Rattle.run_once_and_semaphores.proofs.Knowing.{has_run_by}
use Rattle.run_once_and_semaphores.proofs.once.Once.call_once.Goals as goal

pub returns-in-Ok-clause-token : goal.returns-in-Ok-clause-token
returns-in-Ok-clause-token g c = let came = c.in-Runs.ensures.came c.args.token.now c.begin-seen.ensures.seen
    in let ended = c.end_run.ensures in
    (ended.token.0, (ended.token.1 ∙ came.0, (ended.owns (owns_of c.args.token.now) came.1).1))

pub returns-in-Ok-clause-ran : goal.returns-in-Ok-clause-ran
returns-in-Ok-clause-ran g c = let came = c.in-Runs.ensures.came c.args.token.now c.begin-seen.ensures.seen
    in let ended = c.end_run.ensures in (
      (ended.owns (owns_of c.args.token.now) came.1).0,
      inr (
        c.in-Runs.field-0,
        c.in-Ok.ensures,
        has_run_by c.args.self.now.word.number false true c.in-Runs.field-0 c.args.token.now c.go_on.new.token
            c.end_run.new.token came.0 came.2 ended.ends ended.closes,
      ),
    )

pub returns-in-Err-clause-token : goal.returns-in-Err-clause-token
returns-in-Err-clause-token g c = let came = c.in-Runs.ensures.came c.args.token.now c.begin-seen.ensures.seen
    in let ended = c.end_run-in-Err.ensures in
    (ended.token.0, (ended.token.1 ∙ came.0, (ended.owns (owns_of c.args.token.now) came.1).1))

pub returns-in-Err-clause-ran : goal.returns-in-Err-clause-ran
returns-in-Err-clause-ran g c = let came = c.in-Runs.ensures.came c.args.token.now c.begin-seen.ensures.seen
    in let ended = c.end_run-in-Err.ensures in (
      c.in-Runs.field-0,
      c.in-Err.ensures,
      has_run_by c.args.self.now.word.number false false c.in-Runs.field-0
          c.args.token.now c.go_on.new.token c.end_run-in-Err.new.token came.0 came.2 ended.ends ended.closes,
    )
