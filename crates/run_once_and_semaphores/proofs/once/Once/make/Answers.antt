use Rattle.std.proofs.Common.{◌∙◌}
use Rattle.run_base.specs.Telling.{owns_of}
use Rattle.run_once_and_semaphores.proofs.Knowing.{by_result}
use Rattle.run_once_and_semaphores.proofs.once.Once.make.Goals as goal

pub fill-requires-clause-runs : goal.fill-requires-clause-runs
fill-requires-clause-runs g c = let came = c.in-Runs.ensures.came c.args.token.now c.begin-seen.ensures.seen
    in (owns_of c.args.token.now, came.1)

pub returns-in-Runs-clause-token : goal.returns-in-Runs-clause-token
returns-in-Runs-clause-token g c = let came = c.in-Runs.ensures.came c.args.token.now
    c.begin-seen.ensures.seen in let filled = c.fill.ensures in
    (filled.token.0, (filled.token.1 ∙ came.0, (filled.owns (owns_of c.args.token.now) came.1).0))

pub returns-in-Runs-clause-ended : goal.returns-in-Runs-clause-ended
returns-in-Runs-clause-ended g c = let came = c.in-Runs.ensures.came c.args.token.now
    c.begin-seen.ensures.seen in
    by_result _ _ _ c.fill.result (c.fill.ensures.owns (owns_of c.args.token.now) came.1).1
    c.fill.ensures.value
