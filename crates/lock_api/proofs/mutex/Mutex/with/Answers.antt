use Rattle.lock_api.proofs.Visits.{came_and_went, thread_of}
use Rattle.lock_api.proofs.mutex.Mutex.with.Goals as goal

pub returns-clause-ran : goal.returns-clause-ran
returns-clause-ran g c = (_, _, c.run_on-answer.ensures)

pub returns-clause-token : goal.returns-clause-token
returns-clause-token g c = (
  thread_of g.R.RawMutex.is_token_of g.R.RawMutex.lot_of _ _ _ c.lock-guard.ensures.guard
      c.unlock.ensures.token.0,
  g.R.RawMutex.keeps_rights_on _ _ _ c.lock-guard.ensures.token.1 c.unlock.ensures.token.1,
)

pub returns-clause-path : goal.returns-clause-path
returns-clause-path g c =
    came_and_went g.R.RawMutex.took_steps g.R.RawMutex.released _ _ _ _ _ _ _ _ c.lock-guard.ensures.guard
    c.lock-guard.ensures.path c.unlock.ensures.path c.unlock.ensures.record
