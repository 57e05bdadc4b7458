use Rattle.lock_api.proofs.Visits.{thread_of}
use Rattle.lock_api.proofs.mutex.Mutex.get.Goals as goal

pub returns-clause-token : goal.returns-clause-token
returns-clause-token g c = (
  thread_of g.R.RawMutex.is_token_of g.R.RawMutex.lot_of _ _ _ c.lock-guard.ensures.guard
      c.unlock.ensures.token.0,
  g.R.RawMutex.keeps_rights_on _ _ _ c.lock-guard.ensures.token.1 c.unlock.ensures.token.1,
)
