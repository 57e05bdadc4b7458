use Rattle.std.proofs.Common.{inl, inr}
use Rattle.lock_api_rw.proofs.Visiting.{came_and_went, came_up_and_went, thread_of}
use Rattle.lock_api_rw.proofs.rwlock.RwLock.with_upgradable.Goals as goal

pub returns-in-Some-clause-visit : goal.returns-in-Some-clause-visit
returns-in-Some-clause-visit g c = inl (
  (_, c.in-Some.ensures),
  came_and_went g.R.RawRwLockHalves.took_steps g.R.RawRwLockHalves.woke_waiters _ _ _ _ _ _ _ _
      c.in-Ok.ensures.guard
      c.in-Ok.ensures.path c.unlock.ensures.path c.unlock.ensures.record,
)

pub returns-in-None-clause-token : goal.returns-in-None-clause-token
returns-in-None-clause-token g c = (
  thread_of g.R.RawRwLockHalves.is_token_of g.R.RawRwLockHalves.lot_of _ _ _ _ c.in-Ok.ensures.guard
      c.upgrade-guard.ensures.guard c.unlock-in-None.ensures.token.0,
  g.R.RawRwLockHalves.keeps_rights_on _ _ _ (g.R.RawRwLockHalves.keeps_rights_on _ _ _ c.in-Ok.ensures.token.1
      c.upgrade-guard.ensures.token.1) c.unlock-in-None.ensures.token.1,
)

pub returns-in-None-clause-visit : goal.returns-in-None-clause-visit
returns-in-None-clause-visit g c = inr (
  (_, c.in-None.ensures),
  (_, _, c.run_on-answer.ensures),
  came_up_and_went g.R.RawRwLockHalves.took_steps g.R.RawRwLockHalves.woke_waiters _ _ _ _ _ _ _
      c.in-Ok.ensures.guard
      c.upgrade-guard.ensures.guard c.in-Ok.ensures.path c.upgrade-guard.ensures.path
      c.unlock-in-None.ensures.path c.unlock-in-None.ensures.record,
)
