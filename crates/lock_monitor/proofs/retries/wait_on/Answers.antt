use Rattle.std.proofs.Common.{◌∙◌, ap, inl, refl, false}
use Rattle.lock_api.proofs.Stays.{stays_afterwards}
use Rattle.lock_api.proofs.WaitsOn.{waits_on, with_given}
use Rattle.lock_monitor.proofs.Stays.{stays_after}
use Rattle.spec_locks.specs.declared.outcomes.Answer.TheVariants as answers
use Rattle.lock_monitor.proofs.retries.wait_on.Goals as goal

pub loop-init : goal.loop-init
loop-init g c = record {
  turns = (tt, tt);
  thread = c.requires.token;
  keeps_rights = inl refl;
  refused = (0, refl);
  guard = refl;
}

pub loop-preserved : goal.loop-preserved
loop-preserved g c = record {
  turns = (tt, tt);
  thread = c.in-Err.ensures.token.0;
  keeps_rights = stays_afterwards g.R.RawMutex.RawMutex.keeps_rights g.R.RawMutex.RawMutex.keeps_rights_on _
      _ _
      c.loop.invariant.keeps_rights
      c.in-Err.ensures.token.1;
  refused = waits_on (λ mutex. g.R.RawCondvar.waited c.args.condvar.now mutex false answers.TwoMutexes) _ _ _
      _ _ c.loop.invariant.guard c.loop.invariant.refused c.in-Err.ensures.path;
  guard = c.in-Err.ensures.guard.1 ∙ c.loop.invariant.guard;
}

pub returns-in-Ok-clause-token : goal.returns-in-Ok-clause-token
returns-in-Ok-clause-token g c = (
  c.in-Ok.ensures.token.0,
  stays_after g.R.RawMutex.RawMutex.keeps_rights g.R.RawMutex.RawMutex.keeps_rights_on _ _ _
      c.loop.invariant.keeps_rights c.in-Ok.ensures.token.1,
)

pub returns-in-Ok-clause-guard : goal.returns-in-Ok-clause-guard
returns-in-Ok-clause-guard g c = c.in-Ok.ensures.guard ∙ c.loop.invariant.guard

pub returns-in-Ok-clause-path : goal.returns-in-Ok-clause-path
returns-in-Ok-clause-path g c = (
  _,
  c.loop.invariant.refused,
  with_given (λ mutex. g.R.RawCondvar.waited c.args.condvar.now mutex false
      answers.Ok) _ _ _ _ c.loop.invariant.guard c.in-Ok.ensures.path,
)

pub wait-requires-clause-token : goal.wait-requires-clause-token
wait-requires-clause-token g c = c.loop.invariant.thread

pub wait-requires-clause-lot : goal.wait-requires-clause-lot
wait-requires-clause-lot g c = ap g.R.RawMutex.RawMutex.lot_of c.loop.invariant.guard ∙ c.requires.lot
