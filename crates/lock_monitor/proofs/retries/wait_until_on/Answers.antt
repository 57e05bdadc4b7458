use Rattle.std.proofs.Common.{◌∙◌, ap, inl, refl, subst, sym, true}
use Rattle.lock_raw.specs.Answers.{late_answer}
use Rattle.lock_api.specs.Guards.{lock_of}
use Rattle.lock_api.proofs.Stays.{stays_afterwards}
use Rattle.lock_api.proofs.WaitsOn.{waits_on, with_given}
use Rattle.lock_monitor.proofs.Stays.{stays_after}
use Rattle.spec_locks.specs.declared.outcomes.Answer.TheVariants as answers
use Rattle.lock_monitor.proofs.retries.wait_until_on.Goals as goal

pub loop-init : goal.loop-init
loop-init g c = record {
  turns = (tt, tt);
  thread = c.requires.token;
  keeps_rights = inl refl;
  refused = (0, refl);
  guard = refl;
}

pub loop-preserved : goal.loop-preserved
loop-preserved g c = record {
  turns = (tt, tt);
  thread = c.in-Err.ensures.token.0;
  keeps_rights = stays_afterwards g.R.RawMutex.RawMutex.keeps_rights g.R.RawMutex.RawMutex.keeps_rights_on _
      _ _
      c.loop.invariant.keeps_rights
      c.in-Err.ensures.token.1;
  refused = waits_on (λ mutex. g.R.RawCondvar.waited c.args.condvar.now mutex true answers.TwoMutexes) _ _ _ _
      _ c.loop.invariant.guard c.loop.invariant.refused c.in-Err.ensures.path;
  guard = c.in-Err.ensures.guard.1 ∙ c.loop.invariant.guard;
}

pub returns-in-Ok-clause-token : goal.returns-in-Ok-clause-token
returns-in-Ok-clause-token g c = (
  c.in-Ok.ensures.token.0,
  stays_after g.R.RawMutex.RawMutex.keeps_rights g.R.RawMutex.RawMutex.keeps_rights_on _ _ _
      c.loop.invariant.keeps_rights c.in-Ok.ensures.token.1,
)

pub returns-in-Ok-clause-guard : goal.returns-in-Ok-clause-guard
returns-in-Ok-clause-guard g c = c.in-Ok.ensures.guard ∙ c.loop.invariant.guard

pub returns-in-Ok-clause-path : goal.returns-in-Ok-clause-path
returns-in-Ok-clause-path g c = (
  _,
  c.loop.invariant.refused,
  subst (λ late. g.R.RawCondvar.waited c.args.condvar.now (lock_of c.args.guard) true (late_answer late)
      c.loop.token c.wait_until.new.token) (sym c.timed_out.ensures)
      (with_given (λ mutex. g.R.RawCondvar.waited c.args.condvar.now mutex true (late_answer c.in-Ok.ended)) _
      _ _ _ c.loop.invariant.guard c.in-Ok.ensures.path),
)

pub returns-in-Ok-clause-late : goal.returns-in-Ok-clause-late
returns-in-Ok-clause-late g c = λ late. c.in-Ok.ensures.late (sym c.timed_out.ensures ∙ late)

pub wait_until-requires-clause-token : goal.wait_until-requires-clause-token
wait_until-requires-clause-token g c = c.loop.invariant.thread

pub wait_until-requires-clause-lot : goal.wait_until-requires-clause-lot
wait_until-requires-clause-lot g c = ap g.R.RawMutex.RawMutex.lot_of c.loop.invariant.guard ∙ c.requires.lot
