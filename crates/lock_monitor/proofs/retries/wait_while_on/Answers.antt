use Rattle.std.proofs.Common.{◌∙◌, ap, inl, refl, false}
use denote.Param.Always.{mut_next}
use denote.Param.Members.{was_Called}
use Rattle.lock_api.proofs.Stays.{stays_afterwards}
use Rattle.lock_api.proofs.WaitsOn.{waits_on}
use Rattle.lock_monitor.specs.Conditions.{WaitsAtLast}
use Rattle.spec_locks.specs.declared.outcomes.Answer.TheVariants as answers
use Rattle.lock_monitor.proofs.retries.wait_while_on.Goals as goal

pub loop-init : goal.loop-init
loop-init g c = record {
  turns = (tt, tt);
  thread = c.requires.token;
  keeps_rights = inl refl;
  waits = (0, refl);
  guard = refl;
  callable = c.requires.callable;
  kept = λ _. refl;
}

pub loop-preserved : goal.loop-preserved
loop-preserved g c = record {
  turns = (tt, tt);
  thread = c.wait_on-guard.ensures.token.0;
  keeps_rights = stays_afterwards g.R.RawMutex.RawMutex.keeps_rights g.R.RawMutex.RawMutex.keeps_rights_on _
      _ _
      c.loop.invariant.keeps_rights
      c.wait_on-guard.ensures.token.1;
  waits = waits_on (λ mutex. WaitsAtLast (g.R.RawCondvar.waited c.args.condvar.now mutex false) answers.Ok) _
      _ _ _ _ c.loop.invariant.guard c.loop.invariant.waits c.wait_on-guard.ensures.path;
  guard = c.wait_on-guard.ensures.guard ∙ c.loop.invariant.guard;
  callable = mut_next g.F.FnMut _ _ _ _ _ (record { met = c.condition.ensures.met }) refl
      c.loop.invariant.callable;
  kept = λ keeps_rights. keeps_rights _ _ _ (was_Called g.F.FnMut c.args.condition c.loop.condition _ _ _
      c.condition.new.self c.condition.ensures.met (c.loop.invariant.kept keeps_rights) refl);
}

pub wait_on-guard-requires-clause-token : goal.wait_on-guard-requires-clause-token
wait_on-guard-requires-clause-token g c = c.loop.invariant.thread

pub wait_on-guard-requires-clause-lot : goal.wait_on-guard-requires-clause-lot
wait_on-guard-requires-clause-lot g c = ap g.R.RawMutex.RawMutex.lot_of c.loop.invariant.guard
    ∙ c.requires.lot

pub returns-then-not-condition-clause-token : goal.returns-then-not-condition-clause-token
returns-then-not-condition-clause-token g c = (c.loop.invariant.thread, c.loop.invariant.keeps_rights)

pub returns-then-not-condition-clause-guard : goal.returns-then-not-condition-clause-guard
returns-then-not-condition-clause-guard g c = c.loop.invariant.guard

pub returns-then-not-condition-clause-path : goal.returns-then-not-condition-clause-path
returns-then-not-condition-clause-path g c = c.loop.invariant.waits

pub returns-then-not-condition-clause-ended : goal.returns-then-not-condition-clause-ended
returns-then-not-condition-clause-ended g c = (
  _,
  _,
  _,
  _,
  c.if-not-condition.ensures,
  refl,
  c.loop.invariant.kept,
)
