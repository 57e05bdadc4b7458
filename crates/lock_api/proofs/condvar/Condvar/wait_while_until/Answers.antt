use Rattle.std.proofs.Common.{◌∙◌, ap, inl, refl, subst, sym, true}
use denote.Param.Always.{mut_next}
use denote.Param.Members.{was_Called}
use Rattle.lock_raw.specs.Answers.{late_answer}
use Rattle.lock_api.specs.Guards.{lock_of}
use Rattle.lock_api.proofs.Stays.{stays_afterwards}
use Rattle.lock_api.proofs.WaitsOn.{late_or_holds, not_begun, not_late, waits_in_time, waits_so_far}
use Rattle.lock_api.proofs.WaitsOn.{with_given}
use Rattle.spec_locks.specs.declared.outcomes.Answer.TheVariants as answers
use Rattle.lock_api.proofs.condvar.Condvar.wait_while_until.Goals as goal

pub loop-init : goal.loop-init
loop-init g c = record {
  turns = (tt, tt);
  thread = c.requires.token;
  keeps_rights = inl refl;
  waits = (0, refl);
  guard = refl;
  passed = not_begun;
  callable = c.requires.callable;
  kept = λ _. refl;
}

pub loop-preserved : goal.loop-preserved
loop-preserved g c = record {
  turns = (tt, tt);
  thread = c.in-Ok.ensures.token.0;
  keeps_rights = stays_afterwards g.R.RawMutex.RawMutex.keeps_rights g.R.RawMutex.RawMutex.keeps_rights_on _
      _ _
      c.loop.invariant.keeps_rights
      c.in-Ok.ensures.token.1;
  waits = waits_so_far (λ mutex. g.R.RawCondvar.waited c.args.self.now mutex true) _ _ c.timed_out-late.result
      _ _ _ c.loop.invariant.guard (not_late (g.R.RawCondvar.waited c.args.self.now _ true) c.loop.late _ _
      c.if-late.false c.loop.invariant.waits)
      (subst (λ late. g.R.RawCondvar.waited c.args.self.now (lock_of c.loop.guard) true (late_answer late)
      c.loop.token c.wait_until.new.token) (sym c.timed_out-late.ensures) c.in-Ok.ensures.path);
  guard = c.in-Ok.ensures.guard ∙ c.loop.invariant.guard;
  passed = λ late. c.in-Ok.ensures.late (sym c.timed_out-late.ensures ∙ late);
  callable = mut_next g.F.FnMut _ _ _ _ _ (record { met = c.condition-holds.ensures.met }) refl
      c.loop.invariant.callable;
  kept = λ keeps_rights. keeps_rights _ _ _ (was_Called g.F.FnMut c.args.condition c.loop.condition _ _ _
      c.condition-holds.new.self c.condition-holds.ensures.met (c.loop.invariant.kept keeps_rights) refl);
}

pub returns-in-Err-clause-token : goal.returns-in-Err-clause-token
returns-in-Err-clause-token g c = (
  c.in-Err.ensures.token.0,
  stays_afterwards g.R.RawMutex.RawMutex.keeps_rights g.R.RawMutex.RawMutex.keeps_rights_on _ _ _
      c.loop.invariant.keeps_rights c.in-Err.ensures.token.1,
)

pub returns-in-Err-clause-path : goal.returns-in-Err-clause-path
returns-in-Err-clause-path g c = (
  _,
  not_late (g.R.RawCondvar.waited c.args.self.now _ true) c.loop.late _ _ c.if-late.false
      c.loop.invariant.waits,
  with_given (λ mutex. g.R.RawCondvar.waited c.args.self.now mutex true
      answers.TwoMutexes) _ _ _ _ c.loop.invariant.guard c.in-Err.ensures.path,
)

pub returns-then-late-clause-token : goal.returns-then-late-clause-token
returns-then-late-clause-token g c = (c.loop.invariant.thread, c.loop.invariant.keeps_rights)

pub returns-then-late-clause-guard : goal.returns-then-late-clause-guard
returns-then-late-clause-guard g c = c.loop.invariant.guard

pub returns-then-late-clause-path : goal.returns-then-late-clause-path
returns-then-late-clause-path g c =
    waits_in_time (g.R.RawCondvar.waited c.args.self.now (lock_of c.args.guard) true) c.loop.late _ _
    c.loop.invariant.waits

pub returns-then-late-clause-ended : goal.returns-then-late-clause-ended
returns-then-late-clause-ended g c = (
  _,
  _,
  _,
  _,
  record { met = c.condition-holds.ensures.met },
  refl,
  c.loop.invariant.kept,
)

pub returns-then-late-clause-late : goal.returns-then-late-clause-late
returns-then-late-clause-late g c = λ holds. c.loop.invariant.passed (late_or_holds c.then-late.either holds)

pub returns-in-Err-clause-guard : goal.returns-in-Err-clause-guard
returns-in-Err-clause-guard g c = (
  c.in-Err.ensures.guard.0,
  c.in-Err.ensures.guard.1
      ∙ c.loop.invariant.guard,
)

pub wait_until-requires-clause-token : goal.wait_until-requires-clause-token
wait_until-requires-clause-token g c = c.loop.invariant.thread

pub wait_until-requires-clause-lot : goal.wait_until-requires-clause-lot
wait_until-requires-clause-lot g c = ap g.R.RawMutex.RawMutex.lot_of c.loop.invariant.guard ∙ c.requires.lot
