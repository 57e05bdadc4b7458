-- Steps one after another, and steps of a thread alone, are a run of the world.
use Rattle.lot_laws.proofs.Imports
use Imports.{ℕ, zero, suc, ◌≡◌, ◌≤◌, List, [], ◌∷◌, ◌++◌, length, replicate, refl, sym, ap, ◌∙◌, subst, arith}
use Imports.{Step, Outcome, IsRun, IsStep, LocksState, OfEachStep, State, after, step_outcome, after_steps}
use Imports.{step_outcomes, alone_after, go_of, solo, IsKept, locks_of, IsWorldStep, IsWorldRun, Tells}
use Imports.{IsSoloRun, GoesOnUntil, last_told, IsWorld, after_well_formed}
use Rattle.spec_locks.specs.declared.outcomes.Outcome.TheVariants as outcome
use Rattle.lot_laws.proofs.condvar.StepsKeep.{after_condvars}
use Rattle.lot_laws.proofs.hands.CountsKept.{counted_after}
use Rattle.lot_laws.proofs.promises.OwingStays.{owes_since}
use Rattle.lot_laws.proofs.promises.Fair.{is_fair}
use Rattle.lot_laws.proofs.machine.Filled.{filled_after}
use Rattle.lot_laws.proofs.calls.LockSteps.{after_step}
use Rattle.lot_laws.proofs.machine.OneChange.{one_thing, touches}
use Rattle.lot_laws.proofs.promises.LeavesOthers.{leaves_others}
use Rattle.lot_laws.proofs.promises.PromisesKept.{kept}
use Rattle.lot_laws.proofs.mutex.FairMutexes.{settled_after}
use Rattle.lot_laws.proofs.machine.Sleepers.{sleepers_stay}
use Rattle.lot_laws.proofs.calls.Marked.{looks_no_more}
use Rattle.lot_laws.proofs.calls.Tries.{tries_at_once}
use Rattle.lot_laws.proofs.sites.TurnsKept.{after_inductive}

pub world_after : (w : State) (s : Step) → IsWorld w → IsWorld (after w s)
world_after w s h = record {
  well_formed = after_well_formed w s h.well_formed;
  inductive = after_inductive w s h.well_formed h.inductive h.counted h.condvars;
  counted = counted_after w s h.well_formed h.inductive h.counted h.condvars;
  condvars = after_condvars w s h.well_formed h.inductive h.counted h.condvars;
  settled = settled_after w s h.well_formed h.inductive h.counted h.condvars h.settled;
}

pub world_kept : (w : State) → IsWorld w → IsKept w
world_kept w h = kept w h.inductive h.condvars h.settled

-- each step is one of the abstract locks
pub step_is : (w : State) (s : Step) → IsWorld w → IsStep (locks_of w) s (step_outcome w s)
    (locks_of (after w s))
step_is w s h = let turned = after_step w s h.well_formed h.inductive h.counted h.condvars in
    (turned.0, turned.1, leaves_others w s (world_kept w h) (world_kept (after w s) (world_after w s h)))

pub world_step : (w : State) (s : Step) → IsWorld w → IsWorldStep w s (step_outcome w s) (after w s)
world_step w s h = record {
  refines = step_is w s h;
  one_thing = one_thing w s h.inductive;
  touches = touches w s;
  filled = filled_after w s (world_after w s h);
  sleepers = sleepers_stay w s;
  tries = tries_at_once w s h.inductive;
  looks_no_more = looks_no_more w s;
  owing = owes_since w s h.well_formed h.inductive h.counted h.condvars;
  fair = is_fair w s h.well_formed h.inductive h.counted h.condvars;
  kept = world_kept (after w s) (world_after w s h);
}

-- a fact of each step of the abstract locks is one of each step of the world
pub of_step : {law : LocksState → LocksState → Type 0} → OfEachStep law → (w : State) (s : Step) → IsWorld w
    → law (locks_of w) (locks_of (after w s))
of_step each w s h = each (locks_of w) (locks_of (after w s)) s (step_outcome w s) (world_kept w h).state
    (step_is w s h)

pub world_run : (w : State) (ss : List Step) → IsWorld w → IsWorldRun w ss (step_outcomes w ss)
    (after_steps w ss)
world_run w [] h = refl
world_run w (s ∷ ss) h = (after w s, world_step w s h, world_run (after w s) ss (world_after w s h))

-- a run of the world is a run of the abstract locks
pub run_refines : (w v : State) (ss : List Step) (os : List Outcome) → IsWorldRun w ss os v
    → IsRun (locks_of w) ss os (locks_of v)
run_refines w v [] [] h = ap locks_of h
run_refines w v [] (o ∷ os) h = absurd h
run_refines w v (s ∷ ss) [] h = absurd h
run_refines w v (s ∷ ss) (o ∷ os) h = (locks_of h.0, h.1.refines, run_refines h.0 v ss os h.2)

-- ---------------------------------------------------------------- new text stands after the old

module _ (w v : State) (ss : List Step) (before now : List Outcome) (h : IsWorld w) (led : v
    ≡ after_steps w ss)
    (answers : now ≡ before ++ step_outcomes w ss) where
  pub tells_run : Tells before now (λ told. IsWorldRun w ss told v)
  tells_run = (
    step_outcomes w ss,
    answers,
    subst (IsWorldRun w ss (step_outcomes w ss)) (sym led)
        (world_run w ss h),
  )

  pub tells_refines : Tells before now (λ told. IsRun (locks_of w) ss told (locks_of v))
  tells_refines = (
    step_outcomes w ss,
    answers,
    run_refines w v ss (step_outcomes w ss)
        (subst (IsWorldRun w ss (step_outcomes w ss)) (sym led) (world_run w ss h)),
  )

-- ---------------------------------------------------------------- a thread alone

-- at most n steps of the thread, after an outcome
record GoesFor (n : ℕ) (w : State) (t : ℕ) (last result : Outcome) (v : State) : Type 0 where
  pub told : List Outcome
  pub few : length told ≤ n
  pub run : IsWorldRun w (replicate (length told) (go_of t)) told v
  pub goes_on : GoesOnUntil told
  pub result_is : result ≡ last_told (last ∷ told)

goes_more : (o : Outcome) (told : List Outcome) → o ≡ outcome.Step → GoesOnUntil told
    → GoesOnUntil (o ∷ told)
goes_more o [] e h = λ f. let g : outcome.Step ≡ outcome.NotNow = sym e ∙ f in cc
goes_more o (x ∷ told) e h = (e, h)

goes_for : (n : ℕ) (w : State) (t : ℕ) (last : Outcome) → IsWorld w
    → GoesFor n w t last (solo n w t last).outcome (solo n w t last).state
unfolding solo
goes_for zero w t last h = record { told = []; few = omega arith; run = refl; goes_on = tt; result_is = refl }
goes_for (suc n) w t last h = by_outcome (step_outcome w (go_of t)) refl (goes_for n (after w (go_of t)) t
    outcome.Step (world_after w (go_of t) h))
  where
    by_outcome : (o : Outcome) → step_outcome w (go_of t) ≡ o
        → GoesFor n (after w (go_of t)) t outcome.Step (solo n (after w (go_of t)) t
        outcome.Step).outcome
        (solo n (after w (go_of t)) t outcome.Step).state
        → GoesFor (suc n) w t last
        (alone_after o w (after w (go_of t)) last (solo n (after w (go_of t)) t
        outcome.Step)).outcome
        (alone_after o w (after w (go_of t)) last (solo n (after w (go_of t)) t
        outcome.Step)).state
    by_outcome outcome.NotNow e more = record {
      told = [];
      few = omega arith;
      run = refl;
      goes_on = tt;
      result_is = refl;
    }
    by_outcome outcome.Step e more = record {
      told = outcome.Step ∷ more.told;
      few = let le : length more.told ≤ n = more.few in omega arith;
      run = (
        after w (go_of t),
        subst (λ o. IsWorldStep w (go_of t) o (after w (go_of t))) e
            (world_step w (go_of t) h),
        more.run,
      );
      goes_on = goes_more outcome.Step more.told refl more.goes_on;
      result_is = more.result_is;
    }
    by_outcome o e more = record {
      told = o ∷ [];
      few = omega arith;
      run = (
        after w (go_of t),
        subst (λ x. IsWorldStep w (go_of t) x (after w (go_of t))) e
            (world_step w (go_of t) h),
        refl,
      );
      goes_on = λ f. cc;
      result_is = refl;
    }

pub solo_world : (n : ℕ) (w : State) (t : ℕ) (last : Outcome) → IsWorld w → IsWorld (solo n w t last).state
unfolding solo
solo_world zero w t last h = h
solo_world (suc n) w t last h = by_outcome (step_outcome w (go_of t)) (solo_world n (after w (go_of t)) t
    outcome.Step (world_after w (go_of t) h))
  where
    by_outcome : (o : Outcome)
        → IsWorld (solo n (after w (go_of t)) t outcome.Step).state
        → IsWorld (alone_after o w (after w (go_of t)) last (solo n (after w (go_of t)) t
        outcome.Step)).state
    by_outcome outcome.NotNow on = h
    by_outcome outcome.Step on = on
    by_outcome o on = world_after w (go_of t) h

-- a run of a thread alone, and what it comes to
pub record RunsAlone (w : State) (t : ℕ) (result : Outcome) (v : State) : Type 0 where
  pub told : List Outcome
  pub run : IsWorldRun w (replicate (length told) (go_of t)) told v
  pub goes_on : GoesOnUntil told
  pub last : result ≡ last_told told

last_is : (result : Outcome) (told : List Outcome) → result ≡ last_told (outcome.NotNow ∷ told)
    → result ≡ last_told told
last_is result [] e = e
last_is result (o ∷ told) e = e

pub runs_alone : (n : ℕ) (w : State) (t : ℕ) → IsWorld w
    → RunsAlone w t (solo n w t outcome.NotNow).outcome
    (solo n w t outcome.NotNow).state
runs_alone n w t h = let g = goes_for n w t outcome.NotNow h in
    record {
      told = g.told;
      run = g.run;
      goes_on = g.goes_on;
      last = last_is (solo n w t outcome.NotNow).outcome g.told g.result_is;
    }

pub solo_runs : (w : State) (t : ℕ) → IsWorld w
    → IsSoloRun w t (solo 64 w t outcome.NotNow).outcome
    (solo 64 w t outcome.NotNow).state
solo_runs w t h = let g = goes_for 64 w t outcome.NotNow h in
    record {
      told = g.told;
      few = g.few;
      run = g.run;
      goes_on = g.goes_on;
      last = last_is (solo 64 w t outcome.NotNow).outcome g.told g.result_is;
    }
