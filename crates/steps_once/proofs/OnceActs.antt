-- Each step of a `Once` takes its thread in the machine where its act says, and so does what befalls it
-- asleep.
use Rattle.std.proofs.Common.{ℕ, Bool, true, false, Some, if◌then◌else◌, ◌==◌, ◌≡◌, inr}
use Rattle.std.proofs.Common.{refl, sym, ap, subst}
use Rattle.std.specs.Prelude.{◌&&◌}
use Rattle.core_base.specs.declared.wants.Want.TheVariants as wants
use Rattle.spec_locks.specs.declared.calls.OnceCall.{OnceCall}
use Rattle.spec_locks.specs.declared.calls.OnceCall.TheVariants.{CallOnce, Wait, WaitTimed}
use Rattle.steps_base.specs.declared.acts.Next.{Next}
use Rattle.steps_base.specs.declared.acts.Next.TheVariants.{At, End as Over}
use Rattle.steps_base.specs.declared.acts.Reply.TheVariants as reply
use Rattle.steps_base.specs.Moves.{AreOfWord, GoesIn, inside_of, location_then, IsHeld, Sleeps, StaysPut}
use Rattle.steps_base.specs.Moves.{row_of}
use Rattle.steps_base.specs.Profiles.{hand}
use Rattle.steps_base.specs.Locations.{Location, location_by, nowhere}
use Rattle.spec_locks.specs.Sites.{Line, Main}
use Rattle.spec_locks.specs.Codes.{is_marked}
use Rattle.steps_once.specs.declared.look.LookAt.TheVariants as look
use Rattle.steps_once.specs.declared.look.Course.{Course}
use Rattle.steps_once.specs.declared.look.Course.TheVariants.{Ends, Runs, Marks, Parks}
use Rattle.steps_once.specs.declared.run.RunAt.TheVariants as run
use Rattle.steps_once.specs.declared.give_up.GiveUpAt.TheVariants as give_up
use Rattle.steps_once.specs.declared.places.OncePlace.{OncePlace}
use Rattle.steps_once.specs.declared.places.OncePlace.TheVariants.{Look, Run, GiveUp}
use Rattle.steps_once.specs.OnceSteps.{course_act, course_of, ended, closure_begun, in_look, in_run}
use Rattle.steps_once.specs.OnceSteps.{is_forced, is_mark, is_run, looked_by, marked, want_of}
use Rattle.steps_once.specs.OnceDeeds.{closes, exchanged_deeds, looked_deeds}
use Rattle.steps_once.specs.OnceCalls.{next_row}
use Rattle.steps_once.specs.OnceMoves.{OnceActsMove, OnceLateMove, OnceMoves, OnceSleepersMove, once_hears}
use Rattle.steps_once.specs.OnceMoves.{once_move}
use Rattle.steps_base.proofs.Moving.{awake, goes_in, goes_out, stands_inside, stays_put}

abbrev location_next : Next OncePlace → Location
location_next n = location_by (row_of (next_row n))

-- ---------------------------------------------------------------- the word

looks_rest : (c : OnceCall) (again : Bool) (v : ℕ) (k : Course)
    → location_next (in_look c again (looked_by v k)) ≡ nowhere
looks_rest c again v (Ends answer) = refl
looks_rest c again v Runs = refl
looks_rest c again v Marks = refl
looks_rest c again v Parks = refl

looks_word : (k : Course) → AreOfWord (looked_deeds k)
looks_word (Ends answer) = tt
looks_word Runs = tt
looks_word Marks = tt
looks_word Parks = tt

-- by whether the exchange succeeded
exchanged_rest : (c : OnceCall) (again won : Bool) (v : ℕ) (k : Course)
    → location_next (if won && is_run k then At (Run (is_forced c) (closure_begun (reply.Value v)))
    else in_look c again (if won && is_mark k then At (look.Decide (marked v)) else looked_by v k))
    ≡ nowhere
exchanged_rest c again true v (Ends answer) = refl
exchanged_rest c again true v Runs = refl
exchanged_rest c again true v Marks = refl
exchanged_rest c again true v Parks = refl
exchanged_rest c again false v k = looks_rest c again v k

exchanged_word : (c : OnceCall) (won : Bool) (k : Course) → AreOfWord (exchanged_deeds c won k)
exchanged_word c true (Ends answer) = tt
exchanged_word c true Runs = tt
exchanged_word c true Marks = tt
exchanged_word c true Parks = tt
exchanged_word c false (Ends answer) = tt
exchanged_word c false Runs = tt
exchanged_word c false Marks = tt
exchanged_word c false Parks = tt

closes_word : (succeeded b : Bool) → AreOfWord (closes succeeded b)
closes_word true true = tt
closes_word true false = tt
closes_word false true = tt
closes_word false false = tt

closes_rest : (forced succeeded b : Bool)
    → location_next (in_run forced (if b then At (run.Enter succeeded) else Over (ended succeeded))) ≡ nowhere
closes_rest forced succeeded true = refl
closes_rest forced succeeded false = refl

decides_put : (c : OnceCall) (again : Bool) (expected : ℕ)
    → StaysPut (once_move (Look c again (look.Decide expected)))
decides_put c again expected = stays_put refl (λ seen. exchanged_word c (seen == expected) (course_of c seen))
    (λ seen. exchanged_rest c again (seen == expected) seen (course_of c seen))

-- ---------------------------------------------------------------- each place

decides : (l : ℕ) (c : OnceCall) (again : Bool) (expected : ℕ) (k : Course)
    → OnceMoves l (once_move (Look c again (look.Decide expected)))
    (once_hears (Look c again (look.Decide expected))) (course_act l expected k)
decides l c again expected (Ends answer) = (refl, decides_put c again expected)
decides l c again expected Runs = (refl, decides_put c again expected)
decides l c again expected Marks = (refl, decides_put c again expected)
decides l c again expected Parks = (Main, refl, goes_in refl refl refl (λ r s t free. free))

pub once_acts_move : OnceActsMove
once_acts_move l (Look c again look.Load) = (
  refl,
  stays_put refl (λ seen. looks_word (course_of c seen)) (λ seen. looks_rest c again seen (course_of c seen)),
)
once_acts_move l (Look c again (look.Decide expected)) = decides l c again expected (course_of c expected)
once_acts_move l (Look c again look.Check) = (
  refl,
  refl,
  record {
    forced = is_forced c;
    was = refl;
    rests = refl;
    rested = refl;
    turns = refl;
    turned = refl;
    may = λ r s t b e out. (e, out);
  },
)
once_acts_move l (Look c again (look.Leave true)) = (
  Main,
  refl,
  goes_out false refl tt refl (λ r s t out. out),
)
once_acts_move l (Look c again (look.Leave false)) = (
  Main,
  refl,
  goes_out false refl tt refl (λ r s t out. out),
)
once_acts_move l (Look c again look.Asleep) = tt
once_acts_move l (Look c again (look.Taken by)) = tt
once_acts_move l (Run forced (run.Closure poisoned)) = record {
  was = refl;
  deeds = λ succeeded. refl;
  goes = λ succeeded. refl;
  role = λ succeeded. refl;
}
once_acts_move l (Run forced (run.Close succeeded)) = (
  refl,
  stays_put refl (λ seen. closes_word succeeded (is_marked seen))
      (λ seen. closes_rest forced succeeded (is_marked seen)),
)
once_acts_move l (Run forced (run.Enter succeeded)) = (
  Main,
  refl,
  goes_in refl refl refl (λ r s t free. free),
)
once_acts_move l (Run forced (run.Take succeeded)) = (
  refl,
  record {
    was = refl;
    deeds = λ any none_left. refl;
    goes = λ any none_left. refl;
    may = λ r s t any none_left nobody. nobody;
  },
)
once_acts_move l (Run forced (run.Leave succeeded any)) = (
  Main,
  refl,
  goes_out any refl tt refl (λ r s t out. out),
)
once_acts_move l (GiveUp retries give_up.Remove) = (
  Main,
  refl,
  record {
    want = wants.Wait;
    was = refl;
    deeds = λ none_left. refl;
    goes = removed;
    may = λ r s t none_left stands. stands;
  },
)
  where
    removed : (none_left : Bool) → location_then (once_move (GiveUp retries give_up.Remove))
        (reply.Removed none_left) ≡ inside_of Main
    removed true = refl
    removed false = refl
once_acts_move l (GiveUp retries give_up.Clear) = (refl, stays_put refl (λ seen. tt) (λ seen. refl))
once_acts_move l (GiveUp retries give_up.Leave) = (Main, refl, goes_out false refl tt refl (λ r s t out. out))

-- ---------------------------------------------------------------- threads asleep

asleep_in : (c : OnceCall) (again : Bool) (m : Line) → m ≡ Main
    → Sleeps (once_move (Look c again look.Asleep)) m
asleep_in c again m e = record {
  want = want_of c;
  was = ap (λ (n : Line). record nowhere { stands = Some n; waits = Some (want_of c) }) (sym e);
  taken = λ u. refl;
  wants = λ u. refl;
  role = λ u. refl;
}

pub once_sleepers_move : OnceSleepersMove
once_sleepers_move (Look c again look.Asleep) = record {
  aside = λ h. absurd cc;
  stands = λ m h. inr (asleep_in c again m (let e : m ≡ Main = cc in e));
  held = λ u handed h. absurd cc;
}
once_sleepers_move (Look c again (look.Taken by)) = record {
  aside = λ h. absurd cc;
  stands = λ m h. absurd cc;
  held = λ u handed h. held u handed (let e : by ≡ u = cc in e) (let e : handed ≡ false = cc in e);
}
  where
    held : (u : ℕ) (handed : Bool) → by ≡ u → handed ≡ false → (handed ≡ false)
        × IsHeld (once_move (Look c again (look.Taken by))) u
    held u handed whose fresh = (
      fresh,
      record {
        want = want_of c;
        wants = refl;
        was = ap (λ n. record nowhere { hand = hand n false }) whose;
        woken = refl;
        role = refl;
      },
    )
once_sleepers_move (Look c again (look.Leave true)) = stands_inside refl refl refl
once_sleepers_move (Look c again (look.Leave false)) = awake refl refl
once_sleepers_move (Look c again at) = awake refl refl
once_sleepers_move (Run forced (run.Closure poisoned)) = awake refl refl
once_sleepers_move (Run forced at) = awake refl refl
once_sleepers_move (GiveUp retries give_up.Remove) = stands_inside refl refl refl
once_sleepers_move (GiveUp retries give_up.Clear) = awake refl refl
once_sleepers_move (GiveUp retries give_up.Leave) = awake refl refl

-- ---------------------------------------------------------------- giving up

goes_late : (again : Bool) → GoesIn (once_move (Look WaitTimed again look.Asleep))
    (once_hears (Look WaitTimed again look.Asleep)) Main reply.Late
goes_late again = goes_in refl refl refl (λ r s t free. (refl, free))

pub once_late_move : OnceLateMove
once_late_move (Look WaitTimed again look.Asleep) m h =
    subst (λ n. GoesIn (once_move (Look WaitTimed again look.Asleep))
    (once_hears (Look WaitTimed again look.Asleep)) n reply.Late) (let e : Main ≡ m = cc in e)
    (goes_late again)
once_late_move (Look (CallOnce forced) again look.Asleep) m h = absurd cc
once_late_move (Look (Wait forced) again look.Asleep) m h = absurd cc
once_late_move (Look c again at) m h = absurd cc
once_late_move (Run forced (run.Closure poisoned)) m h = absurd cc
once_late_move (Run forced at) m h = absurd cc
once_late_move (GiveUp retries give_up.Remove) m h = absurd cc
once_late_move (GiveUp retries give_up.Clear) m h = absurd cc
once_late_move (GiveUp retries give_up.Leave) m h = absurd cc
