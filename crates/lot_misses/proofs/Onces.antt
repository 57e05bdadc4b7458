-- Looks at a `Once`, and the exchanges that go by them.
use Rattle.std.proofs.Common.{ℕ, arith, Bool, true, false, Option, Some, None, if◌then◌else◌, ◌==◌, ◌&&◌, ◌≡◌}
use Rattle.std.proofs.Common.{◌⊎◌, inl, inr, not, ◌+◌, ◌*◌, ◌/◌, ◌%◌, refl, ap, subst}
use Rattle.std.proofs.lemmas.Bool.Decides.{nat_tests}
use Rattle.core_base.specs.declared.keys.Keys.TheVariants.{One}
use Rattle.core_base.specs.declared.notes.Note.TheVariants as note
use Rattle.spec_locks.specs.declared.calls.OnceCall.{OnceCall}
use Rattle.spec_locks.specs.declared.outcomes.Answer.TheVariants as answer
use Rattle.spec_locks.specs.Codes.{is_done, is_marked, is_poisoned, is_running}
use Rattle.steps_base.specs.declared.acts.Act.TheVariants as act
use Rattle.steps_base.specs.declared.acts.Next.{Next}
use Rattle.steps_base.specs.declared.acts.Next.TheVariants.{At, End}
use Rattle.steps_base.specs.declared.acts.Reply.{Reply}
use Rattle.steps_base.specs.declared.acts.Reply.TheVariants.{Done, Value, TakenBy, MovedTo, HandedBy, Late}
use Rattle.steps_base.specs.declared.acts.Reply.TheVariants.{Woken}
use Rattle.steps_base.specs.Profiles.{blank_row}
use Rattle.steps_once.specs.declared.look.LookAt.TheVariants as look
use Rattle.steps_once.specs.declared.look.Course.{Course}
use Rattle.steps_once.specs.declared.look.Course.TheVariants.{Ends, Runs, Marks, Parks}
use Rattle.steps_once.specs.declared.run.RunAt.{RunAt}
use Rattle.steps_once.specs.declared.give_up.GiveUpAt.{GiveUpAt}
use Rattle.steps_once.specs.declared.give_up.GiveUpAt.TheVariants as give_up
use Rattle.steps_once.specs.declared.places.OncePlace.{OncePlace}
use Rattle.steps_once.specs.declared.places.OncePlace.TheVariants.{Look, Run, GiveUp}
use Rattle.steps_once.specs.OnceSteps.{course_of, in_give_up, in_look, in_run, is_forced, is_mark, is_run}
use Rattle.steps_once.specs.OnceSteps.{is_timed, closure_begun, looked, looked_by, marked, next_give_up}
use Rattle.steps_once.specs.OnceSteps.{next_run, once_act, once_next, once_owners, runs, started, when_done}
use Rattle.steps_once.specs.OnceProfiles.{once_profile}
use Rattle.lot_machine.proofs.Acted.{Befalls}
use Rattle.lot_misses.specs.Looks.{once_looked, once_looked_by}
use Rattle.lot_misses.proofs.Rows.{HasLooked, HasLookedBy, HasNotLooked, IsNoValue, IsOfWord, Looks}
use Rattle.lot_misses.proofs.Rows.{LooksRight, Misses, Precedes, SaneThen, Table, looked_then, never}

-- a call goes on where its course isn't at its end
abbrev pub GoesOn : Course → Type 0
GoesOn (Ends answer) = ⊥
GoesOn Runs = Unit {0}
GoesOn Marks = Unit {0}
GoesOn Parks = Unit {0}

abbrev pub IsSaneOnce : OncePlace → Type 0
IsSaneOnce (Look c again (look.Decide seen)) = GoesOn (course_of c seen)
IsSaneOnce (Look c again at) = Unit {0}
IsSaneOnce (Run forced at) = Unit {0}
IsSaneOnce (GiveUp again at) = Unit {0}

abbrev pub once_table : ℕ → Table OncePlace
once_table l = record {
  act = once_act l;
  next = once_next;
  owners = once_owners;
  shares = λ p v n. None;
  looked = once_looked;
  sane = IsSaneOnce;
  fits = λ v. Unit {0};
  row = once_profile;
  beside = λ p. blank_row;
}

-- ---------------------------------------------------------------- a word that was marked

-- a thread that has marked a word parks
marked_parks : (c : OnceCall) (v : ℕ) → course_of c v ≡ Marks → course_of c (marked v) ≡ Parks
marked_parks c v is = by_tests (is_done v) (is_poisoned v && not (is_forced c)) (runs c && not (is_running v))
    refl refl refl is
  where
    done_so : is_done (marked v) ≡ is_done v
    done_so = let e : (v % 8 + 8) % 2 ≡ v % 2 = omega arith in ap (λ n. n == 1) e

    poisoned_so : is_poisoned (marked v) ≡ is_poisoned v
    poisoned_so = let e : (v % 8 + 8) / 2 % 2 ≡ v / 2 % 2 = omega arith in ap (λ n. n == 1) e

    running_so : is_running (marked v) ≡ is_running v
    running_so = let e : (v % 8 + 8) / 4 % 2 ≡ v / 4 % 2 = omega arith in ap (λ n. n == 1) e

    marked_so : is_marked (marked v) ≡ true
    marked_so = let e : (v % 8 + 8) / 8 ≡ 1 = omega arith in ap (λ n. n == 1) e

    by_tests : (a b d : Bool) → is_done v ≡ a → (is_poisoned v && not (is_forced c)) ≡ b
        → (runs c && not (is_running v)) ≡ d
        → (if a then Ends (when_done c) else if b then Ends answer.Poisoned else if d then Runs
        else if is_marked v then Parks else Marks) ≡ Marks
        → course_of c (marked v) ≡ Parks
    by_tests true b d e f g is = absurd cc
    by_tests false true d e f g is = absurd cc
    by_tests false false true e f g is = absurd cc
    by_tests false false false e f g is = rw (done_so, poisoned_so, running_so, marked_so, e, f, g) refl

module _ (l : ℕ) where
  abbrev Then : Next OncePlace → Option OncePlace
  Then n = looked_then (once_table l) n

  -- ---------------------------------------------------------------- looks

  loads : (c : OnceCall) (again : Bool) (v : ℕ) → (Then (in_look c again (looked c v)) ≡ None)
      ⊎ Looks (once_table l) (Look c again look.Load) v
  loads c again v = by_course (course_of c v) refl
    where
      here : Then (in_look c again (looked c v)) ≡ Some (Look c again look.Load)
          → Looks (once_table l) (Look c again look.Load) v
      here is = record { lock = l; load = refl; again = is; owners = λ t o. refl; shares = λ n. refl }

      by_course : (k : Course) → course_of c v ≡ k → (Then (in_look c again (looked c v)) ≡ None)
          ⊎ Looks (once_table l) (Look c again look.Load) v
      by_course (Ends answer) is = inl (rw is refl)
      by_course Runs is = inr (here (rw (is, is) refl))
      by_course Marks is = inr (here (rw (is, is) refl))
      by_course Parks is = inl (rw (is, is) refl)

  module _ (c : OnceCall) (again : Bool) (seen : ℕ) where
    abbrev p : OncePlace
    p = Look c again (look.Decide seen)

    abbrev q : OncePlace
    q = Look c again look.Load

    missed : (v : ℕ) → (v == seen) ≡ false → Misses (once_table l) q p v
    missed v other = record { next = rw other refl; owners = λ t o. rw other refl; shares = λ n. refl }

    befell : ((b : Bool) → once_looked (Look c b (look.Decide seen)) ≡ Some (Look c b look.Load))
        → (r : Reply) → Befalls r → Precedes (once_table l) (once_next q r) (once_next p r)
    befell is (TakenBy t) h = is again
    befell is (MovedTo key) h = is again
    befell is (HandedBy t alone) h = is again
    befell is (Woken note.Normal) h = is true
    befell is (Woken note.HandOff) h = is again
    befell is r h = absurd h

    same : (seen == seen) ≡ true
    same = grind (arith, nat_tests)

    -- the run of the thread begins
    runs_it : course_of c seen ≡ Runs → HasLooked (once_table l) p q
    runs_it is = record {
      lock = l;
      from = seen;
      to = started seen;
      hands = false;
      load = refl;
      exchange = rw is refl;
      sees = rw is refl;
      looks = record {
        lock = l;
        load = refl;
        again = rw (is, is) refl;
        owners = λ t o. refl;
        shares
            = λ n. refl;
      };
      misses = missed;
      leads = λ v. loads c again v;
      hits = rw (same, is) refl;
      befallen = befell (λ b. rw is refl);
      unlooked = refl;
      sound = tt;
      alike = record { hand = refl; wants = refl; late = refl; late_too = refl };
      alike_beside = record { hand = refl; wants = refl; late = refl; late_too = refl };
    }

    -- the thread tells that it waits
    marks_it : course_of c seen ≡ Marks → HasLooked (once_table l) p q
    marks_it is = record {
      lock = l;
      from = seen;
      to = marked seen;
      hands = false;
      load = refl;
      exchange = rw is refl;
      sees = rw is refl;
      looks = record {
        lock = l;
        load = refl;
        again = rw (is, is) refl;
        owners = λ t o. refl;
        shares
            = λ n. refl;
      };
      misses = missed;
      leads = λ v. loads c again v;
      hits = rw (same, is) (ap (once_looked_by c again) (marked_parks c seen is));
      befallen = befell (λ b. rw is refl);
      unlooked = refl;
      sound = tt;
      alike = record { hand = refl; wants = refl; late = refl; late_too = refl };
      alike_beside = record { hand = refl; wants = refl; late = refl; late_too = refl };
    }

    -- the thread enters the queue
    enters : course_of c seen ≡ Parks → HasNotLooked (once_table l) p
    enters is = record {
      acts = λ v of. absurd (let enters : once_act l p ≡ act.Enter (One (2 * l)) = rw is refl
          in subst IsOfWord enters of);
      others = others;
    }
      where
        stays : (b : Bool) → once_looked (Look c b (look.Decide seen)) ≡ None
        stays b = rw is refl

        others : (r : Reply) → IsNoValue r → Then (once_next p r) ≡ None
        others (Value v) h = absurd h
        others Done h = refl
        others r h = stays _

    decides : GoesOn (course_of c seen) → HasLookedBy (once_table l) p (once_looked p)
    decides sane = by_course (course_of c seen) refl sane
      where
        by_course : (k : Course) → course_of c seen ≡ k → GoesOn k
            → HasLookedBy (once_table l) p (once_looked_by c again k)
        by_course (Ends answer) is on = absurd on
        by_course Runs is on = runs_it is
        by_course Marks is on = marks_it is
        by_course Parks is on = enters is

  -- ---------------------------------------------------------------- all other places

  module _ (c : OnceCall) (again : Bool) where
    loaded : (r : Reply) → IsNoValue r → Then (once_next (Look c again look.Load) r) ≡ None
    loaded (Value v) h = absurd h
    loaded r h = refl

    checked : (r : Reply) → Then (once_next (Look c again look.Check) r) ≡ None
    checked Done = refl
    checked r = refl

    left : (parked : Bool) (r : Reply) → Then (once_next (Look c again (look.Leave parked)) r) ≡ None
    left true Done = refl
    left false Done = refl
    left parked r = refl

    late_then : (b : Bool)
        → Then (if b then At (GiveUp again give_up.Remove) else At (Look c again look.Asleep)) ≡ None
    late_then true = refl
    late_then false = refl

    asleep : (r : Reply) → Then (once_next (Look c again look.Asleep) r) ≡ None
    asleep Late = late_then (is_timed c)
    asleep (Woken note.Normal) = refl
    asleep (Woken note.HandOff) = refl
    asleep r = refl

    taken : (by : ℕ) (r : Reply) → Then (once_next (Look c again (look.Taken by)) r) ≡ None
    taken by (Woken note.Normal) = refl
    taken by (Woken note.HandOff) = refl
    taken by r = refl

  run_then : (forced : Bool) (n : Next RunAt) → Then (in_run forced n) ≡ None
  run_then forced (At at) = refl
  run_then forced (End answer) = refl

  give_up_then : (again : Bool) (n : Next GiveUpAt) → Then (in_give_up again n) ≡ None
  give_up_then again (At at) = refl
  give_up_then again (End answer) = refl

  place : (p : OncePlace) → IsSaneOnce p → HasLookedBy (once_table l) p (once_looked p)
  place (Look c again look.Load) sane = record { acts = λ v of. loads c again v; others = loaded c again }
  place (Look c again (look.Decide seen)) sane = decides c again seen sane
  place (Look c again look.Check) sane = never (once_table l) (Look c again look.Check) (checked c again)
  place (Look c again (look.Leave parked)) sane = never (once_table l) (Look c again (look.Leave parked))
      (left c again parked)
  place (Look c again look.Asleep) sane = never (once_table l) (Look c again look.Asleep) (asleep c again)
  place (Look c again (look.Taken by)) sane = never (once_table l) (Look c again (look.Taken by))
      (taken c again by)
  place (Run forced at) sane = never (once_table l) (Run forced at) (λ r. run_then forced (next_run at r))
  place (GiveUp again at) sane = never (once_table l) (GiveUp again at)
      (λ r. give_up_then again (next_give_up at r))

  -- ---------------------------------------------------------------- a call decides only where it goes on

  run_sane : (forced : Bool) (n : Next RunAt) → SaneThen (once_table l) (in_run forced n)
  run_sane forced (At at) = tt
  run_sane forced (End answer) = tt

  give_up_sane : (again : Bool) (n : Next GiveUpAt) → SaneThen (once_table l) (in_give_up again n)
  give_up_sane again (At at) = tt
  give_up_sane again (End answer) = tt

  looked_sane : (c : OnceCall) (again : Bool) (v : ℕ) → SaneThen (once_table l) (in_look c again (looked c v))
  looked_sane c again v = by_course (course_of c v) refl
    where
      by_course : (k : Course) → course_of c v ≡ k → SaneThen (once_table l) (in_look c again (looked_by v k))
      by_course (Ends answer) is = tt
      by_course Runs is = rw is tt
      by_course Marks is = rw is tt
      by_course Parks is = rw is tt

  decided_sane : (c : OnceCall) (again : Bool) (seen v : ℕ)
      → SaneThen (once_table l) (once_next (Look c again (look.Decide seen)) (Value v))
  decided_sane c again seen v = by_course (v == seen) (course_of c v) refl
    where
      by_course : (b : Bool) (k : Course) → course_of c v ≡ k
          → SaneThen (once_table l) (if b && is_run k then At (Run (is_forced c) (closure_begun (Value v)))
          else in_look c again (if b && is_mark k then At (look.Decide (marked v)) else looked_by v k))
      by_course true Runs is = tt
      by_course true Marks is = rw (marked_parks c v is) tt
      by_course true (Ends answer) is = tt
      by_course true Parks is = rw is tt
      by_course false (Ends answer) is = tt
      by_course false Runs is = rw is tt
      by_course false Marks is = rw is tt
      by_course false Parks is = rw is tt

  late_sane : (c : OnceCall) (again b : Bool)
      → SaneThen (once_table l) (if b then At (GiveUp again give_up.Remove)
      else At (Look c again look.Asleep))
  late_sane c again true = tt
  late_sane c again false = tt

  left_sane : (c : OnceCall) (again b : Bool)
      → SaneThen (once_table l) (in_look c again (if b then At look.Asleep else At look.Load))
  left_sane c again true = tt
  left_sane c again false = tt

  keeps : (p : OncePlace) (r : Reply) → IsSaneOnce p → SaneThen (once_table l) (once_next p r)
  keeps (Look c again look.Load) (Value v) sane = looked_sane c again v
  keeps (Look c again look.Load) r sane = tt
  keeps (Look c again (look.Decide seen)) (Value v) sane = decided_sane c again seen v
  keeps (Look c again (look.Decide seen)) Done sane = tt
  keeps (Look c again (look.Decide seen)) r sane = sane
  keeps (Look c again look.Check) Done sane = tt
  keeps (Look c again look.Check) r sane = tt
  keeps (Look c again (look.Leave parked)) Done sane = left_sane c again parked
  keeps (Look c again (look.Leave parked)) r sane = tt
  keeps (Look c again look.Asleep) Late sane = late_sane c again (is_timed c)
  keeps (Look c again look.Asleep) (Woken note.Normal) sane = tt
  keeps (Look c again look.Asleep) (Woken note.HandOff) sane = tt
  keeps (Look c again look.Asleep) r sane = tt
  keeps (Look c again (look.Taken by)) (Woken note.Normal) sane = tt
  keeps (Look c again (look.Taken by)) (Woken note.HandOff) sane = tt
  keeps (Look c again (look.Taken by)) r sane = tt
  keeps (Run forced at) r sane = run_sane forced (next_run at r)
  keeps (GiveUp again at) r sane = give_up_sane again (next_give_up at r)

  pub once_looks_right : LooksRight (once_table l)
  once_looks_right = record { place = place; keeps = λ p r fits sane. keeps p r sane }
