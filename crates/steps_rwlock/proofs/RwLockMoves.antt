-- Each step of a reader-writer call takes its thread in the machine where its act says.
use Rattle.std.proofs.Common.{ℕ, Bool, true, false, Option, Some, None, [], ◌∷◌, if◌then◌else◌, ◌==◌, ◌&&◌}
use Rattle.std.proofs.Common.{not, ◌≡◌, ◌+◌, ◌*◌, ◌⊎◌, inl, inr, refl, ap}
use Rattle.core_base.specs.declared.keys.Keys.TheVariants.{One}
use Rattle.core_base.specs.declared.keys.Line.{Line}
use Rattle.core_base.specs.declared.keys.Line.TheVariants.{Main, Second}
use Rattle.core_base.specs.declared.wants.Want.{Want}
use Rattle.core_base.specs.declared.wants.Want.TheVariants.{Exclusive, Upgradable}
use Rattle.spec_locks.specs.declared.calls.Access.{Access}
use Rattle.spec_locks.specs.declared.calls.Access.TheVariants as access
use Rattle.spec_locks.specs.declared.calls.Patience.{Patience}
use Rattle.spec_locks.specs.declared.calls.Patience.TheVariants.{Patient, Timed, Try}
use Rattle.spec_locks.specs.declared.outcomes.Answer.{Answer}
use Rattle.spec_locks.specs.declared.outcomes.Answer.TheVariants.{No, Ok}
use Rattle.steps_base.specs.declared.acts.Act.TheVariants as act
use Rattle.steps_base.specs.declared.acts.Next.{Next}
use Rattle.steps_base.specs.declared.acts.Next.TheVariants as next
use Rattle.steps_base.specs.declared.acts.Reply.TheVariants as reply
use Rattle.steps_base.specs.Moves.{StepView, StaysPut, GoesIn, MovesByAct, Sleeps, IsHeld, RowWaits}
use Rattle.steps_base.specs.Moves.{AreOfWord}
use Rattle.steps_base.specs.Moves.{location_of, AreLeaving, takes_aside, inside_of, row_of}
use Rattle.steps_base.specs.Acts.{any_picked}
use Rattle.steps_base.specs.Profiles.{hand, in_hand}
use Rattle.steps_base.specs.Locations.{Location, location_by, nowhere}
use Rattle.spec_locks.specs.Sites.{Pends, Case, End, Mark}
use Rattle.spec_locks.specs.Locks.{Enter, Settle, Leave, Convert, Rollback}
use Rattle.spec_locks.specs.Codes.{count_in, has_aside, has_parked}
use Rattle.steps_rwlock.specs.declared.places.Admission.{Admission}
use Rattle.steps_rwlock.specs.declared.places.RwLockPlace.{RwLockPlace}
use Rattle.steps_rwlock.specs.declared.purposes.RwLockPurpose.{RwLockPurpose}
use Rattle.steps_rwlock.specs.declared.purposes.RwLockPurpose.TheVariants as purpose
use Rattle.steps_rwlock.specs.declared.places.RwLockAt.{RwLockAt}
use Rattle.steps_rwlock.specs.declared.places.RwLockAt.TheVariants as at
use Rattle.steps_rwlock.specs.declared.enter.Decision.{Decision}
use Rattle.steps_rwlock.specs.declared.enter.Decision.TheVariants as decisions
use Rattle.steps_rwlock.specs.declared.park.ParkAt.{ParkAt}
use Rattle.steps_rwlock.specs.declared.park.ParkAt.TheVariants as parking
use Rattle.steps_rwlock.specs.declared.release.WakeAt.{WakeAt}
use Rattle.steps_rwlock.specs.declared.release.WakeAt.TheVariants as waking
use Rattle.steps_rwlock.specs.RwLockSteps.{wanted, from_of, to_of, access_of, patience_of, start_of, exchange}
use Rattle.steps_rwlock.specs.RwLockSteps.{decided, decided_for, decided_act, looked_by, looked, missed}
use Rattle.steps_rwlock.specs.RwLockSteps.{stays, goes, came_in, exchanged_next, parks_at, wakes, released}
use Rattle.steps_rwlock.specs.RwLockSteps.{gave_way_by, took, entered, plus, rwlock_act}
use Rattle.steps_rwlock.specs.RwLockDeeds.{at_rest, claimed, falls_back, missed_deeds, looked_deeds}
use Rattle.steps_rwlock.specs.RwLockDeeds.{enters_deeds, exchanged_deeds, does_and_wakes, gives_deeds}
use Rattle.steps_rwlock.specs.RwLockDeeds.{sees_waiter, take_deed, leaves_with}
use Rattle.steps_rwlock.specs.RwLockProfiles.{rwlock_profile, late_line_at, wants_for}
use Rattle.steps_rwlock.specs.RwLockCalls.{StandsAt, next_row}
use Rattle.steps_rwlock.specs.RwLockMoves.{rwlock_move, rwlock_hears, RwLockActsMove, RwLockSleepersMove}
use Rattle.steps_rwlock.specs.RwLockMoves.{RwLockLateMove}
use Rattle.steps_base.proofs.Moving.{goes_in, goes_out, stays_put}

module _ (l : ℕ) (a : Admission) where
  abbrev of : RwLockPurpose → Bool → RwLockAt → RwLockPlace
  of q again to = record { purpose = q; retries = again; at = to }

  abbrev MovesAt : RwLockPlace → Type 0
  MovesAt p = MovesByAct l a.recursive (rwlock_move a p) (rwlock_hears a p) (rwlock_act l a p)

  abbrev location_next : Next RwLockPlace → Location
  location_next n = location_by (row_of (next_row a n))

  -- ---------------------------------------------------------------- the word

  -- the thread rests, wherever it goes
  looks_rest : (p : RwLockPlace) (seen : ℕ) (d : Decision) → location_next (looked_by p seen d) ≡ nowhere
  looks_rest p seen (decisions.Refuse answer) = refl
  looks_rest p seen decisions.Take = refl
  looks_rest p seen decisions.Mark = refl
  looks_rest p seen decisions.Park = refl

  looks_deeds : (d : Decision) → AreOfWord (looked_deeds d)
  looks_deeds (decisions.Refuse answer) = tt
  looks_deeds decisions.Take = tt
  looks_deeds decisions.Mark = tt
  looks_deeds decisions.Park = tt

  missed_rest : (q : RwLockPurpose) (again : Bool) (how : Patience)
      → location_next (missed (of q again at.First) how) ≡ nowhere
  missed_rest q again Try = refl
  missed_rest q again Patient = refl
  missed_rest q again Timed = refl

  missed_word : (how : Patience) → AreOfWord (missed_deeds how)
  missed_word Try = tt
  missed_word Patient = tt
  missed_word Timed = tt

  enters_word : (x : Access) → AreOfWord (enters_deeds (wanted x))
  enters_word access.Shared = tt
  enters_word access.Upgradable = tt
  enters_word access.Exclusive = tt

  came_word : (q : RwLockPurpose) (now : Decision) → AreOfWord (exchanged_deeds q decisions.Take true now)
  came_word (purpose.Enter x how) now = enters_word x
  came_word (purpose.Release x) now = enters_word x
  came_word (purpose.Downgrade d) now = enters_word (from_of d)
  came_word (purpose.Upgrade how) now = tt

  came_rest : (q : RwLockPurpose) (again : Bool) (to : RwLockAt) → location_next (came_in (of q again to))
      ≡ nowhere
  came_rest (purpose.Enter access.Shared how) again to = refl
  came_rest (purpose.Enter access.Upgradable how) again to = refl
  came_rest (purpose.Enter access.Exclusive how) again to = refl
  came_rest (purpose.Release x) again to = refl
  came_rest (purpose.Downgrade d) again to = refl
  came_rest (purpose.Upgrade how) again to = refl

  exchanged_word : (q : RwLockPurpose) (d now : Decision) (b : Bool) → AreOfWord (exchanged_deeds q d b now)
  exchanged_word q decisions.Take now true = came_word q now
  exchanged_word q decisions.Take now false = looks_deeds now
  exchanged_word q decisions.Mark now true = tt
  exchanged_word q decisions.Mark now false = looks_deeds now
  exchanged_word q decisions.Park now true = looks_deeds now
  exchanged_word q decisions.Park now false = looks_deeds now
  exchanged_word q (decisions.Refuse answer) now true = looks_deeds now
  exchanged_word q (decisions.Refuse answer) now false = looks_deeds now

  exchanged_rest : (q : RwLockPurpose) (again : Bool) (was seen : ℕ) (d : Decision)
      → location_next (exchanged_next a (of q again (at.Decide was)) was seen d) ≡ nowhere
  exchanged_rest q again was seen decisions.Take = either (seen == was)
    where
      either : (b : Bool) → location_next (if b then came_in (of q again (at.Decide was)) else looked a
          (of q again (at.Decide was)) seen) ≡ nowhere
      either true = came_rest q again (at.Decide was)
      either false = looks_rest (of q again (at.Decide was)) seen (decided a (of q again (at.Decide was))
          seen)
  exchanged_rest q again was seen decisions.Mark = either (seen == was)
    where
      either : (b : Bool) → location_next (if b then stays (of q again (at.Decide was))
          (at.Decide (plus was 1)) else looked a (of q again (at.Decide was)) seen) ≡ nowhere
      either true = refl
      either false = looks_rest (of q again (at.Decide was)) seen (decided a (of q again (at.Decide was))
          seen)
  exchanged_rest q again was seen decisions.Park = looks_rest (of q again (at.Decide was)) seen
      (decided a (of q again (at.Decide was)) seen)
  exchanged_rest q again was seen (decisions.Refuse answer) = looks_rest (of q again (at.Decide was)) seen
      (decided a (of q again (at.Decide was)) seen)

  settles_word : (b : Bool) → AreOfWord (if b then Case Settle ∷ End ∷ [] else [])
  settles_word true = tt
  settles_word false = tt

  settles_rest : (p : RwLockPlace) (seen : ℕ) (b : Bool) (ans : Answer)
      → location_next (if b then next.End ans else stays p (at.Count seen)) ≡ nowhere
  settles_rest p seen true ans = refl
  settles_rest p seen false ans = refl

  counts_word : (b c : Bool) → AreOfWord (if b then Mark Second ∷ [] else if c then Case Settle ∷ End ∷ []
      else [])
  counts_word true c = tt
  counts_word false c = settles_word c

  counts_rest : (p : RwLockPlace) (seen : ℕ) (b c : Bool) (ans : Answer)
      → location_next (if b then stays p at.Marked else if c then next.End ans else stays p (at.Count seen))
      ≡ nowhere
  counts_rest p seen true c ans = refl
  counts_rest p seen false c ans = settles_rest p seen c ans

  wakes_rest : (p : RwLockPlace) (m : Line) (b : Bool) (ans : Answer)
      → location_next (if b then stays p (wakes m) else next.End ans) ≡ nowhere
  wakes_rest p m true ans = refl
  wakes_rest p m false ans = refl

  rolls_word : (b : Bool) → AreOfWord (does_and_wakes b (Case Rollback))
  rolls_word true = tt
  rolls_word false = tt

  leaves_word : (x : Access) (b : Bool) → AreOfWord (does_and_wakes b (Case (Leave (wanted x))))
  leaves_word x true = tt
  leaves_word x false = tt

  lowers_word : (x y : Want) (b : Bool) → AreOfWord (does_and_wakes b (Case (Convert x y)))
  lowers_word x y true = tt
  lowers_word x y false = tt

  gives_word : (q : RwLockPurpose) (seen : ℕ) → AreOfWord (gives_deeds q seen)
  gives_word (purpose.Enter x how) seen = leaves_word x (sees_waiter (wanted x) seen)
  gives_word (purpose.Release x) seen = leaves_word x (sees_waiter (wanted x) seen)
  gives_word (purpose.Downgrade d) seen = lowers_word (wanted (from_of d)) (wanted (to_of d))
      (has_parked seen)
  gives_word (purpose.Upgrade how) seen = lowers_word Upgradable Exclusive (not (count_in seen == 1))

  released_rest : (p : RwLockPlace) (seen : ℕ) (x : Access) → location_next (released p seen x) ≡ nowhere
  released_rest p seen access.Shared = wakes_rest p Second (has_aside seen && (count_in seen == 1)) Ok
  released_rest p seen access.Upgradable = wakes_rest p Main (has_parked seen) Ok
  released_rest p seen access.Exclusive = wakes_rest p Main (has_parked seen) Ok

  gave_rest : (p : RwLockPlace) (seen : ℕ) (q : RwLockPurpose) → location_next (gave_way_by p seen q)
      ≡ nowhere
  gave_rest p seen (purpose.Enter x how) = released_rest p seen x
  gave_rest p seen (purpose.Release x) = released_rest p seen x
  gave_rest p seen (purpose.Downgrade d) = wakes_rest p Main (has_parked seen) Ok
  gave_rest p seen (purpose.Upgrade how) = either (count_in seen == 1)
    where
      either : (b : Bool) → location_next (if b then next.End (entered how) else goes p at.Look false)
          ≡ nowhere
      either true = refl
      either false = refl

  -- ---------------------------------------------------------------- sections

  module _ (q : RwLockPurpose) (again : Bool) where
    decides_word : (was : ℕ) → StaysPut (rwlock_move a (of q again (at.Decide was)))
    decides_word was = stays_put refl
        (λ seen. exchanged_word q (decided_for a q was) (decided_for a q seen) (seen == was))
        (λ seen. exchanged_rest q again was seen (decided_for a q was))

    decides : (was : ℕ) (d : Decision) → decided_for a q was ≡ d
        → MovesByAct l a.recursive (rwlock_move a (of q again (at.Decide was)))
        (rwlock_hears a (of q again (at.Decide was))) (decided_act l q was d)
    decides was decisions.Take e = (refl, decides_word was)
    decides was decisions.Mark e = (refl, decides_word was)
    decides was decisions.Park e = (Main, refl, goes_in refl refl refl (λ r s t free. (e, free)))
    decides was (decisions.Refuse answer) e = tt

    counts : (was : ℕ) (b : Bool) → has_aside was ≡ b → MovesByAct l a.recursive
        (rwlock_move a (of q again (at.Count was))) (rwlock_hears a (of q again (at.Count was)))
        (if b then act.Enter (One (2 * l + 1)) else exchange l was (plus was 2))
    counts was true e = (Second, refl, goes_in refl refl refl (λ r s t free. free))
    counts was false e = (
      refl,
      stays_put refl (λ seen. counts_word (seen == was) (count_in seen == 0))
          (λ seen. counts_rest (of q again (at.Count was)) seen (seen == was) (count_in seen == 0)
          (entered (patience_of q))),
    )

    leaves_home : (start : Option Want) → AreLeaving (leaves_with start)
    leaves_home None = tt
    leaves_home (Some x) = tt

    took_main : (any none_left : Bool)
        → location_by (rwlock_profile a (of q again (at.Wake Main (took Main any none_left))))
        ≡ record (inside_of Main) { has_taken = in_hand any false }
    took_main any true = refl
    took_main any false = refl

    aside_taken : (u : Option ℕ) → take_deed (start_of q) Second u ≡ takes_aside u
    aside_taken None = refl
    aside_taken (Some u) = refl

    wakes_move : (m : Line) (to : WakeAt) → MovesAt (of q again (at.Wake m to))
    wakes_move m waking.Enter = (m, refl, goes_in refl refl refl (λ r s t free. free))
    wakes_move Main waking.Take = (
      refl,
      refl,
      record {
        was = refl;
        deeds = λ n y none_left. refl;
        goes = λ n y none_left. took_main (any_picked n y) none_left;
        may = λ r s t n y none_left left. left;
      },
    )
    wakes_move Second waking.Take = (
      refl,
      record {
        was = refl;
        deeds = λ u any none_left. ap (λ d. d ∷ []) (aside_taken u);
        goes = λ any none_left. refl;
        may = λ r s t any none_left. refl;
      },
    )
    wakes_move m (waking.Clear any) = (refl, stays_put refl (λ seen. tt) (λ seen. refl))
    wakes_move m (waking.Leave any) = (
      m,
      refl,
      goes_out any refl (leaves_home (start_of q)) refl (λ r s t free. free),
    )

    -- ---------------------------------------------------------------- lines

    module _ (waits : wants_for q ≡ Some (wanted (access_of q))) where
      abbrev want : Want
      want = wanted (access_of q)

      abbrev waiting : Location → Line → Option Want → Location
      waiting x m y = record x { stands = Some m; waits = y }

      parks_move : (to : ParkAt) → MovesAt (of q again (at.Park to))
      parks_move parking.Check = (
        Main,
        refl,
        refl,
        record {
          was = refl;
          parks = refl;
          parked = ap (waiting (inside_of Main) Main) waits;
          turns = refl;
          turned = refl;
          may = λ r s t b e nowhere. (e, nowhere);
        },
      )
      parks_move (parking.Leave true) = (Main, refl, goes_out false refl tt refl (λ r s t free. free))
      parks_move (parking.Leave false) = (Main, refl, goes_out false refl tt refl (λ r s t free. free))
      parks_move parking.Asleep = tt
      parks_move (parking.Taken by) = tt
      parks_move parking.Remove = (
        Main,
        refl,
        record {
          want = want;
          was = ap (waiting (inside_of Main) Main) waits;
          deeds = λ none_left. refl;
          goes = left;
          may = λ r s t none_left alone. alone;
        },
      )
        where
          left : (b : Bool) → location_by
              (rwlock_profile a (of q again (at.Park (if b then parking.Clear else parking.GiveUp))))
              ≡ inside_of Main
          left true = refl
          left false = refl
      parks_move parking.Clear = (refl, stays_put refl (λ seen. tt) (λ seen. refl))
      parks_move parking.GiveUp = (Main, refl, goes_out false refl tt refl (λ r s t free. free))

      asides_move : (to : ParkAt) → MovesAt (of q again (at.Aside to))
      asides_move parking.Check = (
        Second,
        refl,
        refl,
        record {
          was = refl;
          parks = refl;
          parked = ap (waiting (inside_of Second) Second) waits;
          turns = refl;
          turned = refl;
          may = λ r s t b e nowhere. (e, nowhere);
        },
      )
      asides_move (parking.Leave true) = (Second, refl, goes_out false refl tt refl (λ r s t free. free))
      asides_move (parking.Leave false) = (Second, refl, goes_out false refl tt refl (λ r s t free. free))
      asides_move parking.Asleep = tt
      asides_move (parking.Taken by) = tt
      asides_move parking.Remove = (
        Second,
        refl,
        record {
          want = want;
          was = ap (waiting (inside_of Second) Second) waits;
          deeds = λ none_left. refl;
          goes = λ none_left. refl;
          may = λ r s t none_left alone. alone;
        },
      )
      asides_move parking.Clear = (refl, stays_put refl (λ seen. tt) (λ seen. refl))
      asides_move parking.GiveUp = (Second, refl, goes_out false refl tt refl (λ r s t free. free))

  -- ---------------------------------------------------------------- every place

  first_move : (q : RwLockPurpose) (again : Bool) → MovesAt (of q again at.First)
  first_move q again = (refl, stays_put refl (λ seen. word (seen == 0)) (λ seen. rest (seen == 0)))
    where
      word : (b : Bool) → AreOfWord (if b then Case (Enter Exclusive) ∷ End ∷ [] else missed_deeds
          (patience_of q))
      word true = tt
      word false = missed_word (patience_of q)

      rest : (b : Bool) → location_next (if b then next.End (entered (patience_of q)) else missed
          (of q again at.First) (patience_of q)) ≡ nowhere
      rest true = refl
      rest false = missed_rest q again (patience_of q)

  -- only a thread that enters or upgrades waits
  parks_only : (q : RwLockPurpose) (again : Bool) (to : ParkAt) → StandsAt q again (at.Park to)
      → MovesAt (of q again (at.Park to))
  parks_only (purpose.Enter x how) again to fits = parks_move (purpose.Enter x how) again refl to
  parks_only (purpose.Upgrade how) again to fits = parks_move (purpose.Upgrade how) again refl to
  parks_only (purpose.Release access.Shared) again to fits = absurd fits
  parks_only (purpose.Release access.Upgradable) again to fits = absurd fits
  parks_only (purpose.Release access.Exclusive) again to fits = absurd fits
  parks_only (purpose.Downgrade d) again to fits = absurd fits

  asides_only : (q : RwLockPurpose) (again : Bool) (to : ParkAt) → StandsAt q again (at.Aside to)
      → MovesAt (of q again (at.Aside to))
  asides_only (purpose.Enter x how) again to fits = asides_move (purpose.Enter x how) again refl to
  asides_only (purpose.Upgrade how) again to fits = asides_move (purpose.Upgrade how) again refl to
  asides_only (purpose.Release access.Shared) again to fits = absurd fits
  asides_only (purpose.Release access.Upgradable) again to fits = absurd fits
  asides_only (purpose.Release access.Exclusive) again to fits = absurd fits
  asides_only (purpose.Downgrade d) again to fits = absurd fits

  moves_all : (q : RwLockPurpose) (again : Bool) (to : RwLockAt) → StandsAt q again to
      → MovesAt (of q again to)
  moves_all q again at.First fits = first_move q again
  moves_all q again at.Load fits = (
    refl,
    stays_put refl (λ seen. looks_deeds (decided_for a q seen))
        (λ seen. looks_rest (of q again at.Load) seen (decided_for a q seen)),
  )
  moves_all q again (at.Decide was) fits = decides q again was (decided_for a q was) refl
  moves_all q again (at.Park to) fits = parks_only q again to fits
  moves_all q again at.Look fits = (
    refl,
    stays_put refl (λ seen. settles_word (count_in seen == 0))
        (λ seen. settles_rest (of q again at.Look) seen (count_in seen == 0) (entered (patience_of q))),
  )
  moves_all q again (at.Count was) fits = counts q again was (has_aside was) refl
  moves_all q again at.Marked fits = (Second, refl, goes_in refl refl refl (λ r s t free. free))
  moves_all q again (at.Aside to) fits = asides_only q again to fits
  moves_all q again at.RollBack fits = (
    refl,
    stays_put refl (λ seen. rolls_word (has_parked seen))
        (λ seen. wakes_rest (of q again at.RollBack) Main (has_parked seen) No),
  )
  moves_all q again at.GiveWay fits = (
    refl,
    stays_put refl (λ seen. gives_word q seen) (λ seen. gave_rest (of q again at.GiveWay) seen q),
  )
  moves_all q again (at.Wake m to) fits = wakes_move q again m to

pub rwlock_acts_move : RwLockActsMove
rwlock_acts_move l a p stands = moves_all l a p.purpose p.retries p.at stands.place

-- ---------------------------------------------------------------- threads asleep

module _ (a : Admission) where
  abbrev place : RwLockPurpose → Bool → RwLockAt → RwLockPlace
  place q again to = record { purpose = q; retries = again; at = to }

  abbrev move : RwLockPurpose → Bool → RwLockAt → StepView
  move q again to = rwlock_move a (place q again to)

  -- a thread that stands in a line
  abbrev StandsWell : RwLockPurpose → Bool → RwLockAt → Type 0
  StandsWell q again to =
      (m : Line) → (rwlock_profile a (place q again to)).stands ≡ Some m
      → ((location_of (move q again to)).inside ≡ Some m) ⊎ Sleeps (move q again to) m

  abbrev AsideWell : RwLockPurpose → Bool → RwLockAt → Type 0
  AsideWell q again to =
      (rwlock_profile a (place q again to)).stands ≡ Some Second
      → ((rwlock_profile a (place q again to)).wants ≡ Some Exclusive)
      × ((b : Bool) × ((rwlock_profile a (place q again to)).role.claims ≡ Some (Pends b)))

  abbrev HeldWell : RwLockPurpose → Bool → RwLockAt → Type 0
  HeldWell q again to =
      (u : ℕ) (handed : Bool) → (rwlock_profile a (place q again to)).hand ≡ hand u handed → (handed ≡ false)
      × IsHeld (move q again to) u

  module _ (q : RwLockPurpose) (again : Bool) (waits : wants_for q ≡ Some (wanted (access_of q))) where
    abbrev asleep_in : Line → Option Want → Location
    asleep_in m y = record nowhere { stands = Some m; waits = y }

    parks_stand : (to : ParkAt) → StandsWell q again (at.Park to)
    parks_stand (parking.Leave true) Main e = inl refl
    parks_stand parking.Remove Main e = inl refl
    parks_stand parking.Asleep Main e = inr (record {
      want = wanted (access_of q);
      was = ap (asleep_in Main) waits;
      taken = λ u. refl;
      wants = λ u. waits;
      role = λ u. refl;
    })
    parks_stand (parking.Leave true) Second e = absurd cc
    parks_stand parking.Remove Second e = absurd cc
    parks_stand parking.Asleep Second e = absurd cc
    parks_stand (parking.Leave false) m e = absurd cc
    parks_stand to m e = absurd cc

    asides_stand : (to : ParkAt) → StandsWell q again (at.Aside to)
    asides_stand (parking.Leave true) Second e = inl refl
    asides_stand parking.Remove Second e = inl refl
    asides_stand parking.Asleep Second e = inr (record {
      want = wanted (access_of q);
      was = ap (asleep_in Second) waits;
      taken = λ u. refl;
      wants = λ u. waits;
      role = λ u. refl;
    })
    asides_stand (parking.Leave true) Main e = absurd cc
    asides_stand parking.Remove Main e = absurd cc
    asides_stand parking.Asleep Main e = absurd cc
    asides_stand (parking.Leave false) m e = absurd cc
    asides_stand to m e = absurd cc

    held_by : (u by : ℕ) (handed : Bool) → hand by false ≡ hand u handed → (handed ≡ false) × (by ≡ u)
    held_by u by handed e = (cc, cc)

    asides_held : (to : ParkAt) → HeldWell q again (at.Aside to)
    asides_held (parking.Taken by) u handed e = let same = held_by u by handed e in (
      same.0,
      record {
        want = wanted (access_of q);
        wants = waits;
        was = ap (λ v. record nowhere { hand = hand v false }) same.1;
        woken = refl;
        role = refl;
      },
    )
    asides_held to u handed e = absurd cc

    -- a thread that waits in the main line has nothing yet
    parks_held : claimed q ≡ None → (to : ParkAt) → HeldWell q again (at.Park to)
    parks_held none (parking.Taken by) u handed e = let same = held_by u by handed e in (
      same.0,
      record {
        want = wanted (access_of q);
        wants = waits;
        was = ap (λ v. record nowhere { hand = hand v false }) same.1;
        woken = refl;
        role = ap (at_rest (Some (wanted (access_of q)))) none;
      },
    )
    parks_held none to u handed e = absurd cc

    -- a thread that waits in the main line isn't aside
    parks_aside : (to : ParkAt) → AsideWell q again (at.Park to)
    parks_aside (parking.Leave true) e = absurd cc
    parks_aside (parking.Leave false) e = absurd cc
    parks_aside parking.Asleep e = absurd cc
    parks_aside parking.Remove e = absurd cc
    parks_aside to e = absurd cc

    asides_aside : wants_for q ≡ Some Exclusive → (to : ParkAt) → AsideWell q again (at.Aside to)
    asides_aside writes (parking.Leave true) e = (writes, (falls_back q, refl))
    asides_aside writes (parking.Leave false) e = absurd cc
    asides_aside writes parking.Asleep e = (writes, (falls_back q, refl))
    asides_aside writes parking.Remove e = (writes, (falls_back q, refl))
    asides_aside writes to e = absurd cc

  -- only a thread that is to write waits aside
  asides_write : (x : Access) (how : Patience) (again : Bool) (to : ParkAt)
      → StandsAt (purpose.Enter x how) again (at.Aside to) → wants_for (purpose.Enter x how) ≡ Some Exclusive
  asides_write access.Exclusive how again to fits = refl
  asides_write access.Shared how again to fits = absurd fits
  asides_write access.Upgradable how again to fits = absurd fits

  -- an upgrade waits aside alone
  never_parks : (how : Patience) (again : Bool) (to : ParkAt) → StandsAt (purpose.Upgrade how) again
      (at.Park to) → ⊥
  never_parks Try again to fits = fits
  never_parks Patient again to fits = fits
  never_parks Timed again to fits = fits

  never_released : (x : Access) (again : Bool) (to : ParkAt) (m : Line) → StandsAt (purpose.Release x) again
      (parks_at m to) → ⊥
  never_released access.Shared again to Main fits = fits
  never_released access.Upgradable again to Main fits = fits
  never_released access.Exclusive again to Main fits = fits
  never_released access.Shared again to Second fits = fits
  never_released access.Upgradable again to Second fits = fits
  never_released access.Exclusive again to Second fits = fits

  waits_all : (q : RwLockPurpose) (again : Bool) (to : RwLockAt) → StandsAt q again to
      → RowWaits (move q again to)
  waits_all (purpose.Enter x how) again (at.Park to) fits = record {
    aside = parks_aside (purpose.Enter x how) again refl to;
    stands = parks_stand (purpose.Enter x how) again refl to;
    held = parks_held (purpose.Enter x how) again refl refl to;
  }
  waits_all (purpose.Upgrade how) again (at.Park to) fits = absurd (never_parks how again to fits)
  waits_all (purpose.Release x) again (at.Park to) fits = absurd (never_released x again to Main fits)
  waits_all (purpose.Downgrade d) again (at.Park to) fits = absurd fits
  waits_all (purpose.Enter x how) again (at.Aside to) fits = record {
    aside = asides_aside (purpose.Enter x how) again refl (asides_write x how again to fits) to;
    stands = asides_stand (purpose.Enter x how) again refl to;
    held = asides_held (purpose.Enter x how) again refl to;
  }
  waits_all (purpose.Upgrade how) again (at.Aside to) fits = record {
    aside = asides_aside (purpose.Upgrade how) again refl refl to;
    stands = asides_stand (purpose.Upgrade how) again refl to;
    held = asides_held (purpose.Upgrade how) again refl to;
  }
  waits_all (purpose.Release x) again (at.Aside to) fits = absurd (never_released x again to Second fits)
  waits_all (purpose.Downgrade d) again (at.Aside to) fits = absurd fits
  waits_all q again to fits = record {
    aside = λ e. absurd cc;
    stands = λ m e. absurd cc;
    held = λ u handed e. absurd cc;
  }

  -- a thread whose time is up goes into the section of its line
  parks_late : (q : RwLockPurpose) (again : Bool) (how : Patience) (to : ParkAt) (m : Line)
      → late_line_at how (at.Park to) ≡ Some m → GoesIn (move q again (at.Park to))
      (rwlock_hears a (place q again (at.Park to))) m reply.Late
  parks_late q again Timed parking.Asleep Main e = goes_in refl refl refl (λ r s t free. free)
  parks_late q again Timed parking.Asleep Second e = absurd cc
  parks_late q again Patient parking.Asleep m e = absurd cc
  parks_late q again Try parking.Asleep m e = absurd cc
  parks_late q again how to m e = absurd cc

  asides_late : (q : RwLockPurpose) (again : Bool) (how : Patience) (to : ParkAt) (m : Line)
      → late_line_at how (at.Aside to) ≡ Some m → GoesIn (move q again (at.Aside to))
      (rwlock_hears a (place q again (at.Aside to))) m reply.Late
  asides_late q again Timed parking.Asleep Second e = goes_in refl refl refl (λ r s t free. free)
  asides_late q again Timed parking.Asleep Main e = absurd cc
  asides_late q again Patient parking.Asleep m e = absurd cc
  asides_late q again Try parking.Asleep m e = absurd cc
  asides_late q again how to m e = absurd cc

  late_all : (q : RwLockPurpose) (again : Bool) (to : RwLockAt) (m : Line) → late_line_at (patience_of q) to
      ≡ Some m → GoesIn (move q again to) (rwlock_hears a (place q again to)) m reply.Late
  late_all q again (at.Park to) m e = parks_late q again (patience_of q) to m e
  late_all q again (at.Aside to) m e = asides_late q again (patience_of q) to m e
  late_all q again to m e = absurd cc

pub rwlock_sleepers_move : RwLockSleepersMove
rwlock_sleepers_move a p stands = waits_all a p.purpose p.retries p.at stands.place

pub rwlock_late_moves : RwLockLateMove
rwlock_late_moves a p m e = late_all a p.purpose p.retries p.at m e
