-- Looks at a reader-writer lock, and the exchanges that go by them.
use Rattle.std.proofs.Common.{ℕ, arith, Bool, true, false, Option, Some, None, if◌then◌else◌, ◌==◌, ◌≡◌, ◌⊎◌}
use Rattle.std.proofs.Common.{inl, inr, ◌+◌, ◌*◌, ◌^◌, ◌<◌, refl, sym, ◌∙◌, subst}
use Rattle.std.proofs.lemmas.Bool.Decides.{nat_tests}
use Rattle.core_base.specs.declared.keys.Keys.TheVariants.{One}
use Rattle.core_base.specs.declared.keys.Line.{Line}
use Rattle.core_base.specs.declared.keys.Line.TheVariants.{Main, Second}
use Rattle.core_base.specs.declared.notes.Note.TheVariants as note
use Rattle.spec_locks.specs.declared.calls.Access.TheVariants as access
use Rattle.spec_locks.specs.declared.calls.Patience.{Patience}
use Rattle.spec_locks.specs.declared.calls.Patience.TheVariants.{Patient, Timed, Try}
use Rattle.spec_locks.specs.declared.outcomes.Answer.TheVariants as answer
use Rattle.spec_locks.specs.Codes.{count_in, has_aside, has_parked}
use Rattle.steps_base.specs.declared.acts.Act.TheVariants as act
use Rattle.steps_base.specs.declared.acts.Next.{Next}
use Rattle.steps_base.specs.declared.acts.Next.TheVariants.{At, End}
use Rattle.steps_base.specs.declared.acts.Reply.{Reply}
use Rattle.steps_base.specs.declared.acts.Reply.TheVariants.{Done, Value, Parked, Took, Picked, Removed}
use Rattle.steps_base.specs.declared.acts.Reply.TheVariants.{TakenBy, MovedTo, HandedBy, Woken}
use Rattle.steps_base.specs.Profiles.{blank_row}
use Rattle.steps_rwlock.specs.declared.places.Admission.{Admission}
use Rattle.steps_rwlock.specs.declared.places.RwLockPlace.{RwLockPlace}
use Rattle.steps_rwlock.specs.declared.places.RwLockAt.{RwLockAt}
use Rattle.steps_rwlock.specs.declared.places.RwLockAt.TheVariants as at
use Rattle.steps_rwlock.specs.declared.purposes.RwLockPurpose.{RwLockPurpose}
use Rattle.steps_rwlock.specs.declared.purposes.RwLockPurpose.TheVariants as purpose
use Rattle.steps_rwlock.specs.declared.park.ParkAt.{ParkAt}
use Rattle.steps_rwlock.specs.declared.park.ParkAt.TheVariants as parking
use Rattle.steps_rwlock.specs.declared.release.WakeAt.{WakeAt}
use Rattle.steps_rwlock.specs.declared.release.WakeAt.TheVariants as waking
use Rattle.steps_rwlock.specs.declared.enter.Decision.{Decision}
use Rattle.steps_rwlock.specs.declared.enter.Decision.TheVariants as decisions
use Rattle.steps_rwlock.specs.RwLockSteps.{after_count, came_in_for, decided_for, entered, exchanged_next}
use Rattle.steps_rwlock.specs.RwLockSteps.{gave_way_by, goes, looked, looked_by, missed, park_next}
use Rattle.steps_rwlock.specs.RwLockSteps.{patience_of, plus, rwlock_act, rwlock_next, rwlock_owners}
use Rattle.steps_rwlock.specs.RwLockSteps.{rwlock_shares, stays, wake_next, wakes_or_ends, word_taken}
use Rattle.steps_rwlock.specs.RwLockProfiles.{gone_to, rwlock_profile}
use Rattle.steps_rwlock.proofs.RwLockStands.{decides_to_park}
use Rattle.lot_machine.proofs.Acted.{Befalls}
use Rattle.lot_misses.specs.Looks.{rwlock_looked, rwlock_looked_by}
use Rattle.lot_misses.proofs.Rows.{FitsReply, HasLooked, HasLookedBy, HasNotLooked, IsNoValue, IsOfWord}
use Rattle.lot_misses.proofs.Rows.{Looks, LooksRight, Misses, Precedes, SaneThen, Table, looked_then, never}

-- a decision is of a word, and a pending writer has seen readers
abbrev pub IsSaneAt : RwLockAt → Type 0
IsSaneAt (at.Decide seen) = seen < 2 ^ 64
IsSaneAt (at.Count seen) = (count_in seen == 0) ≡ false
IsSaneAt to = Unit {0}

abbrev pub rwlock_table : ℕ → Admission → Table RwLockPlace
rwlock_table l a = record {
  act = rwlock_act l a;
  next = rwlock_next a;
  owners = rwlock_owners a;
  shares = rwlock_shares a;
  looked = λ p. gone_to p (rwlock_looked a p p.at);
  sane = λ p. IsSaneAt p.at;
  fits = λ v. v < 2 ^ 64;
  row = rwlock_profile a;
  beside = λ p. blank_row;
}

-- ---------------------------------------------------------------- a thread that enters

-- a place that is no decision, and no count
abbrev IsAwayAt : RwLockAt → Type 0
IsAwayAt (at.Decide seen) = ⊥
IsAwayAt (at.Count seen) = ⊥
IsAwayAt to = Unit {0}

abbrev IsAway : Next RwLockPlace → Type 0
IsAway (At p) = IsAwayAt p.at
IsAway (End answer) = Unit {0}

module _ (l : ℕ) (a : Admission) where
  abbrev Then : Next RwLockPlace → Option RwLockPlace
  Then n = looked_then (rwlock_table l a) n

  module _ (q : RwLockPurpose) (again : Bool) where
    abbrev on : RwLockAt → RwLockPlace
    on to = record { purpose = q; retries = again; at = to }

    abbrev By : RwLockAt → Type 0
    By to = HasLookedBy (rwlock_table l a) (on to) (gone_to (on to) (rwlock_looked a (on to) to))

    looked_row : (v : ℕ) (d : Decision) → decided_for a q v ≡ d
        → (Then (looked_by (on at.Load) v d) ≡ None) ⊎ (Then (looked_by (on at.Load) v d) ≡ Some (on at.Load))
    looked_row v decisions.Take is = inr (rw is refl)
    looked_row v decisions.Mark is = inr (rw is refl)
    looked_row v decisions.Park is = inl (rw is refl)
    looked_row v (decisions.Refuse answer) is = inl refl

    loads : (v : ℕ) → (Then (looked a (on at.Load) v) ≡ None) ⊎ Looks (rwlock_table l a) (on at.Load) v
    loads v = elim (looked_row v (decided_for a q v) refl) [
      | inl none ↦ inl none
      | inr some ↦ inr (record {
        lock = l;
        load = refl;
        again = some;
        owners = λ t o. refl;
        shares
            = λ n. refl;
      })
    ]

    -- the look is the one of the other place
    looked_same : (x y : RwLockAt) (v : ℕ) (d : Decision) → looked_by (on x) v d ≡ looked_by (on y) v d
    looked_same x y v decisions.Take = refl
    looked_same x y v decisions.Mark = refl
    looked_same x y v decisions.Park = refl
    looked_same x y v (decisions.Refuse answer) = refl

    looks_at : (v : ℕ) → rwlock_looked_by (decided_for a q v) ≡ Some at.Load
        → Looks (rwlock_table l a) (on at.Load) v
    looks_at v is = elim (loads v) [
      | inl none ↦ absurd (let both : ◌≡◌ {A = Option RwLockPlace} None (Some (on at.Load)) = sym none
          ∙ seen (decided_for a q v) refl is in cc)
      | inr looks ↦ looks
    ]
      where
        seen : (d : Decision) → decided_for a q v ≡ d → rwlock_looked_by d ≡ Some at.Load
            → Then (looked_by (on at.Load) v d) ≡ Some (on at.Load)
        seen decisions.Take e is = rw e refl
        seen decisions.Mark e is = rw e refl
        seen decisions.Park e is = absurd cc
        seen (decisions.Refuse answer) e is = absurd cc

    came_then : (q : RwLockPurpose) → Then (came_in_for (on (at.Decide 0)) q) ≡ None
    came_then (purpose.Enter access.Exclusive how) = refl
    came_then (purpose.Enter access.Shared how) = refl
    came_then (purpose.Enter access.Upgradable how) = refl
    came_then (purpose.Release x) = refl
    came_then (purpose.Downgrade d) = refl
    came_then (purpose.Upgrade how) = refl

    -- ---------------------------------------------------------------- by the decision

    module _ (seen : ℕ) (few : seen < 2 ^ 64) where
      same : (seen == seen) ≡ true
      same = grind (arith, nat_tests)

      missed_taking : decided_for a q seen ≡ decisions.Take → (v : ℕ) → (v == seen) ≡ false
          → Misses (rwlock_table l a) (on at.Load) (on (at.Decide seen)) v
      missed_taking is v other = record {
        next = rw (is, other) (looked_same (at.Decide seen) at.Load v
            (decided_for a q v));
        owners = λ t o. rw other refl;
        shares = λ n. rw other refl;
      }

      missed_marking : decided_for a q seen ≡ decisions.Mark → (v : ℕ) → (v == seen) ≡ false
          → Misses (rwlock_table l a) (on at.Load) (on (at.Decide seen)) v
      missed_marking is v other = record {
        next = rw (is, other) (looked_same (at.Decide seen) at.Load v
            (decided_for a q v));
        owners = λ t o. rw other refl;
        shares = λ n. rw other refl;
      }

      befell : rwlock_looked_by (decided_for a q seen) ≡ Some at.Load
          → (r : Reply) → Befalls r → Precedes (rwlock_table l a) (rwlock_next a (on at.Load) r)
          (rwlock_next a (on (at.Decide seen)) r)
      befell is (TakenBy t) h = rw is refl
      befell is (MovedTo key) h = rw is refl
      befell is (HandedBy t alone) h = rw is refl
      befell is (Woken n) h = rw is refl
      befell is r h = absurd h

      sees : (d : Decision) → decided_for a q seen ≡ d → rwlock_looked_by d ≡ Some at.Load
          → looked_by (on at.Load) seen d ≡ At (on (at.Decide seen))
      sees decisions.Take e is = refl
      sees decisions.Mark e is = refl
      sees decisions.Park e is = absurd cc
      sees (decisions.Refuse answer) e is = absurd cc

      takes : decided_for a q seen ≡ decisions.Take → HasLooked (rwlock_table l a) (on (at.Decide seen))
          (on at.Load)
      takes is = record {
        lock = l;
        from = seen;
        to = word_taken q seen;
        hands = false;
        load = refl;
        exchange = rw is refl;
        sees = rw is refl;
        looks = looks_at seen (rw is refl);
        misses = missed_taking is;
        leads = loads;
        hits = rw (is, same) (came_then q);
        befallen = befell (rw is refl);
        unlooked = refl;
        sound = tt;
        alike = record { hand = refl; wants = refl; late = refl; late_too = refl };
        alike_beside = record { hand = refl; wants = refl; late = refl; late_too = refl };
      }

      marks : decided_for a q seen ≡ decisions.Mark → HasLooked (rwlock_table l a) (on (at.Decide seen))
          (on at.Load)
      marks is = record {
        lock = l;
        from = seen;
        to = plus seen 1;
        hands = false;
        load = refl;
        exchange = rw is refl;
        sees = rw is refl;
        looks = looks_at seen (rw is refl);
        misses = missed_marking is;
        leads = loads;
        hits = rw (is, same, decides_to_park a q seen few is) refl;
        befallen = befell (rw is refl);
        unlooked = refl;
        sound = tt;
        alike = record { hand = refl; wants = refl; late = refl; late_too = refl };
        alike_beside = record { hand = refl; wants = refl; late = refl; late_too = refl };
      }

      stays_so : rwlock_looked_by (decided_for a q seen) ≡ None → (r : Reply) → IsNoValue r
          → Then (rwlock_next a (on (at.Decide seen)) r) ≡ None
      stays_so is (Value v) h = absurd h
      stays_so is Done h = refl
      stays_so is r h = rw is refl

      enters : decided_for a q seen ≡ decisions.Park → HasNotLooked (rwlock_table l a) (on (at.Decide seen))
      enters is = record {
        acts = λ v of. absurd (let enters : rwlock_act l a (on (at.Decide seen)) ≡ act.Enter (One (2 * l))
            = rw is refl in subst IsOfWord enters of);
        others = stays_so (rw is refl);
      }

      refuses : (answer : _) → decided_for a q seen ≡ decisions.Refuse answer
          → HasNotLooked (rwlock_table l a) (on (at.Decide seen))
      refuses answer is = record {
        acts = λ v of. absurd (let ends : rwlock_act l a (on (at.Decide seen)) ≡ act.End answer = rw is refl
            in subst IsOfWord ends of);
        others = stays_so (rw is refl);
      }

      decides : By (at.Decide seen)
      decides = by_decision (decided_for a q seen) refl
        where
          by_decision : (d : Decision) → decided_for a q seen ≡ d
              → HasLookedBy (rwlock_table l a) (on (at.Decide seen))
              (gone_to (on (at.Decide seen)) (rwlock_looked_by d))
          by_decision decisions.Take is = takes is
          by_decision decisions.Mark is = marks is
          by_decision decisions.Park is = enters is
          by_decision (decisions.Refuse answer) is = refuses answer is

    -- ---------------------------------------------------------------- a pending writer

    counts : (v : ℕ) → (Then (after_count (on at.Look) v) ≡ None) ⊎ Looks (rwlock_table l a) (on at.Look) v
    counts v = by_tests (count_in v == 0) (has_aside v) refl refl
      where
        by_tests : (b c : Bool) → (count_in v == 0) ≡ b → has_aside v ≡ c
            → (Then (after_count (on at.Look) v) ≡ None) ⊎ Looks (rwlock_table l a) (on at.Look) v
        by_tests true c f g = inl (rw f refl)
        by_tests false true f g = inl (rw (f, g) refl)
        by_tests false false f g = inr
            (record {
              lock = l;
              load = refl;
              again = rw (f, g) refl;
              owners = λ t o. rw f refl;
              shares
                  = λ n. rw f refl;
            })

    module _ (seen : ℕ) (some : (count_in seen == 0) ≡ false) where
      count_befell : has_aside seen ≡ false → (r : Reply) → Befalls r
          → Precedes (rwlock_table l a) (rwlock_next a (on at.Look) r) (rwlock_next a (on (at.Count seen)) r)
      count_befell is (TakenBy t) h = rw is refl
      count_befell is (MovedTo key) h = rw is refl
      count_befell is (HandedBy t alone) h = rw is refl
      count_befell is (Woken n) h = rw is refl
      count_befell is r h = absurd h

      pends : has_aside seen ≡ false → HasLooked (rwlock_table l a) (on (at.Count seen)) (on at.Look)
      pends is = record {
        lock = l;
        from = seen;
        to = plus seen 2;
        hands = false;
        load = refl;
        exchange = rw is refl;
        sees = rw some refl;
        looks = record {
          lock = l;
          load = refl;
          again = rw (some, is) refl;
          owners = λ t o. rw some refl;
          shares = λ n. rw some refl;
        };
        misses = λ v other. record {
          next = rw other refl;
          owners = λ t o. rw other refl;
          shares = λ n. rw
              other refl;
        };
        leads = counts;
        hits = let same : (seen == seen) ≡ true = grind (arith, nat_tests) in rw same refl;
        befallen = count_befell is;
        unlooked = refl;
        sound = tt;
        alike = record { hand = refl; wants = refl; late = refl; late_too = refl };
        alike_beside = record { hand = refl; wants = refl; late = refl; late_too = refl };
      }

      goes_aside : has_aside seen ≡ true → HasNotLooked (rwlock_table l a) (on (at.Count seen))
      goes_aside is = record {
        acts = λ v of. absurd (let enters : rwlock_act l a (on (at.Count seen)) ≡ act.Enter (One (2 * l + 1))
            = rw is refl in subst IsOfWord enters of);
        others = others;
      }
        where
          others : (r : Reply) → IsNoValue r → Then (rwlock_next a (on (at.Count seen)) r) ≡ None
          others (Value v) h = absurd h
          others Done h = refl
          others r h = rw is refl

      counted : By (at.Count seen)
      counted = by_bit (has_aside seen) refl
        where
          by_bit : (b : Bool) → has_aside seen ≡ b → HasLookedBy (rwlock_table l a) (on (at.Count seen))
              (gone_to (on (at.Count seen)) (if b then None else Some at.Look))
          by_bit true is = goes_aside is
          by_bit false is = pends is

    -- ---------------------------------------------------------------- all other places

    first : (r : Reply) → IsAway (rwlock_next a (on at.First) r)
    first (Value v) = by_word (v == 0) (patience_of q)
      where
        by_word : (b : Bool) (how : Patience)
            → IsAway (if b then End (entered (patience_of q)) else missed (on at.First) how)
        by_word true how = tt
        by_word false Try = tt
        by_word false Patient = tt
        by_word false Timed = tt
    first r = tt

    loaded : (r : Reply) → IsNoValue r → Then (rwlock_next a (on at.Load) r) ≡ None
    loaded (Value v) h = absurd h
    loaded r h = refl

    looked_aside : (r : Reply) → IsNoValue r → Then (rwlock_next a (on at.Look) r) ≡ None
    looked_aside (Value v) h = absurd h
    looked_aside r h = refl

    marked : (r : Reply) → IsAway (rwlock_next a (on at.Marked) r)
    marked Done = tt
    marked r = tt

    waking_or_ended : (x : RwLockAt) (m : Line) (b : Bool) → IsAway (wakes_or_ends (on x) m b)
    waking_or_ended x m true = tt
    waking_or_ended x m false = tt

    rolled : (r : Reply) → IsAway (rwlock_next a (on at.RollBack) r)
    rolled (Value v) = either (has_parked v)
      where
        either : (b : Bool) → IsAway (if b then stays (on at.RollBack) (at.Wake Main waking.Enter)
            else End answer.No)
        either true = tt
        either false = tt
    rolled r = tt

    gave : (v : ℕ) (q2 : RwLockPurpose) → IsAway (gave_way_by (on at.GiveWay) v q2)
    gave v (purpose.Enter access.Shared how) = waking_or_ended at.GiveWay Second _
    gave v (purpose.Enter access.Upgradable how) = waking_or_ended at.GiveWay Main _
    gave v (purpose.Enter access.Exclusive how) = waking_or_ended at.GiveWay Main _
    gave v (purpose.Release access.Shared) = waking_or_ended at.GiveWay Second _
    gave v (purpose.Release access.Upgradable) = waking_or_ended at.GiveWay Main _
    gave v (purpose.Release access.Exclusive) = waking_or_ended at.GiveWay Main _
    gave v (purpose.Downgrade d) = waking_or_ended at.GiveWay Main _
    gave v (purpose.Upgrade how) = either (count_in v == 1)
      where
        either : (b : Bool) → IsAway (if b then End (entered how) else goes (on at.GiveWay) at.Look false)
        either true = tt
        either false = tt

    gives_way : (r : Reply) → IsAway (rwlock_next a (on at.GiveWay) r)
    gives_way (Value v) = gave v q
    gives_way r = tt

    parks : (x : RwLockAt) (to : ParkAt) (r : Reply) → IsAway (park_next (on x) Main to r)
    parks x parking.Check (Parked b) = tt
    parks x (parking.Leave true) Done = tt
    parks x (parking.Leave false) Done = tt
    parks x parking.Asleep (Woken note.Normal) = tt
    parks x parking.Asleep (Woken note.HandOff) = tt
    parks x (parking.Taken by) (Woken note.Normal) = tt
    parks x (parking.Taken by) (Woken note.HandOff) = tt
    parks x parking.Remove (Removed b) = tt
    parks x parking.Clear (Value v) = tt
    parks x parking.GiveUp Done = tt
    parks x to r = tt

    parks_aside : (x : RwLockAt) (to : ParkAt) (r : Reply) → IsAway (park_next (on x) Second to r)
    parks_aside x parking.Check (Parked b) = tt
    parks_aside x (parking.Leave true) Done = tt
    parks_aside x (parking.Leave false) Done = tt
    parks_aside x parking.Asleep (Woken note.Normal) = tt
    parks_aside x parking.Asleep (Woken note.HandOff) = tt
    parks_aside x (parking.Taken by) (Woken note.Normal) = tt
    parks_aside x (parking.Taken by) (Woken note.HandOff) = tt
    parks_aside x parking.Remove (Removed b) = tt
    parks_aside x parking.Clear (Value v) = tt
    parks_aside x parking.GiveUp Done = tt
    parks_aside x to r = tt

    wakes : (x : RwLockAt) (m : Line) (to : WakeAt) (r : Reply) → IsAway (wake_next (on x) m to r)
    wakes x m waking.Enter Done = tt
    wakes x m waking.Take (Took any none_left) = tt
    wakes x m waking.Take (Picked n y none_left) = tt
    wakes x m (waking.Clear any) (Value v) = tt
    wakes x m (waking.Leave any) Done = tt
    wakes x m to r = tt

    away_at : (p : RwLockPlace) (to : RwLockAt) → IsAwayAt to → gone_to p (rwlock_looked a p to) ≡ None
    away_at p (at.Decide seen) away = absurd away
    away_at p (at.Count seen) away = absurd away
    away_at p to away = refl

    away_none : (n : Next RwLockPlace) → IsAway n → Then n ≡ None
    away_none (At p) away = away_at p p.at away
    away_none (End answer) away = refl

    away_sane_at : (to : RwLockAt) → IsAwayAt to → IsSaneAt to
    away_sane_at (at.Decide seen) away = absurd away
    away_sane_at (at.Count seen) away = absurd away
    away_sane_at to away = tt

    away_sane : (n : Next RwLockPlace) → IsAway n → SaneThen (rwlock_table l a) n
    away_sane (At p) away = away_sane_at p.at away
    away_sane (End answer) away = tt

    -- a place from which each reply leads away
    abbrev LeadsAway : RwLockAt → Type 0
    LeadsAway to = (r : Reply) → IsAway (rwlock_next a (on to) r)

    no_looks : (to : RwLockAt) → LeadsAway to → HasNotLooked (rwlock_table l a) (on to)
    no_looks to away = never (rwlock_table l a) (on to) (λ r. away_none (rwlock_next a (on to) r) (away r))

    place : (to : RwLockAt) → IsSaneAt to → By to
    place at.First sane = no_looks at.First first
    place at.Load sane = record { acts = λ v of. loads v; others = loaded }
    place (at.Decide seen) sane = decides seen sane
    place (at.Park to) sane = no_looks (at.Park to) (parks (at.Park to) to)
    place at.Look sane = record { acts = λ v of. counts v; others = looked_aside }
    place (at.Count seen) sane = counted seen sane
    place at.Marked sane = no_looks at.Marked marked
    place (at.Aside to) sane = no_looks (at.Aside to) (parks_aside (at.Aside to) to)
    place at.RollBack sane = no_looks at.RollBack rolled
    place at.GiveWay sane = no_looks at.GiveWay gives_way
    place (at.Wake m to) sane = no_looks (at.Wake m to) (wakes (at.Wake m to) m to)

    -- ---------------------------------------------------------------- decisions and counts stay sane

    looked_sane : (x : RwLockAt) (v : ℕ) → v < 2 ^ 64 → (d : Decision)
        → SaneThen (rwlock_table l a) (looked_by (on x) v d)
    looked_sane x v few decisions.Take = few
    looked_sane x v few decisions.Mark = few
    looked_sane x v few decisions.Park = few
    looked_sane x v few (decisions.Refuse answer) = tt

    counted_sane : (x : RwLockAt) (v : ℕ) → SaneThen (rwlock_table l a) (after_count (on x) v)
    counted_sane x v = by_count (count_in v == 0) refl
      where
        by_count : (b : Bool) → (count_in v == 0) ≡ b
            → SaneThen (rwlock_table l a) (if b then End (entered (patience_of q)) else stays (on x)
            (at.Count v))
        by_count true f = tt
        by_count false f = f

    came_sane : (x : RwLockAt) (q2 : RwLockPurpose) → SaneThen (rwlock_table l a) (came_in_for (on x) q2)
    came_sane x (purpose.Enter access.Exclusive how) = tt
    came_sane x (purpose.Enter access.Shared how) = tt
    came_sane x (purpose.Enter access.Upgradable how) = tt
    came_sane x (purpose.Release y) = tt
    came_sane x (purpose.Downgrade d) = tt
    came_sane x (purpose.Upgrade how) = tt

    plus_few : (v : ℕ) → plus v 1 < 2 ^ 64
    plus_few v = omega arith

    exchanged_sane : (seen v : ℕ) → v < 2 ^ 64 → (d : Decision)
        → SaneThen (rwlock_table l a) (exchanged_next a (on (at.Decide seen)) seen v d)
    exchanged_sane seen v few d = by_word (v == seen) d
      where
        looked_on : SaneThen (rwlock_table l a) (looked a (on (at.Decide seen)) v)
        looked_on = looked_sane (at.Decide seen) v few (decided_for a q v)

        by_word : (b : Bool) (d : Decision)
            → SaneThen (rwlock_table l a) (elim d [
              | decisions.Take ↦ if b then came_in_for (on (at.Decide seen)) q
                  else looked a (on (at.Decide seen)) v
              | decisions.Mark ↦ if b then stays (on (at.Decide seen)) (at.Decide (plus seen 1))
                  else looked a (on (at.Decide seen)) v
              | decisions.Park ↦ looked a (on (at.Decide seen)) v
              | decisions.Refuse answer ↦ looked a (on (at.Decide seen)) v
            ])
        by_word true decisions.Take = came_sane (at.Decide seen) q
        by_word false decisions.Take = looked_on
        by_word true decisions.Mark = plus_few seen
        by_word false decisions.Mark = looked_on
        by_word b decisions.Park = looked_on
        by_word b (decisions.Refuse answer) = looked_on

    keeps : (to : RwLockAt) (r : Reply) → FitsReply (rwlock_table l a) r → IsSaneAt to
        → SaneThen (rwlock_table l a) (rwlock_next a (on to) r)
    keeps at.Load (Value v) few sane = looked_sane at.Load v few (decided_for a q v)
    keeps at.Load r few sane = tt
    keeps (at.Decide seen) (Value v) few sane = exchanged_sane seen v few (decided_for a q seen)
    keeps (at.Decide seen) Done few sane = tt
    keeps (at.Decide seen) r few sane = sane
    keeps at.Look (Value v) few sane = counted_sane at.Look v
    keeps at.Look r few sane = tt
    keeps (at.Count seen) (Value v) few sane = by_word (v == seen)
      where
        by_word : (b : Bool) → SaneThen (rwlock_table l a) (if b then stays (on (at.Count seen)) at.Marked
            else after_count (on (at.Count seen)) v)
        by_word true = tt
        by_word false = counted_sane (at.Count seen) v
    keeps (at.Count seen) Done few sane = tt
    keeps (at.Count seen) r few sane = sane
    keeps at.First r few sane = away_sane (rwlock_next a (on at.First) r) (first r)
    keeps (at.Park to) r few sane = away_sane (rwlock_next a (on (at.Park to)) r) (parks (at.Park to) to r)
    keeps at.Marked r few sane = away_sane (rwlock_next a (on at.Marked) r) (marked r)
    keeps (at.Aside to) r few sane = away_sane (rwlock_next a (on (at.Aside to)) r)
        (parks_aside (at.Aside to) to r)
    keeps at.RollBack r few sane = away_sane (rwlock_next a (on at.RollBack) r) (rolled r)
    keeps at.GiveWay r few sane = away_sane (rwlock_next a (on at.GiveWay) r) (gives_way r)
    keeps (at.Wake m to) r few sane = away_sane (rwlock_next a (on (at.Wake m to)) r)
        (wakes (at.Wake m to) m to r)

  pub rwlock_looks_right : LooksRight (rwlock_table l a)
  rwlock_looks_right = record {
    place = λ p sane. place p.purpose p.retries p.at sane;
    keeps = λ p r few sane. keeps p.purpose p.retries p.at r few sane;
  }
