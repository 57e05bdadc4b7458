-- Looks at a semaphore, and the exchanges that go by them.
use Rattle.std.proofs.Common.{ℕ, arith, Bool, true, false, Option, Some, None, if◌then◌else◌, ◌==◌, ◌&&◌, ◌≡◌}
use Rattle.std.proofs.Common.{◌⊎◌, inl, inr, ◌-◌, ◌*◌, refl, sym, subst, eqb-true}
use Rattle.std.proofs.lemmas.Bool.Decides.{nat_tests}
use Rattle.core_base.specs.declared.keys.Keys.TheVariants.{One}
use Rattle.core_base.specs.declared.notes.Note.TheVariants as note
use Rattle.spec_locks.specs.declared.outcomes.Answer.TheVariants as answer
use Rattle.steps_base.specs.declared.acts.Act.TheVariants as act
use Rattle.steps_base.specs.declared.acts.Next.{Next}
use Rattle.steps_base.specs.declared.acts.Next.TheVariants.{At, End}
use Rattle.steps_base.specs.declared.acts.Reply.{Reply}
use Rattle.steps_base.specs.declared.acts.Reply.TheVariants.{Done, Value, Removed, TakenBy, MovedTo, HandedBy}
use Rattle.steps_base.specs.declared.acts.Reply.TheVariants.{Woken}
use Rattle.steps_base.specs.Profiles.{blank_row}
use Rattle.steps_semaphore.specs.declared.acquire.AcquireAt.{AcquireAt}
use Rattle.steps_semaphore.specs.declared.acquire.AcquireAt.TheVariants as acquire
use Rattle.steps_semaphore.specs.declared.tries.TryAt.TheVariants as tries
use Rattle.steps_semaphore.specs.declared.release.ReleaseAt.{ReleaseAt}
use Rattle.steps_semaphore.specs.declared.places.SemaphorePlace.{SemaphorePlace}
use Rattle.steps_semaphore.specs.declared.places.SemaphorePlace.TheVariants.{Acquire, Try, Release}
use Rattle.steps_semaphore.specs.SemaphoreSteps.{in_acquire, in_release, in_try, is_free, looked}
use Rattle.steps_semaphore.specs.SemaphoreSteps.{next_release, semaphore_act, semaphore_next}
use Rattle.steps_semaphore.specs.SemaphoreSteps.{semaphore_shares}
use Rattle.steps_semaphore.specs.SemaphoreProfiles.{semaphore_profile}
use Rattle.lot_machine.proofs.Acted.{Befalls}
use Rattle.lot_misses.specs.Looks.{semaphore_looked}
use Rattle.lot_misses.proofs.Rows.{HasLooked, HasLookedBy, HasNotLooked, IsNoValue, IsOfWord, Looks}
use Rattle.lot_misses.proofs.Rows.{LooksRight, Misses, Precedes, SaneThen, Table, looked_then, never}

-- a try goes on only where it saw a free permit
abbrev pub IsSaneSemaphore : SemaphorePlace → Type 0
IsSaneSemaphore (Try (tries.Decide seen)) = is_free seen ≡ true
IsSaneSemaphore (Try tries.Load) = Unit {0}
IsSaneSemaphore (Acquire timed again at) = Unit {0}
IsSaneSemaphore (Release at) = Unit {0}

abbrev pub semaphore_table : ℕ → Table SemaphorePlace
semaphore_table l = record {
  act = semaphore_act l;
  next = semaphore_next;
  owners = λ p t v o. o;
  shares = semaphore_shares;
  looked = semaphore_looked;
  sane = IsSaneSemaphore;
  fits = λ v. Unit {0};
  row = semaphore_profile;
  beside = λ p. blank_row;
}

module _ (l : ℕ) where
  abbrev Then : Next SemaphorePlace → Option SemaphorePlace
  Then n = looked_then (semaphore_table l) n

  -- ---------------------------------------------------------------- a call that may wait

  loads : (timed again : Bool) (v : ℕ) → (Then (At (Acquire timed again (acquire.Decide v))) ≡ None)
      ⊎ Looks (semaphore_table l) (Acquire timed again acquire.Load) v
  loads timed again v = by_word (is_free v) (v == 0) refl refl
    where
      here : Then (At (Acquire timed again (acquire.Decide v))) ≡ Some (Acquire timed again acquire.Load)
          → Looks (semaphore_table l) (Acquire timed again acquire.Load) v
      here is = record { lock = l; load = refl; again = is; owners = λ t o. refl; shares = λ n. refl }

      by_word : (a b : Bool) → is_free v ≡ a → (v == 0) ≡ b
          → (Then (At (Acquire timed again (acquire.Decide v))) ≡ None) ⊎ Looks (semaphore_table l)
          (Acquire timed again acquire.Load) v
      by_word true b f g = inr (here (rw f refl))
      by_word false true f g = inr (here (rw (f, g) refl))
      by_word false false f g = inl (rw (f, g) refl)

  module _ (timed again : Bool) (seen : ℕ) where
    abbrev p : SemaphorePlace
    p = Acquire timed again (acquire.Decide seen)

    abbrev q : SemaphorePlace
    q = Acquire timed again acquire.Load

    missed : (v : ℕ) → (v == seen) ≡ false → Misses (semaphore_table l) q p v
    missed v other = record { next = rw other refl; owners = λ t o. refl; shares = λ n. rw other refl }

    befell : ((b : Bool) → semaphore_looked (Acquire timed b (acquire.Decide seen))
        ≡ Some (Acquire timed b acquire.Load))
        → (r : Reply) → Befalls r → Precedes (semaphore_table l) (semaphore_next q r) (semaphore_next p r)
    befell is (TakenBy t) h = is again
    befell is (MovedTo key) h = is again
    befell is (HandedBy t alone) h = is again
    befell is (Woken note.Normal) h = is true
    befell is (Woken note.HandOff) h = is again
    befell is r h = absurd h

    -- the thread takes a free permit
    takes : is_free seen ≡ true → HasLooked (semaphore_table l) p q
    takes free = record {
      lock = l;
      from = seen;
      to = seen - 2;
      hands = false;
      load = refl;
      exchange = rw free refl;
      sees = refl;
      looks = record {
        lock = l;
        load = refl;
        again = rw free refl;
        owners = λ t o. refl;
        shares
            = λ n. refl;
      };
      misses = missed;
      leads = λ v. loads timed again v;
      hits = let same : (seen == seen) ≡ true = grind (arith, nat_tests) in rw (same, free) refl;
      befallen = befell (λ b. rw free refl);
      unlooked = refl;
      sound = tt;
      alike = record { hand = refl; wants = refl; late = refl; late_too = refl };
      alike_beside = record { hand = refl; wants = refl; late = refl; late_too = refl };
    }

  -- the thread tells that it waits
  marks : (timed again : Bool) → HasLooked (semaphore_table l) (Acquire timed again (acquire.Decide 0))
      (Acquire timed again acquire.Load)
  marks timed again = record {
    lock = l;
    from = 0;
    to = 1;
    hands = false;
    load = refl;
    exchange = refl;
    sees = refl;
    looks = record { lock = l; load = refl; again = refl; owners = λ t o. refl; shares = λ n. refl };
    misses = missed timed again 0;
    leads = λ v. loads timed again v;
    hits = refl;
    befallen = befell timed again 0 (λ b. refl);
    unlooked = refl;
    sound = tt;
    alike = record { hand = refl; wants = refl; late = refl; late_too = refl };
    alike_beside = record { hand = refl; wants = refl; late = refl; late_too = refl };
  }

  -- the thread enters the queue
  enters : (timed again : Bool) (seen : ℕ) → is_free seen ≡ false → (seen == 0) ≡ false
      → HasNotLooked (semaphore_table l) (Acquire timed again (acquire.Decide seen))
  enters timed again seen f g = record {
    acts = λ v of. absurd (let enters : semaphore_act l (Acquire timed again (acquire.Decide seen))
        ≡ act.Enter (One (2 * l)) = rw (f, g) refl in subst IsOfWord enters of);
    others = others;
  }
    where
      stays : (b : Bool) → semaphore_looked (Acquire timed b (acquire.Decide seen)) ≡ None
      stays b = rw (f, g) refl

      others : (r : Reply) → IsNoValue r → Then (semaphore_next (Acquire timed again (acquire.Decide seen)) r)
          ≡ None
      others (Value v) h = absurd h
      others Done h = refl
      others r h = stays _

  decides : (timed again : Bool) (seen : ℕ)
      → HasLookedBy (semaphore_table l) (Acquire timed again (acquire.Decide seen))
      (semaphore_looked (Acquire timed again (acquire.Decide seen)))
  decides timed again seen = by_word (is_free seen) (seen == 0) refl refl
    where
      by_word : (a b : Bool) → is_free seen ≡ a → (seen == 0) ≡ b
          → HasLookedBy (semaphore_table l) (Acquire timed again (acquire.Decide seen))
          (if a then Some (Acquire timed again acquire.Load) else if b
          then Some (Acquire timed again acquire.Load) else None)
      by_word true b f g = takes timed again seen f
      by_word false true f g = subst (λ v. HasLooked (semaphore_table l)
          (Acquire timed again (acquire.Decide v)) (Acquire timed again acquire.Load))
          (sym (eqb-true seen 0 g)) (marks timed again)
      by_word false false f g = enters timed again seen f g

  module _ (timed again : Bool) where
    loaded : (r : Reply) → IsNoValue r → Then (semaphore_next (Acquire timed again acquire.Load) r) ≡ None
    loaded (Value v) h = absurd h
    loaded r h = refl

    checked : (r : Reply) → Then (semaphore_next (Acquire timed again acquire.Check) r) ≡ None
    checked Done = refl
    checked r = refl

    left : (parked : Bool) (r : Reply) → Then (semaphore_next (Acquire timed again (acquire.Leave parked)) r)
        ≡ None
    left true Done = refl
    left false Done = refl
    left parked r = refl

    asleep : (r : Reply) → Then (semaphore_next (Acquire timed again acquire.Asleep) r) ≡ None
    asleep (Woken note.Normal) = refl
    asleep (Woken note.HandOff) = refl
    asleep r = refl

    taken : (by : ℕ) (r : Reply) → Then (semaphore_next (Acquire timed again (acquire.Taken by)) r) ≡ None
    taken by (Woken note.Normal) = refl
    taken by (Woken note.HandOff) = refl
    taken by r = refl

    removed : (r : Reply) → Then (semaphore_next (Acquire timed again acquire.Remove) r) ≡ None
    removed (Removed true) = refl
    removed (Removed false) = refl
    removed r = refl

    cleared : (r : Reply) → Then (semaphore_next (Acquire timed again acquire.Clear) r) ≡ None
    cleared Done = refl
    cleared r = refl

    gave_up : (r : Reply) → Then (semaphore_next (Acquire timed again acquire.GiveUp) r) ≡ None
    gave_up Done = refl
    gave_up r = refl

    acquires : (at : AcquireAt) → HasLookedBy (semaphore_table l) (Acquire timed again at)
        (semaphore_looked (Acquire timed again at))
    acquires acquire.Load = record { acts = λ v of. loads timed again v; others = loaded }
    acquires (acquire.Decide seen) = decides timed again seen
    acquires acquire.Check = never (semaphore_table l) (Acquire timed again acquire.Check) checked
    acquires (acquire.Leave parked) = never (semaphore_table l) (Acquire timed again (acquire.Leave parked))
        (left parked)
    acquires acquire.Asleep = never (semaphore_table l) (Acquire timed again acquire.Asleep) asleep
    acquires (acquire.Taken by) = never (semaphore_table l) (Acquire timed again (acquire.Taken by))
        (taken by)
    acquires acquire.Remove = never (semaphore_table l) (Acquire timed again acquire.Remove) removed
    acquires acquire.Clear = never (semaphore_table l) (Acquire timed again acquire.Clear) cleared
    acquires acquire.GiveUp = never (semaphore_table l) (Acquire timed again acquire.GiveUp) gave_up

  -- ---------------------------------------------------------------- a try, and a release

  try_loads : (v : ℕ) → (Then (in_try (looked v)) ≡ None) ⊎ Looks (semaphore_table l) (Try tries.Load) v
  try_loads v = by_word (is_free v) refl
    where
      by_word : (b : Bool) → is_free v ≡ b → (Then (in_try (looked v)) ≡ None) ⊎ Looks (semaphore_table l)
          (Try tries.Load) v
      by_word true f = inr (record {
        lock = l;
        load = refl;
        again = rw f refl;
        owners = λ t o. refl;
        shares
            = λ n. refl;
      })
      by_word false f = inl (rw f refl)

  tries_loaded : (r : Reply) → IsNoValue r → Then (semaphore_next (Try tries.Load) r) ≡ None
  tries_loaded (Value v) h = absurd h
  tries_loaded r h = refl

  try_befell : (seen : ℕ) (r : Reply) → Befalls r
      → Precedes (semaphore_table l) (semaphore_next (Try tries.Load) r)
      (semaphore_next (Try (tries.Decide seen)) r)
  try_befell seen (TakenBy t) h = refl
  try_befell seen (MovedTo key) h = refl
  try_befell seen (HandedBy t alone) h = refl
  try_befell seen (Woken n) h = refl
  try_befell seen r h = absurd h

  tries_it : (seen : ℕ) → is_free seen ≡ true → HasLooked (semaphore_table l) (Try (tries.Decide seen))
      (Try tries.Load)
  tries_it seen free = record {
    lock = l;
    from = seen;
    to = seen - 2;
    hands = false;
    load = refl;
    exchange = rw free refl;
    sees = rw free refl;
    looks = record { lock = l; load = refl; again = rw free refl; owners = λ t o. refl; shares = λ n. refl };
    misses = λ v other. record { next = rw other refl; owners = λ t o. refl; shares = λ n. rw other refl };
    leads = try_loads;
    hits = let same : (seen == seen) ≡ true = grind (arith, nat_tests) in rw (same, free) refl;
    befallen = try_befell seen;
    unlooked = refl;
    sound = tt;
    alike = record { hand = refl; wants = refl; late = refl; late_too = refl };
    alike_beside = record { hand = refl; wants = refl; late = refl; late_too = refl };
  }

  release_then : (n : Next ReleaseAt) → Then (in_release n) ≡ None
  release_then (At at) = refl
  release_then (End answer) = refl

  place : (p : SemaphorePlace) → IsSaneSemaphore p → HasLookedBy (semaphore_table l) p (semaphore_looked p)
  place (Acquire timed again at) sane = acquires timed again at
  place (Try tries.Load) sane = record { acts = λ v of. try_loads v; others = tries_loaded }
  place (Try (tries.Decide seen)) sane = tries_it seen sane
  place (Release at) sane = never (semaphore_table l) (Release at) (λ r. release_then (next_release at r))

  -- ---------------------------------------------------------------- tries stay sane

  acquire_sane : (timed again : Bool) (n : Next AcquireAt)
      → SaneThen (semaphore_table l) (in_acquire timed again n)
  acquire_sane timed again (At at) = tt
  acquire_sane timed again (End answer) = tt

  release_sane : (n : Next ReleaseAt) → SaneThen (semaphore_table l) (in_release n)
  release_sane (At at) = tt
  release_sane (End answer) = tt

  looked_sane : (v : ℕ) → SaneThen (semaphore_table l) (in_try (looked v))
  looked_sane v = by_word (is_free v) refl
    where
      by_word : (b : Bool) → is_free v ≡ b
          → SaneThen (semaphore_table l) (in_try (if b then At (tries.Decide v) else End answer.No))
      by_word true f = f
      by_word false f = tt

  ended_sane : (b : Bool) (v : ℕ)
      → SaneThen (semaphore_table l) (in_try (if b then End answer.Yes else looked v))
  ended_sane true v = tt
  ended_sane false v = looked_sane v

  keeps : (p : SemaphorePlace) (r : Reply) → IsSaneSemaphore p
      → SaneThen (semaphore_table l) (semaphore_next p r)
  keeps (Acquire timed again at) r sane = acquire_sane timed _ _
  keeps (Release at) r sane = release_sane (next_release at r)
  keeps (Try tries.Load) (Value v) sane = looked_sane v
  keeps (Try tries.Load) r sane = tt
  keeps (Try (tries.Decide seen)) (Value v) sane = ended_sane ((v == seen) && is_free v) v
  keeps (Try (tries.Decide seen)) r sane = sane

  pub semaphore_looks_right : LooksRight (semaphore_table l)
  semaphore_looks_right = record { place = place; keeps = λ p r fits sane. keeps p r sane }
