-- Looks at a mutex, and the exchanges that go by them.
use Rattle.std.proofs.Common.{ℕ, arith, Bool, true, false, Option, Some, None, if◌then◌else◌, ◌==◌, ◌≡◌, ◌⊎◌}
use Rattle.std.proofs.Common.{inl, inr, not, ◌+◌, ◌*◌, refl, sym, ◌∙◌, subst, eqb-true}
use Rattle.core_base.specs.declared.keys.Keys.TheVariants.{One}
use Rattle.core_base.specs.declared.notes.Note.TheVariants as note
use Rattle.steps_base.specs.declared.acts.Act.TheVariants as act
use Rattle.steps_base.specs.declared.acts.Next.{Next}
use Rattle.steps_base.specs.declared.acts.Next.TheVariants.{At, End}
use Rattle.steps_base.specs.declared.acts.Reply.{Reply}
use Rattle.steps_base.specs.declared.acts.Reply.TheVariants.{Done, Value, Removed, TakenBy, MovedTo, HandedBy}
use Rattle.steps_base.specs.declared.acts.Reply.TheVariants.{Woken}
use Rattle.steps_base.specs.Profiles.{blank_row, bringing_nobody}
use Rattle.steps_mutex.specs.declared.lock.Entry.{Entry}
use Rattle.steps_mutex.specs.declared.lock.LockAt.{LockAt}
use Rattle.steps_mutex.specs.declared.lock.LockAt.TheVariants as lock
use Rattle.steps_mutex.specs.declared.unlock.UnlockAt.{UnlockAt}
use Rattle.steps_mutex.specs.declared.hand_off.HandOffAt.{HandOffAt}
use Rattle.steps_mutex.specs.declared.places.MutexPlace.{MutexPlace}
use Rattle.steps_mutex.specs.declared.places.MutexPlace.TheVariants.{Lock, TryLock, Unlock, UnlockFair, Bump}
use Rattle.steps_mutex.specs.declared.places.MutexPlace.TheVariants.{HandOff}
use Rattle.spec_locks.specs.declared.outcomes.Answer.TheVariants as answer
use Rattle.std.proofs.lemmas.Bool.Decides.{nat_tests}
use Rattle.steps_mutex.specs.MutexSteps.{entered, in_hand_off, in_lock, in_unlock, is_locked, is_parked}
use Rattle.steps_mutex.specs.MutexSteps.{looked, mutex_act, mutex_next, mutex_owners, next_hand_off}
use Rattle.steps_mutex.specs.MutexSteps.{next_unlock}
use Rattle.steps_mutex.specs.MutexProfiles.{mutex_profile}
use Rattle.lot_machine.proofs.Acted.{Befalls}
use Rattle.lot_misses.specs.Looks.{mutex_looked}
use Rattle.lot_misses.proofs.Rows.{AreAlike, HasLooked, HasLookedBy, HasNotLooked, IsNoValue, IsOfWord, Looks}
use Rattle.lot_misses.proofs.Rows.{LooksRight, Misses, Precedes, SaneThen, Table, looked_then, never}

abbrev pub mutex_table : ℕ → Table MutexPlace
mutex_table l = record {
  act = mutex_act l;
  next = mutex_next;
  owners = mutex_owners;
  shares = λ p v n. None;
  looked = mutex_looked;
  sane = λ p. Unit {0};
  fits = λ v. Unit {0};
  row = λ p. bringing_nobody (mutex_profile p);
  beside = λ p. blank_row;
}

module _ (l : ℕ) where
  abbrev Then : Next MutexPlace → Option MutexPlace
  Then n = looked_then (mutex_table l) n

  -- ---------------------------------------------------------------- looks

  loads : (e : Entry) (again : Bool) (v : ℕ) → (Then (At (Lock e again (lock.Decide v))) ≡ None)
      ⊎ Looks (mutex_table l) (Lock e again lock.Load) v
  loads e again v = by_word (is_locked v) (v == 1) refl refl
    where
      here : Then (At (Lock e again (lock.Decide v))) ≡ Some (Lock e again lock.Load)
          → Looks (mutex_table l) (Lock e again lock.Load) v
      here is = record { lock = l; load = refl; again = is; owners = λ t o. refl; shares = λ n. refl }

      by_word : (a b : Bool) → is_locked v ≡ a → (v == 1) ≡ b
          → (Then (At (Lock e again (lock.Decide v))) ≡ None) ⊎ Looks (mutex_table l) (Lock e again lock.Load)
          v
      by_word false b f g = inr (here (rw f refl))
      by_word true true f g = inr (here (rw (f, g) refl))
      by_word true false f g = inl (rw (f, g) refl)

  alike : (e : Entry) (again : Bool) (v : ℕ)
      → AreAlike (bringing_nobody (mutex_profile (Lock e again (lock.Decide v))))
      (bringing_nobody (mutex_profile (Lock e again lock.Load)))
  alike e again v = record { hand = refl; wants = refl; late = refl; late_too = refl }

  module _ (e : Entry) (again : Bool) (seen : ℕ) where
    abbrev p : MutexPlace
    p = Lock e again (lock.Decide seen)

    abbrev q : MutexPlace
    q = Lock e again lock.Load

    missed : (v : ℕ) → (v == seen) ≡ false → Misses (mutex_table l) q p v
    missed v other = record { next = rw other refl; owners = λ t o. rw other refl; shares = λ n. refl }

    befell : mutex_looked p ≡ Some q → (r : Reply) → Befalls r → Precedes (mutex_table l) (mutex_next q r)
        (mutex_next p r)
    befell is (TakenBy t) h = is
    befell is (MovedTo key) h = is
    befell is (HandedBy t alone) h = retold false
      where
        retold : (b : Bool) → mutex_looked (Lock e b (lock.Decide seen)) ≡ Some (Lock e b lock.Load)
        retold b = by_word (is_locked seen) (seen == 1) refl refl
          where
            by_word : (a c : Bool) → is_locked seen ≡ a → (seen == 1) ≡ c
                → mutex_looked (Lock e b (lock.Decide seen)) ≡ Some (Lock e b lock.Load)
            by_word false c f g = rw f refl
            by_word true true f g = rw (f, g) refl
            by_word true false f g = absurd (let none : mutex_looked p ≡ None = rw (f, g) refl
                in let both : ◌≡◌ {A = Option MutexPlace} None (Some q) = sym none ∙ is in cc)
    befell is (Woken note.Normal) h = by_word (is_locked seen) (seen == 1) refl refl
      where
        by_word : (a c : Bool) → is_locked seen ≡ a → (seen == 1) ≡ c
            → mutex_looked (Lock e true (lock.Decide seen)) ≡ Some (Lock e true lock.Load)
        by_word false c f g = rw f refl
        by_word true true f g = rw (f, g) refl
        by_word true false f g = absurd (let none : mutex_looked p ≡ None = rw (f, g) refl in let both : ◌≡◌
            {A = Option MutexPlace} None (Some q) = sym none ∙ is in cc)
    befell is (Woken note.HandOff) h = is
    befell is r h = absurd h

    -- the thread takes an unlocked mutex
    takes : is_locked seen ≡ false → HasLooked (mutex_table l) p q
    takes free = record {
      lock = l;
      from = seen;
      to = seen + 1;
      hands = false;
      load = refl;
      exchange = rw free refl;
      sees = refl;
      looks = record {
        lock = l;
        load = refl;
        again = rw free refl;
        owners = λ t o. refl;
        shares
            = λ n. refl;
      };
      misses = missed;
      leads = λ v. loads e again v;
      hits = let same : (seen == seen) ≡ true = grind (arith, nat_tests) in rw (same, free) refl;
      befallen = befell (rw free refl);
      unlooked = refl;
      sound = tt;
      alike = alike e again seen;
      alike_beside = record { hand = refl; wants = refl; late = refl; late_too = refl };
    }

  -- the thread tells the owner that it waits
  marks : (e : Entry) (again : Bool) → HasLooked (mutex_table l) (Lock e again (lock.Decide 1))
      (Lock e again lock.Load)
  marks e again = record {
    lock = l;
    from = 1;
    to = 3;
    hands = false;
    load = refl;
    exchange = refl;
    sees = refl;
    looks = record { lock = l; load = refl; again = refl; owners = λ t o. refl; shares = λ n. refl };
    misses = missed e again 1;
    leads = λ v. loads e again v;
    hits = refl;
    befallen = befell e again 1 refl;
    unlooked = refl;
    sound = tt;
    alike = alike e again 1;
    alike_beside = record { hand = refl; wants = refl; late = refl; late_too = refl };
  }

  -- the thread enters the queue
  enters : (e : Entry) (again : Bool) (seen : ℕ) → is_locked seen ≡ true → (seen == 1) ≡ false
      → HasNotLooked (mutex_table l) (Lock e again (lock.Decide seen))
  enters e again seen f g = record {
    acts = λ v of. absurd (let none : IsOfWord (act.Enter (One (2 * l))) = let enters : mutex_act l
        (Lock e again (lock.Decide seen)) ≡ act.Enter (One (2 * l)) = rw (f, g) refl in subst IsOfWord enters
        of in none);
    others = others;
  }
    where
      stays : (b : Bool) → mutex_looked (Lock e b (lock.Decide seen)) ≡ None
      stays b = rw (f, g) refl

      others : (r : Reply) → IsNoValue r → Then (mutex_next (Lock e again (lock.Decide seen)) r) ≡ None
      others (Value v) h = absurd h
      others Done h = refl
      others r h = stays _

  decides : (e : Entry) (again : Bool) (seen : ℕ)
      → HasLookedBy (mutex_table l) (Lock e again (lock.Decide seen))
      (mutex_looked (Lock e again (lock.Decide seen)))
  decides e again seen = by_word (is_locked seen) (seen == 1) refl refl
    where
      by_word : (a b : Bool) → is_locked seen ≡ a → (seen == 1) ≡ b
          → HasLookedBy (mutex_table l) (Lock e again (lock.Decide seen))
          (if not a then Some (Lock e again lock.Load) else if b then Some (Lock e again lock.Load)
          else None)
      by_word false b f g = takes e again seen f
      by_word true true f g = subst (λ v. HasLooked (mutex_table l) (Lock e again (lock.Decide v))
          (Lock e again lock.Load)) (sym (eqb-true seen 1 g)) (marks e again)
      by_word true false f g = enters e again seen f g

  -- ---------------------------------------------------------------- all other places

  first_then : (e : Entry) (again b : Bool)
      → Then (in_lock e again (if b then End (entered e) else At lock.Load)) ≡ None
  first_then e again true = refl
  first_then e again false = refl

  left_then : (e : Entry) (again b : Bool)
      → Then (in_lock e again (if b then At lock.Asleep else At lock.Load)) ≡ None
  left_then e again true = refl
  left_then e again false = refl

  removed_then : (e : Entry) (again b : Bool)
      → Then (in_lock e again (if b then At lock.Clear else At lock.GiveUp)) ≡ None
  removed_then e again true = refl
  removed_then e again false = refl

  module _ (e : Entry) (again : Bool) where
    first : (r : Reply) → Then (mutex_next (Lock e again lock.First) r) ≡ None
    first (Value v) = first_then e again (v == 0)
    first r = refl

    left : (parked : Bool) (r : Reply) → Then (mutex_next (Lock e again (lock.Leave parked)) r) ≡ None
    left parked Done = left_then e again parked
    left parked r = refl

    asleep : (r : Reply) → Then (mutex_next (Lock e again lock.Asleep) r) ≡ None
    asleep (Woken note.Normal) = refl
    asleep (Woken note.HandOff) = refl
    asleep r = refl

    taken : (by : ℕ) (r : Reply) → Then (mutex_next (Lock e again (lock.Taken by)) r) ≡ None
    taken by (Woken note.Normal) = refl
    taken by (Woken note.HandOff) = refl
    taken by r = refl

    handed : (by : ℕ) (r : Reply) → Then (mutex_next (Lock e again (lock.Handed by)) r) ≡ None
    handed by (Woken note.Normal) = refl
    handed by (Woken note.HandOff) = refl
    handed by r = refl

    removed : (r : Reply) → Then (mutex_next (Lock e again lock.Remove) r) ≡ None
    removed (Removed none_left) = removed_then e again none_left
    removed r = refl

    checked : (r : Reply) → Then (mutex_next (Lock e again lock.Check) r) ≡ None
    checked Done = refl
    checked r = refl

    accepted : (r : Reply) → Then (mutex_next (Lock e again lock.Accept) r) ≡ None
    accepted Done = refl
    accepted r = refl

    cleared : (r : Reply) → Then (mutex_next (Lock e again lock.Clear) r) ≡ None
    cleared Done = refl
    cleared r = refl

    gave_up : (r : Reply) → Then (mutex_next (Lock e again lock.GiveUp) r) ≡ None
    gave_up Done = refl
    gave_up r = refl

    loaded : (r : Reply) → IsNoValue r → Then (mutex_next (Lock e again lock.Load) r) ≡ None
    loaded (Value v) h = absurd h
    loaded r h = refl

    locks : (at : LockAt) → HasLookedBy (mutex_table l) (Lock e again at) (mutex_looked (Lock e again at))
    locks lock.First = never (mutex_table l) (Lock e again lock.First) first
    locks lock.Load = record { acts = λ v of. loads e again v; others = loaded }
    locks (lock.Decide seen) = decides e again seen
    locks lock.Check = never (mutex_table l) (Lock e again lock.Check) checked
    locks (lock.Leave parked) = never (mutex_table l) (Lock e again (lock.Leave parked)) (left parked)
    locks lock.Asleep = never (mutex_table l) (Lock e again lock.Asleep) asleep
    locks (lock.Taken by) = never (mutex_table l) (Lock e again (lock.Taken by)) (taken by)
    locks (lock.Handed by) = never (mutex_table l) (Lock e again (lock.Handed by)) (handed by)
    locks lock.Accept = never (mutex_table l) (Lock e again lock.Accept) accepted
    locks lock.Remove = never (mutex_table l) (Lock e again lock.Remove) removed
    locks lock.Clear = never (mutex_table l) (Lock e again lock.Clear) cleared
    locks lock.GiveUp = never (mutex_table l) (Lock e again lock.GiveUp) gave_up

  unlock_then : (n : Next UnlockAt) → Then (in_unlock n) ≡ None
  unlock_then (At at) = refl
  unlock_then (End answer) = refl

  hand_off_then : (bumps : Bool) (n : Next HandOffAt) → Then (in_hand_off bumps n) ≡ None
  hand_off_then bumps (At at) = refl
  hand_off_then true (End answer) = refl
  hand_off_then false (End answer) = refl

  tried : (r : Reply) → Then (mutex_next TryLock r) ≡ None
  tried (Value v) = either (is_locked v)
    where
      either : (b : Bool) → Then (if b then End answer.No else End answer.Yes) ≡ None
      either true = refl
      either false = refl
  tried r = refl

  looked_then_so : (bumps b : Bool) → Then (looked bumps b) ≡ None
  looked_then_so bumps true = refl
  looked_then_so bumps false = refl

  fair : (r : Reply) → Then (mutex_next UnlockFair r) ≡ None
  fair (Value v) = looked_then_so false (not (v == 1))
  fair r = refl

  bumps : (r : Reply) → Then (mutex_next Bump r) ≡ None
  bumps (Value v) = looked_then_so true (is_parked v)
  bumps r = refl

  place : (p : MutexPlace) → HasLookedBy (mutex_table l) p (mutex_looked p)
  place (Lock e again at) = locks e again at
  place TryLock = never (mutex_table l) TryLock tried
  place (Unlock at) = never (mutex_table l) (Unlock at) (λ r. unlock_then (next_unlock at r))
  place UnlockFair = never (mutex_table l) UnlockFair fair
  place Bump = never (mutex_table l) Bump bumps
  place (HandOff bumps at) = never (mutex_table l) (HandOff bumps at)
      (λ r. hand_off_then bumps (next_hand_off at r))

  sane_then : (n : Next MutexPlace) → SaneThen (mutex_table l) n
  sane_then (At p) = tt
  sane_then (End answer) = tt

  pub mutex_looks_right : LooksRight (mutex_table l)
  mutex_looks_right = record {
    place = λ p sane. place p;
    keeps = λ p r fits sane. sane_then (mutex_next p
        r);
  }
