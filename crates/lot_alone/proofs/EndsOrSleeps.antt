-- A call whose thread steps alone: from each place, where it ends or falls asleep.
use Rattle.lot_laws.proofs.Imports
use Imports.{ℕ, Bool, true, false, Option, Some, None, if◌then◌else◌, ◌≡◌, ◌≢◌, ◌*◌, ◌≤◌, ◌<◌, ◌⊎◌, inl, inr}
use Imports.{List, [], ◌∷◌, length, drop, map, refl, sym, ◌∙◌, ap, subst, arith, Waiter, Exclusive, times}
use Imports.{first_of, Call, MutexCall, Kind, Outcome, Entry, Lock, TryLock, Unlock, UnlockFair, CondvarCall}
use Imports.{OnceCall, condvar_first, once_first, Place, Idle, Mutex, RwLock, Once, Condvar, Semaphore}
use Imports.{SemaphorePlace, SemaphoreCall, semaphore_first, mutex_first, is_locked, is_fair, lock_in, act_of}
use Imports.{first_place, State, place_at, word_at, kind_at, queue_at, section_at, go_of, after, runs_closure}
use Imports.{solo, IsWellFormed, PlaceFits, Main, has_readers, location, location_at, AreCondvars, AreCounted}
use Imports.{IsInductive, IsSettled, IsWorld, key_of, FitsItsLock, is_mutex, rules_in, readers, Rules, MayEnter}
use Imports.{IsBlocked, Bumps, Purpose, Releases, mutex_purpose, purpose_of, rules_of, rwlock_purpose, Patience}
use Imports.{Patient, Timed, Try, IsFull, rules_at, purpose_at, queued_of, lock_state, locks_of, owner_at}
use Imports.{BumpsAlone, EndsAlone, EntersAlone, IsUnobstructed, HasWhatItReads, IsBarred, IsOnly, IsUnderWay}
use Imports.{OnlyTries, EndsOrSleeps, successor, MutexPlace, RwLockCall, Admission, admission_of_kind, RwLockCallPlace}
use Imports.{call_first}
use Rattle.steps_base.specs.declared.acts.Act.TheVariants as act
use Rattle.spec_locks.specs.declared.outcomes.Answer.TheVariants as answer
use Rattle.spec_locks.specs.declared.calls.Call.TheVariants as call
use Rattle.spec_locks.specs.declared.calls.MutexCall.TheVariants as mutex_call
use Rattle.spec_locks.specs.declared.kinds.Kind.TheVariants as kinds
use Rattle.spec_locks.specs.declared.outcomes.Outcome.TheVariants as outcome
use Rattle.steps_mutex.specs.declared.lock.Entry.TheVariants as entries
use Rattle.steps_mutex.specs.declared.places.MutexPlace.TheVariants.{Bump}
use Rattle.steps_mutex.specs.declared.places.MutexPlace.TheVariants.{HandOff}
use Rattle.lot_alone.proofs.OnceEnds.{once_alone}
use Rattle.lot_alone.proofs.Once.{once_rests}
use Rattle.lot_alone.proofs.SemaphoreEnds.{semaphore_alone}
use Rattle.lot_alone.proofs.Semaphore.{semaphore_rests}
use Rattle.spec_locks.specs.Locks as locks
use Rattle.lot_alone.proofs.Mutex.{LockEnds, UnlockEnds, bump_leads, bump_rests, first_leads}
use Rattle.lot_alone.proofs.Mutex.{hand_off_rests, lock_rests, subtract_leads, try_leads}
use Rattle.lot_alone.proofs.Mutex.{unlock_fair_leads, unlock_fair_rests, unlock_rests}
use Rattle.lot_laws.proofs.machine.Parts.{mutex}
use Rattle.lot_laws.proofs.sites.OneStep.{queued_after}
use Rattle.lot_laws.proofs.sites.StandsMoved.{mutex_rules}
use Rattle.lot_laws.proofs.mutex.Words.{free_word, owned_word}
use Rattle.lot_laws.proofs.calls.Tries.{first_busy, stands_there}
use Rattle.lot_laws.proofs.calls.Begins.{purpose_is}
use Rattle.lot_laws.proofs.hands.Counts.{first_times}
use Rattle.lot_laws.proofs.machine.Parts.{IsSingle, nothing_at}
use Rattle.lot_laws.proofs.sites.SitesKept.{mutex_unshared}
use Rattle.lot_alone.proofs.TwoLines.{StepsAlone}
use Rattle.lot_alone.proofs.Bump.{call_rests}
use Rattle.lot_laws.proofs.rwlock.Words.{word_small}
use Rattle.lot_alone.proofs.BumpEnds.{rwlock_alone}
use Rattle.lot_alone.proofs.CondvarEnds.{condvar_alone, condvar_rests}
use Rattle.lot_laws.proofs.promises.WorldRuns.{runs_alone, world_after}
use Rattle.lot_laws.proofs.rwlock.RwLockStaysASite.{admits_by}
use Rattle.lot_laws.proofs.machine.AtPlaces.{coded as words_coded, coded_for, absent}
use Rattle.lot_alone.proofs.Leads.{Leads, OrBarred, leads_more, leads_so, or_so}
use Rattle.lot_laws.proofs.machine.ReadsOwn.{reads_its_own}
use Rattle.lot_alone.proofs.Acts.{Facing}
use Rattle.lot_alone.proofs.Tries.{tries_freely}
use Rattle.lot_alone.proofs.WayKept.{unbarred}

-- ---------------------------------------------------------------- the laws

try_so : (b : Bool) (x : Outcome)
    → x ≡ (if b then outcome.End answer.No else outcome.End
    answer.Yes) → EndsOrSleeps x
try_so true x h = rw h tt
try_so false x h = rw h tt

module _ (w : State) (t : ℕ) (shape : IsWellFormed w) (inductive : IsInductive w) (counted : AreCounted w)
    (condvars : AreCondvars w)
    (settled : IsSettled w) (there : t < length w.places) where
  world : IsWorld w
  world = record {
    well_formed = shape;
    inductive = inductive;
    counted = counted;
    condvars = condvars;
    settled = settled;
  }

  -- a fact of a world holds after each step of the thread
  stays_world : (v : State) → IsWorld v → IsWorld (after v (go_of t))
  stays_world v h = world_after v (go_of t) h

  facing : (l : ℕ) (p : Place) → IsSingle p → place_at w t ≡ p → l < length w.locks
      → Facing w t l p (word_at w l) (owner_at w l) (section_at w (2 * l)) (queue_at w (2 * l))
  facing l p single is lt = record {
    single = single;
    shape = shape;
    inductive = inductive;
    counted = counted;
    condvars = condvars;
    thread = there;
    lock = lt;
    place = is;
    word = refl;
    owner = refl;
    section = refl;
    queue = refl;
  }

  facing_now : (l : ℕ) (p : Place) → IsSingle p → place_at w t ≡ p → l < length w.locks → (s : Option ℕ)
      → section_at w (2 * l) ≡ s
      → Facing w t l p (word_at w l) (owner_at w l) s (queue_at w (2 * l))
  facing_now l p single is lt s e = subst (λ x. Facing w t l p (word_at w l) (owner_at w l) x
      (queue_at w (2 * l))) e (facing l p single is lt)

  -- outside its section it finds it free where nobody else is inside
  free : (l : ℕ) (p : Place) → IsSingle p → place_at w t ≡ p → (location p).inside ≡ None
      → IsOnly t (section_at w (2 * l))
      → (x : Option ℕ) → section_at w (2 * l) ≡ x → x ≡ None
  free l p single is outside only None e = refl
  free l p single is outside only (Some u) e = let within : (location_at (place_at w t) l).inside
      ≡ Some Main = (inductive.stands.sections t l Main).1 (e ∙ ap Some (only u e)) in
      let out : (location_at (place_at w t) l).inside ≡ None =
      nothing_at (place_at w t) l (subst IsSingle (sym is) single) (λ y. y.inside) refl
      (ap (λ y. (location y).inside) is ∙ outside) in absurd cc

  at_first : (l : ℕ) (p : Place) → IsSingle p → place_at w t ≡ p → (location p).inside ≡ None
      → IsOnly t (section_at w (2 * l))
      → l < length w.locks → Facing w t l p (word_at w l) (owner_at w l) None (queue_at w (2 * l))
  at_first l p single is outside only lt = facing_now l p single is lt None
      (free l p single is outside only (section_at w (2 * l)) refl)

  -- at a place of a reader-writer lock
  admitted : (l : ℕ) (a : Admission) (c : RwLockCallPlace) → place_at w t ≡ RwLock l a c
      → FitsItsLock w (RwLock l a c)
  admitted l a c is = subst (FitsItsLock w) is (inductive.stands.calls t)

  steps_alone : (l : ℕ) (p : Place) → IsSingle p → place_at w t ≡ p → l < length w.locks
      → StepsAlone w t l p (word_at w l) (λ m. queue_at w (key_of l m))
  steps_alone l p single is lt = record {
    single = single;
    shape = shape;
    inductive = inductive;
    counted = counted;
    condvars = condvars;
    settled = settled;
    thread = there;
    lock = lt;
    place = is;
    word = refl;
    queue = λ m. refl;
  }

  of_semaphore : (l : ℕ) (at : SemaphorePlace) → place_at w t ≡ Semaphore l at → (rules_in w l).sort
      ≡ locks.Semaphore
  of_semaphore l at is = (subst (FitsItsLock w) is (inductive.stands.calls t)).0

  mutex_place_rests : (l : ℕ) (c : MutexPlace) → place_at w t ≡ Mutex l c → PlaceFits (length w.locks)
      (Mutex l c)
      → act_of (Mutex l c) ≢ act.Sleep → Leads 12 w t (λ v x. EndsOrSleeps x)
  mutex_place_rests l (Lock entry retries a) is fits up = leads_more 8 12 w t (λ v x. EndsOrSleeps x) (omega arith)
      (lock_rests t l entry retries a (word_at w l) (owner_at w l) (section_at w (2 * l)) (queue_at w (2 * l))
      w (facing l (Mutex l (Lock entry retries a)) tt is fits.0) up)
  mutex_place_rests l TryLock is fits up = leads_more 1 12 w t (λ v x. EndsOrSleeps x) (omega arith)
      (leads_so 1 w t (λ v x. (x ≡ (if is_locked (word_at w l) then outcome.End
      answer.No else outcome.End answer.Yes))
      × (owner_at v l ≡ (if is_locked (word_at w l) then owner_at w l else Some t))) (λ v x. EndsOrSleeps x)
      (λ v x h. try_so (is_locked (word_at w l)) x h.0) (try_leads t l (queue_at w (2 * l))
      (section_at w (2 * l)) (word_at w l) (owner_at w l) w (facing l (Mutex l TryLock) tt is fits.0)))
  mutex_place_rests l (Unlock a) is fits up = leads_more 8 12 w t (λ v x. EndsOrSleeps x) (omega arith)
      (unlock_rests t l a (word_at w l) (owner_at w l) (section_at w (2 * l)) (queue_at w (2 * l)) w
      (facing l (Mutex l (Unlock a)) tt is fits.0))
  mutex_place_rests l UnlockFair is fits up = unlock_fair_rests t l (queue_at w (2 * l)) (word_at w l)
      (owner_at w l) (section_at w (2 * l)) w (facing l (Mutex l UnlockFair) tt is fits.0)
  mutex_place_rests l Bump is fits up = bump_rests t l (queue_at w (2 * l)) (word_at w l) (owner_at w l)
      (section_at w (2 * l)) w (facing l (Mutex l Bump) tt is fits.0)
  mutex_place_rests l (HandOff bumps a) is fits up = hand_off_rests t l bumps a (word_at w l) (owner_at w l)
      (section_at w (2 * l)) (queue_at w (2 * l)) w (facing l (Mutex l (HandOff bumps a)) tt is fits.0)

  place_rests : (p : Place) → place_at w t ≡ p → PlaceFits (length w.locks) p → p ≢ Idle → act_of p
      ≢ act.Sleep
      → runs_closure (act_of p) ≡ false → Leads 18 w t (λ v x. EndsOrSleeps x)
  place_rests Idle is fits busy up outside = absurd (busy refl)
  place_rests (Condvar l at) is fits busy up outside = leads_more 17 18 w t (λ v x. EndsOrSleeps x) (omega arith)
      (condvar_rests t stays_world w world there l at is up)
  place_rests (Semaphore l at) is fits busy up outside =
      leads_more 8 18 w t (λ v x. EndsOrSleeps x) (omega arith) (semaphore_rests t l at (word_at w l) w
      (λ m. queue_at w (key_of l m)) up (steps_alone l (Semaphore l at) tt is fits))
  place_rests (Once l at) is fits busy up outside =
      leads_more 8 18 w t (λ v x. EndsOrSleeps x) (omega arith)
      (once_rests t l at (word_at w l) w (λ m. queue_at w (key_of l m)) up outside
      (steps_alone l (Once l at) tt is fits))
  place_rests (RwLock l a c) is fits busy up outside =
      let h = admitted l a c is in
      call_rests t l a c (word_at w l) w (λ m. queue_at w (key_of l m)) h.0 (word_small w l inductive h.0.0)
      h.1
      up (steps_alone l (RwLock l a c) tt is fits)
  place_rests (Mutex l c) is fits busy up outside = leads_more 12 18 w t (λ v x. EndsOrSleeps x) (omega arith)
      (mutex_place_rests l c is fits up)

  -- a call under way ends or sleeps, or is barred
  pub solo_rests : IsUnderWay w t → (n : ℕ) (last : Outcome) → 18 ≤ n → OrBarred t (λ v x. EndsOrSleeps x)
      (solo n w t last).state (solo n w t last).outcome
  solo_rests up n last le = place_rests (place_at w t) refl (shape.places t) up.0 up.1 up.2 n last le

  -- ---------------------------------------------------------------- calls from their beginning

  module _ (l : ℕ) (kind : is_mutex (kind_at w l) ≡ true) (v : State) (x : Outcome) where
    rules : rules_at (locks_of w) l ≡ mutex
    rules = mutex_rules (kind_at w l) kind

    may_own : MayEnter (rules_at (locks_of w) l) (lock_state w l) Exclusive → owner_at w l ≡ None
    may_own may = let m : MayEnter mutex (lock_state w l) Exclusive =
        subst (λ (r : Rules). MayEnter r (lock_state w l) Exclusive) rules may in m.0.1

    blocked_owned : IsBlocked (rules_at (locks_of w) l) (lock_state w l) Exclusive → owner_at w l ≡ None → ⊥
    blocked_owned b = let m : IsBlocked mutex (lock_state w l) Exclusive =
        subst (λ (r : Rules). IsBlocked r (lock_state w l) Exclusive) rules b in m.1

    -- nobody shares a mutex
    unshared : {A : Type 0} → Exclusive ≡ Exclusive → MayEnter (rules_at (locks_of w) l) (lock_state w l)
        Exclusive
        → 1 ≤ readers (lock_state w l) → A
    unshared e may some = absurd (let none : readers (lock_state w l) ≡ 0 = mutex_unshared w l inductive rules
        in omega arith)

    no_sharers : {A : Type 0} → has_readers (rules_at (locks_of w) l).sort ≡ true → A
    no_sharers shared = absurd (let f : has_readers mutex.sort ≡ true =
        subst (λ (r : Rules). has_readers r.sort ≡ true) rules shared in cc)

    unfilled : {A : Type 0} → IsFull (locks_of w) l Exclusive → A
    unfilled h = absurd (h.0 refl)

    -- tells what a call that waits has come to
    abbrev patience_of : Entry → Patience
    patience_of entries.LockTimed = Timed
    patience_of entry = Patient

    lock_alone : (entry : Entry) (o : Option ℕ) → owner_at w l ≡ o → LockEnds t l entry o (queue_at w (2 * l))
        v x
        → EntersAlone (word_at w l ≡ 0) (locks_of w) t l Exclusive (patience_of entry) x (locks_of v)
    lock_alone entries.LockTimed None e h = record {
      owns = λ may. h;
      pends = unshared;
      refused = λ shared. no_sharers shared;
      full = unfilled;
      barred = λ b. absurd (blocked_owned b e);
    }
    lock_alone entries.Lock None e h = record {
      owns = λ may. h;
      pends = unshared;
      refused = λ shared. no_sharers shared;
      full = unfilled;
      barred = λ b. absurd (blocked_owned b e);
    }
    lock_alone entries.Bump None e h = record {
      owns = λ may. h;
      pends = unshared;
      refused = λ shared. no_sharers shared;
      full = unfilled;
      barred = λ b. absurd (blocked_owned b e);
    }
    lock_alone entries.LockTimed (Some u) e h = record {
      owns = λ may. absurd (let g : Some u ≡ None = sym e ∙ may_own may.0 in cc);
      pends = unshared;
      refused = λ shared. no_sharers shared;
      full = unfilled;
      barred = λ b. (h.0, ap (map queued_of) h.2 ∙ queued_after (2 * l) t Exclusive (queue_at w (2 * l)));
    }
    lock_alone entries.Lock (Some u) e h = record {
      owns = λ may. absurd (let g : Some u ≡ None = sym e ∙ may_own may.0 in cc);
      pends = unshared;
      refused = λ shared. no_sharers shared;
      full = unfilled;
      barred = λ b. (h.0, ap (map queued_of) h.2 ∙ queued_after (2 * l) t Exclusive (queue_at w (2 * l)));
    }
    lock_alone entries.Bump (Some u) e h = record {
      owns = λ may. absurd (let g : Some u ≡ None = sym e ∙ may_own may.0 in cc);
      pends = unshared;
      refused = λ shared. no_sharers shared;
      full = unfilled;
      barred = λ b. (h.0, ap (map queued_of) h.2 ∙ queued_after (2 * l) t Exclusive (queue_at w (2 * l)));
    }

    try_alone : (b : Bool) → is_locked (word_at w l) ≡ b
        → (x ≡ (if b then outcome.End answer.No else outcome.End
        answer.Yes))
        × (owner_at v l ≡ (if b then owner_at w l else Some t))
        → EntersAlone (word_at w l ≡ 0) (locks_of w) t l Exclusive Try x (locks_of v)
    try_alone true e h = record {
      owns = λ may. absurd (owned_word (word_at w l) (owner_at w l) (words_coded w inductive l rules) e
          (may_own may.0));
      pends = unshared;
      refused = λ shared. no_sharers shared;
      full = unfilled;
      barred = λ b. h.0;
    }
    try_alone false e h = record {
      owns = λ may. h;
      pends = unshared;
      refused = λ shared. no_sharers shared;
      full = unfilled;
      barred = λ b. absurd (blocked_owned b (free_word (word_at w l) (owner_at w l)
          (words_coded w inductive l rules) e));
    }

    unlock_alone : UnlockEnds l None v x → EndsAlone w t (Some (Releases l Exclusive false)) x v
    unlock_alone h = (h.0, (λ own. let g : None ≡ Some t = sym h.1 ∙ own in cc), λ mutex. h.1)

    succeeds : (q : List Waiter) → first_of q ≡ successor true (map queued_of q)
    succeeds [] = refl
    succeeds (y ∷ q) = refl

    unlock_fair_alone : IsSingle (place_at w t) → (location (place_at w t)).stands ≡ None
        → UnlockEnds l (first_of (queue_at w (2 * l))) v x → EndsAlone w t (Some (Releases l Exclusive true))
        x v
    unlock_fair_alone single awake h = (h.0, other, λ mutex. h.1 ∙ succeeds (queue_at w (2 * l)))
      where
        other : owner_at v l ≡ Some t → ⊥
        other own = let first : first_of (queue_at w (2 * l)) ≡ Some t = sym h.1 ∙ own in
            let stood : 1 ≤ times t (queue_at w (2 * l)) = first_times t (queue_at w (2 * l)) first
            in let none : times t (queue_at w (2 * l)) ≡ 0 = absent w inductive t single awake l
            in omega arith

    bump_alone : LockEnds t l entries.Bump (first_of (queue_at w (2 * l))) (drop 1 (queue_at w (2 * l))) v x
        → EndsAlone w t (Some (Bumps l Exclusive)) x v
    bump_alone h = (
      (λ mutex. by_queue (queue_at w (2 * l)) h),
      λ readers. absurd (let unshared : has_readers (rules_in w l).sort ≡ false =
          ap (λ (r : Rules). has_readers r.sort) (mutex_rules (kind_at w l) kind) in let f : false ≡ true =
          sym unshared ∙ readers in cc),
    )
      where
        by_queue : (q : List Waiter) → LockEnds t l entries.Bump (first_of q) (drop 1 q) v x
            → BumpsAlone t l (map queued_of q) x (lock_state v l)
        by_queue [] g = g
        by_queue (y ∷ q) g = (g.0, g.1, ap (map queued_of) g.2 ∙ queued_after (2 * l) t Exclusive q)

  -- tells what its solo run comes to, unless it is barred
  abbrev Comes : ℕ → Outcome → Option Purpose → Type 0
  Comes n last purpose = EndsAlone w t purpose (solo n w t last).outcome (solo n w t last).state
      ⊎ IsBarred (solo n w t last).state t

  fairly : (l : ℕ) → place_at w t ≡ Mutex l UnlockFair → l < length w.locks → is_mutex (kind_at w l) ≡ true
      → IsOnly t (section_at w (2 * l)) → (n : ℕ) (last : Outcome) → 12 ≤ n
      → Comes n last (Some (Releases l Exclusive true))
  fairly l is lt kind only n last le =
      or_so (unlock_fair_alone l kind (solo n w t last).state (solo n w t last).outcome
      (subst IsSingle (sym is) tt) (ap (λ p. (location p).stands) is))
      (unlock_fair_leads t l (queue_at w (2 * l)) (word_at w l) (owner_at w l) w
      (at_first l _ tt is refl only lt) n last (omega arith))

  call_alone : (l : ℕ) (fair : Bool) (c : MutexCall) → place_at w t ≡ Mutex l (mutex_first fair c)
      → l < length w.locks
      → is_mutex (kind_at w l) ≡ true → HasWhatItReads w t (Some (mutex_purpose fair l c))
      → (n : ℕ) (last : Outcome) → 12 ≤ n
      → Comes n last (Some (mutex_purpose fair l c))
  call_alone l fair mutex_call.Lock is lt kind reads n last le =
      or_so (lock_alone l kind (solo n w t last).state (solo n w t last).outcome entries.Lock (owner_at w l)
      refl)
      (first_leads t l entries.Lock (queue_at w (2 * l)) false (word_at w l) (owner_at w l)
      (coded_for w inductive t l _ is) (section_at w (2 * l)) w (facing l _ tt is lt) n last (omega arith))
  call_alone l fair mutex_call.LockTimed is lt kind reads n last le =
      or_so (lock_alone l kind (solo n w t last).state (solo n w t last).outcome entries.LockTimed
      (owner_at w l) refl)
      (first_leads t l entries.LockTimed (queue_at w (2 * l)) false (word_at w l) (owner_at w l)
      (coded_for w inductive t l _ is) (section_at w (2 * l)) w (facing l _ tt is lt) n last (omega arith))
  call_alone l fair mutex_call.TryLock is lt kind reads n last le =
      or_so (try_alone l kind (solo n w t last).state (solo n w t last).outcome (is_locked (word_at w l))
      refl)
      (try_leads t l (queue_at w (2 * l)) (section_at w (2 * l)) (word_at w l) (owner_at w l) w
      (facing l _ tt is lt) n last (omega arith))
  call_alone l false mutex_call.Unlock is lt kind reads n last le =
      or_so (unlock_alone l kind (solo n w t last).state (solo n w t last).outcome)
      (subtract_leads t l (queue_at w (2 * l)) (word_at w l) (owner_at w l) (section_at w (2 * l)) w
      (facing l _ tt is lt) n last (omega arith))
  call_alone l true mutex_call.Unlock is lt kind reads n last le =
      fairly l is lt kind (reads (ap (λ (r : Rules). r.sort) (mutex_rules (kind_at w l) kind))) n last le
  call_alone l fair mutex_call.UnlockFair is lt kind reads n last le =
      fairly l is lt kind (reads (ap (λ (r : Rules). r.sort) (mutex_rules (kind_at w l) kind))) n last le
  call_alone l fair mutex_call.Bump is lt kind reads n last le =
      or_so (bump_alone l kind (solo n w t last).state (solo n w t last).outcome)
      (bump_leads t l (queue_at w (2 * l)) (word_at w l) (owner_at w l) w (at_first l _ tt is refl reads lt) n
      last (omega arith))

  -- the run of a call from its beginning
  abbrev Ends : Option Purpose → Type 0
  Ends purpose = HasWhatItReads w t purpose → Comes 64 outcome.NotNow purpose

  -- a call that begins, stepped alone
  mutex_ends : (l : ℕ) (c : MutexCall) → place_at w t ≡ Mutex l (mutex_first (is_fair (kind_at w l)) c)
      → Ends (purpose_at (locks_of w) (call.Mutex l c))
  mutex_ends l c is = subst Ends (sym (purpose_is (kind_at w l) l c calls))
      (λ reads. call_alone l (is_fair (kind_at w l)) c is fits.0 calls reads 64 outcome.NotNow
      (omega arith))
    where
      calls : FitsItsLock w (Mutex l (mutex_first (is_fair (kind_at w l)) c))
      calls = subst (FitsItsLock w) is (inductive.stands.calls t)

      fits : PlaceFits (length w.locks) (Mutex l (mutex_first (is_fair (kind_at w l)) c))
      fits = subst (PlaceFits (length w.locks)) is (shape.places t)

  rwlock_ends : (l : ℕ) (c : RwLockCall) → place_at w t ≡ RwLock l (admission_of_kind (kind_at w l))
      (call_first c)
      → Ends (purpose_at (locks_of w) (call.RwLock l c))
  rwlock_ends l c is = by_kind (kind_at w l) refl
    where
      fits : l < length w.locks
      fits = subst (PlaceFits (length w.locks)) is (shape.places t)

      ends : has_readers (rules_in w l).sort ≡ true → Ends (Some (rwlock_purpose l c))
      ends readers reads = rwlock_alone w t l (admission_of_kind (kind_at w l)) c 64
          outcome.NotNow (omega arith) inductive (admits_by (kind_at w l) readers) is
          (steps_alone l (RwLock l (admission_of_kind (kind_at w l)) (call_first c)) tt is fits)
          (runs_alone 64 w t world) reads

      by_kind : (k : Kind) → kind_at w l ≡ k → Ends (purpose_of k (call.RwLock l c))
      by_kind kinds.Mutex e = λ reads. inl tt
      by_kind kinds.Fair e = λ reads. inl tt
      by_kind (kinds.RwLock limit) e = ends (ap (λ k. has_readers (rules_of k).sort) e)
      by_kind (kinds.Recursive limit) e = ends (ap (λ k. has_readers (rules_of k).sort) e)
      by_kind k e = λ reads. inl tt

  condvar_ends : (l : ℕ) (c : CondvarCall) → place_at w t ≡ Condvar l (condvar_first c)
      → Ends (purpose_at (locks_of w) (call.Condvar l c))
  condvar_ends l c is = by_kind (kind_at w l)
    where
      by_kind : (k : Kind) → Ends (purpose_of k (call.Condvar l c))
      by_kind kinds.Condvar = λ reads. condvar_alone t stays_world w world there l c is reads 64
          outcome.NotNow (omega arith)
      by_kind k = λ reads. inl tt

  once_ends : (l : ℕ) (c : OnceCall) → place_at w t ≡ Once l (once_first c)
      → Ends (purpose_at (locks_of w) (call.Once l c))
  once_ends l c is = by_kind (kind_at w l)
    where
      fits : l < length w.locks
      fits = subst (PlaceFits (length w.locks)) is (shape.places t)

      by_kind : (k : Kind) → Ends (purpose_of k (call.Once l c))
      by_kind kinds.Once = λ reads. once_alone w t l c 64 outcome.NotNow (omega arith)
          (steps_alone l (Once l (once_first c)) tt is fits)
      by_kind k = λ reads. inl tt

  semaphore_ends : (l : ℕ) (c : SemaphoreCall) → place_at w t ≡ Semaphore l (semaphore_first c)
      → Ends (purpose_at (locks_of w) (call.Semaphore l c))
  semaphore_ends l c is = by_kind (kind_at w l)
    where
      fits : l < length w.locks
      fits = subst (PlaceFits (length w.locks)) is (shape.places t)

      by_kind : (k : Kind) → Ends (purpose_of k (call.Semaphore l c))
      by_kind (kinds.Semaphore permits) = λ reads. semaphore_alone w t l c 64 outcome.NotNow
          (omega arith) inductive (of_semaphore l (semaphore_first c) is) is
          (steps_alone l (Semaphore l (semaphore_first c)) tt is fits) (runs_alone 64 w t world)
      by_kind k = λ reads. inl tt

  -- a call from its beginning ends so, or is barred
  pub solo_ends : (c : Call) → place_at w t ≡ first_place (kind_at w (lock_in c)) c
      → Ends (purpose_at (locks_of w) c)
  solo_ends (call.Condvar l c) is = condvar_ends l c is
  solo_ends (call.Once l c) is = once_ends l c is
  solo_ends (call.Semaphore l c) is = semaphore_ends l c is
  solo_ends (call.Mutex l c) is = mutex_ends l c is
  solo_ends (call.RwLock l c) is = rwlock_ends l c is

-- ---------------------------------------------------------------- as the world is told them

module _ (w : State) (t : ℕ) (shape : IsWellFormed w) (inductive : IsInductive w) (counted : AreCounted w)
    (condvars : AreCondvars w)
    (settled : IsSettled w) where
  pub rests_or_barred : IsUnderWay w t
      → EndsOrSleeps (solo 64 w t outcome.NotNow).outcome
      ⊎ IsBarred (solo 64 w t outcome.NotNow).state t
  rests_or_barred up = solo_rests w t shape inductive counted condvars settled (stands_there w.places t up.0)
      up
      64 outcome.NotNow (omega arith)

  pub ends_or_barred : (c : Call) → place_at w t ≡ first_place (kind_at w (lock_in c)) c
      → HasWhatItReads w t (purpose_at (locks_of w) c)
      → EndsAlone w t (purpose_at (locks_of w) c) (solo 64 w t outcome.NotNow).outcome
      (solo 64 w t outcome.NotNow).state
      ⊎ IsBarred (solo 64 w t outcome.NotNow).state t
  ends_or_barred c is reads = solo_ends w t shape inductive counted condvars settled
      (stands_there w.places t (first_busy (kind_at w (lock_in c)) c (place_at w t) is)) c is reads

  -- a thread that has its way isn't barred
  unless_barred : {A : Type 0} → IsUnobstructed w t → A
      ⊎ IsBarred (solo 64 w t outcome.NotNow).state t → A
  unless_barred way (inl a) = a
  unless_barred way (inr b) = absurd (unbarred 64 w t outcome.NotNow (record {
    well_formed = shape;
    inductive = inductive;
    counted = counted;
    condvars = condvars;
    settled = settled;
  }) way b)

  pub rests_alone : IsUnderWay w t → IsUnobstructed w t
      → EndsOrSleeps (solo 64 w t outcome.NotNow).outcome
  rests_alone up way = unless_barred way (rests_or_barred up)

  pub ends_alone : (c : Call) → place_at w t ≡ first_place (kind_at w (lock_in c)) c → IsUnobstructed w t
      → EndsAlone w t (purpose_at (locks_of w) c) (solo 64 w t outcome.NotNow).outcome
      (solo 64 w t outcome.NotNow).state
  ends_alone c is way = unless_barred way (ends_or_barred c is (reads_its_own w t c is way))

  -- a try ends so, whatever thread is inside a section
  pub tries_alone : (c : Call) → place_at w t ≡ first_place (kind_at w (lock_in c)) c
      → OnlyTries (purpose_at (locks_of w) c)
      → EndsAlone w t (purpose_at (locks_of w) c) (solo 64 w t outcome.NotNow).outcome
      (solo 64 w t outcome.NotNow).state
  tries_alone c is only = let free = tries_freely w t c (record {
    well_formed = shape;
    inductive = inductive;
    counted = counted;
    condvars = condvars;
    settled = settled;
  }) is only 64 outcome.NotNow in elim (ends_or_barred c is free.0) [
    | inl ends ↦ ends
    | inr barred ↦ absurd (free.1 barred)
  ]
