-- An act of one thread makes nothing of the calls of the others, but where it wakes those in its hand or
-- hands them the lock.
use Rattle.lot_laws.proofs.Imports
use Imports.{ℕ, Bool, true, false, Option, Some, None, if◌then◌else◌, ◌≡◌, ◌≢◌, ◌⊎◌, inl, inr, List, [], ◌∷◌}
use Imports.{get_or, refl, sym, ◌∙◌, ap, subst, get_or-set_other, ◌==◌, once_sleepers_move, once_profile}
use Imports.{semaphore_profile, taken_from, get_or-map, Keys, One, Two, Waiter, threads_of, lock_picked, Act}
use Imports.{TakeWhich, Reply, TakenBy, Woken, is_thread, hand, next_place, taker, Place, Idle, RwLock, Mutex, Once}
use Imports.{Condvar, Semaphore, RwLockCallPlace, Plain, PeekQueue, HandOver, Bump, Handed, CallStands}
use Imports.{call_profile, handed_woken, fair_sleepers_move, fair_sleepers_hear, never_given, Rights, LockCase}
use Imports.{Wake, HandOff, AtLock, is_taken_by, event_by, State, queue_at, place_at, put, state_after_act}
use Imports.{state_after_telling, state_after_taking, state_with_sections, places_told, place_after_telling}
use Imports.{call_state, taken_at, location, nowhere, IsInductive, carried_at, hand_at, FitsItsLock, ◌+◌, ◌≤◌}
use Imports.{arith, lock_picker, without_lock_picked, Line, Main, Second, queues_without_first}
use Imports.{state_after_take, location_at, key_of, rules_in, locations_of, stood_in}
use Rattle.lot_laws.proofs.semaphore.SemaphoreMoves.{semaphore_sleepers_move}
use Rattle.core_base.specs.declared.notes.Note.TheVariants as note
use Rattle.steps_base.specs.declared.acts.Act.TheVariants as act
use Rattle.steps_base.specs.declared.acts.TakeWhich.TheVariants as whom
use Rattle.steps_base.specs.declared.acts.Wakes.TheVariants as wakes
use Rattle.steps_rwlock_fair.specs.declared.handed.HandedAt.TheVariants as handed
use Rattle.lot_laws.specs.Locations.{hand}
use Rattle.lot_laws.proofs.machine.AtPlaces.{unless_held}
use Rattle.core_base.specs.Lines as Lines
use Rattle.spec_locks.specs.Locks as locks
use Rattle.lot_laws.proofs.promises.LineActs.{TakesHere}
use Rattle.lot_laws.proofs.sites.PicksKept.{picked_counts, under_of}
use Rattle.lot_laws.proofs.sites.TakesAt.{at_most_one, member, member_times, told_once, told_places}
use Rattle.lot_laws.proofs.condvar.WaiterCalls.{waiter_taken, waiter_taken_by, waiter_told}
use Rattle.lot_laws.proofs.machine.Parts.{IsInHandOf, aparts, held_tells, in_hand_where}
use Rattle.lot_laws.proofs.hands.Handed.{of_carries, in_hand_here as in_hand_at}
use Rattle.lot_laws.proofs.machine.Parts.{IsOf, IsTakenAt, IsHandedAt, is_taken, is_handed, same}
use Rattle.lot_laws.proofs.calls.CallEvents.{IsEvent, IsNoHandOff, Others}
use Rattle.lot_laws.proofs.calls.LockEvents.{Befalls, taken_call, wakes_others}

-- ---------------------------------------------------------------- nobody else goes anywhere

-- an act by which no other thread goes elsewhere
abbrev pub IsLonely : Act → Type 0
IsLonely (act.Take key whom) = ⊥
IsLonely (act.Requeue from to how) = ⊥
IsLonely (act.HandOver lock op) = ⊥
IsLonely (act.Leave keys (wakes.All x)) = ⊥
IsLonely a = Unit {0}

-- a case that leaves the calls of the others as they are
abbrev pub IsCalm : Option LockCase → Type 0
IsCalm (Some Wake) = ⊥
IsCalm (Some (HandOff x successor)) = ⊥
IsCalm c = Unit {0}

-- by its case an act wakes nobody but those in its hand, or tells them that they were handed the lock, and
-- hands nothing over
abbrev pub WakesOwn : Option Bool → Act → Option LockCase → Type 0
WakesOwn hand (act.Leave keys (wakes.All x)) c = ((hand ≡ Some false) × ((x ≡ note.Normal) × (c ≡ Some Wake)))
    ⊎ ((hand ≡ Some true) × ((x ≡ note.HandOff) × IsCalm c))
WakesOwn hand (act.Requeue from to how) c = ⊥
WakesOwn hand (act.HandOver lock op) c = ⊥
WakesOwn hand a c = IsCalm c

module _ (w v : State) (t l : ℕ) (c : Option LockCase) (h : IsEvent w v t (event_by l c)) where
  pub no_hand_off : (d : Option LockCase) → IsCalm d → IsNoHandOff w v t l c h d
  no_hand_off None still = tt
  no_hand_off (Some (HandOff x successor)) still = absurd still
  no_hand_off (Some case) still = λ x successor e. cc

  pub hands_nothing : (hand : Option Bool) (a : Act) (d : Option LockCase) → WakesOwn hand a d
      → IsNoHandOff w v t l c h d
  hands_nothing hand (act.Leave keys (wakes.All x)) d (inl own) = subst (IsNoHandOff w v t l c h)
      (sym own.1.1) (λ y successor e. cc)
  hands_nothing hand (act.Leave keys (wakes.All x)) d (inr own) = no_hand_off d own.1.1
  hands_nothing hand (act.Requeue from to how) d own = absurd own
  hands_nothing hand (act.HandOver lock op) d own = absurd own
  hands_nothing hand a d own = no_hand_off d own

sections_stay : (w : State) (keys : Keys) (who : Option ℕ) → (state_with_sections w keys who).places
    ≡ w.places
sections_stay w (One key) who = refl
sections_stay w (Two first second) who = refl

parked_stay : (w : State) (b : Bool) (queues : List (List Waiter))
    → (if b then record w { queues = queues } else w).places ≡ w.places
parked_stay w true queues = refl
parked_stay w false queues = refl

lonely_stay : (w : State) (t : ℕ) (p : Place) (a : Act) → IsLonely a → (state_after_act w t p a).places
    ≡ w.places
lonely_stay w t p (act.Word l op) h = refl
lonely_stay w t p (act.Enter keys) h = sections_stay w keys (Some t)
lonely_stay w t p (act.Park l key check x) h = parked_stay w _ _
lonely_stay w t p (act.Stand key x) h = refl
lonely_stay w t p (act.Remove key) h = refl
lonely_stay w t p (act.Leave keys wakes.Nobody) h = sections_stay w keys None
lonely_stay w t p (act.Leave keys (wakes.All x)) h = absurd h
lonely_stay w t p (act.Take key whom) h = absurd h
lonely_stay w t p (act.Requeue from to how) h = absurd h
lonely_stay w t p (act.HandOver l op) h = absurd h
lonely_stay w t p a h = refl

-- ---------------------------------------------------------------- each thread that is taken of a line

-- goes on in its call as it was; one that waits to be notified would know that it was moved
taken_goes_on : (w : State) (p : Place) (t l : ℕ) (m : Line) → FitsItsLock w p
    → ((rules_in w l).sort ≢ locks.Condvar)
    → (location_at p l).stands ≡ Some m → (r : ℕ → Rights) → call_state (next_place p (TakenBy t)) r
    ≡ call_state p r
taken_goes_on w (Condvar k at) t l m fits plain h r = waiter_taken k at t l m
    (λ e. plain (ap (λ j. (rules_in w j).sort) (sym e) ∙ fits.sort)) h r
taken_goes_on w Idle t l m fits plain h r = refl
taken_goes_on w (Mutex k at) t l m fits plain h r = taken_call (Mutex k at) t tt r
taken_goes_on w (RwLock k a c) t l m fits plain h r = taken_call (RwLock k a c) t tt r
taken_goes_on w (Once k at) t l m fits plain h r = taken_call (Once k at) t tt r
taken_goes_on w (Semaphore k at) t l m fits plain h r = taken_call (Semaphore k at) t tt r

stands_in : (o : Option Line) (m : Line) → 1 ≤ stood_in o m → o ≡ Some m
stands_in (Some Main) Main h = refl
stands_in (Some Second) Second h = refl
stands_in (Some Main) Second h = absurd (omega arith)
stands_in (Some Second) Main h = absurd (omega arith)
stands_in None m h = absurd (omega arith)

module _ (w : State) (t l : ℕ) (m : Line) (inductive : IsInductive w) (plain : (rules_in w l).sort
    ≢ locks.Condvar) where
  -- the waiters are of the line
  record OfLine (xs : List Waiter) : Type 0 where
    pub times : (u : ℕ) → Lines.times u xs ≤ Lines.times u (queue_at w (key_of l m))

  told_calls : (xs : List Waiter) → OfLine xs → (u : ℕ) (r : ℕ → Rights)
      → call_state (get_or (places_told (TakenBy t) (threads_of xs) w.places) u Idle) r ≡ call_state
      (place_at w u) r
  told_calls xs of u r = ap (λ (f : ℕ → Place). call_state (f u) r) (told_places (TakenBy t) xs w.places)
      ∙ ap (λ p. call_state p r) (told_once (TakenBy t) xs (place_at w) u once) ∙ either (member u xs) refl
    where
      stood : Lines.times u (queue_at w (key_of l m)) ≡ stood_in (location_at (place_at w u) l).stands m
      stood = inductive.stands.lines u l m

      once : Lines.times u xs ≤ 1
      once = let a : Lines.times u xs ≤ Lines.times u (queue_at w (key_of l m)) = of.times u
          in let b : Lines.times u (queue_at w (key_of l m)) ≡ stood_in (location_at (place_at w u) l).stands
          m = stood in let c : stood_in (location_at (place_at w u) l).stands m ≤ 1 =
          at_most_one (location_at (place_at w u) l).stands m in omega arith

      either : (b : Bool) → member u xs ≡ b
          → call_state (if b then next_place (place_at w u) (TakenBy t) else place_at w u) r
          ≡ call_state (place_at w u) r
      either false e = refl
      either true e = taken_goes_on w (place_at w u) t l m (inductive.stands.calls u) plain
          (stands_in (location_at (place_at w u) l).stands m
          (let a : 1 ≤ Lines.times u xs = member_times u xs e in let b : Lines.times u xs ≤ Lines.times u
          (queue_at w (key_of l m)) = of.times u in let c : Lines.times u (queue_at w (key_of l m))
          ≡ stood_in (location_at (place_at w u) l).stands m = stood in omega arith)) r

-- ---------------------------------------------------------------- a thread goes elsewhere by its act

module _ (w : State) (t : ℕ) (p2 : Place) where
  stay_in : (b : State) → b.places ≡ w.places → (u : ℕ) → u ≢ t → place_at (put b t p2) u ≡ place_at w u
  stay_in b places u ne = get_or-set_other b.places t u p2 Idle ne
      ∙ ap (λ (xs : List Place). get_or xs u Idle) places

  -- the calls of the others are as they were
  abbrev pub Stay : State → Type 0
  Stay v = (u : ℕ) → u ≢ t → (r : ℕ → Rights) → call_state (place_at v u) r ≡ call_state (place_at w u) r

  pub lonely : (p : Place) (a : Act) → IsLonely a → Stay (put (state_after_act w t p a) t p2)
  lonely p a h u ne r = ap (λ q. call_state q r) (stay_in (state_after_act w t p a) (lonely_stay w t p a h) u
      ne)

  -- each thread that is taken goes on in its call
  pub takes : (inductive : IsInductive w) (l : ℕ) (m : Line) (plain : (rules_in w l).sort ≢ locks.Condvar)
      (p : Place) (key : ℕ)
      → key ≡ key_of l m → (x : TakeWhich) → Stay (put (state_after_act w t p (act.Take key x)) t p2)
  takes inductive l m plain p key is x = subst (λ k. Stay (put (state_after_act w t p (act.Take k x)) t p2))
      (sym is) (by_whom x)
    where
      took : (b : State) (xs : List Waiter) → b.places ≡ places_told (TakenBy t) (threads_of xs) w.places
          → OfLine w t l m inductive plain xs → Stay (put b t p2)
      took b xs places of u ne r = ap (λ q. call_state q r) (get_or-set_other b.places t u p2 Idle ne
          ∙ ap (λ (ps : List Place). get_or ps u Idle) places) ∙ told_calls w t l m inductive plain xs of u r

      first : (q : List Waiter) → queue_at w (key_of l m) ≡ q
          → Stay (put (state_after_taking (record w { queues = queues_without_first w.queues (key_of l m) }) t
          (Lines.first_of q)) t p2)
      first [] e = λ u ne r. ap (λ q. call_state q r)
          (stay_in (record w { queues = queues_without_first w.queues (key_of l m) }) refl u ne)
      first (y ∷ rest) e = took (state_after_taking
          (record w { queues = queues_without_first w.queues (key_of l m) }) t (Some y.thread)) (y ∷ []) refl
          (record {
            times = λ u. let a : Lines.times u (queue_at w (key_of l m)) ≡ Lines.times u (y ∷ rest) =
                ap (Lines.times u) e in omega arith;
          })

      by_whom : (x : TakeWhich) → Stay (put (state_after_act w t p (act.Take (key_of l m) x)) t p2)
      by_whom whom.First = first (queue_at w (key_of l m)) refl
      by_whom (whom.Picked start recursive) =
          took (state_after_take w t (key_of l m) (whom.Picked start recursive))
          (lock_picked start recursive (queue_at w (key_of l m))) refl (record {
            times = λ u.
                let a : Lines.times u (lock_picked start recursive (queue_at w (key_of l m))) + Lines.times u
                (without_lock_picked start recursive (key_of l m) (queue_at w (key_of l m)))
                ≡ Lines.times u (queue_at w (key_of l m)) =
                picked_counts u (key_of l m) (lock_picker start recursive) (queue_at w (key_of l m))
                (under_of (locations_of (place_at w)) l m (queue_at w (key_of l m))
                (inductive.stands.waits l m))
                in omega arith;
          })
      by_whom whom.All = took (state_after_take w t (key_of l m) whom.All) (queue_at w (key_of l m)) refl
          (record { times = λ u. omega arith })

  -- the calls of others stay as they are after a case that wakes nobody and hands nothing over
  pub calm : (v : State) (l : ℕ) (c : Option LockCase) → IsCalm c → Stay v → Others w v t (event_by l c)
  calm v l None h stay = stay
  calm v l (Some case) h stay = by_case case h
    where
      by_case : (case : LockCase) → IsCalm (Some case) → Others w v t (AtLock l case)
      by_case Wake h = absurd h
      by_case (HandOff x y) h = absurd h
      by_case case h = stay

-- ---------------------------------------------------------------- threads in hand are told

-- the thread is taken there by the one in whose hand it is
pub taken_by_hand : (w : State) (p : Place) (t l : ℕ) → FitsItsLock w p → hand_at p l ≡ hand t false
    → is_taken_by t (taken_at p l) ≡ true
taken_by_hand w (Condvar k at) t l calls h = waiter_taken_by k at t l h
taken_by_hand w (Once k at) t l calls h = either (k == l) h
  where
    either : (b : Bool) → (if b then location (Once k at) else nowhere).hand ≡ hand t false
        → is_taken_by t (taken_from (once_profile at).hand (once_profile at).wants b) ≡ true
    either true g = let x = (once_sleepers_move at).held t false g
        in ap (is_taken_by t) (λ i. taken_from (g i) (x.1.wants i) true) ∙ same t
    either false g = absurd cc
taken_by_hand w (Semaphore k at) t l calls h = either (k == l) h
  where
    either : (b : Bool) → (if b then location (Semaphore k at) else nowhere).hand ≡ hand t false
        → is_taken_by t (taken_from (semaphore_profile at).hand (semaphore_profile at).wants b) ≡ true
    either true g = let x = (semaphore_sleepers_move at).held t false g in ap (is_taken_by t)
        (λ i. taken_from (g i) (x.1.wants i) true) ∙ same t
    either false g = absurd cc
taken_by_hand w Idle t l calls h = absurd (let none : hand_at Idle l ≡ None = refl in cc)
taken_by_hand w (Mutex k at) t l calls h = by_place (Mutex k at) (is_taken (Mutex k at) t l tt h)
  where
    by_place : (p : Place) → IsTakenAt p t l → is_taken_by t (taken_at p l) ≡ true
    by_place p there = rw (there.is, same l) (same t)
taken_by_hand w (RwLock k a c) t l calls h = either (k == l) h
  where
    either : (b : Bool) → (if b then location (RwLock k a c) else nowhere).hand ≡ hand t false
        → is_taken_by t (taken_from (call_profile a c).hand (call_profile a c).wants b) ≡ true
    either true g = let x = (fair_sleepers_move a c calls.1).held t g
        in ap (is_taken_by t) (λ i. taken_from (g i) (x.wants i) true) ∙ same t
    either false g = absurd cc

-- a thread that was handed the lock goes on as it was
handed_goes : (w : State) (p : Place) (t l : ℕ) → FitsItsLock w p → hand_at p l ≡ hand t true
    → (r : ℕ → Rights)
    → call_state (next_place p (Woken note.HandOff)) r ≡ call_state p r
handed_goes w Idle t l fits h r = refl
handed_goes w (Condvar k at) t l fits h r = waiter_told k at t l h r
handed_goes w (Once k at) t l fits h r = either (k == l) h
  where
    either : (b : Bool) → (if b then location (Once k at) else nowhere).hand ≡ hand t true
        → call_state (next_place (Once k at) (Woken note.HandOff)) r ≡ call_state (Once k at) r
    either true g = absurd (let x : true ≡ false = ((once_sleepers_move at).held t true g).0 in cc)
    either false g = absurd cc
handed_goes w (Semaphore k at) t l fits h r = either (k == l) h
  where
    either : (b : Bool) → (if b then location (Semaphore k at) else nowhere).hand ≡ hand t true
        → call_state (next_place (Semaphore k at) (Woken note.HandOff)) r ≡ call_state (Semaphore k at) r
    either true g = absurd (let x : true ≡ false = ((semaphore_sleepers_move at).held t true g).0 in cc)
    either false g = absurd cc
handed_goes w (Mutex k at) t l fits h r = by_place (Mutex k at) (is_handed (Mutex k at) t l tt h)
  where
    by_place : (p : Place) → IsHandedAt p t l → call_state (next_place p (Woken note.HandOff)) r
        ≡ call_state p r
    by_place p there = rw there.is refl
handed_goes w (RwLock k a c) t l fits h r = either (k == l) h
  where
    by_call : (c : RwLockCallPlace) → CallStands a c → (call_profile a c).hand ≡ hand t true
        → call_state (next_place (RwLock k a c) (Woken note.HandOff)) r ≡ call_state (RwLock k a c) r
    by_call (Handed x how b (handed.Asleep u alone)) stands g =
        (fair_sleepers_hear a k (Handed x how b (handed.Asleep u alone)) stands).accepts t g
        (handed_woken x how b alone) r refl
    by_call (Handed x how b handed.Accept) stands g = absurd cc
    by_call (Plain p) stands g = absurd (never_given a k p.at t g)
    by_call (Bump p) stands g = absurd (never_given a k p.at t g)
    by_call (PeekQueue x) stands g = absurd cc
    by_call (HandOver x b to) stands g = absurd cc

    either : (b : Bool) → (if b then location (RwLock k a c) else nowhere).hand ≡ hand t true
        → call_state (next_place (RwLock k a c) (Woken note.HandOff)) r ≡ call_state (RwLock k a c) r
    either true g = by_call c fits.1 g
    either false g = absurd cc

module _ (w : State) (t l : ℕ) (inductive : IsInductive w) (is_of : IsOf l (place_at w t)) (p2 : Place) where
  -- a thread that is in its hand is so at its lock, and was handed that or not as its place says
  in_hand_here : (h : Bool) → carried_at (place_at w t) l ≡ Some h → (u : ℕ)
      → is_thread t (taker (place_at w u)) ≡ true
      → hand_at (place_at w u) l ≡ hand t h
  in_hand_here h has_taken u e =
      let x : IsInHandOf (place_at w u) t = in_hand_where (place_at w u) t (aparts w inductive u) e in
      let here = subst (λ k. hand_at (place_at w u) k ≡ hand t x.handed) (in_hand_at (place_at w)
      inductive.stands.hands t l u (of_carries l (place_at w t) is_of) x) x.hand in
      let there : carried_at (place_at w t) l ≡ Some x.handed = inductive.stands.hands.taken t u l x.handed
      here
      in
      here ∙ ap (hand t) (let g : Some x.handed ≡ Some h = sym there ∙ has_taken in let f : x.handed ≡ h = cc
      in f)

  told_at : (b : State) (reply : Reply) → b.places ≡ w.places → (u : ℕ) → u ≢ t
      → place_at (put (state_after_telling b t reply) t p2) u
      ≡ (if is_thread t (taker (place_at w u)) then next_place (place_at w u) reply else place_at w u)
  told_at b reply places u ne = get_or-set_other _ t u p2 Idle ne ∙ get_or-map (place_after_telling t reply)
      b.places u Idle ∙ ap (λ (xs : List Place). place_after_telling t reply (get_or xs u Idle)) places

  -- the thread has taken them
  pub delivers : (b : State) (reply : Reply) → b.places ≡ w.places → carried_at (place_at w t) l ≡ Some false
      → Befalls w (put (state_after_telling b t reply) t p2) t l reply
  delivers b reply places has_taken u ne = told_at b reply places u ne
      ∙ ap (λ c. if c then next_place (place_at w u) reply else place_at w u)
      (same_test (is_thread t (taker (place_at w u))) refl)
    where
      same_test : (c : Bool) → is_thread t (taker (place_at w u)) ≡ c
          → is_thread t (taker (place_at w u)) ≡ is_taken_by t (taken_at (place_at w u) l)
      same_test true e = e ∙ sym (taken_by_hand w (place_at w u) t l (inductive.stands.calls u)
          (in_hand_here false has_taken u e))
      same_test false e = e ∙ sym (unless_held w inductive t l u
          (λ h. let f : is_thread t (taker (place_at w u))
          ≡ true = held_tells (place_at w u) t l false h in cc))

  -- nobody has been
  pub befalls_nobody : (b : State) (reply : Reply) → b.places ≡ w.places → carried_at (place_at w t) l ≡ None
      → Befalls w (put b t p2) t l reply
  befalls_nobody b reply places none u ne = get_or-set_other b.places t u p2 Idle ne
      ∙ ap (λ (xs : List Place). get_or xs u Idle) places
      ∙ sym (ap (λ c. if c then next_place (place_at w u) reply else place_at w u)
      (unless_held w inductive t l u (λ h. let e = inductive.stands.hands.taken t u l false h in cc)))

  -- the thread has handed them the lock: their calls are as they were
  pub tells_handed : (b : State) → b.places ≡ w.places → carried_at (place_at w t) l ≡ Some true → (u : ℕ)
      → u ≢ t
      → (r : ℕ → Rights)
      → call_state (place_at (put (state_after_telling b t (Woken note.HandOff)) t p2) u) r ≡ call_state
      (place_at w u) r
  tells_handed b places has_taken u ne r = ap (λ p. call_state p r) (told_at b (Woken note.HandOff) places u ne)
      ∙ either (is_thread t (taker (place_at w u))) refl
    where
      either : (c : Bool) → is_thread t (taker (place_at w u)) ≡ c
          → call_state (if c then next_place (place_at w u) (Woken note.HandOff) else place_at w u) r
          ≡ call_state (place_at w u) r
      either true e = handed_goes w (place_at w u) t l (inductive.stands.calls u)
          (in_hand_here true has_taken u e)
          r
      either false e = refl

  -- the calls of the others are what its case makes of them
  pub wakes_own : ((rules_in w l).sort ≢ locks.Condvar) → (p : Place) (a : Act) → TakesHere l a
      → (c : Option LockCase)
      → WakesOwn (carried_at (place_at w t) l) a c → Others w (put (state_after_act w t p a) t p2) t
      (event_by l c)
  wakes_own plain p (act.Leave keys (wakes.All x)) here c (inl h) =
      subst (λ y. Others w (put (state_after_telling (state_with_sections w keys None) t (Woken x)) t p2) t
      (event_by l y)) (sym h.1.1)
      (wakes_others w (put (state_after_telling (state_with_sections w keys None) t (Woken x)) t p2) t l
      (subst (λ y. Befalls w (put (state_after_telling (state_with_sections w keys None) t (Woken y)) t
      p2) t l (Woken note.Normal)) (sym h.1.0) (delivers (state_with_sections w keys None)
      (Woken note.Normal) (sections_stay w keys None) h.0)))
  wakes_own plain p (act.Leave keys (wakes.All x)) here c (inr h) =
      calm w t p2 (put (state_after_telling (state_with_sections w keys None) t (Woken x)) t p2) l c h.1.1
      (λ u ne r. subst (λ y. call_state
      (place_at (put (state_after_telling (state_with_sections w keys None) t (Woken y)) t p2) u) r
      ≡ call_state (place_at w u) r) (sym h.1.0) (tells_handed (state_with_sections w keys None)
      (sections_stay w keys None) h.0 u ne r))
  wakes_own plain p (act.Requeue from to how) here c h = absurd h
  wakes_own plain p (act.HandOver lock op) here c h = absurd h
  wakes_own plain p (act.Take key x) here c h =
      calm w t p2 (put (state_after_act w t p (act.Take key x)) t p2) l c h
      (takes w t p2 inductive l here.0 plain p key here.1 x)
  wakes_own plain p a here c h = calm w t p2 (put (state_after_act w t p a) t p2) l c h (lonely w t p2 p a tt)
