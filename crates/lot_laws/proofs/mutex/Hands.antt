-- The first waiter of a mutex is taken, handed the mutex, or let go: so the mutex is a site again, by what
-- befalls that thread.
use Rattle.lot_laws.proofs.Imports
use Imports.{ℕ, Bool, true, false, Some, None, if◌then◌else◌, Option, ◌==◌, ◌⊎◌, ◌≡◌, ◌≢◌, ◌*◌, ◌<◌, List, []}
use Imports.{◌∷◌, length, drop, map, inl, inr, refl, sym, ◌∙◌, ap, subst, arith, length-set, get_or-set_same}
use Imports.{get_or-set_other, queued_of, acts, location_at, IsLockState, cases_eq, Waiter, Want, Exclusive}
use Imports.{Owners, Place, Mutex, Woken, TakenBy, HandedBy, or-false, is_parked, next_place, IsSuccessor}
use Imports.{IsTaken, Knows, KnowsAll, Queued, Rules, TakeFirst, Taken, keep_from, let_go, putting}
use Imports.{with_exclusive, Has, Deed, Site, Main, Begin, Mark, Clear, Case, wakened, held, lock_seen}
use Imports.{lock_state, taken_at, mutex_location, queued, nowhere, role_on, after_acts, hand_at, Hands, times}
use Imports.{threads_of, State, place_at, section_at, places_told, put, queue_at, queues_without_first}
use Imports.{state_after_reply, told_count, locations_of, AreWaiting, FitsItsLock, Goes, IsInductive, rules_in}
use Imports.{stood_in}
use Rattle.lot_laws.proofs.machine.Parts.{put_places}
use Rattle.core_base.specs.declared.notes.Note.TheVariants as note
use Rattle.steps_mutex.specs.declared.places.MutexPlace.TheVariants.{HandOff}
use Rattle.steps_mutex.specs.declared.hand_off.HandOffAt.TheVariants as hand_off
use Rattle.spec_locks.specs.Locks as locks
use Rattle.lot_laws.specs.ThreadDeeds.{Act}
use Rattle.lot_laws.specs.Locations.{hand}
use Rattle.lot_laws.proofs.machine.Parts.{mutex, Base, seen, LetGo, untaken, put_here, put_other, same}
use Rattle.lot_laws.proofs.machine.Parts.{differ}
use Rattle.lot_laws.proofs.hands.Handed.{handed_is, heir}
use Rattle.lot_laws.proofs.sites.StandsKept.{AlikeBeside}
use Rattle.lot_laws.proofs.sites.Following.{lock_by}
use Rattle.lot_laws.proofs.sites.TakesAt.{IsTakenAt, SplitsAt, after_take, member, told_by, told_places}
use Rattle.lot_laws.proofs.sites.TakesAt.{take_goes, only_member}
use Rattle.lot_laws.proofs.sites.OneStep.{noted}
use Rattle.lot_laws.proofs.sites.StandsKept.{in_main}
use Rattle.lot_laws.proofs.sites.StandsMoved.{takes_one}
use Rattle.spec_locks.specs.Deeds as laws
use Rattle.lot_laws.proofs.mutex.Waiters.{CallsMutex, IsHeldThere, SleepsAt, WasGivenThere, calls_mutex_at}
use Rattle.lot_laws.proofs.mutex.Waiters.{held_there, stands_or_sleeps}

-- a thread that was taken is woken and tries again
pub tries : (l t : ℕ) (p : Place) → IsHeldThere l t p → LetGo t l p (next_place p (Woken note.Normal))
tries l t p held = record {
  taken = held.woken.taken ∙ sym (ap (keep_from t) held.was
      ∙ ap (λ b. if b then None else Some (record { by = t; want = Exclusive })) (same t));
  role = held.woken.role ∙ sym (ap (λ o. wakened t o (role_on p l)) held.was
      ∙ ap (λ b. if b then record (role_on p l) { retries = Some Exclusive } else role_on p l) (same t));
}

-- a thread that was handed the lock has it
pub accepts : (l t by : ℕ) (p : Place) → WasGivenThere l by p
    → LetGo t l p (next_place p (Woken note.HandOff))
accepts l t by p given = record {
  taken = given.told.taken ∙ sym (ap (keep_from t) given.was);
  role = given.told.role ∙ sym (ap (λ o. wakened t o (role_on p l)) given.was);
}

-- ---------------------------------------------------------------- the first of the line is taken

-- a thread that waits for a mutex waits for all of it
exclusive_wanted : (x : Want) → Knows locks.Mutex x → x ≡ Exclusive
exclusive_wanted Exclusive k = refl
exclusive_wanted x k = absurd k

module _ (w : State) (l : ℕ) (inductive : IsInductive w) (rules : rules_in w l ≡ mutex) (x : Waiter)
    (rest : List Waiter)
    (first : queue_at w (2 * l) ≡ x ∷ rest) where
  abbrev r : Rules
  r = rules_in w l

  abbrev here : Site
  here = lock_by w l r

  abbrev pub takes_it : List Deed
  takes_it = Case (TakeFirst (queued x.thread)) ∷ []

  wants : x.want ≡ Exclusive
  wants = exclusive_wanted x.want (let known : KnowsAll locks.Mutex (map queued_of (x ∷ rest)) =
      subst (λ (q : List Waiter). KnowsAll locks.Mutex (map queued_of q)) first
      (subst (λ s. KnowsAll s here.lock.queue) (ap (λ (y : Rules). y.sort) rules)
      (inductive.sites.site l).state.known_queue) in known.0)

  pub first_stands : (location_at (place_at w x.thread) l).stands ≡ Some Main
  first_stands = in_main (location_at (place_at w x.thread) l).stands (let a : times x.thread
      (queue_at w (2 * l)) ≡ stood_in (location_at (place_at w x.thread) l).stands Main =
      inductive.stands.lines x.thread l Main in
      let b : times x.thread (queue_at w (2 * l)) ≡ times x.thread (x ∷ rest) = ap (times x.thread) first in
      let c : ◌≡◌ {A = ℕ} (if x.thread == x.thread then 1 else 0) 1 = ap (λ (b : Bool). if b then 1 else 0)
      (same x.thread) in omega arith)

  -- asleep, where another thread is inside the section
  pub first_sleeps : (t : ℕ) → x.thread ≢ t → (location_at (place_at w t) l).inside ≡ Some Main
      → SleepsAt l (place_at w x.thread)
  first_sleeps t other inside =
      elim (stands_or_sleeps (place_at w x.thread) l (calls_mutex_at w l (place_at w x.thread)
      (inductive.stands.calls x.thread) rules) first_stands) [
        | inl within ↦ absurd (other (let a : section_at w (2 * l) ≡ Some x.thread =
            (inductive.stands.sections x.thread l Main).0 within in
            let b : section_at w (2 * l) ≡ Some t = (inductive.stands.sections t l Main).0 inside
            in let c : Some x.thread ≡ Some t = sym a ∙ b in cc))
        | inr asleep ↦ asleep
      ]

  -- by each taker, in any call, and each thread taken: itself too
  module _ (t : ℕ) (there : t < length w.places) (p2 : Place) (beside : AlikeBeside l (place_at w t) p2)
      (fits : FitsItsLock w p2)
      (line : 2 * l < length w.queues) (sleeps : SleepsAt l (place_at w x.thread)) where
    abbrev taken_state : State
    taken_state = put (state_after_reply (record w { queues = queues_without_first w.queues (2 * l) })
        x.thread (TakenBy t)) t p2

    at_line : IsTakenAt w t l Main (place_at w x.thread)
    at_line = let k = sleeps.taken t in record {
      stands = first_stands;
      unheld = sleeps.free;
      goes = k.location;
      alike = k.others;
      role = k.role;
      fits = k.fits tt w (inductive.stands.calls x.thread);
    }

    splits : SplitsAt w t l Main (x ∷ []) rest
    splits = record {
      counts = λ u. let a : times u (queue_at w (2 * l)) ≡ times u (x ∷ rest) = ap (times u) first
          in omega arith;
      sleeps = λ u h. subst (λ j. IsTakenAt w t l Main (place_at w j)) (only_member x u h) at_line;
      lefts = (subst (AreWaiting (locations_of (place_at w)) l Main) first (inductive.stands.waits l Main)).1;
      wants = ((sleeps.taken t).taken ∙ (λ i. Some (record { by = t; want = sym wants i })), tt);
    }

    threads : length taken_state.places ≡ length w.places
    threads = length-set (places_told (TakenBy t) (threads_of (x ∷ [])) w.places) t p2
        ∙ told_count (TakenBy t) (threads_of (x ∷ [])) w.places

    places : place_at taken_state ≡ putting (told_by (TakenBy t) (x ∷ []) (place_at w)) t p2
    places = put_places (state_after_reply (record w { queues = queues_without_first w.queues (2 * l) })
        x.thread (TakenBy t)) t p2 (λ h. absurd
        (let n : length (places_told (TakenBy t) (threads_of (x ∷ [])) w.places) ≡ length w.places =
        told_count (TakenBy t) (threads_of (x ∷ [])) w.places in omega arith))
        ∙ ap (λ (f : ℕ → Place). putting f t p2) (told_places (TakenBy t) (x ∷ []) w.places)

    same_one : member x.thread (x ∷ []) ≡ true
    same_one = rw (same x.thread) refl

    pub first_goes : (location_at (place_at w t) l).has_taken ≡ None → location_at p2 l ≡ record
        (after_take t (member t (x ∷ [])) (location_at (place_at w t) l)) { has_taken = Some false }
        → taken_at p2 l
        ≡ (if member t (x ∷ []) then taken_at (next_place (place_at w t) (TakenBy t)) l else taken_at
        (place_at w t) l)
        → laws.AllNeeded r takes_it here t → (laws.after_all r takes_it here t).role t ≡ role_on p2 l
        → Goes w taken_state l (acts t takes_it)
    first_goes bare now own_taken needed role = take_goes w t l inductive there p2 beside fits Main (x ∷ [])
        rest
        splits
        (λ one u v h g. sym (only_member x u h) ∙ only_member x v g) bare (Some false) now r refl own_taken
        taken_state refl refl refl threads places
        (get_or-set_same w.queues (2 * l) (drop 1 (queue_at w (2 * l))) [] line ∙ ap (drop 1) first)
        (λ key ne. get_or-set_other w.queues (2 * l) key (drop 1 (queue_at w (2 * l))) [] ne)
        (λ b e. let g : false ≡ b = cc in (sym g, (x.thread, same_one))) (λ u h. refl)
        (Case (TakeFirst (queued x.thread))) (tt, tt) ((λ h. h), tt) (needed.0, tt)
        (λ i. record here.lock {
          queue = sym (ap (λ (q : List Waiter). drop 1 (map queued_of q)) first) i;
          taken = locks.taking t (record {
            thread = x.thread;
            want = wants i;
          } ∷ []) (λ u. taken_at (place_at w u) l);
        })
        refl refl (noted r here (inductive.sites.site l)) (sym role)

-- ---------------------------------------------------------------- the one in hand is the heir

abbrev thread_of : Option Queued → ℕ
thread_of None = 0
thread_of (Some q) = q.thread

abbrev want_of : Option Queued → Want
want_of None = Exclusive
want_of (Some q) = q.want

module _ (w : State) (t l u : ℕ) (inductive : IsInductive w) (rules : rules_in w l ≡ mutex)
    (held : hand_at (place_at w u) l ≡ hand t false) where
  hand_is : IsHeldThere l t (place_at w u)
  hand_is = held_there (place_at w u) t l (calls_mutex_at w l (place_at w u) (inductive.stands.calls u) rules)
      held

  -- only that one is in hand
  only_one : (y : ℕ) (x : Want) → IsTaken (lock_state w l) t y x → (y ≡ u) × (x ≡ Exclusive)
  only_one y x h = (
    by_hand (cases_eq y u),
    exclusive_wanted x ((subst (λ r. IsLockState r (lock_state w l)) rules
        (inductive.sites.site l).state).known_taken y (record { by = t; want = x }) h),
  )
    where
      by_hand : ((y ≡ u) ⊎ (y ≢ u)) → y ≡ u
      by_hand (inl e) = e
      by_hand (inr ne) = absurd (let none : keep_from t (taken_at (place_at w y) l) ≡ taken_at (place_at w y)
          l = untaken (place_at w y) t l
          (λ g. ne (inductive.stands.hands.alone t l u y false false (takes_one w l rules) held g)) in
          let g : keep_from t (Some (record { by = t; want = x })) ≡ Some (record { by = t; want = x }) =
          rw h at none in let f : ◌≡◌ {A = Option Taken} None (Some (record { by = t; want = x })) =
          rw (same t) at g in cc)

  pub hands_to : IsSuccessor (lock_state w l) t (Some (queued u))
  hands_to y x = (
    λ e. let a : u ≡ y = ap (λ (q : Option Queued). thread_of q) e in let b : Exclusive ≡ x =
        ap (λ (q : Option Queued). want_of q) e in rw (← a, ← b) (hand_is.was, λ h. cc),
    λ h. let a = only_one y x h.0 in λ j. Some (record { thread = sym a.0 j; want = sym a.1 j }),
  )

-- ---------------------------------------------------------------- the mutex is handed over

module _ (r : Rules) (l : ℕ) (n : Base) (word : ℕ) (o : Owners) (m s : List Waiter) (p : ℕ → Place) (one : ℕ
    → Type 0)
    (hands : Hands one p) (single : one l) (mutexes : (x : ℕ) → CallsMutex l (p x)) (t u : ℕ)
    (alone bumps none_left : Bool)
    (sort : r.sort ≡ locks.Mutex) (state : IsLockState mutex
    (lock_seen n.shared o m s (λ x. taken_at (p x) l)))
    (store : p t ≡ Mutex l (HandOff bumps (hand_off.Store true none_left))) (held : hand_at (p u) l
    ≡ hand t false) where
  abbrev at_store : Site
  at_store = seen l n word o m s p

  abbrev pub handed_places : ℕ → Place
  handed_places = putting (putting p u (next_place (p u) (HandedBy t alone))) t
      (Mutex l (HandOff bumps (hand_off.Leave true)))

  pub taken_there : IsHeldThere l t (p u)
  taken_there = held_there (p u) t l (mutexes u) held

  apart : u ≢ t
  apart e = let a : hand_at (p t) l ≡ hand t false = subst (λ j. hand_at (p j) l ≡ hand t false) e held
      in let b : hand_at (p t) l ≡ None = ap (λ q. hand_at q l) store
      ∙ ap (λ c. (if c then mutex_location (HandOff bumps (hand_off.Store true none_left)) else nowhere).hand)
      (same l) in cc

  let_go_now : (x : ℕ) → taken_at (handed_places x) l ≡ keep_from t (taken_at (p x) l)
  let_go_now x = elim (cases_eq x t) [
    | inl e ↦ rw (
      e,
      put_here (putting p u (next_place (p u) (HandedBy t alone))) t
          (Mutex l (HandOff bumps (hand_off.Leave true))),
      store,
    ) refl
    | inr nt ↦ rw (put_other (putting p u (next_place (p u) (HandedBy t alone))) t
        (Mutex l (HandOff bumps (hand_off.Leave true))) x nt) (elim (cases_eq x u) [
          | inl e ↦ rw (e, put_here p u (next_place (p u) (HandedBy t alone)))
              ((taken_there.handed alone).taken
              ∙ sym (ap (keep_from t) taken_there.was
              ∙ ap (λ b. if b then None else Some (record { by = t; want = Exclusive })) (same t)))
          | inr nu ↦ rw (put_other p u (next_place (p u) (HandedBy t alone)) x nu)
              (sym (untaken (p x) t l (λ h. nu (hands.alone t l u x false false single held h))))
        ])
  ]

  abbrev pub hands_acts : Bool → List Act
  hands_acts b = record {
    by = t;
    deed = Case (locks.HandOff Exclusive (Some (queued u)));
  } ∷ record {
    by = t;
    deed = if b then Clear Main else Mark Main;
  } ∷ record { by = u; deed = Begin (Some (Has Exclusive)) } ∷ []

  role_then : (b : Bool) → none_left ≡ b → (x : ℕ)
      → role_on (handed_places x) l ≡ (after_acts r (hands_acts b) at_store).role x
  role_then true f x = elim (cases_eq x t) [
    | inl e ↦ rw (
      e,
      put_here (putting p u (next_place (p u) (HandedBy t alone))) t
          (Mutex l (HandOff bumps (hand_off.Leave true))),
      differ t u (λ g. apart (sym g)),
      same t,
      store,
      same l,
    ) refl
    | inr nt ↦ rw (put_other (putting p u (next_place (p u) (HandedBy t alone))) t
        (Mutex l (HandOff bumps (hand_off.Leave true))) x nt) (elim (cases_eq x u) [
          | inl e ↦ rw (e, put_here p u (next_place (p u) (HandedBy t alone)), same u, differ u t apart)
              (taken_there.handed alone).role
          | inr nu ↦ rw (
            put_other p u (next_place (p u) (HandedBy t alone)) x nu,
            differ x u nu,
            differ x t nt,
          )
              refl
        ])
  ]
  role_then false f x = elim (cases_eq x t) [
    | inl e ↦ rw (
      e,
      put_here (putting p u (next_place (p u) (HandedBy t alone))) t
          (Mutex l (HandOff bumps (hand_off.Leave true))),
      differ t u (λ g. apart (sym g)),
      same t,
      store,
      same l,
      f,
    ) refl
    | inr nt ↦ rw (put_other (putting p u (next_place (p u) (HandedBy t alone))) t
        (Mutex l (HandOff bumps (hand_off.Leave true))) x nt) (elim (cases_eq x u) [
          | inl e ↦ rw (e, put_here p u (next_place (p u) (HandedBy t alone)), same u, differ u t apart)
              (taken_there.handed alone).role
          | inr nu ↦ rw (
            put_other p u (next_place (p u) (HandedBy t alone)) x nu,
            differ x u nu,
            differ x t nt,
          )
              refl
        ])
  ]

  -- the store does what its deeds do
  pub handing : (b : Bool) → none_left ≡ b
      → seen l n (if b then 1 else 3) (with_exclusive o (Some u)) m s handed_places ≡ after_acts r
      (hands_acts b) at_store
  handing b f = λ i. record at_store {
    lock = (let_go_lock ∙ sym (handed_is t n o m s p l (Some u) state) ∙ same_lock b) i;
    parked = bit b i;
    aside_parked = no_aside b i;
    filled = unfilled b i;
    role = λ x. role_then b f x i;
  }
    where
      let_go_lock : lock_seen n.shared (with_exclusive o (Some u)) m s (λ x. taken_at (handed_places x) l)
          ≡ lock_seen n.shared (with_exclusive o (Some u)) m s (let_go t (λ x. taken_at (p x) l))
      let_go_lock = λ i. lock_seen n.shared (with_exclusive o (Some u)) m s (λ x. let_go_now x i)

      same_lock : (b : Bool)
          → locks.handed t Exclusive (heir (Some u)) (lock_seen n.shared o m s (λ x. taken_at (p x) l))
          ≡ (after_acts r (hands_acts b) at_store).lock
      same_lock true = refl
      same_lock false = refl

      bit : (b : Bool) → is_parked (if b then 1 else 3) ≡ (after_acts r (hands_acts b) at_store).parked
      bit true = refl
      bit false = refl

      no_aside : (b : Bool) → false ≡ (after_acts r (hands_acts b) at_store).aside_parked
      no_aside true = refl
      no_aside false = refl

      unfilled : (b : Bool) → n.filled ≡ (after_acts r (hands_acts b) at_store).filled
      unfilled true = rw sort (sym (or-false n.filled))
      unfilled false = rw sort (sym (or-false n.filled))
