-- The calls of the threads in a hand, as they are let go: they try again, or were handed the lock.
use Rattle.lot_laws.proofs.Imports
use Imports.{ℕ, Bool, true, false, Option, Some, None, if◌then◌else◌, ◌==◌, ◌≡◌, ◌≢◌, ◌+◌, ◌-◌, ◌⊎◌, inl, inr}
use Imports.{refl, sym, ◌∙◌, ap, arith, Hand, Of, hand, taken_from, Want, cases_eq, eqb-true, Normal, Exclusive}
use Imports.{Shared, Reply, TakenBy, HandedBy, Woken, Lock, First, next_place, profile, calls, Place, Idle}
use Imports.{Mutex, RwLock, Once, Condvar, Semaphore, LockState, Queued, Taken as LockTaken, Rights, Wake}
use Imports.{HandOff as HandsOff, IsTaken, IsLockState, Knows, rights_of, with_right, without_right}
use Imports.{one_if_thread, putting, Blank, CallState, after_wake, is_taken_by, AtLock, one_more_at}
use Imports.{one_less_at, State, place_at, owner_at, lock_state, taken_at, is_bump, before_entry}
use Imports.{mutex_call_state, call_state, queued, rules_in, FitsItsLock, subst, Role, Has, role_on}
use Imports.{CondvarPlace, mutex_side, heir, got, neither}
use Rattle.steps_mutex.specs.declared.lock.LockAt.TheVariants.{Taken}
use Rattle.spec_locks.specs.Locks as locks
use Rattle.lot_laws.proofs.condvar.WaiterCalls.{waiter_claims, waiter_does, waiter_handed, waiter_woken}
use Rattle.lot_laws.proofs.mutex.Waiters.{calls_mutex_at}
use Rattle.lot_laws.proofs.machine.Hearing.{TriesAgain, call_hears, mutex_hears, once_hears, semaphore_hears}
use Rattle.lot_laws.proofs.machine.PlaceTest.{call_facts, mutex_row_facts, once_facts, semaphore_facts}
use Rattle.lot_laws.proofs.machine.Parts.{IsTakenAt, put_same, same, IsMutexCall, taken_elsewhere, IsSingle}
use Rattle.lot_laws.proofs.machine.Parts.{single_taken}
use Rattle.lot_laws.proofs.machine.Parts.{mutex}
use Rattle.lot_laws.proofs.calls.CallEvents.{put_is, rights, rights_led, led_here, led_elsewhere, IsEvent}
use Rattle.lot_laws.proofs.calls.CallEvents.{Others}
use Rattle.lot_laws.proofs.calls.CallEvents.{OthersFollow}

-- ---------------------------------------------------------------- the waiters that a thread has in hand

-- an event befalls the threads that t has in hand at the lock, and nobody else
abbrev pub Befalls : State → State → ℕ → ℕ → Reply → Type 0
Befalls w v t l reply = (u : ℕ) → u ≢ t → place_at v u ≡ (if is_taken_by t (taken_at (place_at w u) l)
    then next_place (place_at w u) reply else place_at w u)

pub taken_place : (p : Place) (t l : ℕ) → IsMutexCall l p → is_taken_by t (taken_at p l) ≡ true
    → IsTakenAt p t l
taken_place (RwLock k a at) t l other h = absurd (let none : taken_at (RwLock k a at) l ≡ None =
    taken_elsewhere k l (RwLock k a at) refl (λ e. other (sym e))
    in let f : is_taken_by t (taken_at (RwLock k a at) l) ≡ false = ap (is_taken_by t) none in cc)
taken_place (Once k at) t l other h = absurd (let none : taken_at (Once k at) l ≡ None =
    taken_elsewhere k l (Once k at) refl (λ e. other (sym e))
    in let f : is_taken_by t (taken_at (Once k at) l) ≡ false = ap (is_taken_by t) none in cc)
taken_place (Semaphore k at) t l other h = absurd (let none : taken_at (Semaphore k at) l ≡ None =
    taken_elsewhere k l (Semaphore k at) refl (λ e. other (sym e))
    in let f : is_taken_by t (taken_at (Semaphore k at) l) ≡ false = ap (is_taken_by t) none in cc)
taken_place (Condvar k at) t l of h = absurd of
taken_place (Mutex k (Lock entry retries (Taken by))) t l of h = either (k == l) refl h
  where
    either : (b : Bool) → (k == l) ≡ b → is_taken_by t (if b then Some (record { by = by; want = Exclusive })
        else None) ≡ true → IsTakenAt (Mutex k (Lock entry retries (Taken by))) t l
    either true e g = record {
      entry = entry;
      retries = retries;
      is = rw (eqb-true k l e, eqb-true by t g) refl;
    }
    either false e g = absurd cc
taken_place (Mutex k (Lock entry retries First)) t l of h = absurd cc
taken_place (Mutex k (Lock entry retries at)) t l of h = absurd cc
taken_place (Mutex k at) t l of h = absurd cc
taken_place Idle t l of h = absurd cc

pub untaken_by : (s : LockState) (t u : ℕ) → ((x : Want) → IsTaken s t u x → ⊥) → is_taken_by t (s.taken u)
    ≡ false
untaken_by s t u none = by_hand (s.taken u) none
  where
    by_hand : (o : Option LockTaken) → ((x : Want) → o ≡ Some (record { by = t; want = x }) → ⊥)
        → is_taken_by t o ≡ false
    by_hand None other = refl
    by_hand (Some h) other = either (h.by == t) refl
      where
        either : (b : Bool) → (h.by == t) ≡ b → b ≡ false
        either false e = refl
        either true e = absurd (other h.want (let f : h.by ≡ t = eqb-true h.by t e
            in λ i. Some (record { by = f i; want = h.want })))

-- a thread that is taken at a lock calls it, and is in the hand of t
taken_hand : (p : Place) (t l : ℕ) → IsSingle p → is_taken_by t (taken_at p l) ≡ true
    → ((profile p).hand ≡ hand t false) × (calls p l ≡ true)
taken_hand p t l single h = by_row (profile p).hand (profile p).wants (calls p l)
    (sym (ap (is_taken_by t) (single_taken p l single)) ∙ h)
  where
    by_row : (o : Option Hand) (x : Option Want) (b : Bool) → is_taken_by t (taken_from o x b) ≡ true
        → (o ≡ hand t false) × (b ≡ true)
    by_row None x b g = absurd cc
    by_row (Some (Of u true)) x b g = absurd cc
    by_row (Some (Of u false)) None b g = absurd cc
    by_row (Some (Of u false)) (Some x) true g = (ap (λ y. hand y false) (eqb-true u t g), refl)
    by_row (Some (Of u false)) (Some x) false g = absurd cc

-- a thread that is woken tries the lock again, by what its place says of the hand that it is in
again_by : (l : ℕ) (p : Place) (t : ℕ) (k : ℕ) → IsSingle p → is_taken_by t (taken_at p l) ≡ true
    → calls p l ≡ (k == l) → TriesAgain k p
    → (r : ℕ → Rights) → call_state (next_place p (Woken Normal)) r ≡ record (call_state p r) {
      retries =
          Some l;
    }
again_by l p t k single h own again r = let held = taken_hand p t l single h in let here : k ≡ l =
    eqb-true k l (sym own ∙ held.1) in
    again t held.0 r ∙ ap (λ n. record (call_state p r) { retries = Some n }) here

pub woken_call : (p : Place) (t l : ℕ) → IsSingle p → is_taken_by t (taken_at p l) ≡ true → (r : ℕ → Rights)
    → call_state (next_place p (Woken Normal)) r ≡ record (call_state p r) { retries = Some l }
woken_call Idle t l single h r = absurd cc
woken_call (Mutex k at) t l single h r = again_by l (Mutex k at) t k tt h refl (mutex_hears k at).woken r
woken_call (RwLock k a c) t l single h r = again_by l (RwLock k a c) t k tt h refl (call_hears k a c).woken r
woken_call (Once k at) t l single h r = again_by l (Once k at) t k tt h refl (once_hears k at).woken r
woken_call (Semaphore k at) t l single h r = again_by l (Semaphore k at) t k tt h refl
    (semaphore_hears k at).woken r
woken_call (Condvar k at) t l single h r = absurd single

-- a call goes on as it is where a thread is taken
pub taken_call : (p : Place) (by : ℕ) → IsSingle p → (r : ℕ → Rights) → call_state (next_place p (TakenBy by))
    r ≡ call_state p r
taken_call Idle by single r = refl
taken_call (Mutex k at) by single r = (mutex_hears k at).taken by r
taken_call (RwLock k a c) by single r = (call_hears k a c).taken by r
taken_call (Once k at) by single r = (once_hears k at).taken by r
taken_call (Semaphore k at) by single r = (semaphore_hears k at).taken by r
taken_call (Condvar k at) by single r = absurd single

-- only a call of a condition variable recalls anything, so that no wake changes what another recalls
pub recalls_nothing : (p : Place) → IsSingle p → (r : ℕ → Rights) → (call_state p r).recalls ≡ Blank
recalls_nothing Idle single r = refl
recalls_nothing (Mutex k at) single r = (mutex_row_facts k at).silent.recalls
recalls_nothing (RwLock k a at) single r = (call_facts k a at).silent.recalls
recalls_nothing (Once k at) single r = (once_facts k at).silent.recalls
recalls_nothing (Semaphore k at) single r = (semaphore_facts k at).silent.recalls
recalls_nothing (Condvar k at) single r = absurd single

pub unmoved : (q : Option ℕ) (c : CallState) → c.recalls ≡ Blank → record c { retries = q } ≡ record c {
  retries = q;
  recalls = after_wake c.recalls;
}
unmoved q c e = λ i. record c { retries = q; recalls = stays i }
  where
    stays : c.recalls ≡ after_wake c.recalls
    stays = e ∙ (λ i. after_wake (sym e i))

-- a waiter of a condition variable knows then that it was notified
woken_goes_on : (p : Place) (t l : ℕ) → is_taken_by t (taken_at p l) ≡ true → (r : ℕ → Rights)
    → call_state (next_place p (Woken Normal)) r ≡ record (call_state p r) {
      retries = Some l;
      recalls = after_wake (call_state p r).recalls;
    }
woken_goes_on Idle t l h r = absurd cc
woken_goes_on (Condvar k at) t l h r = waiter_woken k at t l h r
woken_goes_on (Mutex k at) t l h r = woken_call (Mutex k at) t l tt h r
    ∙ unmoved (Some l) (call_state (Mutex k at) r) (recalls_nothing (Mutex k at) tt r)
woken_goes_on (RwLock k a at) t l h r = woken_call (RwLock k a at) t l tt h r
    ∙ unmoved (Some l) (call_state (RwLock k a at) r) (recalls_nothing (RwLock k a at) tt r)
woken_goes_on (Semaphore k at) t l h r = woken_call (Semaphore k at) t l tt h r
    ∙ unmoved (Some l) (call_state (Semaphore k at) r) (recalls_nothing (Semaphore k at) tt r)
woken_goes_on (Once k at) t l h r = woken_call (Once k at) t l tt h r
    ∙ unmoved (Some l) (call_state (Once k at) r) (recalls_nothing (Once k at) tt r)

module _ (w v : State) (t l : ℕ) where
  pub wakes_others : Befalls w v t l (Woken Normal) → Others w v t (AtLock l Wake)
  wakes_others delivers u ne r = ap (λ p. call_state p r) (delivers u ne)
      ∙ either (is_taken_by t (taken_at (place_at w u) l)) refl
    where
      either : (b : Bool) → is_taken_by t (taken_at (place_at w u) l) ≡ b
          → call_state (if b then next_place (place_at w u) (Woken Normal) else place_at w u) r
          ≡ (if b then record (call_state (place_at w u) r) {
            retries = Some l;
            recalls =
                after_wake (call_state (place_at w u) r).recalls;
          } else call_state (place_at w u) r)
      either true e = woken_goes_on (place_at w u) t l e r
      either false e = refl

-- ---------------------------------------------------------------- the right is handed over

module _ (w v : State) (t l : ℕ) (to : Option ℕ) (h : IsEvent w v t (AtLock l (HandsOff Exclusive (heir to))))
    (rules : rules_in w l ≡ mutex) (awake : taken_at (place_at w t) l ≡ None) where
  state : IsLockState mutex (lock_state w l)
  state = let s : IsLockState (rules_in w l) (lock_state w l) = (h.before.sites.site l).state in rw rules at s

  heir_of : (u : ℕ) → to ≡ Some u → IsTaken (lock_state w l) t u Exclusive
  heir_of u e = ((h.needs.2 u Exclusive).0 (ap heir e)).0

  -- nobody else is in its hand
  no_heir : (u : ℕ) → to ≢ Some u → is_taken_by t (taken_at (place_at w u) l) ≡ false
  no_heir u ne = untaken_by (lock_state w l) t u
      (λ x g. ne (thread_of to x ((h.needs.2 u x).1 (
        g,
        not_shared x (state.known_taken u (record { by = t; want = x }) g),
      ))))
    where
      not_shared : (x : Want) → Knows locks.Mutex x → x ≢ Shared
      not_shared Exclusive k e = cc
      not_shared x k e = absurd k

      thread_of : (o : Option ℕ) (x : Want) → heir o ≡ Some (record { thread = u; want = x }) → o ≡ Some u
      thread_of None x e = absurd cc
      thread_of (Some y) x e = ap Some (let f : queued y ≡ record { thread = u; want = x } = cc
          in ap (λ (q : Queued). q.thread) f)

  apart : to ≢ Some t
  apart e = let g : taken_at (place_at w t) l ≡ Some (record { by = t; want = Exclusive }) = heir_of t e
      in let none : taken_at (place_at w t) l ≡ None = awake in cc

  led_to : (u : ℕ) (x : Rights) → rights_of (locks.handed t Exclusive (heir to) (lock_state w l)) u ≡ x
      → (k : ℕ)
      → rights v u k ≡ putting (rights w u) l x k
  led_to u x e k = rights_led w v t l (Some (HandsOff Exclusive (heir to))) h u k
      ∙ ap (λ y. putting (rights w u) l y k) e

  -- the heir has the right that it didn't have
  module _ (u : ℕ) (e : to ≡ Some u) where
    has : (k : ℕ) → rights v u k ≡ one_more_at l Exclusive (rights w u) k
    has = led_to u (with_right Exclusive (rights w u l)) (got 0 (lock_state w l) t state to h.needs.0 apart u
        e)

    had : (k : ℕ) → one_less_at l Exclusive (rights v u) k ≡ rights w u k
    had k = sym (put_is (rights v u) l (without_right Exclusive (rights v u l)) k (rights w u k)
        (λ f. rw f (sym (ap (without_right Exclusive) (ap (λ s. rights_of s u)
        (led_here w v t l (Some (HandsOff Exclusive (heir to))) h) ∙ got 0 (lock_state w l) t state to
        h.needs.0 apart u e) ∙ one_less)))
        (λ ne. sym (ap (λ s. rights_of s u) (led_elsewhere w v t l (Some (HandsOff Exclusive (heir to))) h k
        ne))))
      where
        one_less : without_right Exclusive (with_right Exclusive (rights w u l)) ≡ rights w u l
        one_less = λ i. record (rights w u l) {
          exclusive =
              (let n : (one_if_thread u (owner_at w l) + 1) - 1 ≡ one_if_thread u (owner_at w l) = omega arith
              in n) i;
        }

    former_same : (b : Bool) → before_entry l b true (rights v u) ≡ before_entry l b false (rights w u)
    former_same true = λ i k. has k i
    former_same false = λ i k. had k i

    handed_call : (p : Place) (alone : Bool) → IsTakenAt p t l → call_state (next_place p (HandedBy t alone))
        (rights v u) ≡ record (call_state p (rights w u)) { retries = None }
    handed_call p alone k = rw k.is (λ i. record (mutex_call_state l (Lock k.entry k.retries (Taken t))
        (rights w u)) { former = former_same (is_bump k.entry) i; retries = None })

  -- a waiter of a condition variable has released the mutex: else it would own it
  module _ (u : ℕ) (e : to ≡ Some u) (ne : u ≢ t) (alone : Bool)
      (taken : is_taken_by t (taken_at (place_at w u) l) ≡ true) where
    handed_waiter : (k : ℕ) (at : CondvarPlace) → place_at w u ≡ Condvar k at
        → call_state (next_place (Condvar k at) (HandedBy t alone)) (rights v u)
        ≡ record (call_state (Condvar k at) (rights w u)) {
          retries = None;
          recalls =
              after_wake (call_state (Condvar k at) (rights w u)).recalls;
        }
    handed_waiter k at is = ap (call_state (next_place (Condvar k at) (HandedBy t alone)))
        (λ i j. has u e j i) ∙ waiter_handed k at t l alone taken_so released (rights w u)
      where
        taken_so : is_taken_by t (taken_at (Condvar k at) l) ≡ true
        taken_so = ap (λ p. is_taken_by t (taken_at p l)) (sym is) ∙ taken

        fits : FitsItsLock w (Condvar k at)
        fits = subst (FitsItsLock w) is (h.before.stands.calls u)

        released : (mutex_side at).role.claims ≡ None
        released = elim (waiter_claims k at t l fits.reached taken_so) [
          | inl none ↦ none
          | inr owns ↦ absurd (
              let its : (lock_state w l).exclusive ≡ Some u = (h.before.sites.site l).held u (Has Exclusive)
              (ap (λ p. (role_on p l).claims) is ∙ ap (λ (d : Role). d.claims)
              (waiter_does k at t l taken_so) ∙ owns) in
              let own : (lock_state w l).exclusive ≡ Some t = h.needs.0 in
              ne (let both : Some u ≡ Some t = sym its ∙ own in cc))
        ]

    handed_goes_on : call_state (next_place (place_at w u) (HandedBy t alone)) (rights v u) ≡ record
        (call_state (place_at w u) (rights w u)) {
          retries = None;
          recalls =
              after_wake (call_state (place_at w u) (rights w u)).recalls;
        }
    handed_goes_on = by_place (place_at w u) refl
      where
        of_one : (p : Place) → place_at w u ≡ p → IsSingle p → IsMutexCall l p
            → call_state (next_place (place_at w u) (HandedBy t alone)) (rights v u) ≡ record
            (call_state (place_at w u) (rights w u)) {
              retries = None;
              recalls =
                  after_wake (call_state (place_at w u) (rights w u)).recalls;
            }
        of_one p is single other = handed_call u e (place_at w u) alone (taken_place (place_at w u) t l
            (subst (IsMutexCall l) (sym is) other) taken)
            ∙ unmoved None (call_state (place_at w u) (rights w u)) (recalls_nothing (place_at w u)
            (subst IsSingle (sym is) single) (rights w u))

        by_place : (p : Place) → place_at w u ≡ p → call_state (next_place (place_at w u) (HandedBy t alone))
            (rights v u) ≡ record (call_state (place_at w u) (rights w u)) {
              retries = None;
              recalls =
                  after_wake (call_state (place_at w u) (rights w u)).recalls;
            }
        by_place (Condvar k at) is = ap (λ p. call_state (next_place p (HandedBy t alone)) (rights v u)) is
            ∙ handed_waiter k at is ∙ sym
            (ap (λ p. record (call_state p (rights w u)) {
              retries = None;
              recalls =
                  after_wake (call_state p (rights w u)).recalls;
            }) is)
        by_place Idle is = of_one Idle is tt tt
        by_place (Mutex k at) is = of_one (Mutex k at) is tt tt
        by_place (RwLock k a c) is = of_one (RwLock k a c) is tt (calls_mutex_at w l (RwLock k a c)
            (subst (FitsItsLock w) is (h.before.stands.calls u)) rules)
        by_place (Semaphore k at) is =
            of_one (Semaphore k at) is tt (calls_mutex_at w l (Semaphore k at)
            (subst (FitsItsLock w) is (h.before.stands.calls u)) rules)
        by_place (Once k at) is = of_one (Once k at) is tt
            (calls_mutex_at w l (Once k at) (subst (FitsItsLock w) is (h.before.stands.calls u)) rules)

  pub hands_others : (alone : Bool) → Befalls w v t l (HandedBy t alone)
      → OthersFollow w v t (AtLock l (HandsOff Exclusive (heir to)))
  hands_others alone delivers u ne = ap (λ p. call_state p (rights v u)) (delivers u ne)
      ∙ either (cases_to to)
    where
      cases_to : (o : Option ℕ) → (o ≡ Some u) ⊎ (o ≢ Some u)
      cases_to None = inr (λ e. cc)
      cases_to (Some x) = elim (cases_eq x u) [ inl e ↦ inl (ap Some e) | inr ne ↦ inr (λ e. ne cc) ]

      either : ((to ≡ Some u) ⊎ (to ≢ Some u))
          → call_state
          (if is_taken_by t (taken_at (place_at w u) l) then next_place (place_at w u) (HandedBy t alone)
          else place_at w u)
          (rights v u)
          ≡ (if is_taken_by t (taken_at (place_at w u) l) then record (call_state (place_at w u) (rights w u))
          { retries = None; recalls = after_wake (call_state (place_at w u) (rights w u)).recalls }
          else call_state (place_at w u) (rights w u))
      either (inl e) = let taken : is_taken_by t (taken_at (place_at w u) l) ≡ true =
          rw (heir_of u e) (same t) in rw taken (handed_goes_on u e ne alone taken)
      either (inr other) = rw (no_heir u other) (ap (call_state (place_at w u))
          (λ i k. (led_to u (rights w u l) (neither 0 (lock_state w l) t state to h.needs.0 apart u ne other)
          k ∙ put_same (rights w u) l (rights w u l) refl k) i))
