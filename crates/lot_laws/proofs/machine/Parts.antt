-- The state of a world by its parts, as total functions, and what each act does to a lock and to what the
-- threads do about it.
use Rattle.lot_laws.proofs.Imports
use Imports.{ℕ, zero, suc, Bool, true, false, Option, Some, None, if◌then◌else◌, ◌==◌, ◌||◌, ◌≡◌, ◌≢◌, ◌+◌, ◌*◌}
use Imports.{◌≤◌, ◌⊎◌, List, [], ◌∷◌, map, length, get_or, set, inl, inr, refl, sym, ◌∙◌, ap, subst, arith}
use Imports.{length-set, get_or-set_same, get_or-set_other, not, wants_shared, cases_lt, eqb-true, nat_tests}
use Imports.{Waiter, Exclusive, Owners, OncePlace, SemaphorePlace, semaphore_next, once_next, CondvarPlace}
use Imports.{Wait, Look, Notify, mutex_beside, mutex_side, Kind, is_plain_mutex, rules_of, Place, Idle, Mutex}
use Imports.{RwLock, Once, Condvar, Semaphore, Entry, MutexPlace, Lock, Reply, parked_in, aside_in, Next}
use Imports.{RwLockCallPlace, call_next, mutex_next, Want, Hand, Of, hand_owner, taken_from, Profile, blank_row}
use Imports.{next_place, taker, mutex_goes, rwlock_goes, once_goes, semaphore_goes, called_lock, profile, wants}
use Imports.{is_lock, calls, beside_of, or_else, profile_at_mutex, key_in, late_key, line_owed, retries_on}
use Imports.{LockState, Taken, Rules, keep_from, putting, is_thread, Role, Site, idle, wakened, State, place_at}
use Imports.{kind_at, word_at, owners_at, shares_at, filled_at, queue_at, place_after_telling, held}
use Imports.{shares_in_hand, with_share, shares_given, wants_more_in_hand, successor_or, successor_from, put}
use Imports.{held_by, Successor, lock_seen, taken_at, mutex_location, mutex_role, location, location_at}
use Imports.{nowhere, role_on, rules_in, hand_at, FitsItsLock, IsInductive, TakesOne}
use Rattle.spec_locks.specs.declared.kinds.Kind.TheVariants as kind
use Rattle.steps_mutex.specs.declared.lock.LockAt.TheVariants as lock
use Rattle.steps_base.specs.declared.acts.Next.TheVariants as next
use Rattle.std.specs.Prelude.{◌&&◌, ◌||◌}
use Rattle.spec_locks.specs.Locks as locks
use Rattle.lot_laws.specs.Locations.{Location, hand, location_by}

-- ---------------------------------------------------------------- lists with one element set, as functions

pub put_is : {A : Type 0} (f g : ℕ → A) (t : ℕ) (x : A) → g t ≡ x → ((u : ℕ) → u ≢ t → g u ≡ f u) → (u : ℕ)
    → g u ≡ putting f t x u
put_is f g t x here other u = either (u == t) refl
  where
    either : (b : Bool) → (u == t) ≡ b → g u ≡ (if b then x else f u)
    either true e = ap g (eqb-true u t e) ∙ here
    either false e = other u (λ s. grind (arith, nat_tests))

pub past_all : {A : Type 0} (xs : List A) (u : ℕ) (d : A) → length xs ≤ u → get_or xs u d ≡ d
past_all [] u d h = refl
past_all (x ∷ xs) zero d h = absurd (omega arith)
past_all (x ∷ xs) (suc u) d h = past_all xs u d (omega arith)

-- set is putting, where past the end only the default is set
pub set_puts : {A : Type 0} (xs : List A) (i : ℕ) (x d : A) → (length xs ≤ i → x ≡ d) → (j : ℕ)
    → get_or (set xs i x) j d ≡ putting (λ k. get_or xs k d) i x j
set_puts xs i x d past j = put_is (λ k. get_or xs k d) (λ k. get_or (set xs i x) k d) i x
    (elim (cases_lt i (length xs)) [
      | inl lt ↦ get_or-set_same xs i x d lt
      | inr ge ↦ past_all (set xs i x) i d (rw (length-set xs i x) ge) ∙ sym (past ge)
    ])
    (λ u ne. get_or-set_other xs i u x d ne) j

-- a thread that is there, or goes nowhere, stands at another place
pub put_places : (w : State) (t : ℕ) (p : Place) → (length w.places ≤ t → p ≡ Idle) → place_at (put w t p)
    ≡ putting (place_at w) t p
put_places w t p past = λ i u. set_puts w.places t p Idle past u i

-- for all that befalls a thread, with no bound: past the last all are idle
pub goes_from : (w : State) (t : ℕ) (reply : Reply) → place_at (put w t (next_place (place_at w t) reply))
    ≡ putting (place_at w) t (next_place (place_at w t) reply)
goes_from w t reply = put_places w t (next_place (place_at w t) reply) (λ h. ap (λ p. next_place p reply)
    (past_all w.places t Idle h))

-- ---------------------------------------------------------------- a site by its parts

abbrev pub mutex : Rules
mutex = record { sort = locks.Mutex; limit = 0 }

-- tells what no step of a mutex changes
pub record Base : Type 0 where
  pub shared : List ℕ
  pub filled : Bool

abbrev pub base_at : State → ℕ → Base
base_at w l = record { shared = shares_at w l; filled = filled_at w l }

-- all that the machine has of a lock, but for its kind
pub record Parts : Type 0 where
  pub base : Base
  pub word : ℕ
  pub owners : Owners
  pub main : List Waiter
  pub second : List Waiter

abbrev pub parts_at : State → ℕ → Parts
parts_at w l = record {
  base = base_at w l;
  word = word_at w l;
  owners = owners_at w l;
  main = queue_at w (2 * l);
  second = queue_at w (2 * l + 1);
}

-- the lock by its parts, where these threads are in somebody's hand
abbrev pub lock_in : Parts → (ℕ → Option Taken) → LockState
lock_in a taken = lock_seen a.base.shared a.owners a.main a.second taken

-- the site of a lock with these rules, by its parts
abbrev pub seen_in : Rules → ℕ → Parts → (ℕ → Place) → Site
seen_in r l a places = record {
  lock = lock_in a (λ u. taken_at (places u) l);
  parked = parked_in r.sort a.word;
  aside_parked = aside_in r.sort a.word;
  filled = a.base.filled;
  role = λ u. role_on (places u) l;
}

abbrev pub seen_by : Rules → (l : ℕ) → Base → (word : ℕ) → Owners → (main second : List Waiter) → (ℕ → Place)
    → Site
seen_by r l n word o main second places = seen_in r l (record {
  base = n;
  word = word;
  owners = o;
  main = main;
  second = second;
}) places

-- for a mutex
abbrev pub seen : (l : ℕ) → Base → (word : ℕ) → Owners → (main second : List Waiter) → (ℕ → Place) → Site
seen l n word o main second places = seen_by mutex l n word o main second places

pub same : (k : ℕ) → (k == k) ≡ true
same k = grind (arith, nat_tests)

pub thread_is : (t : ℕ) (o : Option ℕ) → is_thread t o ≡ true → o ≡ Some t
thread_is t None h = absurd cc
thread_is t (Some u) h = ap Some (eqb-true u t h)

pub is_owner : (t : ℕ) (o : Option ℕ) → o ≡ Some t → is_thread t o ≡ true
is_owner t o e = rw (e, same t) refl

pub differ : (j k : ℕ) → j ≢ k → (j == k) ≡ false
differ j k ne = grind (arith, nat_tests)

pub put_here : {A : Type 0} (f : ℕ → A) (t : ℕ) (x : A) → putting f t x t ≡ x
put_here f t x = ap (λ b. if b then x else f t) (same t)

pub put_other : {A : Type 0} (f : ℕ → A) (t : ℕ) (x : A) (u : ℕ) → u ≢ t → putting f t x u ≡ f u
put_other f t x u ne = ap (λ b. if b then x else f u) (differ u t ne)

-- ---------------------------------------------------------------- leaving a section

-- a thread that t hasn't taken
abbrev pub Untaken : ℕ → Option Taken → Type 0
Untaken t o = keep_from t o ≡ o

pub not_wakened : (t : ℕ) (o : Option Taken) (d : Role) → Untaken t o → wakened t o d ≡ d
not_wakened t None d e = refl
not_wakened t (Some h) d e = either (h.by == t) refl
  where
    either : (b : Bool) → (h.by == t) ≡ b → (if b then record d { retries = Some h.want } else d) ≡ d
    either false f = refl
    either true f = absurd (let g : keep_from t (Some h) ≡ None = ap (λ b. if b then None else Some h) f
        in cc)

-- tells what leaving does to each other thread
pub record LetGo (t l : ℕ) (p p2 : Place) : Type 0 where
  pub taken : taken_at p2 l ≡ keep_from t (taken_at p l)
  pub role : role_on p2 l ≡ wakened t (taken_at p l) (role_on p l)

-- a thread that wasn't taken stays
pub stays : (t l : ℕ) (p : Place) → Untaken t (taken_at p l) → LetGo t l p p
stays t l p e = record { taken = sym e; role = sym (not_wakened t (taken_at p l) (role_on p l) e) }

-- ---------------------------------------------------------------- hands

pub record IsTakenAt (p : Place) (t l : ℕ) : Type 0 where
  pub entry : Entry
  pub retries : Bool
  pub is : p ≡ Mutex l (Lock entry retries (lock.Taken t))

pub record IsHandedAt (p : Place) (t l : ℕ) : Type 0 where
  pub entry : Entry
  pub retries : Bool
  pub is : p ≡ Mutex l (Lock entry retries (lock.Handed t))

-- a call of one lock
abbrev pub IsSingle : Place → Type 0
IsSingle (Condvar k at) = ⊥
IsSingle p = Unit {0}

-- A place of a call of two locks.
pub record IsOfTwo (p : Place) : Type 0 where
  pub lock : ℕ
  pub at : CondvarPlace
  pub is : p ≡ Condvar lock at

pub single_or_two : (p : Place) → IsSingle p ⊎ IsOfTwo p
single_or_two Idle = inl tt
single_or_two (Mutex k at) = inl tt
single_or_two (RwLock k a at) = inl tt
single_or_two (Once k at) = inl tt
single_or_two (Semaphore k at) = inl tt
single_or_two (Condvar k at) = inr (record { lock = k; at = at; is = refl })

-- a call of two locks fits them
pub fits_two : (w : State) (t : ℕ) → IsInductive w → (two : IsOfTwo (place_at w t))
    → FitsItsLock w (Condvar two.lock two.at)
fits_two w t inductive two = subst (FitsItsLock w) two.is (inductive.stands.calls t)

-- has no other beside it
pub none_beside : (p : Place) → IsSingle p → beside_of p ≡ None
none_beside Idle single = refl
none_beside (Mutex k at) single = refl
none_beside (RwLock k a at) single = refl
none_beside (Once k at) single = refl
none_beside (Semaphore k at) single = refl
none_beside (Condvar k at) single = absurd single

pub blank_beside : (p : Place) → IsSingle p → profile_at_mutex p ≡ blank_row
blank_beside Idle single = refl
blank_beside (Mutex k at) single = refl
blank_beside (RwLock k a at) single = refl
blank_beside (Once k at) single = refl
blank_beside (Semaphore k at) single = refl
blank_beside (Condvar k at) single = absurd single

-- all that is said of a place that is of one lock is said of its lock
pub single_location : (p : Place) (l : ℕ) → IsSingle p → location_at p l ≡ (if calls p l then location p
    else nowhere)
single_location p l single = ap (λ o. if calls p l then location p else if is_lock l o then location_by
    (profile_at_mutex p) else nowhere) (none_beside p single)

pub single_role : (p : Place) (l : ℕ) → IsSingle p → role_on p l ≡ (if calls p l then (profile p).role
    else idle)
single_role p l single = ap (λ o. if calls p l then (profile p).role else if is_lock l o
    then (profile_at_mutex p).role else idle) (none_beside p single)

pub single_taken : (p : Place) (l : ℕ) → IsSingle p → taken_at p l ≡ taken_from (profile p).hand
    (profile p).wants (calls p l)
single_taken p l single = ap (λ o. if is_lock l o && not (calls p l) then taken_from (profile_at_mutex p).hand
    (profile_at_mutex p).wants true else taken_from (profile p).hand (profile p).wants (calls p l))
    (none_beside p single)

pub single_late : (p : Place) → IsSingle p → late_key p ≡ key_in (called_lock p) (profile p).late_line
single_late p single = ap (λ o. or_else (key_in o (profile_at_mutex p).late_line)
    (key_in (called_lock p) (profile p).late_line)) (none_beside p single)

pub single_owes : (p : Place) (l : ℕ) → IsSingle p → line_owed p l ≡ (if calls p l then (profile p).owes
    else None)
single_owes p l single = ap (λ o. or_else (if is_lock l o then (profile_at_mutex p).owes else None)
    (if calls p l then (profile p).owes else None)) (none_beside p single)

pub single_retries : (p : Place) (l : ℕ) → IsSingle p → retries_on p l ≡ ((profile p).retries && calls p l)
single_retries p l single = ap (λ o. (is_lock l o && (profile_at_mutex p).retries) ||
    ((profile p).retries && calls p l)) (none_beside p single)

pub single_held : (p : Place) → IsSingle p → held p ≡ held_by (hand_owner (profile p).hand) (profile p).wants
single_held p single = ap (λ (row : Profile). held_by (hand_owner (or_else row.hand (profile p).hand))
    (or_else row.wants (profile p).wants)) (blank_beside p single)

pub single_wants : (p : Place) → IsSingle p → wants p ≡ (profile p).wants
single_wants p single = ap (λ (row : Profile). or_else row.wants (profile p).wants) (blank_beside p single)

-- a place says nothing at any lock of what it says nothing of at its own
pub nothing_at : {A : Type 0} (p : Place) (l : ℕ) → IsSingle p → (g : Location → Option A) → g nowhere ≡ None
    → g (location p) ≡ None → g (location_at p l) ≡ None
nothing_at p l single g n e = ap g (single_location p l single) ∙ either (calls p l)
  where
    either : (b : Bool) → g (if b then location p else nowhere) ≡ None
    either true = e
    either false = n

abbrev pub IsInHand : Place → ℕ → Bool → ℕ → Type 0
IsInHand p t false l = IsTakenAt p t l
IsInHand p t true l = IsHandedAt p t l

-- a thread that calls the lock l calls a mutex
abbrev pub IsMutexCall : ℕ → Place → Type 0
IsMutexCall l (RwLock k a at) = k ≢ l
IsMutexCall l (Once k at) = k ≢ l
IsMutexCall l (Semaphore k at) = k ≢ l
IsMutexCall l (Condvar k at) = ⊥
IsMutexCall l p = Unit {0}

pub in_hand : (p : Place) (t l : ℕ) (b : Bool) → IsMutexCall l p → hand_at p l ≡ hand t b → IsInHand p t b l
in_hand (RwLock k a at) t l b other h = absurd (let none : hand_at (RwLock k a at) l ≡ None =
    ap (λ c. (if c then location (RwLock k a at) else nowhere).hand) (differ k l other) in cc)
in_hand (Once k at) t l b other h = absurd (let none : hand_at (Once k at) l ≡ None =
    ap (λ c. (if c then location (Once k at) else nowhere).hand) (differ k l other) in cc)
in_hand (Semaphore k at) t l b other h = absurd (let none : hand_at (Semaphore k at) l ≡ None =
    ap (λ c. (if c then location (Semaphore k at) else nowhere).hand) (differ k l other) in cc)
in_hand (Condvar k at) t l b of h = absurd of
in_hand (Mutex k (Lock e retries (lock.Taken by))) t l b of h = either (k == l) refl b h
  where
    either : (c : Bool) → (k == l) ≡ c → (b : Bool)
        → (if c then mutex_location (Lock e retries (lock.Taken by)) else nowhere).hand ≡ hand t b
        → IsInHand (Mutex k (Lock e retries (lock.Taken by))) t b l
    either true f false g = let own : k ≡ l = eqb-true k l f in let whose : by ≡ t = cc in record {
      entry = e;
      retries = retries;
      is = rw (own, whose) refl;
    }
    either true f true g = absurd cc
    either false f b g = absurd cc
in_hand (Mutex k (Lock e retries (lock.Handed by))) t l b of h = either (k == l) refl b h
  where
    either : (c : Bool) → (k == l) ≡ c → (b : Bool)
        → (if c then mutex_location (Lock e retries (lock.Handed by)) else nowhere).hand ≡ hand t b
        → IsInHand (Mutex k (Lock e retries (lock.Handed by))) t b l
    either true f true g = let own : k ≡ l = eqb-true k l f in let whose : by ≡ t = cc in record {
      entry = e;
      retries = retries;
      is = rw (own, whose) refl;
    }
    either true f false g = absurd cc
    either false f b g = absurd cc
in_hand p t l b of h = absurd (let none : hand_at p l ≡ None = nothing_at p l tt (λ x. x.hand) refl refl
    in cc)

pub is_taken : (p : Place) (t l : ℕ) → IsMutexCall l p → hand_at p l ≡ hand t false → IsTakenAt p t l
is_taken p t l of h = in_hand p t l false of h

pub is_handed : (p : Place) (t l : ℕ) → IsMutexCall l p → hand_at p l ≡ hand t true → IsHandedAt p t l
is_handed p t l of h = in_hand p t l true of h

-- a thread that calls another lock is in nobody's hand here
pub taken_out : (h : Option Hand) (x : Option Want) → taken_from h x false ≡ None
taken_out None x = refl
taken_out (Some (Of u true)) x = refl
taken_out (Some (Of u false)) None = refl
taken_out (Some (Of u false)) (Some x) = refl

untaken_by : (t : ℕ) (h : Option Hand) (x : Option Want) → (h ≡ hand t false → ⊥)
    → Untaken t (taken_from h x true)
untaken_by t None x none = refl
untaken_by t (Some (Of u true)) x none = refl
untaken_by t (Some (Of u false)) None none = refl
untaken_by t (Some (Of u false)) (Some x) none = either (u == t) refl
  where
    held_so : Taken
    held_so = record { by = u; want = x }

    either : (b : Bool) → (u == t) ≡ b → (if b then None else Some held_so) ≡ Some held_so
    either false e = refl
    either true e = absurd (none (ap (λ y. hand y false) (eqb-true u t e)))

abbrev taken_by : Option Taken → ℕ
taken_by None = 0
taken_by (Some h) = h.by

held_from : (t : ℕ) (h : Option Hand) (x : Option Want) (want : Want) → taken_from h x true ≡ Some
    (record { by = t; want = want }) → h ≡ hand t false
held_from t None x want e = absurd cc
held_from t (Some (Of u true)) x want e = absurd cc
held_from t (Some (Of u false)) None want e = absurd cc
held_from t (Some (Of u false)) (Some x) want e = ap (λ o. hand (taken_by o) false) e

-- a thread that is taken there is in that hand
pub taken_held : (p : Place) (t l : ℕ) (want : Want) → taken_at p l ≡ Some (record { by = t; want = want })
    → hand_at p l ≡ hand t false
taken_held p t l want = which (calls p l) (is_lock l (beside_of p))
  where
    which : (b c : Bool) → (if c && not b then taken_from (profile_at_mutex p).hand (profile_at_mutex p).wants
        true else taken_from (profile p).hand (profile p).wants b) ≡ Some (record { by = t; want = want })
        → (if b then location p else if c then location_by (profile_at_mutex p) else nowhere).hand
        ≡ hand t false
    which true true e = held_from t (profile p).hand (profile p).wants want e
    which true false e = held_from t (profile p).hand (profile p).wants want e
    which false true e = held_from t (profile_at_mutex p).hand (profile_at_mutex p).wants want e
    which false false e = absurd (let none : ◌≡◌ {A = Option Taken} None
        (Some (record { by = t; want = want })) = sym (taken_out (profile p).hand (profile p).wants) ∙ e
        in cc)

-- a thread that isn't in the hand of t
pub untaken : (p : Place) (t l : ℕ) → (hand_at p l ≡ hand t false → ⊥) → Untaken t (taken_at p l)
untaken p t l none = which (calls p l) (is_lock l (beside_of p)) none
  where
    out : (h : Option Hand) (x : Option Want) → Untaken t (taken_from h x false)
    out h x = ap (keep_from t) (taken_out h x) ∙ sym (taken_out h x)

    which : (b c : Bool) → ((if b then location p else if c then location_by (profile_at_mutex p)
        else nowhere).hand ≡ hand t false → ⊥)
        → Untaken t (if c && not b then taken_from (profile_at_mutex p).hand (profile_at_mutex p).wants true
        else taken_from (profile p).hand (profile p).wants b)
    which true true free = untaken_by t (profile p).hand (profile p).wants free
    which true false free = untaken_by t (profile p).hand (profile p).wants free
    which false true free = untaken_by t (profile_at_mutex p).hand (profile_at_mutex p).wants free
    which false false free = out (profile p).hand (profile p).wants

-- ---------------------------------------------------------------- one thread goes elsewhere

-- g of each, where one is put
pub put_of : {A B : Type 0} (g : A → B) (f : ℕ → A) (t : ℕ) (x : A) (u : ℕ) → g (putting f t x u)
    ≡ putting (λ k. g (f k)) t (g x) u
put_of g f t x u = either (u == t)
  where
    either : (b : Bool) → g (if b then x else f u) ≡ (if b then g x else g (f u))
    either true = refl
    either false = refl

pub put_same : {A : Type 0} (f : ℕ → A) (t : ℕ) (x : A) → f t ≡ x → (u : ℕ) → putting f t x u ≡ f u
put_same f t x e u = sym (put_is f f t x e (λ k ne. refl) u)

abbrev pub IsLock : ℕ → Option ℕ → Type 0
IsLock l None = Unit {0}
IsLock l (Some k) = k ≡ l

-- a place of a call of the lock l, or of none
abbrev pub IsOf : ℕ → Place → Type 0
IsOf l Idle = Unit {0}
IsOf l (Mutex k at) = k ≡ l
IsOf l (RwLock k a at) = k ≡ l
IsOf l (Once k at) = k ≡ l
IsOf l (Semaphore k at) = k ≡ l
IsOf l (Condvar k at) = ⊥

pub of_single : (l : ℕ) (p : Place) → IsOf l p → IsSingle p
of_single l Idle of = tt
of_single l (Mutex k at) of = tt
of_single l (RwLock k a at) of = tt
of_single l (Once k at) of = tt
of_single l (Semaphore k at) of = tt
of_single l (Condvar k at) of = absurd of

pub of_lock_of : (l : ℕ) (p : Place) → IsOf l p → IsLock l (called_lock p)
of_lock_of l Idle of = tt
of_lock_of l (Mutex k at) of = of
of_lock_of l (RwLock k a at) of = of
of_lock_of l (Once k at) of = of
of_lock_of l (Semaphore k at) of = of
of_lock_of l (Condvar k at) of = absurd of

pub of_lock : (l : ℕ) (p : Place) → IsSingle p → IsLock l (called_lock p) → IsOf l p
of_lock l Idle single own = tt
of_lock l (Mutex k at) single own = own
of_lock l (RwLock k a at) single own = own
of_lock l (Once k at) single own = own
of_lock l (Semaphore k at) single own = own
of_lock l (Condvar k at) single own = absurd single

pub of_own : (l : ℕ) (p : Place) → IsSingle p → called_lock p ≡ Some l → IsOf l p
of_own l Idle single own = tt
of_own l (Mutex k at) single own = cc
of_own l (RwLock k a at) single own = cc
of_own l (Once k at) single own = cc
of_own l (Semaphore k at) single own = cc
of_own l (Condvar k at) single own = absurd single

goes_on : (l k : ℕ) (n : Next MutexPlace) → k ≡ l → IsOf l (mutex_goes k n)
goes_on l k (next.At at) e = e
goes_on l k (next.End answer) e = tt

pub next_of : (l : ℕ) (p : Place) (reply : Reply) → IsOf l p → IsOf l (next_place p reply)
next_of l Idle reply h = tt
next_of l (Mutex k at) reply h = goes_on l k (mutex_next at reply) h
next_of l (RwLock k a at) reply h = by_next (call_next a at reply)
  where
    by_next : (n : Next RwLockCallPlace) → IsOf l (rwlock_goes k a n)
    by_next (next.At at) = h
    by_next (next.End answer) = tt
next_of l (Once k at) reply h = by_next (once_next at reply)
  where
    by_next : (n : Next OncePlace) → IsOf l (once_goes k n)
    by_next (next.At at) = h
    by_next (next.End answer) = tt
next_of l (Semaphore k at) reply h = by_next (semaphore_next at reply)
  where
    by_next : (n : Next SemaphorePlace) → IsOf l (semaphore_goes k n)
    by_next (next.At at) = h
    by_next (next.End answer) = tt
next_of l (Condvar k at) reply h = absurd h

-- a call of one lock stays one
pub next_single : (p : Place) (reply : Reply) → IsSingle p → IsSingle (next_place p reply)
next_single Idle reply h = tt
next_single (Mutex k at) reply h = of_single k (next_place (Mutex k at) reply)
    (next_of k (Mutex k at) reply refl)
next_single (RwLock k a at) reply h = of_single k (next_place (RwLock k a at) reply)
    (next_of k (RwLock k a at) reply refl)
next_single (Once k at) reply h = of_single k (next_place (Once k at) reply)
    (next_of k (Once k at) reply refl)
next_single (Semaphore k at) reply h = of_single k (next_place (Semaphore k at) reply)
    (next_of k (Semaphore k at) reply refl)
next_single (Condvar k at) reply h = absurd h

-- a thread that calls no lock is idle
pub calls_none : (p : Place) → called_lock p ≡ None → p ≡ Idle
calls_none Idle e = refl
calls_none (Mutex k at) e = absurd cc
calls_none (RwLock k a at) e = absurd cc
calls_none (Once k at) e = absurd cc
calls_none (Semaphore k at) e = absurd cc
calls_none (Condvar k at) e = absurd cc

-- a thread that is in nobody's hand isn't taken
pub free_of : (q : Place) (l : ℕ) → IsSingle q → (location q).hand ≡ None → taken_at q l ≡ None
free_of q l single none = single_taken q l single
    ∙ ap (λ (h : Option Hand). taken_from h (profile q).wants (calls q l)) none

-- a thread that is in a hand calls the lock
pub held_calls : (p : Place) (l : ℕ) → IsOf l p → (h : Hand) → (location p).hand ≡ Some h → calls p l ≡ true
held_calls p l of h e = by_lock (called_lock p) refl (of_lock_of l p of)
  where
    by_lock : (o : Option ℕ) → called_lock p ≡ o → IsLock l o → is_lock l o ≡ true
    by_lock None f g = absurd (let none : ◌≡◌ {A = Option Hand} None (Some h) =
        sym (ap (λ q. (location q).hand) (calls_none p f)) ∙ e in cc)
    by_lock (Some k) f g = ap (λ j. j == l) g ∙ same l

calls_other : (l k : ℕ) (o : Option ℕ) → IsLock l o → k ≢ l → is_lock k o ≡ false
calls_other l k None h ne = refl
calls_other l k (Some j) h ne = differ j k (λ e. ne (sym e ∙ h))

-- the thread does nothing about another lock
pub role_elsewhere : (l k : ℕ) (p : Place) → IsOf l p → k ≢ l → role_on p k ≡ idle
role_elsewhere l k p h ne = single_role p k (of_single l p h) ∙ ap (λ b. if b then (profile p).role else idle)
    (calls_other l k (called_lock p) (of_lock_of l p h) ne)

pub taken_elsewhere : (l k : ℕ) (p : Place) → IsOf l p → k ≢ l → taken_at p k ≡ None
taken_elsewhere l k p h ne = single_taken p k (of_single l p h)
    ∙ ap (taken_from (profile p).hand (profile p).wants) (calls_other l k (called_lock p) (of_lock_of l p h)
    ne) ∙ taken_out (profile p).hand (profile p).wants

-- how it stands at a lock, by how it stands at its own
pub location_is : (l k : ℕ) (p : Place) → IsOf l p → location_at p k ≡ (if l == k then location p
    else nowhere)
location_is l k p h = single_location p k (of_single l p h) ∙ by_lock (called_lock p) refl (of_lock_of l p h)
  where
    out : (b : Bool) → location p ≡ nowhere → nowhere ≡ (if b then location p else nowhere)
    out true e = sym e
    out false e = refl

    by_lock : (o : Option ℕ) → called_lock p ≡ o → IsLock l o → (if is_lock k o then location p else nowhere)
        ≡ (if l == k then location p else nowhere)
    by_lock None e own = out (l == k) (ap location (calls_none p e))
    by_lock (Some j) e own = ap (λ x. if x == k then location p else nowhere) own

pub location_here : (l : ℕ) (p : Place) → IsOf l p → location_at p l ≡ location p
location_here l p h = location_is l l p h ∙ ap (λ b. if b then location p else nowhere) (same l)

pub location_elsewhere : (l k : ℕ) (p : Place) → IsOf l p → k ≢ l → location_at p k ≡ nowhere
location_elsewhere l k p h ne = location_is l k p h ∙ ap (λ b. if b then location p else nowhere)
    (differ l k (λ e. ne (sym e)))

abbrev pub role_of : Place → Role
role_of p = (profile p).role

pub role_here : (l : ℕ) (p : Place) → IsOf l p → role_on p l ≡ role_of p
role_here l p h = single_role p l (of_single l p h) ∙ by_lock (called_lock p) refl (of_lock_of l p h)
  where
    by_lock : (o : Option ℕ) → called_lock p ≡ o → IsLock l o → (if is_lock l o then role_of p else idle)
        ≡ role_of p
    by_lock None e own = sym (ap role_of (calls_none p e))
    by_lock (Some j) e own = ap (λ x. if x == l then role_of p else idle) own
        ∙ ap (λ b. if b then role_of p else idle) (same l)

pub inside_is : (p : Place) (l : ℕ) → (role_on p l).inside ≡ (location_at p l).inside
inside_is p l = which (calls p l) (is_lock l (beside_of p))
  where
    which : (b c : Bool) → (if b then role_of p else if c then (profile_at_mutex p).role else idle).inside
        ≡ (if b then location p else if c then location_by (profile_at_mutex p) else nowhere).inside
    which true c = refl
    which false true = refl
    which false false = refl

pub own_role : (l : ℕ) (q : Place) (at : MutexPlace) → q ≡ Mutex l at → role_on q l ≡ mutex_role at
own_role l q at is = ap (λ x. role_on x l) is ∙ role_here l (Mutex l at) refl

pub own_stance : (l : ℕ) (q : Place) (at : MutexPlace) → q ≡ Mutex l at → location_at q l ≡ mutex_location at
own_stance l q at is = ap (λ x. location_at x l) is ∙ location_here l (Mutex l at) refl

-- ---------------------------------------------------------------- waiters in a thread's hand are told

-- nobody is
told_out : (t : ℕ) (reply : Reply) (ps : List Place) → ((x : ℕ) → is_thread t (taker (get_or ps x Idle))
    ≡ false) → map (place_after_telling t reply) ps ≡ ps
told_out t reply [] none = refl
told_out t reply (p ∷ ps) none = λ i. ap (λ b. if b then next_place p reply else p) (none 0) i
    ∷ told_out t reply ps (λ x. none (suc x)) i

-- one is
pub told_in : (t : ℕ) (reply : Reply) (ps : List Place) (u : ℕ) → is_thread t (taker (get_or ps u Idle))
    ≡ true → ((x : ℕ) → x ≢ u → is_thread t (taker (get_or ps x Idle)) ≡ false)
    → map (place_after_telling t reply) ps ≡ set ps u (next_place (get_or ps u Idle) reply)
told_in t reply [] u held only = absurd cc
told_in t reply (p ∷ ps) zero held only = λ i. ap (λ b. if b then next_place p reply else p) held i
    ∷ told_out t reply ps (λ x. only (suc x) (λ e. omega arith)) i
told_in t reply (p ∷ ps) (suc u) held only = λ i. ap (λ b. if b then next_place p reply else p)
    (only 0 (λ e. omega arith)) i ∷ told_in t reply ps u held (λ x ne. only (suc x) (λ e. ne (omega arith))) i

-- a thread that t has in hand wants to own alone
abbrev pub WantsAlone : ℕ → Place → Type 0
WantsAlone t p = is_thread t (taker p) ≡ true → wants p ≡ Some Exclusive

-- the thread does not want to share
no_sharer : (t : ℕ) (p : Place) → WantsAlone t p → shares_in_hand t (held p) ≡ false
no_sharer t p alone = by_hand (taker p) (wants p) alone
  where
    by_hand : (o : Option ℕ) (x : Option Want) → (is_thread t o ≡ true → x ≡ Some Exclusive)
        → shares_in_hand t (held_by o x) ≡ false
    by_hand None x own = refl
    by_hand (Some u) None own = refl
    by_hand (Some u) (Some x) own = either (u == t) own
      where
        either : (b : Bool) → (b ≡ true → Some x ≡ Some Exclusive) → (b && wants_shared x) ≡ false
        either true e = let alone_so : x ≡ Exclusive = (let f : Some x ≡ Some Exclusive = e refl in cc)
            in rw alone_so refl
        either false e = refl

-- nobody gets a share
pub none_given : (t : ℕ) (ps : List Place) (ns : List ℕ) → ((u : ℕ) → WantsAlone t (get_or ps u Idle))
    → shares_given t ps ns ≡ ns
none_given t [] ns alone = refl
none_given t (p ∷ ps) [] alone = refl
none_given t (p ∷ ps) (n ∷ ns) alone = λ i. ap (λ b. with_share b n) (no_sharer t p (alone 0)) i
    ∷ none_given t ps ns (λ u. alone (suc u)) i

wants_all : (t : ℕ) (p : Place) → WantsAlone t p → is_thread t (taker p) ≡ true
    → wants_more_in_hand t (held p) ≡ Some Exclusive
wants_all t p alone h = by_hand (taker p) (wants p) h (alone h)
  where
    by_hand : (o : Option ℕ) (x : Option Want) → is_thread t o ≡ true → x ≡ Some Exclusive
        → wants_more_in_hand t (held_by o x) ≡ Some Exclusive
    by_hand None x own e = absurd cc
    by_hand (Some u) x own e = rw e (ap (λ b. if b && true then Some Exclusive else None) own)

wants_none : (t : ℕ) (p : Place) → is_thread t (taker p) ≡ false → wants_more_in_hand t (held p) ≡ None
wants_none t p h = by_hand (taker p) (wants p) h
  where
    by_hand : (o : Option ℕ) (x : Option Want) → is_thread t o ≡ false → wants_more_in_hand t (held_by o x)
        ≡ None
    by_hand None x other = refl
    by_hand (Some u) None other = refl
    by_hand (Some u) (Some x) other = ap (λ b. if b && not (wants_shared x) then Some x else None) other

abbrev pub successor_is : ℕ → Successor
successor_is u = record { thread = u; want = Exclusive }

pub successor_in : (t k : ℕ) (ps : List Place) (u : ℕ) → WantsAlone t (get_or ps u Idle)
    → is_thread t (taker (get_or ps u Idle)) ≡ true
    → ((x : ℕ) → x ≢ u → is_thread t (taker (get_or ps x Idle)) ≡ false) → successor_from t k ps
    ≡ Some (successor_is (k + u))
successor_in t k [] u alone held_by only = absurd cc
successor_in t k (p ∷ ps) zero alone held_by only = ap (λ o. successor_or k o (successor_from t (suc k) ps))
    (wants_all t p alone held_by) ∙ ap (λ n. Some (successor_is n)) (let e : k ≡ k + 0 = omega arith in e)
successor_in t k (p ∷ ps) (suc u) alone held_by only =
    ap (λ o. successor_or k o (successor_from t (suc k) ps)) (wants_none t p (only 0 (λ e. omega arith)))
    ∙ successor_in t (suc k) ps u alone held_by (λ x ne. only (suc x) (λ e. ne (omega arith)))
    ∙ ap (λ n. Some (successor_is n)) (let e : suc k + u ≡ k + suc u = omega arith in e)

-- the thread that took it, by its row
pub single_taker : (p : Place) → IsSingle p → taker p ≡ hand_owner (profile p).hand
single_taker p single = ap (λ (row : Profile). hand_owner (or_else row.hand (profile p).hand))
    (blank_beside p single)

-- a thread that is in a hand by the place is so by the taker
pub held_taker : (p : Place) (t l : ℕ) (b : Bool) → IsSingle p → hand_at p l ≡ hand t b
    → is_thread t (taker p) ≡ true
held_taker p t l b single h = ap (is_thread t) (single_taker p single)
    ∙ either (calls p l) (sym (ap (λ (x : Location). x.hand) (single_location p l single)) ∙ h)
  where
    either : (c : Bool) → (if c then location p else nowhere).hand ≡ hand t b
        → is_thread t (hand_owner (profile p).hand) ≡ true
    either true g = ap (λ x. is_thread t (hand_owner x)) g ∙ same t
    either false g = absurd cc

-- A place that is held at some lock, if by the taker.
pub record IsHeldBy (p : Place) (t : ℕ) : Type 0 where
  pub lock : ℕ
  pub handed : Bool
  pub hand : hand_at p lock ≡ hand t handed
  pub of : IsOf lock p

pub held_where : (p : Place) (t : ℕ) → IsSingle p → is_thread t (taker p) ≡ true → IsHeldBy p t
held_where p t single h = by_hand (profile p).hand (called_lock p) refl refl
    (sym (ap (is_thread t) (single_taker p single)) ∙ h)
  where
    by_hand : (x : Option Hand) (o : Option ℕ) → (profile p).hand ≡ x → called_lock p ≡ o
        → is_thread t (hand_owner x) ≡ true → IsHeldBy p t
    by_hand None o e f g = absurd cc
    by_hand (Some (Of u b)) None e f g = absurd (let none : (profile p).hand ≡ None =
        ap (λ y. (profile y).hand) (calls_none p f) in let k : ◌≡◌ {A = Option Hand} None (Some (Of u b)) =
        sym none ∙ e in cc)
    by_hand (Some (Of u b)) (Some k) e f g = record {
      lock = k;
      handed = b;
      hand = ap (λ (x : Location). x.hand) (location_here k p (of_own k p single f)) ∙ e
          ∙ ap (λ x. hand x b) (eqb-true u t g);
      of = of_own k p single f;
    }

-- the mutex beside a lock that is called is another lock
abbrev pub IsApart : Place → Type 0
IsApart p = (m : ℕ) → beside_of p ≡ Some m → calls p m ≡ false

pub plain_rules : (k : Kind) → is_plain_mutex k ≡ true → rules_of k ≡ mutex
plain_rules kind.Mutex h = refl
plain_rules k h = absurd cc

pub condvar_apart : (w : State) (k : ℕ) (at : CondvarPlace) → FitsItsLock w (Condvar k at) → (m : ℕ)
    → mutex_beside at ≡ Some m → k ≢ m
condvar_apart w k at fits m e here = let both : locks.Condvar ≡ locks.Mutex = sym fits.sort
    ∙ ap (λ n. (rules_in w n).sort) here
    ∙ ap (λ (r : Rules). r.sort) (plain_rules (kind_at w m) (fits.mutex m e)) in cc

pub fits_apart : (w : State) (p : Place) → FitsItsLock w p → IsApart p
fits_apart w Idle fits m e = refl
fits_apart w (Mutex k at) fits m e = absurd cc
fits_apart w (RwLock k a c) fits m e = absurd cc
fits_apart w (Once k at) fits m e = absurd cc
fits_apart w (Semaphore k at) fits m e = absurd cc
fits_apart w (Condvar k at) fits m e = differ k m (condvar_apart w k at fits m e)

pub aparts : (w : State) → IsInductive w → (t : ℕ) → IsApart (place_at w t)
aparts w inductive t = fits_apart w (place_at w t) (inductive.stands.calls t)

-- nobody is in a hand at a condition variable: a thread that is in one by the place, at either of its locks,
-- is so by the taker
pub held_tells : (p : Place) (t l : ℕ) (b : Bool) → hand_at p l ≡ hand t b → is_thread t (taker p) ≡ true
held_tells (Condvar k at) t l b h = either (k == l) (is_lock l (mutex_beside at)) h
  where
    either : (c d : Bool) → (if c then location (Condvar k at) else if d then location_by (mutex_side at)
        else nowhere).hand ≡ hand t b → is_thread t (taker (Condvar k at)) ≡ true
    either true d g = absurd cc
    either false true g = ap (λ x. is_thread t (hand_owner (or_else x None))) g ∙ same t
    either false false g = absurd cc
held_tells Idle t l b h = held_taker Idle t l b tt h
held_tells (Mutex k at) t l b h = held_taker (Mutex k at) t l b tt h
held_tells (RwLock k a at) t l b h = held_taker (RwLock k a at) t l b tt h
held_tells (Once k at) t l b h = held_taker (Once k at) t l b tt h
held_tells (Semaphore k at) t l b h = held_taker (Semaphore k at) t l b tt h

-- in a hand at the lock that it calls, or at the mutex beside it
pub record IsInHandOf (p : Place) (t : ℕ) : Type 0 where
  pub lock : ℕ
  pub handed : Bool
  pub hand : hand_at p lock ≡ hand t handed
  pub at : (IsOf lock p) ⊎ (beside_of p ≡ Some lock)

in_hand_own : (p : Place) (t : ℕ) → IsSingle p → is_thread t (taker p) ≡ true → IsInHandOf p t
in_hand_own p t single h = let k = held_where p t single h in record {
  lock = k.lock;
  handed = k.handed;
  hand = k.hand;
  at = inl k.of;
}

in_hand_beside : (k : ℕ) (at : CondvarPlace) (t : ℕ) → IsApart (Condvar k at)
    → is_thread t (taker (Condvar k at)) ≡ true → IsInHandOf (Condvar k at) t
in_hand_beside k at t apart h = by_mutex (mutex_beside at) refl
  where
    by_hand : (m : ℕ) → mutex_beside at ≡ Some m → (x : Option Hand) → (mutex_side at).hand ≡ x
        → is_thread t (hand_owner (or_else x None)) ≡ true → IsInHandOf (Condvar k at) t
    by_hand m e None f g = absurd cc
    by_hand m e (Some (Of u b)) f g = record {
      lock = m;
      handed = b;
      hand = ap (λ c. (if c then location (Condvar k at) else if is_lock m (mutex_beside at)
          then location_by (mutex_side at) else nowhere).hand) (apart m e)
          ∙ ap (λ o. (if is_lock m o then location_by (mutex_side at) else nowhere).hand) e
          ∙ ap (λ c. (if c then location_by (mutex_side at) else nowhere).hand) (same m)
          ∙ f ∙ ap (λ x. hand x b) (eqb-true u t g);
      at = inr e;
    }

    by_mutex : (o : Option ℕ) → mutex_beside at ≡ o → IsInHandOf (Condvar k at) t
    by_mutex (Some m) e = by_hand m e (mutex_side at).hand refl h
    by_mutex None e = absurd (nobody at e h)
      where
        nobody : (at : CondvarPlace) → mutex_beside at ≡ None
            → is_thread t (hand_owner (or_else (mutex_side at).hand None)) ≡ true → ⊥
        nobody (Wait m timed at) e g = cc
        nobody (Look all) e g = cc
        nobody (Notify all m at) e g = cc

pub in_hand_where : (p : Place) (t : ℕ) → IsApart p → is_thread t (taker p) ≡ true → IsInHandOf p t
in_hand_where Idle t apart h = in_hand_own Idle t tt h
in_hand_where (Mutex k at) t apart h = in_hand_own (Mutex k at) t tt h
in_hand_where (RwLock k a at) t apart h = in_hand_own (RwLock k a at) t tt h
in_hand_where (Once k at) t apart h = in_hand_own (Once k at) t tt h
in_hand_where (Semaphore k at) t apart h = in_hand_own (Semaphore k at) t tt h
in_hand_where (Condvar k at) t apart h = in_hand_beside k at t apart h

-- beside a condition variable is a mutex, whose waiters are taken one at a time
pub beside_takes_one : (w : State) (p : Place) (l : ℕ) → FitsItsLock w p → beside_of p ≡ Some l → TakesOne w l
beside_takes_one w Idle l fits e = absurd cc
beside_takes_one w (Mutex k at) l fits e = absurd cc
beside_takes_one w (RwLock k a c) l fits e = absurd cc
beside_takes_one w (Once k at) l fits e = absurd cc
beside_takes_one w (Semaphore k at) l fits e = absurd cc
beside_takes_one w (Condvar k at) l fits e =
    ap (λ (r : Rules). r.sort) (plain_rules (kind_at w l) (fits.mutex l e))

-- a lock that lets many go at once is beside no call
pub not_beside : (w : State) (p : Place) (l : ℕ) → FitsItsLock w p → (TakesOne w l → ⊥)
    → is_lock l (beside_of p) ≡ false
not_beside w p l fits many = by_mutex (beside_of p) refl
  where
    by_mutex : (o : Option ℕ) → beside_of p ≡ o → is_lock l o ≡ false
    by_mutex None e = refl
    by_mutex (Some m) e = differ m l (λ f. many (beside_takes_one w p l fits (e ∙ ap Some f)))

-- where a call of a condition variable is beside another lock, it is in nobody's hand
pub condvar_unheld : (k : ℕ) (at : CondvarPlace) (l : ℕ) → is_lock l (mutex_beside at) ≡ false
    → hand_at (Condvar k at) l ≡ None
condvar_unheld k at l out = ap (λ d. (if k == l then location (Condvar k at) else if d then location_by
    (mutex_side at) else nowhere).hand) out ∙ either (k == l)
  where
    either : (c : Bool) → (if c then location (Condvar k at) else nowhere).hand ≡ None
    either true = refl
    either false = refl

pub condvar_untaken : (k : ℕ) (at : CondvarPlace) (l : ℕ) → is_lock l (mutex_beside at) ≡ false
    → taken_at (Condvar k at) l ≡ None
condvar_untaken k at l out = ap (λ d. if d && not (k == l) then taken_from (mutex_side at).hand
    (mutex_side at).wants true else None) out
