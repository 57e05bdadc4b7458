-- A mutex that each call gives up fairly is owned while a waiter is in a hand. A fair one is owned while a
-- thread waits for it too, by the thread that has the waiter in its hand.
use Rattle.lot_laws.proofs.Imports
use Imports.{ℕ, Bool, true, false, Option, Some, None, if◌then◌else◌, ◌==◌, ◌≡◌, ◌≢◌, ◌≤◌, ◌+◌, ◌⊎◌, inl, inr}
use Imports.{refl, sym, ◌∙◌, ap, subst, arith, cases_lt, eqb-true, Exclusive, Upgradable, Kind, ReleasesFairly}
use Imports.{is_fair, is_plain_mutex, IsSomePending, Rights, Taken, one_if_some, one_if_thread}
use Imports.{standing, rules_of, Has, Role, has_readers, idle, Location, mutex_beside, mutex_profile}
use Imports.{MutexPlace, Place, Idle, Mutex, RwLock, Once, Condvar, Semaphore, beside_of, is_lock, State}
use Imports.{kind_at, place_at, location_at, role_on, IsGivenUpFairly, call_state, lock_state, FitsItsLock}
use Imports.{IsWorld, rules_in}
use Rattle.spec_locks.specs.declared.kinds.Kind.TheVariants as kinds
use Rattle.spec_locks.specs.Locks.{times}
use Rattle.spec_locks.specs.Locks as locks
use Rattle.steps_base.specs.Locations.{nowhere}
use Rattle.steps_mutex.specs.declared.hand_off.HandOffAt.TheVariants as hand_off
use Rattle.steps_mutex.specs.declared.places.MutexPlace.TheVariants as mutex
use Rattle.lot_laws.proofs.machine.Parts.{taken_held}
use Rattle.lot_laws.proofs.promises.SitesPromise.{not_empty}

pub fair_kind : (k : Kind) → is_fair k ≡ true → k ≡ kinds.Fair
fair_kind kinds.Fair e = refl
fair_kind k e = absurd cc

fair_sort : (k : Kind) → k ≡ kinds.Fair → (rules_of k).sort ≡ locks.Mutex
fair_sort k e = ap (λ x. (rules_of x).sort) e

pub locked_by : (l : ℕ) (o : Option ℕ) → is_lock l o ≡ true → o ≡ Some l
locked_by l None h = absurd cc
locked_by l (Some k) h = ap Some (eqb-true k l h)

-- ---------------------------------------------------------------- a thread that has a waiter in its hand

-- the thread owns the mutex, or is in a plain unlock
mutex_owner : (at : MutexPlace) → (mutex_profile at).has_taken ≡ Some false
    → ((mutex_profile at).role.claims ≡ Some (Has Exclusive)) ⊎
    ((k : ℕ) (r : ℕ → Rights) → ReleasesFairly (call_state (Mutex k at) r).purpose k → ⊥)
mutex_owner (mutex.HandOff bumps (hand_off.Store any none_left)) h = inl refl
mutex_owner (mutex.HandOff bumps (hand_off.Leave true)) h = absurd (let e : true ≡ false = cc in cc)
mutex_owner (mutex.HandOff bumps (hand_off.Leave false)) h = absurd cc
mutex_owner (mutex.HandOff bumps at) h = absurd cc
mutex_owner (mutex.Unlock at) h = inr (λ k r fairly. (let e : false ≡ true = fairly refl in cc))
mutex_owner at h = absurd cc

-- no call of a condition variable names a fair mutex
pub fair_apart : (w : State) (l : ℕ) → kind_at w l ≡ kinds.Fair → (p : Place) → FitsItsLock w p
    → beside_of p ≢ Some l
fair_apart w l fair (Condvar k at) fits e =
    (let i : true ≡ false = sym (fits.mutex l e) ∙ ap is_plain_mutex fair in cc)
fair_apart w l fair Idle fits e = cc
fair_apart w l fair (Mutex k at) fits e = cc
fair_apart w l fair (RwLock k a at) fits e = cc
fair_apart w l fair (Once k at) fits e = cc
fair_apart w l fair (Semaphore k at) fits e = cc

module _ (w : State) (l : ℕ) (sort : (rules_in w l).sort ≡ locks.Mutex) where
  away : (k : ℕ) (x : locks.Sort) → (rules_in w k).sort ≡ x → x ≢ locks.Mutex → (k == l) ≡ true → ⊥
  away k x e ne same = ne (sym e ∙ ap (λ j. (rules_in w j).sort) (eqb-true k l same) ∙ sort)

  only : (b : Bool) (x : Location) (d : Role) → (b ≡ true → ⊥)
      → (if b then x else nowhere).has_taken ≡ Some false
      → (if b then d else idle).claims ≡ Some (Has Exclusive)
  only true x d none h = absurd (none refl)
  only false x d none h = absurd cc

  owner : (p : Place) (r : ℕ → Rights) → FitsItsLock w p → beside_of p ≢ Some l
      → ReleasesFairly (call_state p r).purpose l
      → (location_at p l).has_taken ≡ Some false
      → (role_on p l).claims ≡ Some (Has Exclusive)
  owner Idle r fits apart fairly h = absurd cc
  owner (Mutex k at) r fits apart fairly h = by_test (k == l) refl _ _ (mutex_owner at) h
    where
      by_test : (b : Bool) → (k == l) ≡ b → (x : Location) (d : Role)
          → (x.has_taken ≡ Some false → (d.claims ≡ Some (Has Exclusive)) ⊎
          ((k : ℕ) (r : ℕ → Rights) → ReleasesFairly (call_state (Mutex k at) r).purpose k → ⊥))
          → (if b then x else nowhere).has_taken ≡ Some false
          → (if b then d else idle).claims ≡ Some (Has Exclusive)
      by_test false e x d own h = absurd cc
      by_test true e x d own h = elim (own h) [
        | inl own ↦ own
        | inr unfair ↦ absurd (unfair k r
            (subst (ReleasesFairly (call_state (Mutex k at) r).purpose) (sym (eqb-true k l e)) fairly))
      ]
  owner (RwLock k a at) r fits apart fairly h =
      only (k == l) _ _ (λ e. (let f : false ≡ true = sym
      (ap has_readers (ap (λ j. (rules_in w j).sort) (eqb-true k l e) ∙ sort))
      ∙ fits.0.0 in cc)) h
  owner (Once k at) r fits apart fairly h = only (k == l) _ _ (away k locks.Once fits (λ f. cc)) h
  owner (Semaphore k at) r fits apart fairly h = only (k == l) _ _ (away k locks.Semaphore fits.0 (λ f. cc)) h
  owner (Condvar k at) r fits apart fairly h = two (k == l) refl (is_lock l (mutex_beside at)) refl _ _ _ _ h
    where
      two : (b : Bool) → (k == l) ≡ b → (c : Bool) → is_lock l (mutex_beside at) ≡ c
          → (x y : Location) (d e : Role)
          → (if b then x else if c then y else nowhere).has_taken ≡ Some false
          → (if b then d else if c then e else idle).claims ≡ Some (Has Exclusive)
      two true e c f x y d g h = absurd (away k locks.Condvar fits.sort (λ i. cc) e)
      two false e false f x y d g h = absurd cc
      two false e true f x y d g h = absurd (apart (locked_by l (mutex_beside at) f))

-- ---------------------------------------------------------------- a world

module _ (w : State) (h : IsWorld w) (l : ℕ) (sort : (rules_in w l).sort ≡ locks.Mutex)
    (fairly : IsGivenUpFairly w l) where
  -- the mutex is owned while somebody is in a hand
  pub in_hand : (t : ℕ) (x : Taken) → (lock_state w l).taken t ≡ Some x → (lock_state w l).exclusive ≢ None
  in_hand t x e =
      let has_taken = h.inductive.stands.hands.taken x.by t l false (taken_held (place_at w t) x.by l x.want e)
      in
      let claims = owner w l sort (place_at w x.by) _ (h.inductive.stands.calls x.by) (fairly.apart x.by)
      (fairly.calls x.by) has_taken in
      let own : (lock_state w l).exclusive ≡ Some x.by = (h.inductive.sites.site l).held x.by (Has Exclusive)
      claims in
      λ none. (let f : ◌≡◌ {A = Option ℕ} (Some x.by) None = sym own ∙ none in cc)

pub given_up_fairly : (w : State) → IsWorld w → (l : ℕ) → kind_at w l ≡ kinds.Fair → IsGivenUpFairly w l
given_up_fairly w h l fair = record {
  calls = (h.settled.fair l fair).calls;
  apart = λ t. fair_apart w l fair (place_at w t) (h.inductive.stands.calls t);
}

module _ (w : State) (h : IsWorld w) (l : ℕ) (fair : kind_at w l ≡ kinds.Fair) where
  state : locks.IsLockState (rules_in w l) (lock_state w l)
  state = (h.inductive.sites.site l).state

  unwritten : (lock_state w l).pending ≡ None
  unwritten =
      (state.unpending (λ k. subst (λ x. locks.Knows x Upgradable) (fair_sort (kind_at w l) fair) k)).0

  not_aside : (t : ℕ) (o : Option ℕ) → (lock_state w l).aside ≡ o → one_if_thread t o ≡ 0
  not_aside t None e = refl
  not_aside t (Some u) e = absurd (subst (λ o. IsSomePending o u) unwritten (state.aside_pending u e))

  by_hand : (t : ℕ) (o : Option Taken) → (lock_state w l).taken t ≡ o → 1 ≤ one_if_some o
      → (lock_state w l).exclusive ≢ None
  by_hand t None e some = absurd (let f : 1 ≤ 0 = some in omega arith)
  by_hand t (Some x) e some = in_hand w h l (fair_sort (kind_at w l) fair) (given_up_fairly w h l fair) t x e

  pub fair_owned : (t : ℕ) → 1 ≤ standing t (lock_state w l) → (lock_state w l).exclusive ≢ None
  fair_owned t some = elim (cases_lt 0 (times t (lock_state w l).queue)) [
    | inl lt ↦ (h.settled.fair l fair).owned (not_empty t (lock_state w l).queue lt)
    | inr ge ↦ by_hand t ((lock_state w l).taken t) refl
        (let none : one_if_thread t (lock_state w l).aside ≡ 0 = not_aside t (lock_state w l).aside refl in
        let sum : 1 ≤ times t (lock_state w l).queue + one_if_thread t (lock_state w l).aside + one_if_some
        ((lock_state w l).taken t) = some in
        omega arith)
  ]
