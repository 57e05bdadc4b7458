-- A mutex that each call gives up fairly is let go by no step while somebody waits for it.
use Rattle.lot_laws.proofs.Imports
use Imports.{ℕ, Bool, true, false, Option, Some, None, if◌then◌else◌, ◌==◌, ◌≡◌, ◌≢◌, inl, inr, refl, sym, ◌∙◌}
use Imports.{ap, eqb-true, Step, Kind, LetsGoWhileSomeWait, parked_in, Rules, rules_of, Role, has_readers, idle}
use Imports.{FairlyGoes, fairly_goes, mutex_beside, MutexPlace, Place, Idle, Mutex, RwLock, Once, Condvar}
use Imports.{Semaphore, beside_of, is_lock, profile, profile_at_mutex, State, after, kind_at, place_at}
use Imports.{step_outcome, word_at, role_on, IsGivenUpFairly, WaitsFor, locks_of, owner_at, FitsItsLock}
use Imports.{IsWorld, is_mutex, rules_in}
use Rattle.spec_locks.specs.Locks as locks
use Rattle.steps_mutex.specs.declared.hand_off.HandOffAt.TheVariants as hand_off
use Rattle.steps_mutex.specs.declared.lock.LockAt.TheVariants as lock
use Rattle.steps_mutex.specs.declared.places.MutexPlace.TheVariants as mutex
use Rattle.steps_mutex.specs.declared.unlock.UnlockAt.TheVariants as unlock
use Rattle.lot_laws.proofs.calls.LockSteps.{IsTurn, after_step}
use Rattle.lot_laws.proofs.mutex.FairHands.{locked_by}
use Rattle.lot_laws.proofs.promises.Fair.{is_fair}
use Rattle.lot_laws.proofs.sites.StandsMoved.{mutex_rules}

pub mutex_sort : (k : Kind) → is_mutex k ≡ true → (rules_of k).sort ≡ locks.Mutex
mutex_sort k e = ap (λ (r : Rules). r.sort) (mutex_rules k e)

-- ---------------------------------------------------------------- nobody brings it waiters

mutex_sets : (at : MutexPlace) → (profile (Mutex 0 at)).role.bit_pending ≡ false
mutex_sets (mutex.Lock e r lock.First) = refl
mutex_sets (mutex.Lock e r lock.Load) = refl
mutex_sets (mutex.Lock e r (lock.Decide seen)) = refl
mutex_sets (mutex.Lock e r lock.Check) = refl
mutex_sets (mutex.Lock e r (lock.Leave parked)) = refl
mutex_sets (mutex.Lock e r lock.Asleep) = refl
mutex_sets (mutex.Lock e r (lock.Taken by)) = refl
mutex_sets (mutex.Lock e r (lock.Handed by)) = refl
mutex_sets (mutex.Lock e r lock.Accept) = refl
mutex_sets (mutex.Lock e r lock.Remove) = refl
mutex_sets (mutex.Lock e r lock.Clear) = refl
mutex_sets (mutex.Lock e r lock.GiveUp) = refl
mutex_sets mutex.TryLock = refl
mutex_sets (mutex.Unlock unlock.Subtract) = refl
mutex_sets (mutex.Unlock unlock.Enter) = refl
mutex_sets (mutex.Unlock unlock.Take) = refl
mutex_sets (mutex.Unlock (unlock.Clear any)) = refl
mutex_sets (mutex.Unlock (unlock.Leave any)) = refl
mutex_sets mutex.UnlockFair = refl
mutex_sets mutex.Bump = refl
mutex_sets (mutex.HandOff bumps hand_off.Enter) = refl
mutex_sets (mutex.HandOff bumps hand_off.Take) = refl
mutex_sets (mutex.HandOff bumps (hand_off.Store any none_left)) = refl
mutex_sets (mutex.HandOff bumps (hand_off.Leave any)) = refl

module _ (w : State) (l : ℕ) (sort : (rules_in w l).sort ≡ locks.Mutex) where
  away : (k : ℕ) (x : locks.Sort) → (rules_in w k).sort ≡ x → x ≢ locks.Mutex → (k == l) ≡ true → ⊥
  away k x e ne same = ne (sym e ∙ ap (λ j. (rules_in w j).sort) (eqb-true k l same) ∙ sort)

  by_test : (b : Bool) (d : Role) → (b ≡ true → d.bit_pending ≡ false) → (if b then d else idle).bit_pending ≡ false
  by_test true d h = h refl
  by_test false d h = refl

  place_sets : (p : Place) → FitsItsLock w p → beside_of p ≢ Some l → (role_on p l).bit_pending ≡ false
  place_sets Idle fits apart = refl
  place_sets (Mutex k at) fits apart = by_test (k == l) _ (λ e. mutex_sets at)
  place_sets (RwLock k a at) fits apart = by_test (k == l) _ (λ e. absurd (let f : false ≡ true = sym
      (ap has_readers (ap (λ j. (rules_in w j).sort) (eqb-true k l e) ∙ sort)) ∙ fits.0.0 in cc))
  place_sets (Once k at) fits apart = by_test (k == l) _ (λ e. absurd (away k locks.Once fits (λ f. cc) e))
  place_sets (Semaphore k at) fits apart = by_test (k == l) _ (λ e. absurd (away k locks.Semaphore fits.0
      (λ f. cc) e))
  place_sets (Condvar k at) fits apart = two (k == l) refl (is_lock l (mutex_beside at)) refl
    where
      two : (b : Bool) → (k == l) ≡ b → (c : Bool) → is_lock l (mutex_beside at) ≡ c
          → (if b then (profile (Condvar k at)).role else if c then (profile_at_mutex
          (Condvar k at)).role else idle).bit_pending ≡ false
      two true e c f = absurd (away k locks.Condvar fits.sort (λ g. cc) e)
      two false e false f = refl
      two false e true f = absurd (apart (locked_by l (mutex_beside at) f))

-- ---------------------------------------------------------------- a step

module _ (w : State) (s : Step) (h : IsWorld w) (l : ℕ) (one_owner : is_mutex (kind_at w l) ≡ true)
    (fairly : IsGivenUpFairly w l) where
  abbrev v : State
  v = after w s

  turn_is : IsTurn (locks_of w) s (step_outcome w s) (locks_of v)
  turn_is = after_step w s h.well_formed h.inductive h.counted h.condvars

  sort : (rules_in w l).sort ≡ locks.Mutex
  sort = mutex_sort (kind_at w l) one_owner

  -- each fair release hands it over where somebody waits
  pub hands_over : LetsGoWhileSomeWait (locks_of w) (locks_of v) s.thread l → ⊥
  hands_over lets = elim ((is_fair w s h.well_formed h.inductive h.counted h.condvars).gives s.thread l
      (lets.releases, lets.owner, one_owner)) [
        | inl on ↦ (let e : ◌≡◌ {A = Option ℕ} None (Some s.thread) = sym lets.gone ∙ on.0 in cc)
        | inr other ↦ elim other [
          | inl hands ↦ (let e : ◌≡◌ {A = Option ℕ} None (Some hands.0) = sym lets.gone ∙ hands.2 in cc)
          | inr goes ↦ elim goes.2 [
            | inl clear ↦ elim ((h.inductive.sites.site l).parked lets.waiter) [
              | inl set ↦ (let e : false ≡ true = sym clear ∙ (ap (λ x. parked_in x (word_at w l)) (sym sort)
                  ∙ set) in cc)
              | inr bit_pending ↦ (let e : false ≡ true = sym (place_sets w l sort (place_at w bit_pending.0)
                  (h.inductive.stands.calls bit_pending.0) (fairly.apart bit_pending.0)) ∙ bit_pending.1 in cc)
            ]
            | inr empty ↦ lets.waiter empty
          ]
        ]
      ]

  pub goes_fairly : FairlyGoes (locks_of w) (locks_of v) s.thread l
  goes_fairly = fairly_goes (locks_of w) (locks_of v) s.thread l (step_outcome w s) (λ k.
      (h.inductive.sites.site k).state) sort fairly.calls s.turn turn_is.1

  pub stays_owned : (t : ℕ) → WaitsFor v t l → owner_at w l ≢ None → owner_at v l ≢ None
  stays_owned t waits owned = elim (goes_fairly.owned t waits (λ some. owned)) [
    | inl still ↦ still
    | inr lets ↦ absurd (hands_over lets)
  ]
