-- As many different threads look after the line of a semaphore as its roles owe.
use Rattle.lot_laws.proofs.Imports
use Imports.{ℕ, zero, suc, Bool, true, false, Option, Some, None, if◌then◌else◌, ◌==◌, ◌≡◌, ◌≢◌, ◌+◌, ◌≤◌, ◌<◌}
use Imports.{inl, inr, refl, sym, ◌∙◌, ap, subst, arith, cases_eq, eqb-true, nat_tests, Want, bit, one_if_some}
use Imports.{debt, sum_to, wakes_main, rules_of, IsDebtorRole, Line, Main, Second, Role, has_readers, idle}
use Imports.{Kind, is_plain_mutex, mutex_beside, SemaphorePlace, Acquire, Release, semaphore_profile, Place}
use Imports.{Idle, Mutex, RwLock, Once, Condvar, Semaphore, is_lock, profile, profile_at_mutex, State, kind_at}
use Imports.{place_at, role_on, FitsItsLock, IsInductive, is_mutex, rules_in}
use Rattle.spec_locks.specs.Locks as locks
use Rattle.spec_locks.specs.declared.kinds.Kind.TheVariants as kinds
use Rattle.steps_semaphore.specs.declared.acquire.AcquireAt.TheVariants as acquire
use Rattle.steps_semaphore.specs.declared.places.SemaphorePlace.TheVariants.{Try}
use Rattle.steps_semaphore.specs.declared.release.ReleaseAt.TheVariants as release

-- ---------------------------------------------------------------- numbers

-- a number of different threads of the first n owe 1 each
pub record Distinct (n : ℕ) (f : ℕ → ℕ) (m : ℕ) : Type 0 where
  pub thread : ℕ → ℕ
  pub within : (i : ℕ) → i < m → thread i < n
  pub owes : (i : ℕ) → i < m → f (thread i) ≡ 1
  pub apart : (i j : ℕ) → i < m → j < m → thread i ≡ thread j → i ≡ j

nobody : (n : ℕ) (f : ℕ → ℕ) → Distinct n f 0
nobody n f = record {
  thread = λ i. 0;
  within = λ i lt. absurd (omega arith);
  owes = λ i lt. absurd (omega arith);
  apart = λ i j a b e. absurd (omega arith);
}

one_more : (n : ℕ) (f : ℕ → ℕ) (m : ℕ) → f n ≡ 1 → Distinct n f m → Distinct (suc n) f (suc m)
one_more n f m owed d = record { thread = with_last; within = within_now; owes = owes_now; apart = apart_now }
  where
    with_last : ℕ → ℕ
    with_last i = if i == m then n else d.thread i

    last : (i : ℕ) → i ≡ m → with_last i ≡ n
    last i e = grind (arith, nat_tests)

    early : (i : ℕ) → i ≢ m → with_last i ≡ d.thread i
    early i ne = grind (arith, nat_tests)

    within_now : (i : ℕ) → i < suc m → with_last i < suc n
    within_now i lt = elim (cases_eq i m) [
      | inl e ↦ (let a = last i e in omega arith)
      | inr ne ↦ (let a = early i ne in let b : d.thread i < n = d.within i (omega arith) in omega arith)
    ]

    owes_now : (i : ℕ) → i < suc m → f (with_last i) ≡ 1
    owes_now i lt = elim (cases_eq i m) [
      | inl e ↦ ap f (last i e) ∙ owed
      | inr ne ↦ ap f (early i ne) ∙ d.owes i (omega arith)
    ]

    apart_now : (i j : ℕ) → i < suc m → j < suc m → with_last i ≡ with_last j → i ≡ j
    apart_now i j a b same = elim (cases_eq i m) [
      | inl e ↦ elim (cases_eq j m) [
        | inl f ↦ e ∙ sym f
        | inr nf ↦ absurd (let x : d.thread j < n = d.within j (omega arith) in let y : n ≡ d.thread j =
            sym (last i e) ∙ same ∙ early j nf in omega arith)
      ]
      | inr ne ↦ elim (cases_eq j m) [
        | inl f ↦ absurd (let x : d.thread i < n = d.within i (omega arith) in let y : d.thread i ≡ n =
            sym (early i ne) ∙ same ∙ last j f in omega arith)
        | inr nf ↦ d.apart i j (omega arith) (omega arith) (sym (early i ne) ∙ same ∙ early j nf)
      ]
    ]

pub distinct : (n : ℕ) (f : ℕ → ℕ) (m : ℕ) → ((u : ℕ) → f u ≤ 1) → m ≤ sum_to n f → Distinct n f m
distinct zero f m few enough = subst (Distinct zero f) (omega arith) (nobody zero f)
distinct (suc n) f m few enough = by_last (λ k le. distinct n f k few le) (f n) refl m enough
  where
    wider : (m : ℕ) → Distinct n f m → Distinct (suc n) f m
    wider m d = record {
      thread = d.thread;
      within = λ i lt. (let a : d.thread i < n = d.within i lt in omega arith);
      owes = d.owes;
      apart = d.apart;
    }

    by_last : ((k : ℕ) → k ≤ sum_to n f → Distinct n f k) → (k : ℕ) → f n ≡ k → (m : ℕ) → m ≤ sum_to n f + f n
        → Distinct (suc n) f m
    by_last before zero e m le = wider m (before m (omega arith))
    by_last before (suc zero) e zero le = nobody (suc n) f
    by_last before (suc zero) e (suc m) le = one_more n f m e (before m (omega arith))
    by_last before (suc (suc k)) e m le = absurd (let a = few n in omega arith)

-- ---------------------------------------------------------------- roles

pub owing_role : (d : Role) → debt d ≡ 1 → IsDebtorRole locks.Semaphore d
owing_role d e = by_parts d.wakes d.owes_taken d.retries refl refl refl
  where
    by_parts : (a : Option Line) (b : Bool) (c : Option Want) → d.wakes ≡ a → d.owes_taken ≡ b → d.retries ≡ c
        → IsDebtorRole locks.Semaphore d
    by_parts (Some Main) b c f g h = inl f
    by_parts a true c f g h = inr (inl g)
    by_parts a b (Some x) f g h =
        inr (inr (ap (λ o. Rattle.spec_locks.specs.Sites.counts_some locks.Semaphore o) h))
    by_parts None false None f g h = absurd (let z : debt d ≡ 0 =
        (λ i. wakes_main (f i) + bit (g i) + one_if_some (h i)) in omega arith)
    by_parts (Some Second) false None f g h = absurd (let z : debt d ≡ 0 =
        (λ i. wakes_main (f i) + bit (g i) + one_if_some (h i)) in omega arith)

few : (d : Role) → debt d ≡ 0 → debt d ≤ 1
few d e = omega arith

retrying : (b : Bool) → one_if_some (if b
    then Some Rattle.core_base.specs.declared.wants.Want.TheVariants.Shared else None) ≤ 1
retrying true = omega arith
retrying false = omega arith

semaphore_few : (at : SemaphorePlace) → debt (semaphore_profile at).role ≤ 1
semaphore_few (Acquire timed again acquire.Load) = (let h = retrying again in omega arith)
semaphore_few (Acquire timed again (acquire.Decide seen)) = (let h = retrying again in omega arith)
semaphore_few (Acquire timed again acquire.Check) = (let h = retrying again in omega arith)
semaphore_few (Acquire timed again (acquire.Leave parked)) =
    (let h = retrying (if parked then false else again) in omega arith)
semaphore_few (Acquire timed again acquire.Asleep) = omega arith
semaphore_few (Acquire timed again (acquire.Taken by)) = omega arith
semaphore_few (Acquire timed again acquire.Remove) = omega arith
semaphore_few (Acquire timed again acquire.Clear) = omega arith
semaphore_few (Acquire timed again acquire.GiveUp) = omega arith
semaphore_few (Try at) = omega arith
semaphore_few (Release release.Add) = omega arith
semaphore_few (Release release.Enter) = omega arith
semaphore_few (Release release.Take) = omega arith
semaphore_few (Release (release.Clear any)) = omega arith
semaphore_few (Release (release.Leave any)) = omega arith

-- ---------------------------------------------------------------- at the lock

locked_by : (l : ℕ) (o : Option ℕ) → is_lock l o ≡ true → o ≡ Some l
locked_by l None h = absurd cc
locked_by l (Some k) h = ap Some (eqb-true k l h)

plain_sort : (k : Kind) → is_plain_mutex k ≡ true → (rules_of k).sort ≡ locks.Mutex
plain_sort kinds.Mutex h = refl
plain_sort k h = absurd cc

mutex_sort : (k : Kind) → is_mutex k ≡ true → (rules_of k).sort ≡ locks.Mutex
mutex_sort kinds.Mutex h = refl
mutex_sort kinds.Fair h = refl
mutex_sort k h = absurd cc

module _ (w : State) (l : ℕ) (sort : (rules_in w l).sort ≡ locks.Semaphore) where
  away : (k : ℕ) (x : locks.Sort) → (rules_in w k).sort ≡ x → x ≢ locks.Semaphore → (k == l) ≡ true → ⊥
  away k x e ne same = ne (sym e ∙ ap (λ j. (rules_in w j).sort) (eqb-true k l same) ∙ sort)

  by_test : (b : Bool) (d : Role) → (b ≡ true → debt d ≤ 1) → debt (if b then d else idle) ≤ 1
  by_test true d h = h refl
  by_test false d h = omega arith

  place_few : (p : Place) → FitsItsLock w p → debt (role_on p l) ≤ 1
  place_few Idle fits = omega arith
  place_few (Mutex k at) fits =
      by_test (k == l) _ (λ e. absurd (away k locks.Mutex (mutex_sort (kind_at w k) fits) (λ f. cc) e))
  place_few (RwLock k a at) fits =
      by_test (k == l) _ (λ e. absurd (let f : false ≡ true =
      sym (ap has_readers (ap (λ j. (rules_in w j).sort) (eqb-true k l e) ∙ sort)) ∙ fits.0.0 in cc))
  place_few (Once k at) fits = by_test (k == l) _ (λ e. absurd (away k locks.Once fits (λ f. cc) e))
  place_few (Semaphore k at) fits = by_test (k == l) _ (λ e. semaphore_few at)
  place_few (Condvar k at) fits = two (k == l) refl (is_lock l (mutex_beside at)) refl
    where
      two : (b : Bool) → (k == l) ≡ b → (c : Bool) → is_lock l (mutex_beside at) ≡ c
          → debt (if b then (profile (Condvar k at)).role else if c then (profile_at_mutex (Condvar k at)).role
          else idle) ≤ 1
      two true e c f = absurd (away k locks.Condvar fits.sort (λ g. cc) e)
      two false e false f = omega arith
      two false e true f = absurd (let g : locks.Mutex ≡ locks.Semaphore =
          sym (plain_sort (kind_at w l) (fits.mutex l (locked_by l (mutex_beside at) f))) ∙ sort in cc)

-- a thread owes 1 at most
pub few_debts : (w : State) → IsInductive w → (l : ℕ) → (rules_in w l).sort ≡ locks.Semaphore → (u : ℕ)
    → debt (role_on (place_at w u) l) ≤ 1
few_debts w inductive l sort u = place_few w l sort (place_at w u) (inductive.stands.calls u)
