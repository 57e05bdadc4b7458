-- The rights that a thread found as its call of a reader-writer lock began, by those that it has
-- now.
use Rattle.std.proofs.Common.{ℕ, Bool, true, false, if◌then◌else◌, ◌≡◌, refl, sym, subst}
use Rattle.core_base.specs.declared.wants.Want.{Want}
use Rattle.core_base.specs.declared.wants.Want.TheVariants.{Upgradable}
use Rattle.spec_locks.specs.declared.calls.Patience.{Patience}
use Rattle.spec_locks.specs.declared.calls.Patience.TheVariants.{Patient, Timed, Try}
use Rattle.steps_base.specs.Calls.{rights_where}
use Rattle.steps_rwlock.specs.declared.purposes.RwLockPurpose.{RwLockPurpose}
use Rattle.steps_rwlock.specs.declared.purposes.RwLockPurpose.TheVariants as purpose
use Rattle.steps_rwlock.specs.declared.places.RwLockAt.{RwLockAt}
use Rattle.steps_rwlock.specs.RwLockSteps.{wanted, from_of, to_of, entered}
use Rattle.steps_rwlock.specs.RwLockProfiles.{is_pending, is_waking, without_pending, before}
use Rattle.spec_locks.specs.Locks.{LockState, Rules, Rights, Owns, rights_of, with_right, without_right}
use Rattle.spec_locks.specs.Runs.{LocksState, CallState, EntersAnswer, ConvertsAnswer, rights_in, one_more_at}
use Rattle.spec_locks.specs.Runs.{one_less_at, rules_at as locks_rules}
use Rattle.spec_locks.proofs.Rights.{AreAt, unchanged, changed, agree, less_pending}

-- tells what a call found at its lock, by what its thread owns there now
abbrev pub found : RwLockPurpose → RwLockAt → Rights → Rights
found (purpose.Enter x how) to y = if is_pending to then less_pending y else y
found (purpose.Release x) to y = if is_waking to then with_right (wanted x) y else y
found (purpose.Downgrade d) to y = if is_waking to then with_right (wanted (from_of d))
    (without_right (wanted (to_of d)) y) else y
found (purpose.Upgrade how) to y = if is_pending to then with_right Upgradable (less_pending y) else y

module _ (rights : ℕ → Rights) (l : ℕ) where
  pub finds : (q : RwLockPurpose) (to : RwLockAt) (g : ℕ → Rights) (y : Rights) → AreAt rights g l y
      → AreAt rights (before q to l g) l (found q to y)
  finds (purpose.Enter x how) to g y e = either (is_pending to)
    where
      either : (b : Bool) → AreAt rights (if b then without_pending l g else g) l (if b then less_pending y
          else y)
      either true = changed rights l less_pending g y e
      either false = e
  finds (purpose.Release x) to g y e = either (is_waking to)
    where
      either : (b : Bool) → AreAt rights (if b then one_more_at l (wanted x) g else g) l (if b
          then with_right (wanted x) y else y)
      either true = changed rights l (with_right (wanted x)) g y e
      either false = e
  finds (purpose.Downgrade d) to g y e = either (is_waking to)
    where
      either : (b : Bool) → AreAt rights (if b then one_more_at l (wanted (from_of d))
          (one_less_at l (wanted (to_of d)) g) else g) l (if b then with_right (wanted (from_of d))
          (without_right (wanted (to_of d)) y) else y)
      either true = changed rights l (with_right (wanted (from_of d))) (one_less_at l (wanted (to_of d)) g) _
          (changed rights l (without_right (wanted (to_of d))) g y e)
      either false = e
  finds (purpose.Upgrade how) to g y e = either (is_pending to)
    where
      either : (b : Bool) → AreAt rights (if b then one_more_at l Upgradable (without_pending l g) else g) l
          (if b then with_right Upgradable (less_pending y) else y)
      either true = changed rights l (with_right Upgradable) (without_pending l g) _
          (changed rights l less_pending g y e)
      either false = e

-- ---------------------------------------------------------------- calls

-- a call that remembers other rights, which are the same
pub recalls : (c : CallState) (f : ℕ → Rights) → ((k : ℕ) → f k ≡ c.former k) → record c { former = f } ≡ c
recalls c f e = λ i. record c { former = λ k. e k i }

module _ (l t : ℕ) (s s2 : LockState) (q : RwLockPurpose) where
  -- the thread found what it had found
  pub goes : (to to2 : RwLockAt) (rights : ℕ → Rights) → rights l ≡ rights_of s t
      → found q to2 (rights_of s2 t) ≡ found q to (rights_of s t) → (k : ℕ)
      → before q to2 l (rights_where l s2 t rights) k ≡ before q to l rights k
  goes to to2 rights is e = agree rights l _ _ _ _ (finds rights l q to2 (rights_where l s2 t rights)
      (rights_of s2 t) (λ k. refl)) (finds rights l q to rights (rights_of s t)
      (unchanged rights l (rights_of s t) is)) e

  module _ (to : RwLockAt) (r : Rules) (v : LocksState) (rights : ℕ → Rights)
      (ruled : locks_rules v l ≡ r) (now : v.locks l ≡ s2) (is : rights l ≡ rights_of s t) (has : (k : ℕ)
      → rights_in v t k ≡ rights_where l s2 t rights k) where
    had : AreAt rights (before q to l rights) l (found q to (rights_of s t))
    had = finds rights l q to rights (rights_of s t) (unchanged rights l (rights_of s t) is)

    pub keeps : rights_of s2 t ≡ found q to (rights_of s t) → (k : ℕ) → rights_in v t k ≡ before q to l rights
        k
    keeps e = agree rights l _ _ _ _ has had e

    pub gains : (x : Want) → rights_of s2 t ≡ with_right x (found q to (rights_of s t)) → (k : ℕ)
        → rights_in v t k ≡ one_more_at l x (before q to l rights) k
    gains x e = agree rights l _ _ _ _ has (changed rights l (with_right x) (before q to l rights) _ had) e

    pub loses : (x : Want) → with_right x (rights_of s2 t) ≡ found q to (rights_of s t) → (k : ℕ)
        → one_more_at l x (rights_in v t) k ≡ before q to l rights k
    loses x e = agree rights l _ _ _ _ (changed rights l (with_right x) (rights_in v t) _ has) had e

    pub replaces : (x y : Want) → with_right x (rights_of s2 t) ≡ with_right y (found q to (rights_of s t))
        → (k : ℕ) → one_more_at l x (rights_in v t) k ≡ one_more_at l y (before q to l rights) k
    replaces x y e = agree rights l _ _ _ _ (changed rights l (with_right x) (rights_in v t) _ has)
        (changed rights l (with_right y) (before q to l rights) _ had) e

    module _ (c : CallState) (former : c.former ≡ before q to l rights) where
      -- the thread has entered, or turned one right into another
      pub enters : (x : Want) (how : Patience) → Owns s2 t x → rights_of s2 t ≡ with_right x
          (found q to (rights_of s t)) → EntersAnswer v t c l x how (entered how)
      enters x Patient own e = (subst (λ z. Owns z t x) (sym now) own, rw former (gains x e))
      enters x Timed own e = (subst (λ z. Owns z t x) (sym now) own, rw former (gains x e))
      enters x Try own e = (subst (λ z. Owns z t x) (sym now) own, rw former (gains x e))

      pub raises : (x y : Want) (how : Patience) → with_right x (rights_of s2 t) ≡ with_right y
          (found q to (rights_of s t)) → ConvertsAnswer v t c l x y how (entered how)
      raises x y Patient e = rw former (replaces x y e)
      raises x y Timed e = rw former (replaces x y e)
      raises x y Try e = rw former (replaces x y e)
