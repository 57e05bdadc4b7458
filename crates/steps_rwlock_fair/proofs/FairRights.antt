-- The rights that the call of a thread found, by those that it has now: in a fair release, in a
-- bump, and as it was handed the lock.
use Rattle.std.proofs.Common.{ℕ, Bool, true, false, Option, Some, None, List, [], ◌∷◌, if◌then◌else◌, ◌==◌}
use Rattle.std.proofs.Common.{◌≡◌, ◌≢◌, ◌+◌, refl, sym, ap, subst, ◌∙◌, arith}
use Rattle.std.specs.Prelude.{zero, suc, slice_index}
use Rattle.std.proofs.lemmas.Bool.Decides.{nat_tests}
use Rattle.core_base.specs.declared.wants.Want.{Want}
use Rattle.core_base.specs.declared.wants.Want.TheVariants.{Exclusive, Upgradable, Shared}
use Rattle.steps_base.specs.Calls.{rights_where}
use Rattle.spec_locks.specs.Locks.{LockState, Rules, Rights, Taken as TakenBy, Owns, IsSuccessor, IsTaken}
use Rattle.spec_locks.specs.Locks.{rights_of, with_right, without_owner, sharing_from, shares_handed}
use Rattle.spec_locks.specs.Locks.{sharing_handed, handed, with_successor, succeeding, with_owner}
use Rattle.spec_locks.specs.Locks.{pending_for, readers}
use Rattle.spec_locks.specs.Runs.{LocksState, rights_in, one_more_at}
use Rattle.spec_locks.proofs.Rights.{AreAt, unchanged, changed, agree, rights_by, left}
use Rattle.steps_base.specs.Moves.{heir_of}
use Rattle.steps_rwlock_fair.specs.declared.hand_over.Taken.{Taken}
use Rattle.steps_rwlock_fair.specs.FairProfiles.{before_release}
use Rattle.steps_rwlock_fair.specs.FairCalls.{HasInHand}
use Rattle.steps_rwlock_fair.proofs.HandOvers.{WantsMore, HasNoWriter}

-- tells what a release found at its lock
abbrev pub found : Bool → Want → Rights → Rights
found given x y = if given then with_right x y else y

module _ (rights : ℕ → Rights) (l : ℕ) where
  pub finds : (given : Bool) (x : Want) (g : ℕ → Rights) (y : Rights) → AreAt rights g l y
      → AreAt rights (before_release given x l g) l (found given x y)
  finds true x g y e = changed rights l (with_right x) g y e
  finds false x g y e = e

-- a right more, of rights that are the same
pub one_more_of : (l : ℕ) (x : Want) (f g : ℕ → Rights) → ((k : ℕ) → f k ≡ g k) → (k : ℕ)
    → one_more_at l x f k ≡ one_more_at l x g k
one_more_of l x f g e k = either (k == l)
  where
    either : (b : Bool) → (if b then with_right x (f l) else f k) ≡ (if b then with_right x (g l) else g k)
    either true = ap (with_right x) (e l)
    either false = e k

module _ (l t : ℕ) (s s2 : LockState) (x : Want) where
  -- a release goes on, and found what it had found
  pub goes : (was is : Bool) (rights : ℕ → Rights) → rights l ≡ rights_of s t → found is x (rights_of s2 t)
      ≡ found was x (rights_of s t)
      → (k : ℕ) → before_release is x l (rights_where l s2 t rights) k ≡ before_release was x l rights k
  goes was is rights here e = agree rights l _ _ _ _ (finds rights l is x (rights_where l s2 t rights)
      (rights_of s2 t) (λ k. refl)) (finds rights l was x rights (rights_of s t)
      (unchanged rights l (rights_of s t) here)) e

  module _ (was : Bool) (v : LocksState) (rights : ℕ → Rights) (here : rights l ≡ rights_of s t)
      (has : (k : ℕ) → rights_in v t k ≡ rights_where l s2 t rights k) where
    had : AreAt rights (before_release was x l rights) l (found was x (rights_of s t))
    had = finds rights l was x rights (rights_of s t) (unchanged rights l (rights_of s t) here)

    pub keeps : rights_of s2 t ≡ found was x (rights_of s t) → (k : ℕ) → rights_in v t k ≡ before_release was
        x l rights k
    keeps e = agree rights l _ _ _ _ has had e

    pub loses : with_right x (rights_of s2 t) ≡ found was x (rights_of s t) → (k : ℕ)
        → one_more_at l x (rights_in v t) k ≡ before_release was x l rights k
    loses e = agree rights l _ _ _ _ (changed rights l (with_right x) (rights_in v t) _ has) had e

-- ---------------------------------------------------------------- the giver after a hand-over

-- a thread that isn't in hand shares as it did
shares_same : (t u i : ℕ) (taken : ℕ → Option TakenBy) (ns : List ℕ) → taken (i + u) ≡ None
    → slice_index (sharing_from t taken i ns) u ≡ slice_index ns u
shares_same t u i taken [] e = refl
shares_same t zero i taken (n ∷ ns) e = let z : shares_handed t (taken i) ≡ 0 =
    (let f : taken i ≡ None = subst (λ k. taken k ≡ None) (omega arith) e in ap (shares_handed t) f)
    in omega arith
shares_same t (suc u) i taken (n ∷ ns) e = shares_same t u (i + 1) taken ns
    (subst (λ k. taken k ≡ None) (omega arith) e)

pub rights_are : (a b c d e f g h : ℕ) → a ≡ e → b ≡ f → c ≡ g → d ≡ h → rights_by a b c d ≡ rights_by e f g h
rights_are a b c d e f g h p q r s = λ i. rights_by (p i) (q i) (r i) (s i)

module _ (s : LockState) (t : ℕ) (free : s.taken t ≡ None) where
  free_at : s.taken (0 + t) ≡ None
  free_at = subst (λ (k : ℕ). s.taken k ≡ None) (omega arith) free

  -- a lock without its right, and shared by those in hand
  shared_out : (x : Want) → x ≢ Shared → rights_of (sharing_handed t (without_owner t x s)) t
      ≡ rights_of (without_owner t x s) t
  shared_out Exclusive more = rights_are _ _ _ _ _ _ _ _ refl refl refl (shares_same t t 0 s.taken s.shared
      free_at)
  shared_out Upgradable more = rights_are _ _ _ _ _ _ _ _ refl refl refl (shares_same t t 0 s.taken s.shared
      free_at)
  shared_out Shared more = absurd (more refl)
  shared_out x more = rights_are _ _ _ _ _ _ _ _ refl refl refl (shares_same t t 0 s.taken s.shared free_at)

  is_other : (u : ℕ) (y : Want) → IsTaken s t u y → u ≢ t
  is_other u y mine e = let f : ◌≡◌ {A = Option TakenBy} None (Some (record { by = t; want = y })) = sym free
      ∙ subst (λ k. s.taken k ≡ Some (record { by = t; want = y })) e mine in cc

-- another that succeeds leaves its rights
module _ (base : LockState) (none : HasNoWriter base) (t u : ℕ) (other : u ≢ t) where
  writes_else : (b : Bool) → rights_of (if b then with_owner u Exclusive base else pending_for u false base) t
      ≡ rights_of base t
  writes_else true = let e = none.exclusive in rights_are _ _ _ _ _ _ _ _ (grind (arith, nat_tests)) refl refl
      refl
  writes_else false = let e = none.pending in rights_are _ _ _ _ _ _ _ _ refl (grind (arith, nat_tests)) refl
      refl

  succeeds_else : (y : Want) → WantsMore (Some y) → rights_of (succeeding y u base) t ≡ rights_of base t
  succeeds_else Exclusive more = writes_else (readers base == 0)
  succeeds_else Upgradable more = let e = none.upgradable in rights_are _ _ _ _ _ _ _ _ refl refl
      (grind (arith, nat_tests)) refl
  succeeds_else y more = absurd more

module _ (r : Rules) (s : LockState) (t : ℕ) (free : s.taken t ≡ None) (k : Taken) (whom : Option ℕ)
    (hand : HasInHand s t k whom) (wants : WantsMore k.successor) where
  succeeds_by : (base : LockState) → HasNoWriter base → (y : Option Want) (w : Option ℕ) → WantsMore y
      → IsSuccessor s t (heir_of w y) → rights_of (with_successor (heir_of w y) base) t ≡ rights_of base t
  succeeds_by base none None None more is = refl
  succeeds_by base none None (Some u) more is = refl
  succeeds_by base none (Some y) None more is = refl
  succeeds_by base none (Some y) (Some u) more is = succeeds_else base none t u
      (is_other s t free u y ((is u y).0 refl).0) y more

  -- the giver has its right no longer, and what else it had
  pub gave : (x : Want) → x ≢ Shared → Owns s t x → HasNoWriter (sharing_handed t (without_owner t x s))
      → with_right x (rights_of (handed t x (heir_of whom k.successor) s) t) ≡ rights_of s t
  gave x more own none = ap (with_right x) (succeeds_by (sharing_handed t (without_owner t x s)) none
      k.successor whom wants hand.successor ∙ shared_out s t free x more) ∙ left s t x own
