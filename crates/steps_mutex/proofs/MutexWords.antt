-- The word of a mutex tells a thread the truth, and each operation leaves the word that its deeds
-- say.
use Rattle.std.proofs.Common.{ℕ, Bool, true, false, Option, Some, None, ◌==◌, ◌≡◌, ◌≢◌, ◌+◌, ◌*◌, List, []}
use Rattle.std.proofs.Common.{◌∷◌, refl, ap, ◌∙◌}
use Rattle.std.specs.Prelude.{drop}
use Rattle.core_base.specs.declared.ops.Op.TheVariants as op
use Rattle.core_base.specs.declared.wants.Want.{Want}
use Rattle.core_base.specs.declared.wants.Want.TheVariants.{Exclusive}
use Rattle.core_base.specs.Words.{apply}
use Rattle.spec_locks.specs.Codes.{bit, code, code_of}
use Rattle.spec_locks.specs.Locks.{Knows, KnowsAll, Mutex, Queued, Rules, first_thread, one_if_some}
use Rattle.spec_locks.specs.Sites.{Site}
use Rattle.steps_mutex.specs.declared.places.TheConstants.{NOT_PARKED}
use Rattle.steps_mutex.specs.MutexDeeds.{queued}
use Rattle.steps_mutex.specs.MutexSteps.{is_locked, is_parked}

-- the word, by its bit and its owner
abbrev pub word_of : Bool → Option ℕ → ℕ
word_of parked o = one_if_some o + 2 * bit parked

pub coded : (r : Rules) (s : Site) → r.sort ≡ Mutex → code r s ≡ word_of s.parked s.lock.exclusive
coded r s sort = ap (λ x. code_of x r.limit s) sort

-- ---------------------------------------------------------------- the values read

pub parked_is : (p : Bool) (o : Option ℕ) → is_parked (word_of p o) ≡ p
parked_is true None = refl
parked_is true (Some u) = refl
parked_is false None = refl
parked_is false (Some u) = refl

pub zero_free : (p : Bool) (o : Option ℕ) → (word_of p o == 0) ≡ true → o ≡ None
zero_free p None e = refl
zero_free true (Some u) e = absurd cc
zero_free false (Some u) e = absurd cc

pub unlocked_free : (p : Bool) (o : Option ℕ) → is_locked (word_of p o) ≡ false → o ≡ None
unlocked_free p None e = refl
unlocked_free true (Some u) e = absurd cc
unlocked_free false (Some u) e = absurd cc

pub locked_owned : (p : Bool) (o : Option ℕ) → is_locked (word_of p o) ≡ true → o ≢ None
locked_owned true None e = absurd cc
locked_owned false None e = absurd cc
locked_owned p (Some u) e = λ f. cc

-- owned, and nobody is told of
pub one : (p : Bool) (o : Option ℕ) → (word_of p o == 1) ≡ true → p ≡ false
one false o e = refl
one true None e = absurd cc
one true (Some u) e = absurd cc

-- owned, and somebody may be parked
pub three : (p : Bool) (o : Option ℕ) → (word_of p o == 3) ≡ true → (o ≢ None) × (p ≡ true)
three true None e = absurd cc
three false None e = absurd cc
three true (Some u) e = ((λ f. cc), refl)
three false (Some u) e = absurd cc

-- ---------------------------------------------------------------- the values that operations leave

pub cleared : (p : Bool) (o : Option ℕ) → apply (op.And NOT_PARKED) (word_of p o) ≡ word_of false o
cleared true None = refl
cleared true (Some u) = refl
cleared false None = refl
cleared false (Some u) = refl

pub less_one : (p : Bool) (u : ℕ) → apply (op.Sub 1) (word_of p (Some u)) ≡ word_of p None
less_one true u = refl
less_one false u = refl

pub entered_zero : (p : Bool) (o : Option ℕ) (t : ℕ) → (word_of p o == 0) ≡ true → 1 ≡ word_of p (Some t)
entered_zero false None t e = refl
entered_zero true None t e = absurd cc
entered_zero true (Some u) t e = absurd cc
entered_zero false (Some u) t e = absurd cc

pub entered_free : (p : Bool) (o : Option ℕ) (t : ℕ) → is_locked (word_of p o) ≡ false → word_of p o + 1
    ≡ word_of p (Some t)
entered_free true None t e = refl
entered_free false None t e = refl
entered_free true (Some u) t e = absurd cc
entered_free false (Some u) t e = absurd cc

pub owned_word : (p : Bool) (o : Option ℕ) → is_locked (word_of p o) ≡ true → 3 ≡ word_of true o
owned_word p (Some u) e = refl
owned_word true None e = absurd cc
owned_word false None e = absurd cc

pub tried_free : (p : Bool) (o : Option ℕ) (t : ℕ) → is_locked (word_of p o) ≡ false
    → apply (op.Or 1) (word_of p o) ≡ word_of p (Some t)
tried_free true None t e = refl
tried_free false None t e = refl
tried_free true (Some u) t e = absurd cc
tried_free false (Some u) t e = absurd cc

pub tried_owned : (p : Bool) (o : Option ℕ) → is_locked (word_of p o) ≡ true → apply (op.Or 1) (word_of p o)
    ≡ word_of p o
tried_owned true (Some u) e = refl
tried_owned false (Some u) e = refl
tried_owned true None e = absurd cc
tried_owned false None e = absurd cc

-- ---------------------------------------------------------------- the first waiter

exclusive_wanted : (x : Queued) → Knows Mutex x.want → x ≡ queued x.thread
exclusive_wanted x k = λ i. record { thread = x.thread; want = wanted x.want k i }
  where
    wanted : (w : Want) → Knows Mutex w → w ≡ Exclusive
    wanted Exclusive k = refl
    wanted w k = absurd k

pub first_is : (q : List Queued) (u : ℕ) → KnowsAll Mutex q → first_thread q ≡ Some u → q ≡ queued u
    ∷ drop 1 q
first_is [] u k e = absurd cc
first_is (x ∷ q) u k e = let same : x.thread ≡ u = cc in ap (λ y. y ∷ q) (exclusive_wanted x k.0
    ∙ ap queued same)
