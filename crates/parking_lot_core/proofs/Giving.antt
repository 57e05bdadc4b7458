-- The rights that are left to be given, place by place.
use Rattle.std.proofs.Common.{◌≡◌, ◌∙◌, ℕ, List, [], ◌∷◌, ◌<◌, ◌≤◌, ◌+◌, ◌==◌, Bool, true, false, cond, not}
use Rattle.std.proofs.Common.{drop, length, slice_index, slice_index_or, sym, refl, ap, subst, eq-eqb}
use Rattle.std.specs.List.{filter}
use Rattle.std.proofs.lemmas.List.{drop_more, drop_all}
use Rattle.core_base.specs.declared.wants.Want.{Want}
use Rattle.core_base.specs.declared.wants.Want.TheVariants.{Exclusive}
use Rattle.core_words.specs.Plays.{left_over}
use Rattle.core_words.specs.Rights.{named_by}
use Rattle.core_words.specs.Steps.{has}
use Rattle.core_words.specs.Views.{shown}
use Rattle.core_words.specs.declared.views.View.{View}
use Rattle.core_words.specs.declared.words.Word.{Word}
use Rattle.parking_lot_core.specs.Giving.{owner_given_at, HasEach, less_each}

-- without all of these
abbrev pub less : List ℕ → List ℕ → List ℕ
less [] xs = xs
less (t ∷ ts) xs = less ts (filter (λ x. not (x == t)) xs)

module _ (p q : ℕ → Bool) where
  -- for a first element and the rest, by whether each test passes it
  passes : Bool → Bool → ℕ → List ℕ → List ℕ
  passes a b x xs = cond a (cond b (x ∷ xs) xs) xs

  both_ways : (xs : List ℕ) → filter p (filter q xs) ≡ filter q (filter p xs)
  both_ways [] = refl
  both_ways (x ∷ xs) = by_case x xs (both_ways xs) (p x) refl (q x) refl
    where
      by_case : (x : ℕ) (xs : List ℕ) → filter p (filter q xs) ≡ filter q (filter p xs) → (a : Bool) → p x ≡ a
          → (b : Bool) → q x ≡ b → filter p (filter q (x ∷ xs)) ≡ filter q (filter p (x ∷ xs))
      by_case x xs rest true e true f = rw (f, e, f) (ap (λ (ys : List ℕ). x ∷ ys) rest)
      by_case x xs rest true e false f = rw (f, e, f) rest
      by_case x xs rest false e true f = rw (f, e) rest
      by_case x xs rest false e false f = rw (f, e) rest

less_filter : (p : ℕ → Bool) (ts xs : List ℕ) → less ts (filter p xs) ≡ filter p (less ts xs)
less_filter p [] xs = refl
less_filter p (t ∷ ts) xs = ap (less ts) (both_ways (λ x. not (x == t)) p xs)
    ∙ less_filter p ts (filter (λ x. not (x == t)) xs)

gone : (x : ℕ) (xs : List ℕ) → (x == x) ≡ true → filter (λ y. not (y == x)) (x ∷ xs) ≡ filter
    (λ y. not (y == x)) xs
gone x xs e = rw e refl

-- a list without all of its own is empty
pub none_left : (xs : List ℕ) → less xs xs ≡ []
none_left [] = refl
none_left (x ∷ xs) = ap (less xs) (gone x xs (eq-eqb x x refl)) ∙ less_filter (λ y. not (y == x)) xs xs
    ∙ ap (filter (λ y. not (y == x))) (none_left xs)

-- one is given a right, and those after it are left
pub less_given : (ts taken : List ℕ) → taken ≡ ts → (k : ℕ) → k < length ts → (xs ys : List ℕ)
    → ys ≡ filter (λ x. not (x == slice_index taken k)) xs → less (drop k ts) xs ≡ []
    → less (drop (k + 1) ts) ys ≡ []
less_given ts taken same k lt xs ys is e = ap (less (drop (k + 1) ts)) (is
    ∙ ap (λ (l : List ℕ). filter (λ x. not (x == slice_index l k)) xs) same)
    ∙ subst (λ (l : List ℕ). less l xs ≡ []) (drop_more ts k 0 lt) e

module _ (word : Word) (left : ℕ) (wants asked : List Want) (same : asked ≡ wants) (k : ℕ) (lt : k
    < length wants) (v : View) where
  next : drop k wants ≡ slice_index_or asked k Exclusive ∷ drop (k + 1) wants
  next = drop_more wants k Exclusive lt ∙ ap (λ (l : List Want). slice_index_or l k Exclusive
      ∷ drop (k + 1) wants) (sym same)

  -- the next right is there
  pub has_next : HasEach word left (drop k wants) v.owns
      → has (named_by word (owner_given_at word left asked k)) v.owns ≡ true
  has_next h = (subst (λ (l : List Want). HasEach word left l v.owns) next h).0

  -- A thread that gives a right keeps those after it.
  pub has_rest : (new : View) → new ≡ left_over (named_by word (owner_given_at word left asked k)) v
      → HasEach word left (drop k wants) v.owns → HasEach word left (drop (k + 1) wants) new.owns
  has_rest new e h = subst (λ (w : View). HasEach word left (drop (k + 1) wants) w.owns) (sym e)
      (subst (λ (l : List Want). HasEach word left l v.owns) next h).1

  pub same_rest : (new : View) → new ≡ left_over (named_by word (owner_given_at word left asked k)) v
      → less_each word left (drop (k + 1) wants) new ≡ less_each word left (drop k wants) v
  same_rest new e = ap (less_each word left (drop (k + 1) wants)) e
      ∙ sym (ap (λ (l : List Want). less_each word left l v) next)

-- none is left after the last
pub all_split : (word : Word) (left : ℕ) (wants : List Want) (k : ℕ) (v old : View) → length wants ≤ k
    → less_each word left (drop k wants) v ≡ less_each word left wants old
    → shown v ≡ less_each word left wants old
all_split word left wants k v old le e = ap (λ (l : List Want). less_each word left l v)
    (sym (drop_all k wants le)) ∙ e
