-- The lot's own rule excludes each thread that owns the word of a reader-writer lock alone from each thread
-- that owns it.
use Rattle.std.proofs.Common.{◌≡◌, ⊎_elim, ℕ, zero, suc, ◌+◌, ◌<◌, ◌≤◌, List, [], ◌∷◌, refl, sym, ap, arith}
use Rattle.std.proofs.Common.{cond, eqb, eq-eqb, inl, inr, subst, ◌∙◌}
use mathlib.Core.Option.{some, some-injective, some-ne-none}
use lib.ListN.{get_elem?}
use Rattle.core_words.specs.Views.{total, owned, owning}
use Rattle.core_words.specs.Plays.{piece}
use Rattle.core_words.specs.declared.owners.Owner.TheVariants.{Exclusive, Shared, Upgradable}
use Rattle.core_words.specs.Codes.{exclusive, shared, upgradable}
use Rattle.core_words.specs.Indices.{word_index}
use Rattle.core_words.specs.Rule.{LotRule}
use Rattle.core_words.specs.declared.views.View.{View}
use Rattle.core_words.specs.declared.words.WordKind.{WordKind}
use Rattle.core_words.specs.declared.words.WordKind.TheVariants.{RwLock}
use Rattle.lock_values.specs.Ownership.{Excluded}
use Rattle.lock_values.specs.Owning.{alone, among}

module _ {A : Type 0} (f : A → ℕ) where
  term_le : (xs : List A) (j : ℕ) (v : A) → get_elem? xs j ≡ some v → f v ≤ total f xs
  term_le [] j v e = absurd (some-ne-none v (sym e))
  term_le (x ∷ xs) zero v e = omega (arith, ap f (some-injective x v e))
  term_le (x ∷ xs) (suc j) v e = omega (arith, term_le xs j v e)

  terms_le : (xs : List A) (i j : ℕ) (v w : A) → (i ≡ j → ⊥) → get_elem? xs i ≡ some v → get_elem? xs j
      ≡ some w → f v + f w ≤ total f xs
  terms_le [] i j v w ne a b = absurd (some-ne-none v (sym a))
  terms_le (x ∷ xs) zero zero v w ne a b = absurd (ne refl)
  terms_le (x ∷ xs) zero (suc j) v w ne a b = omega (arith, ap f (some-injective x v a), term_le xs j w b)
  terms_le (x ∷ xs) (suc i) zero v w ne a b = omega (arith, ap f (some-injective x w b), term_le xs i v a)
  terms_le (x ∷ xs) (suc i) (suc j) v w ne a b = omega (arith, terms_le xs i j v w (λ e. ne (ap suc e)) a b)

pub lot_excluded : (words family number : ℕ) → number < words → Excluded (LotRule words family)
    (alone (word_index number RwLock)) (among (word_index number RwLock))
lot_excluded words family number below s o i j v w ne a b mine theirs = let at : ℕ = word_index number RwLock
    in let code = o.coded number RwLock below in
    let few = code.1 in let x : View → ℕ = λ (u : View). owned at exclusive u.owns in let r : View
    → ℕ = λ (u : View). owned at shared u.owns in let g : View → ℕ = λ (u : View). owned at upgradable
    u.owns in
    let there = term_le x s.views i v a in
    ⊎_elim
    (λ too. absurd (omega (arith, terms_le x s.views i j v w ne a b)))
    (λ reads. ⊎_elim
    (λ one. let none' = code.2 (omega arith) in absurd (omega (arith, term_le r s.views j w b)))
    (λ one. absurd (omega (arith, term_le g s.views j w b)))
    reads)
    theirs

-- a seat split off for a right owns so
same_index : (at a : ℕ) → cond (eqb at at) a 0 ≡ a
same_index at a = ap (λ b. cond b a 0) (eq-eqb at at refl)

pub exclusive_owns : (at : ℕ) → alone at (piece (owning at Exclusive))
exclusive_owns at = omega (arith, same_index at 1)

pub shared_owns : (at : ℕ) → among at (piece (owning at Shared))
shared_owns at = inl (omega (arith, same_index at 1))

pub upgradable_owns : (at : ℕ) → among at (piece (owning at Upgradable))
upgradable_owns at = inr (omega (arith, same_index at 1))

-- an exclusive owner of a reader-writer lock has no other beside it, as the words of a lot say
pub excluded_at : (key words family number at : ℕ) (kind : WordKind) → key ≡ words → number < words
    → kind ≡ RwLock → at ≡ word_index number kind → Excluded (LotRule key family) (alone at) (among at)
excluded_at key words family number at kind same below is here =
    subst (λ (a : ℕ). Excluded (LotRule key family) (alone a) (among a))
    (sym (here ∙ ap (word_index number) is))
    (lot_excluded key family number (subst (λ n. number < n) (sym same) below))
