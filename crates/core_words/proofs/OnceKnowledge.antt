-- The views that know that a `Once` is done, by the steps on its word.
use Rattle.std.proofs.Common.{◌≡◌, ℕ, ◌/◌, ◌%◌, ◌<◌, List, [], ◌∷◌, ◌++◌, map, Bool, true, false, cond, eqb}
use Rattle.std.proofs.Common.{◌&&◌, ◌||◌, refl, sym, ap, ◌∙◌, subst, arith, eq-eqb}
use Rattle.std.proofs.lemmas.Bool.{false≢true}
use Rattle.core_base.specs.Words.{apply}
use Rattle.core_base.specs.declared.ops.Op.{Op}
use Rattle.core_words.specs.Views.{owned, owning}
use Rattle.core_words.specs.Codes.{witness}
use Rattle.core_words.specs.Steps.{CodesWith, has, is_this, once_trade, owns_after_step, without, without_all}
use Rattle.core_words.specs.Laws.{OnceIsKnown}
use Rattle.core_words.specs.declared.owners.Owner.TheVariants.{Runner, Witness}
use Rattle.core_words.specs.declared.owners.Ownership.{Ownership}
use Rattle.core_words.specs.declared.words.WordKind.TheVariants.{Once}
use Rattle.core_words.proofs.RwLockOwning.{has_first}
use Rattle.core_words.proofs.Trades.{owned_some, this_is}

either : (b c d : Bool) → (b || c) ≡ true → (c ≡ true → d ≡ true) → (b || d) ≡ true
either true c d e h = refl
either false c d e h = h e

one_more : (b c : Bool) → c ≡ true → (b || c) ≡ true
one_more true c e = refl
one_more false c e = e

has_more : (x : Ownership) (xs ys : List Ownership) → has x ys ≡ true → has x (xs ++ ys) ≡ true
has_more x [] ys e = e
has_more x (y ∷ xs) ys e = one_more (is_this y x) (has x (xs ++ ys)) (has_more x xs ys e)

module _ (at : ℕ) where
  abbrev known : List Ownership → Type 0
  known owns = has (owning at Witness) owns ≡ true

  abbrev run : Ownership
  run = owning at Runner

  runs_only : is_this run (owning at Witness) ≡ false
  runs_only = rw (eq-eqb at at refl) refl

  -- a thread that has run knows what it knew
  still : (owns : List Ownership) → known owns → known (without run owns)
  still [] e = absurd (false≢true e)
  still (y ∷ ys) e =
      let Goal : Bool → Type 0 = λ b. is_this y run ≡ b → known (cond b ys (y ∷ without run ys)) in
      let at_true : Goal true = λ is. subst (λ (b : Bool). (b || has (owning at Witness) ys) ≡ true)
      (ap (λ (z : Ownership). is_this z (owning at Witness)) (this_is y run is) ∙ runs_only) e in
      let at_false : Goal false = λ is. either (is_this y (owning at Witness)) (has (owning at Witness) ys)
      (has (owning at Witness) (without run ys)) e (still ys) in
      (elim (is_this y run) as Goal [ true ↦ at_true | false ↦ at_false ]) refl

  gives_it : (b : Bool) (owns : List Ownership) → known owns
      → known (without_all at (cond b (Runner ∷ []) []) owns)
  gives_it true owns e = still owns e
  gives_it false owns e = e

  keeps : (op : Op) (found : ℕ) (owns : List Ownership) → known owns
      → known (owns_after_step Once at op found owns)
  keeps op found owns e = has_more (owning at Witness)
      (map (owning at) (once_trade found (apply op found)).gets)
      (without_all at (once_trade found (apply op found)).gives owns)
      (gives_it _ owns e)

  learns : (op : Op) (found : ℕ) (owns : List Ownership) → apply op found ≡ 1
      → known (owns_after_step Once at op found owns)
  learns op found owns done = let left = without_all at (once_trade found (apply op found)).gives owns in
      subst (λ (b : Bool). known (map (owning at)
      (cond b (Witness ∷ []) (cond ((eqb (found / 4 % 2) 0) && (eqb (apply op found / 4 % 2) 1))
      (Runner ∷ []) [])) ++ left)) (sym (eq-eqb (apply op found) 1 done)) (has_first at Witness left)

  finds : (n : ℕ) (owns : List Ownership) → CodesWith Once at n owns → known owns → n ≡ 1
  finds n owns code e = let some : 0 < owned at witness owns = owned_some at Witness owns e witness
      (omega arith) in
      code.1.2 (omega (arith, code.2 witness))

pub once_known : OnceIsKnown
once_known at owns = record {
  learns = λ op found. learns at op found owns;
  keeps = λ op found. keeps at op found owns;
  finds = λ n. finds at n owns;
}
