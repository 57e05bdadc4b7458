-- The word of the only argument.
use Rattle.std.proofs.Common.{◌≡◌, ℕ, ◌<◌, ◌≤◌, Bool, List, [], ◌∷◌, length, get_or, sym, ap, ◌∙◌, arith}
use Rattle.std.specs.Prelude.{IsTrue}
use Rattle.std.specs.Str.{bytes_eq}
use Rattle.std.proofs.lemmas.Slice.Eq.{bytes_eq-Decides}
use denote.Ref.{Bor}
use Rattle.lot_replay.specs.Start.{texts_of}

heads_same : (u v : List ℕ) → ◌≡◌ {A = List (List ℕ)} (u ∷ []) (v ∷ []) → u ≡ v
heads_same u v e = cc

pub one_word : (args : List (Bor (List ℕ))) (d : Bor (List ℕ)) (job : List ℕ) (b : Bool) → 1 ≤ length args
    → length args < 2 → b ≡ bytes_eq (get_or args 0 d).now job
    → (IsTrue b → texts_of args ≡ job ∷ []) × (texts_of args ≡ job ∷ [] → IsTrue b)
one_word [] d job b some few e = absurd (omega arith)
one_word (a ∷ []) d job b some few e = (
  λ t. ap (λ w. w ∷ []) ((bytes_eq-Decides a.now job).0 (sym e ∙ t)),
  λ w. e ∙ (bytes_eq-Decides a.now job).1 (heads_same a.now job w),
)
one_word (a ∷ x ∷ rest) d job b some few e = absurd (omega arith)
