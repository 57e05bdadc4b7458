-- Looks at the counter, one after another.
use Rattle.std.proofs.Common.{◌≡◌, ◌≢◌, ℕ, zero, suc, ◌+◌, ◌<◌, ◌≤◌, List, [], ◌∷◌, ◌++◌, All, length, refl}
use Rattle.std.proofs.Common.{ap, ◌∙◌, arith, append_assoc, length-append, cond, ne_eqb}
use Rattle.std.proofs.lemmas.List.Elements.{All-append}
use Rattle.core_base.specs.declared.ops.Op.TheVariants.{Load, Exchange}
use Rattle.core_words.specs.Indices.{counter}
use Rattle.core_words.specs.Draws.{IsLook, Looked}
use Rattle.core_words.specs.declared.views.WordStep.{WordStep}

-- looks that found ever greater values, the last of them this one
abbrev pub Looking : List WordStep → List WordStep → ℕ → ℕ → Type 0
Looking old new seen words = (more : List WordStep) × (new ≡ old ++ more) × All IsLook more
    × (length more ≤ seen + 1) × (length more ≤ words + 1)

one : (step : WordStep) → IsLook step → All IsLook (step ∷ [])
one step h zero d near = h
one step h (suc k) d near = absurd (omega arith)

pub first_look : (old new : List WordStep) (seen words : ℕ) → new ≡ old ++ record {
  at = counter;
  op = Load;
  seen = seen;
} ∷ [] → Looking old new seen words
first_look old new seen words e = (
  record {
    at = counter;
    op = Load;
    seen = seen;
  } ∷ [],
  e,
  one (record { at = counter; op = Load; seen = seen }) (refl, refl),
  omega arith,
  omega arith,
)

pub next_look : (old mid new : List WordStep) (seen found words next : ℕ) → Looking old mid seen words
    → seen < found → seen < words → found ≢ seen
    → new ≡ mid ++ record {
      at = counter;
      op = Exchange seen next;
      seen = found;
    } ∷ [] → Looking old new found words
next_look old mid new seen found words next l up room ne e = let last : List WordStep = record {
  at = counter;
  op = Exchange seen next;
  seen = found;
} ∷ [] in
    let len = length-append l.0 last in let l₃ = l.3 in (
      l.0 ++ last,
      e ∙ ap (λ (xs : List WordStep). xs ++ last) l.1 ∙ append_assoc old l.0 last,
      All-append IsLook l.0 last l.2 (one (record {
        at = counter;
        op = Exchange seen next;
        seen = found;
      }) (refl, ap (λ b. cond b next found) (ne_eqb found seen ne))),
      omega arith,
      omega arith,
    )

pub Looked-from : (old new : List WordStep) (seen words : ℕ) → Looking old new seen words
    → Looked old new (words + 1)
Looked-from old new seen words l = (l.0, l.1, l.2, l.4)
