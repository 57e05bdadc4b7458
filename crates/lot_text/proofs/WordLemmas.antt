-- Two texts, byte by byte.
use Rattle.std.proofs.Common.{◌≡◌, ◌≢◌, ℕ, ◌<◌, Bool, true, false, List, take, length, get_or, refl, sym, ap}
use Rattle.std.proofs.Common.{◌∙◌, arith, take_all}
use Rattle.std.specs.Str.{bytes_eq}
use Rattle.std.proofs.lemmas.List.{get_or-take}
use Rattle.std.proofs.lemmas.Slice.Eq.{bytes_eq-Decides}

-- whether a text begins with another
abbrev begins : List ℕ → List ℕ → Bool
begins text front = bytes_eq (take (length front) text) front

begins_not : (text front : List ℕ) → (take (length front) text ≡ front → ⊥) → false ≡ begins text front
begins_not text front h = go (begins text front) refl
  where
    go : (b : Bool) → begins text front ≡ b → false ≡ b
    go true e = absurd (h ((bytes_eq-Decides (take (length front) text) front).0 e))
    go false e = refl

-- one with another byte doesn't
pub begins_other : (text front : List ℕ) (at : ℕ) → at < length front → get_or text at 0 ≢ get_or front at 0
    → false ≡ begins text front
begins_other text front at within other =
    begins_not text front (λ e. other (sym (get_or-take (length front) text at 0 within)
    ∙ ap (λ l. get_or l at 0) e))

pub begins_all : (text front : List ℕ) (at : ℕ) → at ≡ length front → take at text ≡ take at front
    → true ≡ begins text front
begins_all text front at e h =
    sym ((bytes_eq-Decides (take (length front) text) front).1 (ap (λ n. take n text) (sym e) ∙ h
    ∙ take_all at front (omega (arith, e))))
