use Rattle.std.proofs.Common.{ℕ, List, [], ◌∷◌, ◌++◌, ◌≡◌, ◌+◌, ◌<◌, suc, zero, length, take, slice_index}
use Rattle.std.proofs.Common.{sym, ap, ◌∙◌, append_assoc, append-nil, add-one, arith}
use Rattle.picture_svg.specs.Escapes.{escaped, escaped_byte}

escaped_suc : (xs : List ℕ) (k : ℕ) → k < length xs → escaped (take (suc k) xs) ≡ escaped (take k xs)
    ++ escaped_byte (slice_index xs k)
escaped_suc [] k h = absurd (omega (arith, h))
escaped_suc (x ∷ xs) zero h = append-nil (escaped_byte x)
escaped_suc (x ∷ xs) (suc k) h = ap (λ l. escaped_byte x ++ l) (escaped_suc xs k (omega (arith, h)))
    ∙ sym (append_assoc (escaped_byte x) (escaped (take k xs)) (escaped_byte (slice_index xs k)))

-- one byte more
pub escaped_next : (xs : List ℕ) (k : ℕ) → k < length xs → escaped (take (k + 1) xs) ≡ escaped (take k xs)
    ++ escaped_byte (slice_index xs k)
escaped_next xs k h = rw (add-one k) (escaped_suc xs k h)
