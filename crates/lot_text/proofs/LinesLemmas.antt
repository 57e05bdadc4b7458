-- The lines of an input that is read in parts.
use Rattle.std.proofs.Common.{◌≡◌, ◌≢◌, ℕ, ◌<◌, ◌≤◌, zero, suc, ◌==◌, Bool, true, false, cond, List, [], ◌∷◌}
use Rattle.std.proofs.Common.{◌++◌, Option, None, Some, IfSome, Result, Ok, Err, IsOk, is_err, ◌↔◌, take-take}
use Rattle.std.proofs.Common.{take-append-drop, inl, inr, slice_index, ◌+◌, take, drop, length, refl, sym, ap}
use Rattle.std.proofs.Common.{◌∙◌, arith, append_assoc, append-nil, length-append, ne_eqb}
use Rattle.std.proofs.lemmas.List.Elements.{All-head, All-tail}
use Rattle.std.proofs.lemmas.Bool.{cases_lt}
use Rattle.std.proofs.Math.Seq.{take-add, drop-cons}
use Rattle.std.specs.List.{onto_first}
use Rattle.std.specs.Io.{StartsWith}
use Rattle.std.specs.Io.KnownBytes.{Consumes, Keeps, IsAtEnd}
use Rattle.lot_text.specs.Lines.{line_len, lines_of}
use Rattle.lot_text.specs.Reads.{IsOneLine, TakesLine, StartsTooLong}

-- a line in front of its line feed
pub lines_feed : (part rest : List ℕ) → IsOneLine part → lines_of (part ++ 10 ∷ rest) ≡ part ∷ lines_of rest
lines_feed [] rest h = refl
lines_feed (b ∷ part) rest h =
    ap (λ t. cond t ([] ∷ lines_of (part ++ 10 ∷ rest)) (onto_first b (lines_of (part ++ 10 ∷ rest))))
    (ne_eqb b 10 (All-head (λ y. y ≢ 10) b part h))
    ∙ ap (onto_first b) (lines_feed part rest (All-tail (λ y. y ≢ 10) b part h))

-- the last line may lack it
pub lines_last : (b : ℕ) (part : List ℕ) → IsOneLine (b ∷ part) → lines_of (b ∷ part) ≡ (b ∷ part) ∷ []
lines_last b [] h =
    ap (λ t. cond t ([] ∷ []) ((b ∷ []) ∷ [])) (ne_eqb b 10 (All-head (λ y. y ≢ 10) b [] h))
lines_last b (c ∷ part) h =
    ap (λ t. cond t ([] ∷ lines_of (c ∷ part)) (onto_first b (lines_of (c ∷ part))))
    (ne_eqb b 10 (All-head (λ y. y ≢ 10) b (c ∷ part) h))
    ∙ ap (onto_first b) (lines_last c part (All-tail (λ y. y ≢ 10) b (c ∷ part) h))

-- tells what begins the first line, which isn't empty
pub record FirstLine (xs part : List ℕ) : Type 0 where
  pub more : List ℕ
  pub lines : List (List ℕ)
  pub is : lines_of xs ≡ (part ++ more) ∷ lines

lines_ahead : (b : ℕ) (xs : List ℕ) → b ≢ 10 → FirstLine (b ∷ xs) (b ∷ [])
lines_ahead b xs h = go (lines_of xs) refl
  where
    go : (ls : List (List ℕ)) → lines_of xs ≡ ls → FirstLine (b ∷ xs) (b ∷ [])
    go [] e = record {
      more = [];
      lines = [];
      is = ap (λ t. cond t ([] ∷ lines_of xs) (onto_first b (lines_of xs))) (ne_eqb b 10 h)
          ∙ ap (onto_first b) e;
    }
    go (l ∷ ls) e = record {
      more = l;
      lines = ls;
      is = ap (λ t. cond t ([] ∷ lines_of xs) (onto_first b (lines_of xs))) (ne_eqb b 10 h)
          ∙ ap (onto_first b) e;
    }

pub lines_begin : (b : ℕ) (part rest : List ℕ) → IsOneLine (b ∷ part) → FirstLine ((b ∷ part) ++ rest)
    (b ∷ part)
lines_begin b [] rest h = lines_ahead b rest (All-head (λ y. y ≢ 10) b [] h)
lines_begin b (c ∷ part) rest h =
    let r = lines_begin c part rest (All-tail (λ y. y ≢ 10) b (c ∷ part) h) in
    record {
      more = r.more;
      lines = r.lines;
      is = ap (λ t. cond t ([] ∷ lines_of ((c ∷ part) ++ rest))
          (onto_first b (lines_of ((c ∷ part) ++ rest))))
          (ne_eqb b 10 (All-head (λ y. y ≢ 10) b (c ∷ part) h)) ∙ ap (onto_first b) r.is;
    }

-- two takes of a line are one, where the bytes may be unknown
pub takes_fed : (a b c : Option (List ℕ)) (line part : List ℕ) → Consumes a b line
    → Consumes b c (part ++ 10 ∷ []) → IsOneLine (line ++ part) → TakesLine a c (line ++ part)
takes_fed None b c line part p q h = tt
takes_fed (Some x) None c line part p q h = absurd p
takes_fed (Some x) (Some y) None line part p q h = absurd q
takes_fed (Some x) (Some y) (Some z) line part p q h =
    ap lines_of (p ∙ ap (λ l. line ++ l) (q ∙ append_assoc part (10 ∷ []) z)
    ∙ sym (append_assoc line part (10 ∷ z))) ∙ lines_feed (line ++ part) z h

pub takes_last : (a b c : Option (List ℕ)) (line : List ℕ) → Consumes a b line → IsAtEnd b → Keeps b c
    → IsOneLine line → 0 < length line → TakesLine a c line
takes_last None b c line p e q h some = tt
takes_last (Some x) None c line p e q h some = absurd p
takes_last (Some x) (Some y) None line p e q h some = absurd q
takes_last (Some x) (Some y) (Some z) [] p e q h some = absurd (omega arith)
takes_last (Some x) (Some y) (Some z) (d ∷ line) p e q h some =
    ap lines_of (p ∙ ap (λ l. (d ∷ line) ++ l) e ∙ append-nil (d ∷ line)) ∙ lines_last d line h
    ∙ ap (λ l. (d ∷ line) ∷ lines_of l) (sym (q ∙ e))

pub too_long : (a b : Option (List ℕ)) (line : List ℕ) → Consumes a b line → IsOneLine line → line_len
    < length line → StartsTooLong a
too_long None b line p h long = tt
too_long (Some x) None line p h long = absurd p
too_long (Some x) (Some y) [] p h long = absurd (omega arith)
too_long (Some x) (Some y) (d ∷ line) p h long =
    let r = lines_begin d line y h in
    ((d ∷ line) ++ r.more, r.lines, omega (arith, length-append (d ∷ line) r.more), ap lines_of p ∙ r.is)

-- the bytes that the reader showed could be consumed
pub shown_front : (a : Option (List ℕ)) (shown : List ℕ) (n : ℕ) → n ≤ length shown
    → IfSome a (λ xs. StartsWith xs shown) → (rest : Option (List ℕ)) × Consumes a rest (take n shown)
shown_front None shown n within front = (None, tt)
shown_front (Some x) shown n within front = (
  Some (drop n x),
  sym (take-append-drop n x) ∙ ap (λ l. l ++ drop n x)
      (sym (take-take n (length shown) x within) ∙ ap (take n) front),
)

pub line_front : (x shown : List ℕ) (n : ℕ) → n < length shown → slice_index shown n ≡ 10 → StartsWith x shown
    → x ≡ (take n shown ++ 10 ∷ []) ++ drop (n + 1) x
line_front x shown n within feed front =
    let first : take (n + 1) shown ≡ take n shown ++ 10 ∷ [] = take-add n 1 shown
    ∙ ap (λ l. take n shown ++ take 1 l) (drop-cons shown n 0 within) ∙ ap (λ b. take n shown ++ b ∷ [])
    feed in
    sym (take-append-drop (n + 1) x) ∙ ap (λ l. l ++ drop (n + 1) x)
    (sym (take-take (n + 1) (length shown) x (omega (arith, within))) ∙ ap (take (n + 1)) front ∙ first)

-- a reader may be told to consume what it showed
pub may_consume : (a : Option (List ℕ)) (k : Option ℕ) (shown : List ℕ) (n : ℕ) → n < length shown
    → IfSome a (λ _. IfSome k (λ m. length shown ≤ m)) → IfSome a (λ _. IfSome k (λ m. n + 1 ≤ m))
may_consume None k shown n within h = tt
may_consume (Some x) None shown n within h = tt
may_consume (Some x) (Some m) shown n within h = omega arith

-- the bytes that the reader showed up to a line feed are consumed with it
pub shown_line : (a b c : Option (List ℕ)) (shown : List ℕ) (n : ℕ) (P : Type 0) → n < length shown
    → slice_index shown n ≡ 10 → IfSome a (λ xs. StartsWith xs shown) → Keeps a b
    → IfSome a (λ _. P) → IfSome b (λ xs. P → c ≡ Some (drop (n + 1) xs))
    → Consumes a c (take n shown ++ 10 ∷ [])
shown_line None b c shown n P within feed front kept may consumed = tt
shown_line (Some x) None c shown n P within feed front kept may consumed = absurd kept
shown_line (Some x) (Some y) c shown n P within feed front kept may consumed =
    rw (consumed may) (rw kept (line_front x shown n within feed front))

-- a push that is refused had no room
err_not_ok : (T E : Type 0) (x : E) → IsOk {T = T} {E = E} (Err x) → ⊥
err_not_ok T E x h = cc

pub no_room : (T E : Type 0) (r : Result T E) (n m : ℕ) → (IsOk r ↔ (n ≤ m)) → is_err r ≡ true → m < n
no_room T E (Ok x) n m h e = cc
no_room T E (Err x) n m h e = elim (cases_lt m n) [
  | inl lt ↦ lt
  | inr le ↦
      absurd (err_not_ok T E x (h.1 le))
]

pub some_from_test : (n : ℕ) (b : Bool) → b ≡ (n == 0) → b ≡ false → 0 < n
some_from_test zero b e f = cc
some_from_test (suc n) b e f = omega arith
