-- A name in its 16 bytes.
use Rattle.std.proofs.Common.{◌≡◌, ℕ, ◌-◌, ◌+◌, set, append_assoc, Option, ◌<◌, Bool, true, false, cond, zero}
use Rattle.std.proofs.Common.{suc, List, [], ◌∷◌, ◌++◌, Some, None, length, get_or, refl, sym, ap, subst}
use Rattle.std.proofs.Common.{length-take-le, ◌∙◌, take, arith, ◌≤◌, ◌≢◌, ne_eqb, eq-eqb}
use Rattle.std.specs.Prelude.{◌&&◌, ◌||◌, ◌==◌, not, replicate, nat_lt}
use Rattle.std.specs.List.{take_while, list_all}
use Rattle.std.specs.Str.{bytes_eq}
use Rattle.std.proofs.lemmas.List.{ext_get_or, set_at, take_more}
use Rattle.std.proofs.lemmas.List.Folds.{list_all_more}
use Rattle.std.proofs.lemmas.List.Sums.{take_while-cons, position_or_len_is}
use Rattle.std.proofs.lemmas.Slice.Eq.{bytes_eq-Decides}
use Rattle.std.proofs.lemmas.Bool.Decides.{nat_tests, same_from_decides}
use Rattle.lot_text.specs.LockNames.{is_letter, is_digit, are_name_bytes, is_name, name_of, padded, spelled}

abbrev pub is_name_byte : ℕ → Bool
is_name_byte b = is_letter b || is_digit b

not_zero : (b : ℕ) → is_name_byte b ≡ true → not (b == 0) ≡ true
not_zero b h = grind (arith, nat_tests)

spelled_padding : (n : ℕ) → spelled (replicate n 0) ≡ []
spelled_padding zero = refl
spelled_padding (suc n) = take_while-cons (λ b. not (b == 0)) 0 (replicate n 0)

pub both_left : (a b : Bool) → (a && b) ≡ true → a ≡ true
both_left true b h = refl
both_left false b h = h

pub both_right : (a b : Bool) → (a && b) ≡ true → b ≡ true
both_right true b h = h
both_right false b h = cc

either_left : (a b : Bool) → a ≡ true → (a || b) ≡ true
either_left true b h = refl
either_left false b h = cc

both : (a b : Bool) → a ≡ true → b ≡ true → (a && b) ≡ true
both true b h k = k
both false b h k = h

spelled_front : (xs : List ℕ) (n : ℕ) → list_all is_name_byte xs ≡ true → spelled (xs ++ replicate n 0) ≡ xs
spelled_front [] n h = spelled_padding n
spelled_front (x ∷ xs) n h =
    take_while-cons (λ b. not (b == 0)) x (xs ++ replicate n 0)
    ∙ ap (λ t. cond t (x ∷ take_while (λ b. not (b == 0)) (xs ++ replicate n 0)) [])
    (not_zero x (both_left (is_name_byte x) (list_all is_name_byte xs) h))
    ∙ ap (λ l. x ∷ l) (spelled_front xs n (both_right (is_name_byte x) (list_all is_name_byte xs) h))

pub name_bytes : (name : List ℕ) → is_name name ≡ true → list_all is_name_byte name ≡ true
name_bytes [] h = refl
name_bytes (c ∷ cs) h =
    let rest = both_right (is_letter c) (nat_lt (length cs) 16 && list_all is_name_byte cs) h in
    both (is_name_byte c) (list_all is_name_byte cs) (either_left (is_letter c) (is_digit c)
    (both_left (is_letter c) (nat_lt (length cs) 16 && list_all is_name_byte cs) h))
    (both_right (nat_lt (length cs) 16) (list_all is_name_byte cs) rest)

pub spelled_padded : (name : List ℕ) → is_name name ≡ true → spelled (padded name) ≡ name
spelled_padded name h = spelled_front name (16 - length name) (name_bytes name h)

abbrev pub EachSame : List ℕ → List ℕ → ℕ → Type 0
EachSame a b n = (k : ℕ) → k < n → get_or a k 0 ≡ get_or b k 0

-- names are the same where their bytes are
pub names_same : (a b : List ℕ) (same : Bool) → length a ≡ length b → a ≡ padded (spelled a)
    → b ≡ padded (spelled b)
    → (same ≡ true → EachSame a b (length a)) → (EachSame a b (length a) → same ≡ true) → same
    ≡ bytes_eq (spelled a) (spelled b)
names_same a b same e p q to from =
    let decides = bytes_eq-Decides (spelled a) (spelled b) in
    same_from_decides same (bytes_eq (spelled a) (spelled b)) (
      λ s. ap spelled (ext_get_or 0 a b e (to s)),
      λ k. from (λ i h. ap (λ l. get_or l i 0) (p ∙ ap padded k ∙ sym q)),
    ) decides

-- where the first 0 stands
pub spelled_is : (bytes : List ℕ) (n : ℕ) → n ≤ length bytes → ((k : ℕ) → k < n → get_or bytes k 0 ≢ 0)
    → (n < length bytes → get_or bytes n 0 ≡ 0) → take n bytes ≡ spelled bytes
spelled_is bytes n within before found =
    ap (λ m. take m bytes) (sym (position_or_len_is (λ b. b == 0) bytes n 0 within
    (λ k h. ne_eqb (get_or bytes k 0) 0 (before k h)) (λ h. eq-eqb (get_or bytes n 0) 0 (found h))))

-- one byte more of a word, over zeros
pub padded_more : (word bytes : List ℕ) (at b : ℕ) → at < length word → length word ≤ 16 → b
    ≡ get_or word at 0 → bytes ≡ take at word ++ replicate (16 - at) 0 → set bytes at b ≡ take (at + 1) word
    ++ replicate (16 - (at + 1)) 0
padded_more word bytes at b within fits e h =
    let left : 16 - at ≡ suc (16 - (at + 1)) = omega arith in
    let front : length (take at word) ≡ at = length-take-le at word (omega arith) in
    ap (λ l. set l at b) (h ∙ ap (λ n. take at word ++ replicate n 0) left)
    ∙ set_at (take at word) 0 (replicate (16 - (at + 1)) 0) b at front
    ∙ ap (λ c. take at word ++ c ∷ replicate (16 - (at + 1)) 0) e
    ∙ sym (append_assoc (take at word) (get_or word at 0 ∷ []) (replicate (16 - (at + 1)) 0))
    ∙ ap (λ l. l ++ replicate (16 - (at + 1)) 0) (sym (take_more word at 0 within))

pub name_bytes_more : (word : List ℕ) (at b : ℕ) → at < length word → b ≡ get_or word at 0
    → are_name_bytes (take at word) ≡ true → is_name_byte b ≡ true → are_name_bytes (take (at + 1) word)
    ≡ true
name_bytes_more word at b within e h k =
    list_all_more is_name_byte word at 0 within ∙ both (are_name_bytes (take at word))
    (is_name_byte (get_or word at 0)) h (subst (λ c. is_name_byte c ≡ true) e k)

pub record Found (word bytes : List ℕ) : Type 0 where
  pub are : are_name_bytes word ≡ true
  pub is : bytes ≡ padded word

same_bytes : (xs ys : List ℕ) → ◌≡◌ {A = Option (List ℕ)} (Some xs) (Some ys) → xs ≡ ys
same_bytes xs ys e = cc

no_bytes : (xs : List ℕ) → ◌≡◌ {A = Option (List ℕ)} (Some xs) None → ⊥
no_bytes xs e = cc

found_by : (b : Bool) (word bytes : List ℕ) → are_name_bytes word ≡ b → ◌≡◌ {A = Option (List ℕ)} (Some bytes)
    (cond b (Some (padded word)) None) → Found word bytes
found_by true word bytes h e = record { are = h; is = same_bytes bytes (padded word) e }
found_by false word bytes h e = absurd (no_bytes bytes e)

pub found : (word bytes : List ℕ) → ◌≡◌ {A = Option (List ℕ)} (Some bytes)
    (cond (are_name_bytes word) (Some (padded word)) None) → Found word bytes
found word bytes e = found_by (are_name_bytes word) word bytes refl e

is_name_cons : (c : ℕ) (rest : List ℕ) → length (c ∷ rest) ≤ 16 → is_letter c ≡ true
    → are_name_bytes (c ∷ rest) ≡ true → is_name (c ∷ rest) ≡ true
is_name_cons c rest fits h k =
    let few : nat_lt (length rest) 16 ≡ true = grind (arith, nat_tests) in
    both (is_letter c) (nat_lt (length rest) 16 && are_name_bytes rest) h (both (nat_lt (length rest) 16)
    (are_name_bytes rest) few (both_right (is_name_byte c) (are_name_bytes rest) k))

pub is_name_word : (word rest : List ℕ) (c : ℕ) → word ≡ c ∷ rest → length word ≤ 16 → is_letter c ≡ true
    → are_name_bytes word ≡ true → is_name word ≡ true
is_name_word word rest c e fits h k =
    ap is_name e ∙ is_name_cons c rest (subst (λ l. length l ≤ 16) e fits) h (sym (ap are_name_bytes e) ∙ k)

pub name_known : (word bytes : List ℕ) → is_name word ≡ true → bytes ≡ padded word → Some (spelled bytes)
    ≡ name_of word
name_known word bytes h e = ap (λ (l : List ℕ). Some l) (ap spelled e ∙ spelled_padded word h)
    ∙ sym (ap (λ t. cond t (Some word) None) h)

pub name_kept : (word bytes : List ℕ) → is_name word ≡ true → bytes ≡ padded word
    → bytes ≡ padded (spelled bytes)
name_kept word bytes h e = e ∙ ap padded (sym (ap spelled e ∙ spelled_padded word h))
