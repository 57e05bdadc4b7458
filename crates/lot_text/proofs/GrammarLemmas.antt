-- The words of a line, and the size of a number.
use Rattle.std.proofs.Common.{◌≡◌, ◌≢◌, ℕ, ◌+◌, ◌*◌, ◌^◌, ◌<◌, ◌≤◌, suc, Bool, true, false, cond, eqb, List}
use Rattle.std.proofs.Common.{[], ◌∷◌, ◌++◌, None, All, take, drop, length, get_or, refl, sym, ap, subst, ◌∙◌}
use Rattle.std.proofs.Common.{arith, ne_eqb, take-append-drop, drop-cons, add-one, take_all}
use Rattle.std.proofs.Math.Nat.{pow-le-pow_right}
use Rattle.std.proofs.lemmas.List.Splits.{slice_split_none, slice_split_at}
use Rattle.std.specs.List.{onto_first}
use Rattle.lot_text.specs.Grammar.{words_of, command_of}

pub words_only : (text : List ℕ) (at : ℕ) → at ≡ length text → All (λ b. b ≢ 32) (take at text)
    → words_of text ≡ text ∷ []
words_only text at e all =
    let same : take at text ≡ text = take_all at text (omega arith) in
    slice_split_none (λ b. eqb b 32) text (λ k d h. ne_eqb (get_or text k d) 32
    (subst (λ l. All (λ b. b ≢ 32) l) same all k d h))

pub words_first : (text : List ℕ) (at : ℕ) → at < length text → All (λ b. b ≢ 32) (take at text)
    → get_or text at 0 ≡ 32
    → words_of text ≡ take at text ∷ words_of (drop (at + 1) text)
words_first text at within all space =
    let split : text ≡ take at text ++ 32 ∷ drop (at + 1) text =
    sym (take-append-drop at text) ∙ ap (λ l. take at text ++ l) (drop-cons text at 0 within
    ∙ ap (λ b. b ∷ drop (suc at) text) space ∙ ap (λ n. 32 ∷ drop n text) (sym (add-one at))) in
    ap words_of split ∙ slice_split_at (λ b. eqb b 32) (take at text) 32 (drop (at + 1) text)
    (λ k d h. ne_eqb (get_or (take at text) k d) 32 (all k d h)) refl

-- a text has a word, if only an empty one
pub some_word : (text : List ℕ) → (w : List ℕ) × (ws : List (List ℕ)) × (words_of text ≡ w ∷ ws)
some_word [] = ([], [], refl)
some_word (b ∷ bs) = go (eqb b 32) (words_of bs) refl refl
  where
    go : (t : Bool) (ws : List (List ℕ)) → eqb b 32 ≡ t → words_of bs ≡ ws → (w : List ℕ)
        × (vs : List (List ℕ)) × (words_of (b ∷ bs) ≡ w ∷ vs)
    go true ws e f = ([], words_of bs, ap (λ t. cond t ([] ∷ words_of bs) (onto_first b (words_of bs))) e)
    go false [] e f = (
      b ∷ [],
      [],
      ap (λ t. cond t ([] ∷ words_of bs) (onto_first b (words_of bs))) e
          ∙ ap (onto_first b) f,
    )
    go false (w ∷ ws) e f = (
      b ∷ w,
      ws,
      ap (λ t. cond t ([] ∷ words_of bs) (onto_first b (words_of bs))) e
          ∙ ap (onto_first b) f,
    )

-- six words mean nothing
pub six_words : (line second third fourth fifth more : List ℕ) (a b c d e : List ℕ) → words_of line ≡ a
    ∷ words_of second → words_of second ≡ b ∷ words_of third
    → words_of third ≡ c ∷ words_of fourth → words_of fourth ≡ d ∷ words_of fifth → words_of fifth ≡ e
    ∷ words_of more → command_of (words_of line) ≡ None
six_words line second third fourth fifth more a b c d e p q r s t =
    let sixth = some_word more in
    ap command_of (p ∙ ap (λ l. a ∷ l) (q
    ∙ ap (λ l. b ∷ l) (r ∙ ap (λ l. c ∷ l) (s ∙ ap (λ l. d ∷ l) (t ∙ ap (λ l. e ∷ l) sixth.2)))))

pub small : (n i : ℕ) → n < 10 ^ i → i < 19 → n * 10 + 9 < 2 ^ 64
small n i h k = let most : 10 ^ i ≤ 10 ^ 18 = (let le : i ≤ 18 = omega arith
    in pow-le-pow_right {n = 10} (omega arith) le) in omega arith
