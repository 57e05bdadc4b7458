-- A text that begins with the line of a turn.
use Rattle.std.proofs.Common.{◌≡◌, ◌≢◌, ℕ, ◌+◌, ◌≤◌, ◌<◌, Bool, true, false, cond, eqb, List, [], ◌∷◌, ◌++◌}
use Rattle.std.proofs.Common.{Some, All, take, drop, take_all, slice_index, length, get_or, refl, sym, ap}
use Rattle.std.proofs.Common.{◌∙◌, arith, ne_eqb, eq-eqb, take-append-drop, append_assoc, length-append}
use Rattle.std.proofs.Common.{length-take-le}
use Rattle.std.specs.Prelude.{codes, option_map}
use Rattle.std.specs.Str.{bytes_eq}
use Rattle.std.proofs.lemmas.List.Elements.{All-nil, All-cons, All-append}
use Rattle.std.proofs.lemmas.List.Splits.{slice_split_at}
use Rattle.std.proofs.lemmas.Slice.Eq.{bytes_eq-Decides}
use Rattle.lot_text.specs.Reads.{IsOneLine}
use Rattle.lot_text.specs.Grammar.{words_of, number_read, turn_of, turn_command, command_of, meaning}
use Rattle.lot_text.specs.Turns.{named_turn, word_of_turn, BeginsWithWord, BeginsWithTurn, BeginsWithLine}
use Rattle.lot_text.specs.declared.grammar.Command.TheVariants.{Threads, Turn}
use Rattle.lot_text.specs.declared.grammar.NamedTurn.{NamedTurn}
use Rattle.lot_text.specs.declared.turns.PlainTurn.{PlainTurn}
use Rattle.lot_text.specs.declared.turns.PlainTurn.TheVariants.{Go, Spin, Late}
use Rattle.lot_text.proofs.LinesLemmas.{line_front}
use Rattle.lot_text.specs.declared.turns.Line.TheVariants.{Text}
use Rattle.lot_text.proofs.NumberLaw.{AreDigits, number_is, none_some}

-- digits are no other bytes
pub no_other : (x : ℕ) → x < 48 → (cs : List ℕ) → AreDigits cs → All (λ b. b ≢ x) cs
no_other x low [] h = All-nil (λ b. b ≢ x)
no_other x low (c ∷ cs) h = All-cons (λ b. b ≢ x) c cs (λ e. omega (arith, e, h.0.0, low))
    (no_other x low cs h.1)

threads_no_number : (n : ℕ) → number_read (codes "threads") ≡ Some n → ⊥
threads_no_number n e = none_some n e

pub not_threads : (word : List ℕ) (n : ℕ) → number_read word ≡ Some n → bytes_eq word (codes "threads")
    ≡ false
not_threads word n e = go (bytes_eq word (codes "threads")) refl
  where
    go : (b : Bool) → bytes_eq word (codes "threads") ≡ b → b ≡ false
    go true d = absurd (threads_no_number n
        (sym (ap number_read ((bytes_eq-Decides word (codes "threads")).0 d)) ∙ e))
    go false d = refl

pub words_two : (word second : List ℕ) → All (λ b. b ≢ 32) word → words_of (word ++ 32 ∷ second) ≡ word
    ∷ words_of second
words_two word second h = slice_split_at (λ b. eqb b 32) word 32 second (λ k d i. ne_eqb (get_or word k d) 32
    (h k d i)) refl

plain_words : (turn : PlainTurn) → words_of (word_of_turn turn) ≡ word_of_turn turn ∷ []
plain_words Go = refl
plain_words Spin = refl
plain_words Late = refl

plain_turns : (turn : PlainTurn) → turn_of (word_of_turn turn) ≡ Some (named_turn turn)
plain_turns Go = refl
plain_turns Spin = refl
plain_turns Late = refl

plain_short : (turn : PlainTurn) → length (word_of_turn turn) ≤ 4
plain_short Go = omega arith
plain_short Spin = omega arith
plain_short Late = omega arith

not_both : (b : Bool) → b ≡ true → b ≡ false → ⊥
not_both b e f = cc

-- whether a byte isn't there
abbrev pub lacks : ℕ → List ℕ → Bool
lacks x [] = true
lacks x (b ∷ bs) = cond (eqb b x) false (lacks x bs)

lacks_head : (x b : ℕ) (bs : List ℕ) (t : Bool) → eqb b x ≡ t → cond t false (lacks x bs) ≡ true
    → (lacks x bs ≡ true → All (λ c. c ≢ x) bs) → All (λ c. c ≢ x) (b ∷ bs)
lacks_head x b bs true e h rest = cc
lacks_head x b bs false e h rest = All-cons (λ c. c ≢ x) b bs (λ same. not_both (eqb b x) (eq-eqb b x same) e)
    (rest h)

pub lacks_all : (x : ℕ) (bs : List ℕ) → lacks x bs ≡ true → All (λ b. b ≢ x) bs
lacks_all x [] h = All-nil (λ b. b ≢ x)
lacks_all x (b ∷ bs) h = lacks_head x b bs (eqb b x) refl h (lacks_all x bs)

plain_line : (turn : PlainTurn) → All (λ b. b ≢ 10) (32 ∷ word_of_turn turn)
plain_line Go = lacks_all 10 (32 ∷ word_of_turn Go) refl
plain_line Spin = lacks_all 10 (32 ∷ word_of_turn Spin) refl
plain_line Late = lacks_all 10 (32 ∷ word_of_turn Late) refl

pub two_words : (a b : List ℕ) (t : ℕ) (turn : NamedTurn) → bytes_eq a (codes "threads") ≡ false
    → number_read a ≡ Some t → turn_of b ≡ Some turn → command_of (a ∷ b ∷ []) ≡ Some (Turn t turn)
two_words a b t turn f g h =
    ap (λ c. cond c (option_map Threads (number_read b)) (turn_command (number_read a) (turn_of b))) f
    ∙ ap (λ o. turn_command o (turn_of b)) g ∙ ap (turn_command (Some t)) h

turn_means : (word : List ℕ) (t : ℕ) (turn : PlainTurn) → number_read word ≡ Some t → AreDigits word
    → meaning (word ++ 32 ∷ word_of_turn turn) ≡ Some (Turn t (named_turn turn))
turn_means word t turn e digits =
    ap command_of (words_two word (word_of_turn turn) (no_other 32 (omega arith) word digits)
    ∙ ap (λ l. word ∷ l) (plain_words turn))
    ∙ two_words word (word_of_turn turn) t (named_turn turn) (not_threads word t e) e (plain_turns turn)

pub turn_begins : (text : List ℕ) (digits t len : ℕ) (turn : PlainTurn) → digits ≤ length text
    → number_read (take digits text) ≡ Some t → BeginsWithWord (drop digits text) turn len
    → BeginsWithTurn text t turn (digits + len)
turn_begins text digits t len turn within e w =
    let word = take digits text in
    let line = word ++ 32 ∷ word_of_turn turn in
    let is = number_is word t e in
    let long = length-append word (32 ∷ word_of_turn turn) in (
      line,
      w.0,
      sym (take-append-drop digits text) ∙ ap (λ l. word ++ l) w.1
          ∙ sym (append_assoc word (32 ∷ word_of_turn turn) (10 ∷ w.0)),
      omega (arith, length-take-le digits text within, long, w.2),
      All-append (λ b. b ≢ 10) word (32 ∷ word_of_turn turn) (no_other 10 (omega arith) word is.digits)
          (plain_line turn),
      (omega (arith, long, is.few, plain_short turn), turn_means word t turn e is.digits),
    )

-- a text up to its first line feed, and after it
pub text_begins : (text : List ℕ) (n : ℕ) → n ≤ length text → IsOneLine (take n text)
    → (n < length text → slice_index text n ≡ 10) → n ≢ length text → BeginsWithLine text Text (n + 1)
text_begins text n within one feed some =
    let below : n < length text = omega (arith, within, some) in (
      take n text,
      drop (n + 1) text,
      line_front text text n below (feed below) (take_all (length text) text (omega arith))
          ∙ append_assoc (take n text) (10 ∷ []) (drop (n + 1) text),
      omega (arith, length-take-le n text within),
      one,
      tt,
    )
