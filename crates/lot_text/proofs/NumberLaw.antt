-- A number is read only as it would be printed.
use Rattle.std.proofs.Common.{◌≡◌, ℕ, ◌+◌, ◌-◌, ◌*◌, ◌^◌, ◌<◌, ◌≤◌, Bool, true, false, cond, List, [], ◌∷◌}
use Rattle.std.proofs.Common.{Option, None, Some, length, get_or, refl, sym, ap, subst, ◌∙◌, arith}
use Rattle.std.specs.Prelude.{decimal}
use Rattle.std.specs.Int.{IsInRange}
use Rattle.std.proofs.lemmas.Fmt.{decimal-digits_value}
use Rattle.std.proofs.lemmas.Str.Parse.{IsNumeralModel, numerals_by_fold, digits_value_short}
use Rattle.std.proofs.lemmas.Bool.Decides.{nat_tests}
use Rattle.lot_text.specs.LockNames.{is_digit}
use Rattle.lot_text.specs.Grammar.{digits_after, has_form, number_read}

abbrev pub AreDigits : List ℕ → Type 0
AreDigits [] = Unit {0}
AreDigits (c ∷ cs) = IsInRange 48 57 c × AreDigits cs

abbrev pub value_after : ℕ → List ℕ → ℕ
value_after n [] = n
value_after n (c ∷ cs) = value_after (n * 10 + (c - 48)) cs

pub own : IsNumeralModel AreDigits (value_after 0)
own = numerals_by_fold AreDigits (record {
  empty = tt;
  parts = λ c cs h. h;
  more = λ c cs h k. (h, k);
}) value_after (record { empty = λ n. refl; more = λ n c cs h. refl })

digit_in : (c : ℕ) → is_digit c ≡ true → IsInRange 48 57 c
digit_in c e = (grind (arith, nat_tests), grind (arith, nat_tests))

some_same : (m n : ℕ) → ◌≡◌ {A = Option ℕ} (Some m) (Some n) → m ≡ n
some_same m n e = cc

pub none_some : (n : ℕ) → ◌≡◌ {A = Option ℕ} None (Some n) → ⊥
none_some n e = cc

reads_digit : (b : Bool) (c : ℕ) (cs : List ℕ) (m n : ℕ) → is_digit c ≡ b → digits_after m (c ∷ cs) ≡ Some n
    → (digits_after (m * 10 + (c - 48)) cs ≡ Some n → AreDigits cs × (value_after (m * 10 + (c - 48)) cs ≡ n))
    → AreDigits (c ∷ cs) × (value_after m (c ∷ cs) ≡ n)
reads_digit true c cs m n d e rest = let r =
    rest (sym (ap (λ t. cond t (digits_after (m * 10 + (c - 48)) cs) None) d) ∙ e)
    in ((digit_in c d, r.0), r.1)
reads_digit false c cs m n d e rest =
    absurd (none_some n (sym (ap (λ t. cond t (digits_after (m * 10 + (c - 48)) cs) None) d) ∙ e))

reads : (cs : List ℕ) (m n : ℕ) → digits_after m cs ≡ Some n → AreDigits cs × (value_after m cs ≡ n)
reads [] m n e = (tt, some_same m n e)
reads (c ∷ cs) m n e = reads_digit (is_digit c) c cs m n refl e (reads cs (m * 10 + (c - 48)) n)

-- tells what the form says
pub record Form (word : List ℕ) : Type 0 where
  some : 0 < length word
  few : length word ≤ 19
  plain : get_or word 0 0 ≡ 48 → length word ≡ 1

formed : (word : List ℕ) → has_form word ≡ true → Form word
formed word e = record {
  some = grind (arith, nat_tests);
  few = grind (arith, nat_tests);
  plain = λ h. grind (arith, nat_tests);
}

number_form : (b : Bool) (word : List ℕ) (n : ℕ) → has_form word ≡ b → number_read word ≡ Some n
    → (has_form word ≡ true) × (digits_after 0 word ≡ Some n)
number_form true word n d e = (d, sym (ap (λ t. cond t (digits_after 0 word) None) d) ∙ e)
number_form false word n d e = absurd (none_some n (sym (ap (λ t. cond t (digits_after 0 word) None) d) ∙ e))

-- tells what a number's word is
pub record IsNumber (word : List ℕ) : Type 0 where
  pub digits : AreDigits word
  pub few : length word ≤ 19

pub number_is : (word : List ℕ) (n : ℕ) → number_read word ≡ Some n → IsNumber word
number_is word n e =
    let f = number_form (has_form word) word n refl e in
    record { digits = (reads word 0 n f.1).0; few = (formed word f.0).few }

pub number_is_decimal : (word : List ℕ) (n : ℕ) → number_read word ≡ Some n → (decimal n ≡ word)
    × (n < 10 ^ 19)
number_is_decimal word n e =
    let f = number_form (has_form word) word n refl e in
    let form = formed word f.0 in
    let r = reads word 0 n f.1 in
    let below : value_after 0 word < 10 ^ 19 = digits_value_short own word 19 r.0 form.few in (
      ap decimal (sym r.1) ∙ decimal-digits_value own word r.0 form.some form.plain (omega arith),
      subst (λ v. v < 10 ^ 19) r.1 below,
    )
