-- Several sends in a row send their bytes one after the other.
use Rattle.std.proofs.Common.{◌≡◌, ℕ, ◌+◌, ◌-◌, ◌≤◌, ◌<◌, ◌∷◌, None, Some, Result, Ok, Err, OnErr, is_ok}
use Rattle.std.proofs.Common.{Bool, true, false, subst, List, [], ◌++◌, Option, take, drop, length, refl, sym}
use Rattle.std.proofs.Common.{ap, ◌∙◌, inl, inr, arith, append_assoc, append-nil, take-append-drop}
use Rattle.std.proofs.Common.{length-append, length-drop}
use Rattle.std.specs.Io.KnownBytes.{Appends, Keeps}
use Rattle.std.proofs.KnownBytes.{Appends-nil, Appends-trans, Keeps-refl, Keeps-trans}
use lib.Seq.{take-add, take-take}
use Rattle.std.specs.Prelude.{decimal, ◌==◌}
use Rattle.std.proofs.lemmas.Fmt.{decimal_digit}
use Rattle.std.proofs.lemmas.Bool.Decides.{eqb_tells, leb_tells}
use Rattle.lot_text.specs.Sent.{Sends, SendsFront, Held, Puts, PutsWhere}

-- nothing was sent
pub sends_none : (a : Option (List ℕ)) (xs : List ℕ) → Sends a a xs xs
sends_none a xs = record { taken = []; appended = Appends-nil a; whole = refl }

-- a text that was added later is sent after what was held
pub sends_then : (a b c : Option (List ℕ)) (xs ys text zs : List ℕ) → Sends a b xs ys
    → Sends b c (ys ++ text) zs → Sends a c (xs ++ text) zs
sends_then a b c xs ys text zs p q = record {
  taken = p.taken ++ q.taken;
  appended = Appends-trans a b c p.taken q.taken p.appended q.appended;
  whole = append_assoc p.taken q.taken zs ∙ ap (λ l. p.taken ++ l) q.whole
      ∙ sym (append_assoc p.taken ys text) ∙ ap (λ l. l ++ text) p.whole;
}

pub front_then : (a b c : Option (List ℕ)) (xs ys text : List ℕ) → Sends a b xs ys
    → SendsFront b c (ys ++ text) → SendsFront a c (xs ++ text)
front_then a b c xs ys text p q = (q.0, sends_then a b c xs ys text q.0 p q.1, q.2)

-- a beginning of a text begins a longer one
pub front_longer : (a c : Option (List ℕ)) (xs text : List ℕ) → SendsFront a c xs
    → SendsFront a c (xs ++ text)
front_longer a c xs text p = (
  p.0 ++ text,
  record {
    taken = p.1.taken;
    appended = p.1.appended;
    whole = sym (append_assoc p.1.taken p.0 text) ∙ ap (λ l. l ++ text) p.1.whole;
  },
  omega (arith, length-append p.0 text, p.2),
)

-- not all bytes went out
pub sends_taken : (a c : Option (List ℕ)) (n : ℕ) (bytes : List ℕ) → n < length bytes
    → Appends a c (take n bytes) → SendsFront a c bytes
sends_taken a c n bytes less p = (
  drop n bytes,
  record { taken = take n bytes; appended = p; whole = take-append-drop n bytes },
  omega (arith, length-drop n bytes, less),
)

pub less_unless_same : (a b : ℕ) → (a == b) ≡ false → a ≤ b → a < b
less_unless_same a b e within = elim (eqb_tells a b) [
  | inl same ↦ let never : true ≡ false = sym same.0 ∙ e in absurd cc
  | inr other ↦ elim (leb_tells (a + 1) b) [
    | inl less ↦ omega (arith, less.1)
    | inr more ↦ absurd (other.1 (omega (arith, more.1, within)))
  ]
]

-- the text that is kept was appended to before
pub appends_kept : (a b c : Option (List ℕ)) (xs : List ℕ) → Appends a b xs → Keeps b c → Appends a c xs
appends_kept None b c xs p q = tt
appends_kept (Some x) None c xs p q = absurd p
appends_kept (Some x) (Some y) None xs p q = absurd q
appends_kept (Some x) (Some y) (Some z) xs p q = q ∙ p

-- one write more
pub appends_more : (a b c : Option (List ℕ)) (xs : List ℕ) (sent n : ℕ) → sent ≤ length xs → n
    ≤ length xs - sent
    → Appends a b (take sent xs) → Appends b c (take n (take (length xs - sent) (drop sent xs)))
    → Appends a c (take (sent + n) xs)
appends_more a b c xs sent n within fits p q =
    let joined = ap (λ l. take sent xs ++ l) (take-take n (length xs - sent) (drop sent xs) fits)
    ∙ sym (take-add sent n xs) in
    subst (Appends a c) joined (Appends-trans a b c _ _ p q)

-- nothing more goes out
front_kept : (a b c : Option (List ℕ)) (xs : List ℕ) → SendsFront a b xs → Keeps b c → SendsFront a c xs
front_kept a b c xs p q = (
  p.0,
  record {
    taken = p.1.taken;
    appended = appends_kept a b c p.1.taken p.1.appended q;
    whole = p.1.whole;
  },
  p.2,
)

-- two texts, one after the other
puts_both : (x y z : Bool) (a b c : Option (List ℕ)) (held mid left t u : List ℕ)
    → PutsWhere x y a b held mid t → PutsWhere y z b c mid left u → PutsWhere x z a c held left (t ++ u)
puts_both true true true a b c held mid left t u p q = Keeps-trans a b c p q
puts_both true true false a b c held mid left t u p q = absurd q
puts_both true false z a b c held mid left t u p q = absurd p
puts_both false true true a b c held mid left t u p q = subst (SendsFront a c) (append_assoc held t u)
    (front_longer a c (held ++ t) u (front_kept a b c (held ++ t) p q))
puts_both false true false a b c held mid left t u p q = absurd q
puts_both false false true a b c held mid left t u p q = subst (SendsFront a c) (append_assoc held t u)
    (front_then a b c (held ++ t) mid u p q)
puts_both false false false a b c held mid left t u p q =
    subst (λ l. Sends a c l left) (append_assoc held t u) (sends_then a b c (held ++ t) mid u left p q)

pub puts_then : (a b c : Option (List ℕ)) (p q r : Held) (t u : List ℕ) → Puts a b p q t → Puts b c q r u
    → Puts a c p r (t ++ u)
puts_then a b c p q r t u = puts_both p.lost q.lost r.lost a b c p.bytes q.bytes r.bytes t u

nothing : (x : Bool) (a : Option (List ℕ)) (held : List ℕ) → PutsWhere x x a a held held []
nothing true a held = Keeps-refl a
nothing false a held = rw append-nil (sends_none a held)

pub puts_nothing : (a : Option (List ℕ)) (p : Held) → Puts a a p p []
puts_nothing a p = nothing p.lost a p.bytes

-- from what a put did
as_lost : (x y : Bool) (a c : Option (List ℕ)) (held left text : List ℕ) → x ≡ false → y ≡ true
    → SendsFront a c (held ++ text) → PutsWhere x y a c held left text
as_lost true y a c held left text e f p = cc
as_lost false true a c held left text e f p = p
as_lost false false a c held left text e f p = cc

pub puts_lost : (a c : Option (List ℕ)) (p q : Held) (text : List ℕ) → p.lost ≡ false → q.lost ≡ true
    → SendsFront a c (p.bytes ++ text) → Puts a c p q text
puts_lost a c p q text = as_lost p.lost q.lost a c p.bytes q.bytes text

as_sent : (x y : Bool) (a c : Option (List ℕ)) (held left text : List ℕ) → x ≡ false → y ≡ false
    → Sends a c (held ++ text) left → PutsWhere x y a c held left text
as_sent true y a c held left text e f p = cc
as_sent false true a c held left text e f p = cc
as_sent false false a c held left text e f p = p

pub puts_sent : (a c : Option (List ℕ)) (p q : Held) (text : List ℕ) → p.lost ≡ false → q.lost ≡ false
    → Sends a c (p.bytes ++ text) q.bytes → Puts a c p q text
puts_sent a c p q text = as_sent p.lost q.lost a c p.bytes q.bytes text

pub on_err : (T E P : Type 0) (r : Result T E) → is_ok r ≡ false → OnErr r P → P
on_err T E P (Ok x) e h = cc
on_err T E P (Err x) e h = h

-- a number of one digit
pub number_one : (n : ℕ) (a c : Option (List ℕ)) (p q : Held) → n < 10 → Puts a c p q ((48 + n) ∷ [])
    → Puts a c p q (decimal n)
number_one n a c p q small h = subst (Puts a c p q) (sym (decimal_digit n small)) h

-- the text put so far, with the rest, is the whole
pub record Left (a c : Option (List ℕ)) (p q : Held) (left whole : List ℕ) : Type 0 where
  pub text : List ℕ
  pub puts : Puts a c p q text
  pub with_left : text ++ left ≡ whole

pub left_all : (a : Option (List ℕ)) (p : Held) (left whole : List ℕ) → left ≡ whole → Left a a p p left whole
left_all a p left whole e = record { text = []; puts = puts_nothing a p; with_left = e }

pub left_less : (a b c : Option (List ℕ)) (p q r : Held) (item before after whole : List ℕ)
    → Left a b p q before whole → Puts b c q r item → before ≡ item ++ after → Left a c p r after whole
left_less a b c p q r item before after whole h k e = record {
  text = h.text ++ item;
  puts = puts_then a b c p q r h.text item h.puts k;
  with_left = append_assoc h.text item after ∙ ap (λ l. h.text ++ l) (sym e) ∙ h.with_left;
}

pub left_none : (a c : Option (List ℕ)) (p q : Held) (left whole : List ℕ) → Left a c p q left whole
    → left ≡ [] → Puts a c p q whole
left_none a c p q left whole h e = subst (Puts a c p q) (sym (append-nil h.text)
    ∙ ap (λ l. h.text ++ l) (sym e) ∙ h.with_left) h.puts
