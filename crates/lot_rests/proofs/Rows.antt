-- A step at a place: it uses an event up, or sets a bit that was clear, or its thread comes nearer to its own
-- next event while no word and no other thread's place changes.
use Rattle.std.proofs.Common.{ℕ, Bool, true, false, if◌then◌else◌, ◌==◌, ◌&&◌, not, ◌≡◌, ◌+◌, ◌≤◌, ◌<◌, ◌⊎◌}
use Rattle.std.proofs.Common.{inr, length, ap, arith}
use Rattle.std.proofs.lemmas.Bool.Decides.{nat_tests}
use Rattle.core_base.specs.declared.ops.Op.{Op}
use Rattle.core_base.specs.declared.ops.Op.TheVariants.{Exchange}
use Rattle.core_base.specs.Words.{apply}
use Rattle.spec_locks.specs.declared.kinds.Kind.{Kind}
use Rattle.spec_locks.specs.Codes.{aside_in, parked_in}
use Rattle.spec_locks.specs.Locks.{Sort}
use Rattle.spec_locks.specs.Purposes.{rules_of}
use Rattle.steps_base.specs.Acts.{takes_effect}
use Rattle.steps_base.specs.declared.acts.Act.{Act}
use Rattle.steps_base.specs.declared.acts.Act.TheVariants.{Word, HandOver, Take, Requeue, Leave}
use Rattle.steps_base.specs.declared.acts.Wakes.TheVariants as wakes
use Rattle.lot_machine.specs.Machine.{State, kind_at, word_at}

-- ---------------------------------------------------------------- bits

abbrev pub one_unless : Bool → ℕ
one_unless b = if b then 0 else 1

-- how many of its parked bits are clear
abbrev pub clear_by : Sort → ℕ → ℕ
clear_by sort word = one_unless (parked_in sort word) + one_unless (aside_in sort word)

abbrev pub clear : Kind → ℕ → ℕ
clear kind word = clear_by (rules_of kind).sort word

one_most : (b : Bool) → one_unless b ≤ 1
one_most true = omega arith
one_most false = omega arith

pub clear_most : (kind : Kind) (word : ℕ) → clear kind word ≤ 2
clear_most kind word =
    let a : one_unless (parked_in (rules_of kind).sort word) ≤ 1 = one_most _ in
    let b : one_unless (aside_in (rules_of kind).sort word) ≤ 1 = one_most _ in
    omega arith

-- ---------------------------------------------------------------- acts

-- an act changes no word, and no place of another thread
abbrev pub is_still : State → Act → Bool
is_still w (Word l f) = apply f (word_at w l) == word_at w l
is_still w (HandOver l f) = not (takes_effect f (word_at w l)) && (apply f (word_at w l) == word_at w l)
is_still w (Take key whom) = false
is_still w (Requeue from to how) = false
is_still w (Leave keys (wakes.All n)) = false
is_still w a = true

-- by one operation it sets a bit that was clear
pub record SetsBit (w : State) (a : Act) : Type 0 where
  pub lock : ℕ
  pub op : Op
  pub is : a ≡ Word lock op
  pub there : lock < length w.locks
  pub fewer : clear (kind_at w lock) (apply op (word_at w lock)) + 1 ≤ clear (kind_at w lock) (word_at w lock)

-- by what is left of its work before it and after it, and of its way
abbrev pub Goes : State → Act → (work work2 ways ways2 : ℕ) → Type 0
Goes w a work work2 ways ways2 =
    (work2 + 1 ≤ work) ⊎ ((work2 ≤ work) × (SetsBit w a ⊎ ((is_still w a ≡ true) × (ways2 + 1 ≤ ways))))

-- the thread comes nearer
pub nears : {w : State} {a : Act} (work work2 ways ways2 : ℕ) → work2 ≤ work → is_still w a ≡ true
    → ways2 + 1 ≤ ways
    → Goes w a work work2 ways ways2
nears work work2 ways ways2 most still less = inr (most, inr (still, less))

-- ---------------------------------------------------------------- exchanges

pub same : (n : ℕ) → (n == n) ≡ true
same n = grind (arith, nat_tests)

pub exchange_fails : (from to x : ℕ) → (x == from) ≡ false → (apply (Exchange from to) x == x) ≡ true
exchange_fails from to x e = rw e (same x)

pub hand_over_fails : (from to x : ℕ) → (x == from) ≡ false
    → (not (x == from) && (apply (Exchange from to) x == x)) ≡ true
hand_over_fails from to x e = rw e (same x)

pub exchanged : (from to x : ℕ) → (x == from) ≡ true → apply (Exchange from to) x ≡ to
exchanged from to x e = ap (λ b. if b then to else x) e

-- ---------------------------------------------------------------- either way

pub either_less : {A : Type 0} (g : A → ℕ) (b : Bool) (x y : A) (k : ℕ) → g x + 1 ≤ k → g y + 1 ≤ k
    → g (if b then x else y) + 1 ≤ k
either_less g true x y k left right = left
either_less g false x y k left right = right
