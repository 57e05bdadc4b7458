-- What a look and the exchange that goes by it say of the steps of a sort of lock.
use Rattle.std.proofs.Common.{ℕ, Bool, true, false, Option, Some, None, ◌==◌, ◌≡◌, ◌⊎◌, inl}
use Rattle.core_base.specs.declared.ops.Op.TheVariants.{Exchange, Load}
use Rattle.steps_base.specs.declared.acts.Act.{Act}
use Rattle.steps_base.specs.declared.acts.Act.TheVariants.{Word, HandOver}
use Rattle.steps_base.specs.declared.acts.Next.{Next}
use Rattle.steps_base.specs.declared.acts.Next.TheVariants.{At, End}
use Rattle.steps_base.specs.declared.acts.Reply.{Reply}
use Rattle.steps_base.specs.declared.acts.Reply.TheVariants.{Value}
use Rattle.steps_base.specs.declared.owners.Owners.{Owners}
use Rattle.steps_base.specs.Profiles.{Profile}
use Rattle.lot_machine.proofs.Acted.{Befalls}

-- the steps of a sort of lock at one lock: a place's act, where each reply leads, the owners and shares after
-- an operation, and from where the thread has looked; the places that threads come to
pub record Table (P : Type 0) : Type 1 where
  pub act : P → Act
  pub next : P → Reply → Next P
  pub owners : P → ℕ → ℕ → Owners → Owners
  pub shares : P → ℕ → ℕ → Option ℕ
  pub looked : P → Option P
  pub sane : P → Type 0
  -- the values that its word may have
  pub fits : ℕ → Type 0
  pub row : P → Profile
  pub beside : P → Profile

-- a place that a reply leads to
abbrev pub looked_then : {P : Type 0} → Table P → Next P → Option P
looked_then s (At p) = s.looked p
looked_then s (End answer) = None

abbrev pub SaneThen : {P : Type 0} → Table P → Next P → Type 0
SaneThen s (At p) = s.sane p
SaneThen s (End answer) = Unit {0}

-- the other is where the thread of the one has looked
abbrev pub Precedes : {P : Type 0} → Table P → Next P → Next P → Type 0
Precedes s (At q) (At p) = s.looked p ≡ Some q
Precedes s n m = ⊥

-- an exchange, by which a thread may hand the lock over
abbrev pub exchange_by : Bool → ℕ → ℕ → ℕ → Act
exchange_by false l from to = Word l (Exchange from to)
exchange_by true l from to = HandOver l (Exchange from to)

-- an operation on a word tells its value
abbrev pub IsOfWord : Act → Type 0
IsOfWord (Word l f) = Unit {0}
IsOfWord (HandOver l f) = Unit {0}
IsOfWord a = ⊥

abbrev pub IsNoValue : Reply → Type 0
IsNoValue (Value seen) = ⊥
IsNoValue r = Unit {0}

-- the rows of two places agree about the hand that holds the thread, its want, and where it may give up
pub record AreAlike (x y : Profile) : Type 0 where
  pub hand : x.hand ≡ y.hand
  pub wants : x.wants ≡ y.wants
  pub late : x.late_line ≡ None
  pub late_too : y.late_line ≡ None

-- A look that sees this value leads to an exchange, and has no effect.
pub record Looks {P : Type 0} (s : Table P) (q : P) (v : ℕ) : Type 0 where
  pub lock : ℕ
  pub load : s.act q ≡ Word lock Load
  pub again : looked_then s (s.next q (Value v)) ≡ Some q
  pub owners : (t : ℕ) (o : Owners) → s.owners q t v o ≡ o
  pub shares : (n : ℕ) → s.shares q v n ≡ None

-- where a thread that has looked misses, it comes to what another look leads to
pub record Misses {P : Type 0} (s : Table P) (q p : P) (v : ℕ) : Type 0 where
  pub next : s.next p (Value v) ≡ s.next q (Value v)
  pub owners : (t : ℕ) (o : Owners) → s.owners p t v o ≡ s.owners q t v o
  pub shares : (n : ℕ) → s.shares p v n ≡ s.shares q v n

-- a thread at a place has looked from another
pub record HasLooked {P : Type 0} (s : Table P) (p q : P) : Type 0 where
  pub lock : ℕ
  pub from : ℕ
  pub to : ℕ
  pub hands : Bool
  pub load : s.act q ≡ Word lock Load
  pub exchange : s.act p ≡ exchange_by hands lock from to
  -- the look that saw what the exchange expects
  pub sees : s.next q (Value from) ≡ At p
  pub looks : Looks s q from
  -- any other value: the look leads on, or to the next exchange
  pub misses : (v : ℕ) → (v == from) ≡ false → Misses s q p v
  pub leads : (v : ℕ) → (looked_then s (s.next q (Value v)) ≡ None) ⊎ Looks s q v
  pub hits : looked_then s (s.next p (Value from)) ≡ None
  pub befallen : (r : Reply) → Befalls r → Precedes s (s.next q r) (s.next p r)
  pub unlooked : s.looked q ≡ None
  pub sound : s.sane q
  pub alike : AreAlike (s.row p) (s.row q)
  pub alike_beside : AreAlike (s.beside p) (s.beside q)

-- a thread at a place has not: only a look leads from there to an exchange by it
pub record HasNotLooked {P : Type 0} (s : Table P) (p : P) : Type 0 where
  pub acts : (v : ℕ) → IsOfWord (s.act p) → (looked_then s (s.next p (Value v)) ≡ None) ⊎ Looks s p v
  pub others : (r : Reply) → IsNoValue r → looked_then s (s.next p r) ≡ None

abbrev pub HasLookedBy : {P : Type 0} → Table P → P → Option P → Type 0
HasLookedBy s p None = HasNotLooked s p
HasLookedBy s p (Some q) = HasLooked s p q

-- a value that is told is one that the word may have
abbrev pub FitsReply : {P : Type 0} → Table P → Reply → Type 0
FitsReply s (Value v) = s.fits v
FitsReply s r = Unit {0}

-- What a sort of lock has to say of its places.
pub record LooksRight {P : Type 0} (s : Table P) : Type 0 where
  pub place : (p : P) → s.sane p → HasLookedBy s p (s.looked p)
  pub keeps : (p : P) (r : Reply) → FitsReply s r → s.sane p → SaneThen s (s.next p r)

-- no reply leads to an exchange by a look
pub never : {P : Type 0} (s : Table P) (p : P) → ((r : Reply) → looked_then s (s.next p r) ≡ None)
    → HasNotLooked s p
never s p none = record { acts = λ v of. inl (none (Value v)); others = λ r h. none r }
