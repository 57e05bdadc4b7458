-- The share of a `Place`, and the ownership of an `Open`. Shared for α, an invariant holds the
-- borrow of the value and the token δ, or else the permit. A thread that has the permit lays it
-- there, and has the other two until it is taken back.
use Rattle.std.specs.Prelude.{ℕ, ◌+◌, Bool, true, false}
use base.Fraction.{full_share}
use base.Fml.{Lft, GName, Fml, ffalse, fsep, fex, fobs, fbor}
use prog.Memory.{up, align}
use types.Na.{out}
use types.SemTy.{Body}
use denote.RattleType.{RattleType}
use denote.Memory.{part_at, shared_of, lone, mem}
use denote.RawPtr.{Ptr, block_ptr, null_ptr}
use denote.Sharing.{said, beside, some, ends, always, within}
use Rattle.core_parts.specs.PermitIds.{PermitId, permit_owns}

-- where the value lies in its place
abbrev pub offset : RattleType → ℕ
offset R = up (align (lone R.mir)) 0

abbrev pub place_owns : (R : RattleType) → (R.Denot → Fml) → Fml
place_owns R fields = fex R.Denot fields

-- the value of R at (b, e)
module _ (R : RattleType) (b e : ℕ) where
  abbrev pub content : Fml
  content = fex R.Denot (λ x. part_at R full_share x b e)

  abbrev pub named_content : GName → Fml
  named_content δ = Body (mem R) b e δ

  -- a borrow of it for α, where it is x
  abbrev pub lent : Lft → R.Denot → Fml
  lent α x = fex GName (λ δ. fsep (fobs δ (R.coded.code x)) (fbor α (named_content δ)))

-- α and δ
abbrev pub Id : Type 0
Id = Lft × GName

module _ (R : RattleType) (id : PermitId) (b o : ℕ) where
  abbrev pub away : Id → Fml
  away t = fsep (fbor t.0 (content R b (o + offset R))) (out t.1)

  abbrev pub state : Id → Bool → Fml
  state t true = away t
  state t false = permit_owns id

  abbrev pub Inv : Id → Fml
  Inv t = fex Bool (state t)

  abbrev pub kept : Id → Lft → Fml
  kept t = beside (ends t.0) (always (Inv t))

  abbrev pub open_at : Lft → R.Denot → Id → Fml
  open_at β x t = fsep (kept t β) (fsep (out t.1) (lent R b (o + offset R) t.0 x))

abbrev pub place_shares : RattleType → PermitId → Ptr → Lft → Fml
place_shares R id (block_ptr b o) = some Id (kept R id b o)
place_shares R id null_ptr = said ffalse

-- the place lies at this block and offset
abbrev pub open_owns : Lft → (R : RattleType) → PermitId → ℕ × ℕ → R.Denot → Fml
open_owns β R id p x = fex Id (open_at R id p.0 p.1 β x)

abbrev pub open_shares : Lft → (R : RattleType) → ℕ × ℕ → R.Denot → Lft → Fml
open_shares β R p x = within β (shared_of R x p.0 (p.1 + offset R))
