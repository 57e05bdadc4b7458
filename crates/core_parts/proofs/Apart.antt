-- A place in memory is some value, with the way back at any value. Assumes `Logic`.
use Rattle.std.proofs.Common.{ℕ, zero, ◌+◌, List, [], ◌∷◌}
use seplogic.Ra.Ura.{Ura}
use mir.Syntax.{Sym}
use mir.Val.{Val}
use base.Fraction.{full_share}
use base.Logic.{SProp, ent, sep, wand, ex, all_e, apply∗}
use base.Fml.{Fml, ftrue, fsep, fex}
use types.Logic.{Logic, sem}
use types.Kit.{‵, raw, ◌⊛◌, some, ◌$◌, ◌∵◌, !, qed, by, move, drop, use1, use2, split, fsplit, fjoin, fpick}
use types.Kit.{fpack, pick, show, frame, each, assume, done}
use denote.RattleType.{RattleType, Denots}
use denote.Laws.{Lawful, Is, Typed, shows}
use denote.Memory.{part_of, part_at, cell_at, raw_all}
use denote.Steps.{nothing, peeks}
use denote.Struct.Struct.{Struct, Struct-Lawful}
use denote.Struct.Members.{Member, row_of, rows_of, parts_at}
use denote.Struct.Parts.{PartsBack, Struct-parts, shape_of}
use denote.Struct.CellSteps.{Out}
use Rattle.core.proofs.cell.Inside.{νU}
use Rattle.core_parts.specs.Ownership.{offset}

-- ν is the name of the place's struct, d what a clause sees of the place
module _ {M : Type 1} {𝓤 : Ura M} (𝓛 : Logic 𝓤) (m : Member) (L : Lawful 𝓛 (row_of m)) (ν : Sym) {D : Type 0}
    (d : D) (b o : ℕ) where
  abbrev Pr : Type 2
  Pr = SProp 𝓤

  abbrev ◌⊢◌ : Pr → Pr → Type 1
  P ⊢ Q = ent 𝓤 P Q

  abbrev ◌∗◌ : Pr → Pr → Pr
  P ∗ Q = sep 𝓤 P Q

  abbrev ◌-∗◌ : Pr → Pr → Pr
  P -∗ Q = wand 𝓤 P Q

  abbrev ⟦◌⟧ : Fml → Pr
  ⟦ P ⟧ = sem 𝓛 P

  infix 26 ◌⊢◌
  infixr 35 ◌∗◌
  infixr 30 ◌-∗◌
  abbrev R : RattleType
  R = row_of m

  abbrev ks : List Member
  ks = m ∷ []

  abbrev Data : RattleType
  Data = Struct (shape_of ν ks)

  abbrev own : D → List Val → Fml
  own _ vs = fsep (fex (Typed Data.mir vs) (λ _. ftrue)) (fex R.Denot (λ z. Data.own_val (z, tt) vs))

  abbrev P : Fml
  P = part_of (raw_all Data.mir) own full_share d b o

  abbrev Fields : R.Denot → Fml
  Fields x = part_at Data full_share (x, tt) b o

  abbrev At : R.Denot → Fml
  At x = part_at R full_share x b (o + offset R)

  apart : ⟦ P ⟧ ⊢ ex 𝓤 (λ (x : R.Denot). ⟦ Fields x ⟧)
  unfolding part_of
  apart = qed 𝓛 (‵ P ∷ []) ∵ fpick ! (λ vs. fsplit ! $ move ! (1 ∷ []) $ fsplit ! $ drop ! $ fpick !
      (λ x. move ! (1 ∷ 0 ∷ []) $ fjoin ! $
      fpack ! (List Val) (λ us. fsep (cell_at full_share Data.mir us b o) (Data.own_val (x, tt) us)) vs
      $ show ! (λ (z : R.Denot). ⟦ Fields z ⟧) x $ done !))

  whole : (x : R.Denot) → ⟦ Fields x ⟧ ⊢ ⟦ P ⟧
  unfolding part_of
  whole x = qed 𝓛 (‵ (Fields x) ∷ []) ∵ fpick ! (λ vs. fsplit ! $ move ! (1 ∷ []) $ peeks ! Data (Is Data)
      (shows 𝓛 Data) (x, tt) vs (λ is.
      fpack ! R.Denot (λ z. Data.own_val (z, tt) vs) x $ nothing ! $ fpack ! (Typed Data.mir vs) (λ _. ftrue)
      ((Struct-Lawful 𝓛 (shape_of ν ks) (L, tt)).typed (x, tt) vs is) $ fjoin ! $ move ! (1 ∷ 0 ∷ [])
      $ fjoin ! $
      fpack ! (List Val) (λ us. fsep (cell_at full_share Data.mir us b o) (own d us)) vs
      $ done !))

  pub out : ⟦ P ⟧ ⊢ ex 𝓤 (Out 𝓛 νU [] (R ∷ []) m L b (o + offset R) ⟦ P ⟧)
  out = qed 𝓛 (‵ P ∷ []) ∵ use1 𝓛 (some (λ (x : R.Denot). ‵ (Fields x))) apart $ pick ! (λ x.
      use1 𝓛 ((‵ (At x) ⊛ ‵ ftrue) ⊛ raw (PartsBack 𝓛 full_share ν ks b o))
      (Struct-parts 𝓛 full_share ν ks (L, tt) (x, tt) b o) $ split ! $ split ! $
      show ! (Out 𝓛 νU [] (R ∷ []) m L b (o + offset R) ⟦ P ⟧) x $ frame !
      $ each ! (λ (y : R.Denot). ⟦ At y ⟧ -∗ ⟦ P ⟧) (λ y. assume ! (‵ (At y)) $ move ! (0 ∷ 1 ∷ [])
      $ fjoin ! $ move ! (1 ∷ []) $
      use1 𝓛 (raw (⟦ parts_at full_share ks zero (y, tt) b o ⟧ -∗ ⟦ Fields y ⟧))
      (all_e 𝓤 (λ (a : Denots (rows_of ks)). ⟦ parts_at full_share ks zero a b o ⟧
      -∗ ⟦ part_at Data full_share a b o ⟧) (y, tt)) $
      move ! (1 ∷ 0 ∷ []) $ use2 𝓛 (‵ (Fields y)) (apply∗ 𝓤 ⟦ parts_at full_share ks zero (y, tt) b o ⟧
      ⟦ Fields y ⟧) $ by ! (whole y)))
