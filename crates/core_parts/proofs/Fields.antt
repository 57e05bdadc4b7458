-- The data fields of a `Permit`, which has none, and of an `Open`. Assumes `Logic`.
use Rattle.std.proofs.Common.{◌≡◌, ℕ, List, [], ◌∷◌, ◌++◌, refl, ap, ◌∙◌}
use seplogic.Ra.Ura.{Ura}
use mir.Val.{Val, vptr, vstruct, vcons, vnil, of_list}
use base.Logic.{ent, emp}
use types.Logic.{Logic, sem}
use types.Kit.{‵, ◌$◌, ◌∵◌, !, qed, move, fjoin, fpack, feq_i, use0, done}
use denote.RattleType.{RattleType, Valss}
use denote.Laws.{Is}
use denote.Memory.{hidden_shr}
use denote.Ref.{NamedLft, ShrRef, shr_vals}
use denote.RawPtr.{RawPtr}
use denote.Opens.{Opens}
use denote.Copied.{Struct-Copied}
use denote.Shadow.{makes_shadow}
use denote.Steps.{nothing}
use denote.Struct.Laws.{shr_ref_copy, field_copy}
use denote.Struct.Struct.{Struct, within}
use denote.Struct.Owning.{shape}
use Rattle.core.specs.contracts.marker.PhantomData as marker
use Rattle.core_parts.specs.contracts.permit.Permit as permit
use Rattle.core_parts.specs.contracts.permit.Permits as permits
use Rattle.core_parts.specs.contracts.slot.PermitSlot as slot
use Rattle.core_parts.specs.contracts.place.Place as place
use Rattle.core_parts.specs.contracts.place.Open as opened
use Rattle.core_parts.proofs.Opening.{place_laws}

abbrev pub permit_val : Val
permit_val = vstruct vnil

abbrev pub Blank : RattleType
Blank = Struct (shape permit.the_type)

pub blank_told : (vs : List Val) → Is Blank tt vs → vs ≡ permit_val ∷ []
blank_told vs is = is.1.0

pub blank_made : {M : Type 1} {𝓤 : Ura M} (𝓛 : Logic 𝓤)
    → ent 𝓤 (emp 𝓤) (sem 𝓛 (Blank.own_val tt (permit_val ∷ [])))
blank_made 𝓛 = makes_shadow 𝓛 (Blank.own_val tt (permit_val ∷ [])) (λ uss. (tt, tt)) (tt, (refl, tt))

abbrev pub Source : RattleType
Source = Struct (shape permits.the_type)

pub source_told : (vs : List Val) → Is Source tt vs → vs ≡ permit_val ∷ []
source_told vs is = is.1.0

pub source_made : {M : Type 1} {𝓤 : Ura M} (𝓛 : Logic 𝓤)
    → ent 𝓤 (emp 𝓤) (sem 𝓛 (Source.own_val tt (permit_val ∷ [])))
source_made 𝓛 = makes_shadow 𝓛 (Source.own_val tt (permit_val ∷ [])) (λ uss. (tt, tt)) (tt, (refl, tt))

abbrev pub Bare : RattleType
Bare = Struct (shape slot.the_type)

pub bare_told : (vs : List Val) → Is Bare tt vs → vs ≡ permit_val ∷ []
bare_told vs is = is.1.0

pub bare_made : {M : Type 1} {𝓤 : Ura M} (𝓛 : Logic 𝓤)
    → ent 𝓤 (emp 𝓤) (sem 𝓛 (Bare.own_val tt (permit_val ∷ [])))
bare_made 𝓛 = makes_shadow 𝓛 (Bare.own_val tt (permit_val ∷ [])) (λ uss. (tt, tt)) (tt, (refl, tt))

abbrev pub open_val : ℕ × ℕ → Val
open_val p = vstruct (vcons (vptr p.0 p.1) (vcons (vstruct vnil) vnil))

module _ (a : NamedLft) (R : RattleType) where
  abbrev pub Words : RattleType
  Words = Struct (shape (opened.the_type a R))

  abbrev pub Near : RattleType
  Near = ShrRef a.mir a.lft (place.the_row R)

  abbrev pub Here : RattleType
  Here = marker.the_row RawPtr

  pub told : (p : Near.Denot) (vs : List Val) → Is Words (p, (tt, tt)) vs → vs ≡ open_val p.ref_ptr ∷ []
  told p vs is = is.1.0 ∙ ap (λ (ws : List Val). vstruct (of_list (ws ++ (is.0.1.0 ++ []))) ∷ []) is.1.1.0.0
      ∙ ap (λ (ws : List Val). vstruct (of_list (vptr p.ref_ptr.0 p.ref_ptr.1 ∷ (ws ++ []))) ∷ [])
      is.1.1.1.0.1.0

  module _ {M : Type 1} {𝓤 : Ura M} (𝓛 : Logic 𝓤) where
    -- the reference is kept
    pub made : (p : Near.Denot) → ent 𝓤
        (sem 𝓛 (hidden_shr (place.the_row R) a.lft p.now p.ref_ptr.0 p.ref_ptr.1))
        (sem 𝓛 (Words.own_val (p, (tt, tt)) (open_val p.ref_ptr ∷ [])))
    made p = let v : Val = open_val p.ref_ptr
        in qed 𝓛 (‵ (hidden_shr (place.the_row R) a.lft p.now p.ref_ptr.0 p.ref_ptr.1) ∷ []) ∵
        feq_i ! (List Val) (shr_vals p) (shr_vals p) refl $ fjoin ! $
        use0 𝓛 (‵ (Here.own_val (record {}) (permit_val ∷ [])))
        (makes_shadow 𝓛 (Here.own_val (record {}) (permit_val ∷ [])) (λ uss. (tt, tt)) (tt, (refl, tt)))
        $ nothing ! $ move ! (1 ∷ 0 ∷ []) $ fjoin ! $
        move ! (1 ∷ 0 ∷ []) $ fjoin ! $ feq_i ! (List Val) (v ∷ []) (v ∷ []) refl $ fjoin ! $
        fpack ! (Valss (Near ∷ Here ∷ [])) (within (shape (opened.the_type a R)) (p, (tt, tt)) (v ∷ []))
        (shr_vals p, (permit_val ∷ [], tt)) $ done !

    pub words_open : Opens 𝓛 Words
    words_open = (Struct-Copied 𝓛 (shape (opened.the_type a R)) (refl, (refl, tt)) (
      (shr_ref_copy a (place.the_row R) tt (place_laws R)).copied M 𝓤 𝓛,
      ((field_copy (marker.the_type RawPtr) tt).copied M 𝓤 𝓛, tt),
    )).opens
