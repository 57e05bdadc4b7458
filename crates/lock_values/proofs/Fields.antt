-- The data fields of an `Open` and of a `Seen`. Assumes `Logic`.
use Rattle.std.proofs.Common.{◌≡◌, ℕ, List, [], ◌∷◌, ◌++◌, refl, ap, ◌∙◌}
use seplogic.Ra.Ura.{Ura}
use mir.Val.{Val, vptr, vstruct, vcons, vnil, of_list}
use base.Logic.{ent}
use types.Logic.{Logic, sem}
use types.Kit.{‵, ◌$◌, ◌∵◌, !, qed, move, fjoin, fpack, feq_i, use0, done}
use denote.Bor.{Bor}
use denote.RattleType.{RattleType, RowLaws, Valss}
use denote.Laws.{Is}
use denote.Memory.{hidden_shr}
use denote.RawPtr.{RawPtr}
use denote.Ref.{NamedLft, ShrRef, shr_vals}
use denote.Shadow.{makes_shadow}
use denote.Opens.{Opens}
use denote.Copied.{Struct-Copied}
use denote.Steps.{nothing}
use denote.Struct.Laws.{shr_ref_copy, field_copy}
use denote.Struct.Struct.{Struct, within}
use denote.Struct.Owning.{shape}
use Rattle.core.specs.contracts.marker.PhantomData as marker
use Rattle.core_words.specs.contracts.views.View as view
use Rattle.lock_values.specs.Owning.{alone, among}
use Rattle.lock_values.specs.Ownership.{PlaceId}
use Rattle.lock_values.specs.contracts.place.Place as place
use Rattle.lock_values.specs.contracts.place.Open as opened
use Rattle.lock_values.specs.contracts.place.Seen as seen
use Rattle.lock_values.proofs.Opening.{place_laws}

abbrev pub open_val : ℕ × ℕ → Val
open_val p = vstruct (vcons (vptr p.0 p.1) (vcons (vstruct vnil) vnil))

abbrev pub Here : RattleType
Here = marker.the_row RawPtr

abbrev here_val : Val
here_val = vstruct vnil

pub near_laws : (R : RattleType) → RowLaws (place.the_row R)
near_laws R id b o = place_laws R view.the_row.coded (alone id.at) (among id.at) id.table b o

module _ (a : NamedLft) (R : RattleType) where
  abbrev pub Words : RattleType
  Words = Struct (shape (opened.the_type a R))

  pub told : (p : Bor PlaceId) (vs : List Val) → Is Words (p, (tt, tt)) vs → vs ≡ open_val p.ref_ptr ∷ []
  told p vs is = is.1.0 ∙ ap (λ (ws : List Val). vstruct (of_list (ws ++ (is.0.1.0 ++ []))) ∷ []) is.1.1.0.0
      ∙ ap (λ (ws : List Val). vstruct (of_list (vptr p.ref_ptr.0 p.ref_ptr.1 ∷ (ws ++ []))) ∷ [])
      is.1.1.1.0.1.0

  module _ {M : Type 1} {𝓤 : Ura M} (𝓛 : Logic 𝓤) where
    -- the reference is kept
    pub made : (p : Bor PlaceId) → ent 𝓤
        (sem 𝓛 (hidden_shr (place.the_row R) a.lft p.now p.ref_ptr.0 p.ref_ptr.1))
        (sem 𝓛 (Words.own_val (p, (tt, tt)) (open_val p.ref_ptr ∷ [])))
    made p = let v : Val = open_val p.ref_ptr
        in qed 𝓛 (‵ (hidden_shr (place.the_row R) a.lft p.now p.ref_ptr.0 p.ref_ptr.1) ∷ []) ∵
        feq_i ! (List Val) (shr_vals p) (shr_vals p) refl $ fjoin ! $
        use0 𝓛 (‵ (Here.own_val (record {}) (here_val ∷ [])))
        (makes_shadow 𝓛 (Here.own_val (record {}) (here_val ∷ [])) (λ uss. (tt, tt)) (tt, (refl, tt)))
        $ nothing ! $ move ! (1 ∷ 0 ∷ []) $ fjoin ! $
        move ! (1 ∷ 0 ∷ []) $ fjoin ! $ feq_i ! (List Val) (v ∷ []) (v ∷ []) refl $ fjoin ! $
        fpack ! (Valss (ShrRef a.mir a.lft (place.the_row R) ∷ Here ∷ []))
        (within (shape (opened.the_type a R)) (p, (tt, tt)) (v ∷ [])) (shr_vals p, (here_val ∷ [], tt))
        $ done !

    pub words_open : Opens 𝓛 Words
    words_open = (Struct-Copied 𝓛 (shape (opened.the_type a R)) (refl, (refl, tt)) (
      (shr_ref_copy a (place.the_row R) tt (near_laws R)).copied M 𝓤 𝓛,
      ((field_copy (marker.the_type RawPtr) tt).copied M 𝓤 𝓛, tt),
    )).opens

module _ (a : NamedLft) (R : RattleType) where
  abbrev pub SeenWords : RattleType
  SeenWords = Struct (shape (seen.the_type a R))

  pub seen_told : (p : Bor PlaceId) (vs : List Val) → Is SeenWords (p, (tt, tt)) vs → vs ≡ open_val p.ref_ptr
      ∷ []
  seen_told p vs is = is.1.0 ∙ ap (λ (ws : List Val). vstruct (of_list (ws ++ (is.0.1.0 ++ []))) ∷ [])
      is.1.1.0.0 ∙ ap (λ (ws : List Val). vstruct (of_list (vptr p.ref_ptr.0 p.ref_ptr.1 ∷ (ws ++ []))) ∷ [])
      is.1.1.1.0.1.0

  module _ {M : Type 1} {𝓤 : Ura M} (𝓛 : Logic 𝓤) where
    -- the reference is kept
    pub seen_made : (p : Bor PlaceId)
        → ent 𝓤 (sem 𝓛 (hidden_shr (place.the_row R) a.lft p.now p.ref_ptr.0 p.ref_ptr.1))
        (sem 𝓛 (SeenWords.own_val (p, (tt, tt)) (open_val p.ref_ptr ∷ [])))
    seen_made p = let v : Val = open_val p.ref_ptr
        in qed 𝓛 (‵ (hidden_shr (place.the_row R) a.lft p.now p.ref_ptr.0 p.ref_ptr.1) ∷ []) ∵
        feq_i ! (List Val) (shr_vals p) (shr_vals p) refl $ fjoin ! $
        use0 𝓛 (‵ (Here.own_val (record {}) (here_val ∷ [])))
        (makes_shadow 𝓛 (Here.own_val (record {}) (here_val ∷ [])) (λ uss. (tt, tt)) (tt, (refl, tt)))
        $ nothing ! $ move ! (1 ∷ 0 ∷ []) $ fjoin ! $
        move ! (1 ∷ 0 ∷ []) $ fjoin ! $ feq_i ! (List Val) (v ∷ []) (v ∷ []) refl $ fjoin ! $
        fpack ! (Valss (ShrRef a.mir a.lft (place.the_row R) ∷ Here ∷ []))
        (within (shape (seen.the_type a R)) (p, (tt, tt)) (v ∷ [])) (shr_vals p, (here_val ∷ [], tt))
        $ done !

    pub seen_words_open : Opens 𝓛 SeenWords
    seen_words_open = (Struct-Copied 𝓛 (shape (seen.the_type a R)) (refl, (refl, tt)) (
      (shr_ref_copy a (place.the_row R) tt (near_laws R)).copied M 𝓤 𝓛,
      ((field_copy (marker.the_type RawPtr) tt).copied M 𝓤 𝓛, tt),
    )).opens
