-- A `&` to an open place is made where one to its value is. Assumes `Logic`.
use mathlib.Core.List.{[], ◌++◌}
use base.Fml.{Incl-trans}
use contract.BorrowLft.{meet_⊑_left, meet_⊑_right}
use denote.RattleType.{RattleType}
use denote.RawPtr.{RawPtr}
use denote.Ref.{NamedLft, ShrRef}
use denote.Param.Laws.{Laws}
use denote.Param.Shared.{copy_shared}
use denote.Struct.Field.{shr_ref_field}
use denote.Struct.Laws.{shr_ref_copy, field_copy}
use denote.Struct.Lending.{of_Lends}
use Rattle.core.specs.contracts.marker.PhantomData as marker
use Rattle.lock_values.specs.contracts.place.Place as P
use Rattle.lock_values.specs.Owning.{alone, among}
use Rattle.core_words.specs.contracts.views.View as view
use Rattle.lock_values.specs.contracts.place.Seen as C
use Rattle.lock_values.proofs.place.Seen.TheLaw.Statement.{statement}
use Rattle.lock_values.proofs.Fields.{near_laws}
use Rattle.lock_values.proofs.Opening.{seen_laws, Lends-reads}

pub shares : (a : NamedLft) (T : RattleType) (L : Laws T) → statement a T L
shares a T L = of_Lends (C.struct a T) (C.the_codes T.Denot T.coded (P.the_row T).coded
    (marker.the_row RawPtr).coded) (C.the_heap a.lft T) (C.the_lent a.lft T)
    (λ d p. seen_laws a.lft T L.shr_laws d.place.ref_ptr d.value) (
      copy_shared (shr_ref_field a (P.the_row T) tt) (shr_ref_copy a (P.the_row T) tt (near_laws T)),
      (copy_shared (marker.the_field RawPtr) (field_copy (marker.the_type RawPtr) tt), tt),
    ) (λ M 𝓤 𝓛 d p.
    let l = (C.the_row a T).lives in
    let s = (ShrRef a.mir a.lft (P.the_row T)).lives in
    Lends-reads 𝓛 T view.the_row.coded (alone d.of.at) (among d.of.at) d.of.table a.lft d.view L.shr_laws l
    (Incl-trans (meet_⊑_right (T.lives ++ []) (s ++ []))
    (Incl-trans (meet_⊑_left s []) (meet_⊑_left a.lft (P.the_row T).lives))) d.place.ref_ptr d.value)
