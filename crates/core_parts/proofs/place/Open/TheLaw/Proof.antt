-- A `&` to an open place is made where one to its value is. Assumes `Logic`.
use mathlib.Core.List.{[], ◌++◌}
use base.Fml.{Incl-trans}
use contract.BorrowLft.{meet_⊑_left, meet_⊑_right}
use denote.RattleType.{RattleType}
use denote.RawPtr.{RawPtr}
use denote.Ref.{NamedLft, ShrRef}
use denote.Shares.{Shares-less}
use denote.Param.Laws.{Laws}
use denote.Param.Shared.{copy_shared}
use denote.Struct.Field.{shr_ref_field}
use denote.Struct.Laws.{shr_ref_copy, field_copy}
use denote.Struct.Lending.{of_Lends}
use Rattle.core.specs.contracts.marker.PhantomData as marker
use Rattle.core_parts.specs.contracts.place.Place as P
use Rattle.core_parts.specs.contracts.place.Open as C
use Rattle.core_parts.proofs.place.Open.TheLaw.Statement.{statement}
use Rattle.core_parts.proofs.Opening.{place_laws, seen_laws, Lends-held}

pub shares : (a : NamedLft) (T : RattleType) (L : Laws T) → statement a T L
shares a T L = of_Lends (C.struct a T) (C.the_codes T.Denot T.coded (P.the_row T).coded
    (marker.the_row RawPtr).coded) (C.the_heap a.lft T) (C.the_lent a.lft T)
    (λ d p. seen_laws a.lft T L.shr_laws d.place.ref_ptr d.value) (
      copy_shared (shr_ref_field a (P.the_row T) tt) (shr_ref_copy a (P.the_row T) tt (place_laws T)),
      (copy_shared (marker.the_field RawPtr) (field_copy (marker.the_type RawPtr) tt), tt),
    ) (λ M 𝓤 𝓛 d p.
    let l = (C.the_row a T).lives in
    let s = (ShrRef a.mir a.lft (P.the_row T)).lives in
    Lends-held 𝓛 a.lft T l (Incl-trans (meet_⊑_right (T.lives ++ []) (s ++ []))
    (Incl-trans (meet_⊑_left s []) (meet_⊑_left a.lft (P.the_row T).lives)))
    (Shares-less 𝓛 T T.lives l (Incl-trans (meet_⊑_left (T.lives ++ []) _) (meet_⊑_left T.lives []))
    (L.shares 𝓛)) d.id d.place.ref_ptr d.value)
