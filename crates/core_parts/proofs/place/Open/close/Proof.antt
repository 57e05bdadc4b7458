-- The borrow of the value is laid back into the place, for the permit.
use Rattle.atomic_table.proofs.Names.{◌≡◌, ℕ, [], ◌∷◌, refl, a_type, Val, inst_fn, SProp, emp, ftrue, Lft}
use Rattle.atomic_table.proofs.Names.{Share, Fml, fsep, flft, ‵, raw, ◌⊛◌, later, ◌$◌, ◌∵◌, !, qed, by, move}
use Rattle.atomic_table.proofs.Names.{keep, split, join, fsplit, fjoin, use0, use2, await, no_more, returns}
use Rattle.atomic_table.proofs.Names.{enter, alloc_all, pass_all, free_all, look_at, sets, agg, tables, no}
use Rattle.atomic_table.proofs.Names.{RattleType, owns, types_at, plain, nothing, param, layouts, Stays}
use Rattle.atomic_table.proofs.Names.{stay_dropped, walk_of, Goes-dropped, fact, fact_i}
use denote.Signature.{named_lft}
use Rattle.atomic_table.proofs.Walks.{proved, leaves}
use Rattle.core_parts.specs.PermitIds.{permit_owns}
use Rattle.core_parts.proofs.Fields.{permit_val, Blank, blank_made, open_val, told}
use Rattle.core_parts.proofs.Opening.{closed}
use Rattle.core_parts.specs.contracts.permit.Permit as permit
use Rattle.core_parts.specs.contracts.place.Open as open_row
use Rattle.core_parts.specs.contracts.place.Open.close.{ended, clauses}
use Rattle.core_parts.specs.contracts.place.Open.close.Key.{name as #self}
use Rattle.core_parts.proofs.place.Open.close.Statement.{statement}
use Rattle.core_parts.proofs.place.Open.close.Code as code

pub close_spec : {M : Type 1} → statement M
close_spec 𝓤 𝓛 𝓜 𝓡 wired X L =
    let H = 𝓛.H in let 𝓣 = tables 𝓤 H 𝓜 𝓡 𝓡.env in let R : RattleType = param 0 X in let En = ended X
    in let c = clauses X 𝓛 𝓜.mem 𝓡.returns in
    let inst = layouts (a_type ∷ []) (X, tt) in let fn = inst_fn inst code.function in let closed_fn =
    code.unfolded 𝓤 H 𝓜 𝓡 wired (X, tt) in
    let self = plain (λ κs. open_row.the_row (named_lft 2 0 tt κs) R) in
    let hs : Stays En.signature.params En.kept = (stay_dropped self no, tt) in
    proved 𝓛 En hs c 𝓜 𝓡 (Goes-dropped 𝓛 2 self no (λ κs x f. refl), tt) (#self inst) fn closed_fn
    (λ κs. ((λ x. open_val x.place.ref_ptr ∷ []), tt))
    (λ κs. ((λ x vs so. told (named_lft 2 0 tt κs) R x.place vs so.0), tt)) (λ κs qs bounds a gh are.
    let Or : RattleType = open_row.the_row (named_lft 2 0 tt κs) R in let h : Or.Denot = a.0 in let p : ℕ
    × ℕ = h.place.ref_ptr in let κ : Lft = κs.0 in let q : Share = qs.0 in let others : Fml =
    fsep (flft κs.1.0 qs.1.0) ftrue in
    let y : (walk_of 𝓛 En hs c).Ghost = ((κs, qs, bounds, a, (open_val p ∷ [], tt)), gh) in let Post : Val
    → SProp 𝓤 = (walk_of 𝓛 En hs c).post y in
    qed 𝓛 (((‵ (flft κ q) ⊛ ‵ others) ⊛ ‵ (owns (types_at En.signature.params κs) a y.0.4)) ∷ raw
    ((c κs a).requires gh) ∷ []) ∵
    split ! $ split ! $ move ! (2 ∷ []) $ fsplit ! $ fsplit ! $ keep ! (1 ∷ 3 ∷ 4 ∷ []) $
    enter ! 𝓣.C 𝓣.Λ fn (open_val p ∷ []) Post $ alloc_all ! (λ l. pass_all ! refl ((tt, (tt, (tt, tt))), tt) $
    use2 𝓛 (later (‵ (permit_owns h.id) ⊛ ‵ (flft κ q))) (closed 𝓛 κ R h.id p h.value q) $ await ! tt
    $ split ! $
    let r : permit.the_row.Denot = record { id = h.id } in
    use0 𝓛 (‵ (Blank.own_val tt (permit_val ∷ []))) (blank_made 𝓛) $ fjoin ! $
    sets ! (agg ! (no_more !)) refl (tt, tt) $
    use0 𝓛 (raw (fact 𝓤 (h.id ≡ h.id))) (fact_i 𝓤 (h.id ≡ h.id) (emp 𝓤) refl) $ move ! (2 ∷ 3 ∷ []) $ join !
    $ nothing ! $ nothing ! $ fjoin ! $
    returns ! (look_at ! 0 refl) $ free_all ! refl $ keep ! (1 ∷ 0 ∷ 3 ∷ 2 ∷ [])
    $ by ! (leaves 𝓛 En hs c y permit_val r (tt, tt) (tt, tt))))
