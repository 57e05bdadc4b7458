-- The thing that lies in the slot is a permit.
use Rattle.atomic_table.proofs.Names.{◌≡◌, List, [], ◌∷◌, refl, Val, SProp, emp, ftrue, ‵, raw, ◌⊛◌, given}
use Rattle.atomic_table.proofs.Names.{◌$◌, ◌∵◌, !, qed, by, move, keep, drop, split, fsplit, fjoin, learn}
use Rattle.atomic_table.proofs.Names.{use0, rewrite, no_more, returns, enter, alloc_all, pass_all, free_all}
use Rattle.atomic_table.proofs.Names.{look_at, sets, agg, tables, yes, RattleType, owns, types_at, plain}
use Rattle.atomic_table.proofs.Names.{nothing, alive, Stays, stay_dropped, walk_of, Goes-dropped, fact}
use Rattle.atomic_table.proofs.Names.{fact_i}
use Rattle.atomic_table.proofs.Walks.{proved, leaves}
use Rattle.core_parts.specs.PermitIds.{PermitId, slot_owns}
use Rattle.core_parts.proofs.Fields.{permit_val, Blank, blank_made, bare_told}
use Rattle.core_parts.specs.contracts.permit.Permit as permit
use Rattle.core_parts.specs.contracts.slot.PermitSlot as slot
use Rattle.core_parts.specs.contracts.slot.PermitSlot.into_permit.{ended, clauses}
use Rattle.core_parts.specs.contracts.slot.PermitSlot.into_permit.Key.{name as #self}
use Rattle.core_parts.proofs.slot.PermitSlot.into_permit.Statement.{statement}
use Rattle.core_parts.proofs.slot.PermitSlot.into_permit.Code as code

pub into_permit_spec : {M : Type 1} → statement M
into_permit_spec 𝓤 𝓛 𝓜 𝓡 wired =
    let H = 𝓛.H in let 𝓣 = tables 𝓤 H 𝓜 𝓡 𝓡.env in let En = ended in let c = clauses 𝓛 𝓜.mem 𝓡.returns
    in let fn = code.function in let Sr : RattleType = slot.the_row in let self = plain (λ _. Sr) in
    let hs : Stays En.signature.params En.kept = (stay_dropped self yes, tt) in
    proved 𝓛 En hs c 𝓜 𝓡 (Goes-dropped 𝓛 0 self yes (λ κs x f. refl), tt) #self fn
    (code.unfolded 𝓤 H 𝓜 𝓡 wired)
    (λ κs. ((λ _. permit_val ∷ []), tt)) (λ κs. ((λ x vs so. bare_told vs so.0), tt))
    (λ κs qs bounds a gh are. let h : Sr.Denot = a.0 in
    let y : (walk_of 𝓛 En hs c).Ghost = ((κs, qs, bounds, a, (permit_val ∷ [], tt)), gh) in let Post : Val
    → SProp 𝓤 = (walk_of 𝓛 En hs c).post y in
    qed 𝓛 ((raw (alive 𝓛 En.signature κs qs) ⊛ ‵ (owns (types_at En.signature.params κs) a y.0.4))
    ∷ given ((id : PermitId) × (h.holds ≡ id ∷ [])) (‵ ftrue) ∷ []) ∵
    move ! (1 ∷ []) $ learn ! (λ asked. let r : permit.the_row.Denot = record { id = asked.0 }
    in let Told : Type 0 = h.holds ≡ asked.0 ∷ [] in drop ! $ split ! $ move ! (1 ∷ []) $ fsplit !
    $ fsplit ! $ keep ! (1 ∷ 3 ∷ []) $
    rewrite ! 0 (λ (zs : List PermitId). ‵ (slot_owns zs)) asked.1 refl $ use0 𝓛
    (‵ (Blank.own_val tt (permit_val ∷ []))) (blank_made 𝓛) $ fjoin ! $
    enter ! 𝓣.C 𝓣.Λ fn (permit_val ∷ []) Post $ alloc_all ! (λ l. pass_all ! refl ((tt, tt), tt) $
    sets ! (agg ! (no_more !)) refl (tt, tt) $ use0 𝓛 (raw (fact 𝓤 Told)) (fact_i 𝓤 Told (emp 𝓤) asked.1)
    $ nothing ! $ nothing ! $ fjoin ! $
    returns ! (look_at ! 0 refl) $ free_all ! refl $ keep ! (3 ∷ 0 ∷ 2 ∷ 1 ∷ [])
    $ by ! (leaves 𝓛 En hs c y permit_val r (tt, tt) (tt, tt)))))
