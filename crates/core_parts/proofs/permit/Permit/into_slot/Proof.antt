-- A slot with a permit owns what the permit owns.
use Rattle.atomic_table.proofs.Names.{◌≡◌, [], ◌∷◌, refl, Val, SProp, emp, ‵, raw, ◌⊛◌, ◌$◌, ◌∵◌, !, qed, by}
use Rattle.atomic_table.proofs.Names.{move, keep, split, fsplit, fjoin, use0, no_more, returns, enter}
use Rattle.atomic_table.proofs.Names.{alloc_all, pass_all, free_all, look_at, sets, agg, tables, yes}
use Rattle.atomic_table.proofs.Names.{RattleType, owns, types_at, plain, nothing, alive, Stays, stay_dropped}
use Rattle.atomic_table.proofs.Names.{walk_of, Goes-dropped, fact, fact_i}
use Rattle.atomic_table.proofs.Walks.{proved, leaves}
use Rattle.core_parts.proofs.Fields.{permit_val, blank_told, Bare, bare_made}
use Rattle.core_parts.specs.contracts.permit.Permit as permit
use Rattle.core_parts.specs.contracts.slot.PermitSlot as slot
use Rattle.core_parts.specs.contracts.permit.Permit.into_slot.{ended, clauses}
use Rattle.core_parts.specs.contracts.permit.Permit.into_slot.Key.{name as #self}
use Rattle.core_parts.proofs.permit.Permit.into_slot.Statement.{statement}
use Rattle.core_parts.proofs.permit.Permit.into_slot.Code as code

pub into_slot_spec : {M : Type 1} → statement M
into_slot_spec 𝓤 𝓛 𝓜 𝓡 wired =
    let H = 𝓛.H in let 𝓣 = tables 𝓤 H 𝓜 𝓡 𝓡.env in let En = ended in let c = clauses 𝓛 𝓜.mem 𝓡.returns
    in let fn = code.function in let Pr : RattleType = permit.the_row in let self = plain (λ _. Pr) in
    let hs : Stays En.signature.params En.kept = (stay_dropped self yes, tt) in
    proved 𝓛 En hs c 𝓜 𝓡 (Goes-dropped 𝓛 0 self yes (λ κs x f. refl), tt) #self fn
    (code.unfolded 𝓤 H 𝓜 𝓡 wired)
    (λ κs. ((λ _. permit_val ∷ []), tt)) (λ κs. ((λ x vs so. blank_told vs so.0), tt))
    (λ κs qs bounds a gh are. let h : Pr.Denot = a.0 in
    let y : (walk_of 𝓛 En hs c).Ghost = ((κs, qs, bounds, a, (permit_val ∷ [], tt)), gh) in let Post : Val
    → SProp 𝓤 = (walk_of 𝓛 En hs c).post y in
    let r : slot.the_row.Denot = record { holds = h.id ∷ [] } in let Told : Type 0 = r.holds ≡ h.id ∷ [] in
    qed 𝓛 ((raw (alive 𝓛 En.signature κs qs) ⊛ ‵ (owns (types_at En.signature.params κs) a y.0.4))
    ∷ raw ((c κs a).requires gh) ∷ []) ∵
    split ! $ move ! (1 ∷ []) $ fsplit ! $ fsplit ! $ keep ! (1 ∷ 3 ∷ []) $ use0 𝓛
    (‵ (Bare.own_val tt (permit_val ∷ []))) (bare_made 𝓛) $ fjoin ! $
    enter ! 𝓣.C 𝓣.Λ fn (permit_val ∷ []) Post $ alloc_all ! (λ l. pass_all ! refl ((tt, tt), tt) $
    sets ! (agg ! (no_more !)) refl (tt, tt) $ use0 𝓛 (raw (fact 𝓤 Told)) (fact_i 𝓤 Told (emp 𝓤) refl)
    $ nothing ! $ nothing ! $ fjoin ! $
    returns ! (look_at ! 0 refl) $ free_all ! refl $ keep ! (3 ∷ 0 ∷ 2 ∷ 1 ∷ [])
    $ by ! (leaves 𝓛 En hs c y permit_val r (tt, tt) (tt, tt))))
