-- An empty slot owns nothing.
use Rattle.atomic_table.proofs.Names.{◌≡◌, [], ◌∷◌, refl, Val, SProp, emp, ‵, raw, ◌⊛◌, ◌$◌, ◌∵◌, !, qed, by}
use Rattle.atomic_table.proofs.Names.{keep, split, fjoin, use0, no_more, returns, enter, alloc_all, pass_all}
use Rattle.atomic_table.proofs.Names.{free_all, look_at, sets, agg, tables, owns, types_at, nothing, alive}
use Rattle.atomic_table.proofs.Names.{Stays, walk_of, fact, fact_i}
use Rattle.atomic_table.proofs.Walks.{proved, leaves}
use Rattle.core_parts.proofs.Fields.{permit_val, Bare, bare_made}
use Rattle.core_parts.specs.contracts.slot.PermitSlot as slot
use Rattle.core_parts.specs.contracts.slot.PermitSlot.empty.{ended, clauses}
use Rattle.core_parts.specs.contracts.slot.PermitSlot.empty.Key.{name as #self}
use Rattle.core_parts.proofs.slot.PermitSlot.empty.Statement.{statement}
use Rattle.core_parts.proofs.slot.PermitSlot.empty.Code as code

pub empty_spec : {M : Type 1} → statement M
empty_spec 𝓤 𝓛 𝓜 𝓡 wired =
    let H = 𝓛.H in let 𝓣 = tables 𝓤 H 𝓜 𝓡 𝓡.env in let En = ended in let c = clauses 𝓛 𝓜.mem 𝓡.returns
    in let fn = code.function in
    let hs : Stays En.signature.params En.kept = tt in
    proved 𝓛 En hs c 𝓜 𝓡 tt #self fn (code.unfolded 𝓤 H 𝓜 𝓡 wired) (λ κs. tt) (λ κs. tt)
    (λ κs qs bounds a gh are.
    let y : (walk_of 𝓛 En hs c).Ghost = ((κs, qs, bounds, a, tt), gh) in let Post : Val → SProp 𝓤 =
    (walk_of 𝓛 En hs c).post y in
    let r : slot.the_row.Denot = record { holds = [] } in let Told : Type 0 = r.holds ≡ [] in
    qed 𝓛 ((raw (alive 𝓛 En.signature κs qs) ⊛ ‵ (owns (types_at En.signature.params κs) a y.0.4))
    ∷ raw ((c κs a).requires gh) ∷ []) ∵
    split ! $ keep ! (0 ∷ []) $ nothing ! $ use0 𝓛 (‵ (Bare.own_val tt (permit_val ∷ []))) (bare_made 𝓛)
    $ fjoin ! $
    enter ! 𝓣.C 𝓣.Λ fn [] Post $ alloc_all ! (λ l. pass_all ! refl tt $
    sets ! (agg ! (no_more !)) refl (tt, tt) $ use0 𝓛 (raw (fact 𝓤 Told)) (fact_i 𝓤 Told (emp 𝓤) refl)
    $ nothing ! $
    returns ! (look_at ! 0 refl) $ free_all ! refl $ keep ! (3 ∷ 0 ∷ 2 ∷ 1 ∷ [])
    $ by ! (leaves 𝓛 En hs c y permit_val r tt tt)))
