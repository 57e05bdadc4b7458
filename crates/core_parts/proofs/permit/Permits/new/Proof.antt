-- A new source has a new name.
use Rattle.atomic_table.proofs.Names.{◌≡◌, [], ◌∷◌, refl, Val, SProp, emp, via, sem, ‵, raw, ◌⊛◌, some, later}
use Rattle.atomic_table.proofs.Names.{◌$◌, ◌∵◌, !, qed, by, keep, split, fjoin, pick, use0, await, no_more}
use Rattle.atomic_table.proofs.Names.{returns, enter, alloc_all, pass_all, free_all, look_at, sets, agg}
use Rattle.atomic_table.proofs.Names.{tables, owns, types_at, nothing, alive, Stays, walk_of, fact, fact_i}
use base.Fml.{GName}
use types.Keyed.{token, tickets_from, entries_new}
use types.Owned.{basic}
use Rattle.atomic_table.proofs.Walks.{proved, leaves}
use Rattle.core_parts.proofs.Fields.{permit_val, Source, source_made}
use Rattle.core_parts.specs.contracts.permit.Permits as permits
use Rattle.core_parts.specs.contracts.permit.Permits.new.{ended, clauses}
use Rattle.core_parts.specs.contracts.permit.Permits.new.Key.{name as #self}
use Rattle.core_parts.proofs.permit.Permits.new.Statement.{statement}
use Rattle.core_parts.proofs.permit.Permits.new.Code as code

pub new_spec : {M : Type 1} → statement M
new_spec 𝓤 𝓛 𝓜 𝓡 wired =
    let H = 𝓛.H in let 𝓣 = tables 𝓤 H 𝓜 𝓡 𝓡.env in let En = ended in let c = clauses 𝓛 𝓜.mem 𝓡.returns
    in let fn = code.function in
    let hs : Stays En.signature.params En.kept = tt in
    proved 𝓛 En hs c 𝓜 𝓡 tt #self fn (code.unfolded 𝓤 H 𝓜 𝓡 wired) (λ κs. tt) (λ κs. tt)
    (λ κs qs bounds a gh are.
    let y : (walk_of 𝓛 En hs c).Ghost = ((κs, qs, bounds, a, tt), gh) in let Post : Val → SProp 𝓤 =
    (walk_of 𝓛 En hs c).post y in
    qed 𝓛 ((raw (alive 𝓛 En.signature κs qs) ⊛ ‵ (owns (types_at En.signature.params κs) a y.0.4))
    ∷ raw ((c κs a).requires gh) ∷ []) ∵
    split ! $ keep ! (0 ∷ []) $
    enter ! 𝓣.C 𝓣.Λ fn [] Post $ alloc_all ! (λ l. pass_all ! refl tt $
    use0 𝓛 (later (some (λ (γ : GName). ‵ (tickets_from γ 0)))) (via 𝓤 _ (entries_new token 𝓛 0 (λ _. tt))
    (basic 𝓛 (base.Logic.ex 𝓤 (λ (γ : GName). sem 𝓛 (tickets_from γ 0))))) $ await ! tt $ pick ! (λ γ.
    let r : permits.the_row.Denot = record { family = γ; next = 0 } in
    use0 𝓛 (‵ (Source.own_val tt (permit_val ∷ []))) (source_made 𝓛) $ fjoin ! $
    sets ! (agg ! (no_more !)) refl (tt, tt) $ use0 𝓛 (raw (fact 𝓤 (0 ≡ 0))) (fact_i 𝓤 (0 ≡ 0) (emp 𝓤) refl)
    $ nothing ! $
    returns ! (look_at ! 0 refl) $ free_all ! refl $ keep ! (3 ∷ 0 ∷ 2 ∷ 1 ∷ [])
    $ by ! (leaves 𝓛 En hs c y permit_val r tt tt))))
