-- Two permits are kept, whose ids differ.
use Rattle.atomic_table.proofs.Names.{◌≡◌, [], ◌∷◌, ◌++◌, List, refl, Val, vstruct, vcons, vnil, SProp, emp}
use Rattle.atomic_table.proofs.Names.{sep, ‵, raw, ◌⊛◌, given, ◌$◌, ◌∵◌, !, qed, by, move, keep, split, join}
use Rattle.atomic_table.proofs.Names.{fsplit, fjoin, learn, use0, use1, feq_i, fpack, no_more, and_then}
use Rattle.atomic_table.proofs.Names.{of_opd, get, returns, enter, alloc_all, pass_all, free_all, look_at}
use Rattle.atomic_table.proofs.Names.{sets, agg, tables, yes, RattleType, owns, types_at, plain, nothing}
use Rattle.atomic_table.proofs.Names.{alive, Stays, stay_dropped, walk_of, Goes-dropped, fact, fact_i}
use Rattle.atomic_table.proofs.Names.{fact_use, guard_i, sem, Valss}
use mathlib.Core.Logic.{◌≢◌}
use Rattle.atomic_table.proofs.Walks.{proved, leaves}
use Rattle.core_parts.specs.PermitIds.{permit_owns}
use Rattle.core_parts.proofs.Fields.{permit_val, blank_told, Blank, blank_made}
use Rattle.core_parts.proofs.Opening.{ids_differ}
use Rattle.core_parts.specs.contracts.permit.Permit as permit
use Rattle.core_parts.specs.contracts.permit.Permit.beside.{ended, clauses}
use Rattle.core_parts.specs.contracts.permit.Permit.beside.Key.{name as #self}
use Rattle.core_parts.proofs.permit.Permit.beside.Statement.{statement}
use Rattle.core_parts.proofs.permit.Permit.beside.Code as code

pub beside_spec : {M : Type 1} → statement M
beside_spec 𝓤 𝓛 𝓜 𝓡 wired =
    let H = 𝓛.H in let 𝓣 = tables 𝓤 H 𝓜 𝓡 𝓡.env in let En = ended in let c = clauses 𝓛 𝓜.mem 𝓡.returns
    in let fn = code.function in let Pr : RattleType = permit.the_row in let self = plain (λ _. Pr) in
    let hs : Stays En.signature.params En.kept = (stay_dropped self yes, (stay_dropped self yes, tt)) in
    proved 𝓛 En hs c 𝓜 𝓡 (
      Goes-dropped 𝓛 0 self yes (λ κs x f. refl),
      (Goes-dropped 𝓛 0 self yes (λ κs x f. refl), tt),
    ) #self fn (code.unfolded 𝓤 H 𝓜 𝓡 wired)
    (λ κs. ((λ _. permit_val ∷ []), ((λ _. permit_val ∷ []), tt))) (λ κs. (
      (λ x vs so. blank_told vs so.0),
      ((λ x vs so. blank_told vs so.0), tt),
    )) (λ κs qs bounds a gh are. let h : Pr.Denot = a.0
    in let k : Pr.Denot = a.1.0 in
    let y : (walk_of 𝓛 En hs c).Ghost = ((κs, qs, bounds, a, (permit_val ∷ [], (permit_val ∷ [], tt))), gh)
    in let Post : Val → SProp 𝓤 = (walk_of 𝓛 En hs c).post y in
    let Told : Type 0 = (h ≡ h) × (k ≡ k) × (h.id ≢ k.id) in let v : Val =
    vstruct (vcons permit_val (vcons permit_val vnil)) in
    qed 𝓛 ((raw (alive 𝓛 En.signature κs qs) ⊛ ‵ (owns (types_at En.signature.params κs) a y.0.4))
    ∷ raw ((c κs a).requires gh) ∷ []) ∵
    split ! $ move ! (1 ∷ []) $ fsplit ! $ fsplit ! $ move ! (2 ∷ []) $ fsplit ! $ fsplit ! $ keep !
    (4 ∷ 1 ∷ 5 ∷ []) $ join ! $
    use1 𝓛 (given (h.id ≢ k.id) (‵ (permit_owns h.id) ⊛ ‵ (permit_owns k.id)))
    (fact_use 𝓤 _ (ids_differ 𝓛 h.id k.id)
    (guard_i 𝓤 (h.id ≢ k.id) (sep 𝓤 (sem 𝓛 (permit_owns h.id)) (sem 𝓛 (permit_owns k.id)))))
    $ learn ! (λ differ. split ! $
    use0 𝓛 (‵ (Blank.own_val tt (permit_val ∷ []))) (blank_made 𝓛) $ fjoin ! $ move ! (1 ∷ 0 ∷ [])
    $ use0 𝓛 (‵ (Blank.own_val tt (permit_val ∷ []))) (blank_made 𝓛) $ fjoin ! $
    nothing ! $ move ! (1 ∷ 0 ∷ []) $ fjoin ! $ move ! (1 ∷ 0 ∷ []) $ fjoin ! $ feq_i ! (List Val) (v ∷ [])
    (v ∷ []) refl $ fjoin ! $
    fpack ! (Valss (Pr ∷ Pr ∷ [])) (λ vss. base.Fml.fsep
    (base.Fml.feq (List Val) (v ∷ []) (vstruct (mir.Val.of_list (vss.0 ++ (vss.1.0 ++ []))) ∷ []))
    (owns (Pr ∷ Pr ∷ []) (h, (k, tt)) vss)) (permit_val ∷ [], (permit_val ∷ [], tt)) $
    enter ! 𝓣.C 𝓣.Λ fn (permit_val ∷ permit_val ∷ []) Post
    $ alloc_all ! (λ l. pass_all ! refl ((tt, tt), ((tt, tt), tt)) $
    sets ! (of_opd ! (get ! refl)) refl (tt, tt) $ sets ! (of_opd ! (get ! refl)) refl (tt, tt) $
    sets ! (agg ! (and_then ! (get ! refl) (and_then ! (get ! refl) (no_more !)))) refl (tt, (tt, (tt, tt))) $
    use0 𝓛 (raw (fact 𝓤 Told)) (fact_i 𝓤 Told (emp 𝓤) (refl, refl, differ)) $ nothing ! $ nothing ! $ fjoin !
    $ nothing ! $ fjoin ! $
    returns ! (look_at ! 0 refl) $ free_all ! refl $ keep ! (3 ∷ 0 ∷ 2 ∷ 1 ∷ [])
    $ by ! (leaves 𝓛 En hs c y v (h, k) (tt, (tt, tt)) (tt, (tt, tt))))))
