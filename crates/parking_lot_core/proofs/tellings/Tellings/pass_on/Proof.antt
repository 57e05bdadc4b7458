-- The list of another is added.
use Rattle.atomic_table.proofs.Names.{◌≡◌, ℕ, List, [], ◌∷◌, ◌++◌, refl, named, Val, vunit, vptr, SProp, emp}
use Rattle.atomic_table.proofs.Names.{ftrue, flft, ‵, raw, ◌⊛◌, ◌$◌, ◌∵◌, !, qed, by, move, keep, split}
use Rattle.atomic_table.proofs.Names.{split3, join, fsplit3, fjoin, fjoin3, use0, feq_i, unit_lit}
use Rattle.atomic_table.proofs.Names.{of_opd, returns, enter, alloc_all, pass_all, free_all, look_at, sets}
use Rattle.atomic_table.proofs.Names.{tables, yes, RattleType, owns, types_at, plain, nothing, Stays}
use Rattle.atomic_table.proofs.Names.{stay_dropped, stay_ref, walk_of, Goes-dropped, Goes-ref, fact, fact_i}
use Rattle.atomic_table.proofs.Names.{RefOf, mut_vals, mut_Tells, shr_vals, shr_Tells, opens, closes}
use Rattle.atomic_table.proofs.Walks.{proved, leaves}
use Rattle.parking_lot_core.specs.contracts.tellings.Tellings as tellings
use Rattle.parking_lot_core.specs.contracts.tellings.Tellings.pass_on.{ended, clauses}
use Rattle.parking_lot_core.specs.contracts.tellings.Tellings.pass_on.Key.{name as #self}
use Rattle.parking_lot_core.proofs.tellings.Tellings.pass_on.Statement.{statement}
use Rattle.parking_lot_core.proofs.tellings.Tellings.pass_on.Code as code

pub pass_on_spec : {M : Type 1} → statement M
pass_on_spec 𝓤 𝓛 𝓜 𝓡 wired =
    let H = 𝓛.H in let 𝓣 = tables 𝓤 H 𝓜 𝓡 𝓡.env in let En = ended in let c = clauses 𝓛 𝓜.mem 𝓡.returns
    in let fn = code.function in
    let Row : RattleType = tellings.the_row in let Sr : RattleType = tellings.the_row in let self =
    RefOf (0 ∷ []) tt (plain (λ _. Row)) (λ _. tt) in let sitter = plain (λ _. Sr) in
    let hs : Stays En.signature.params En.kept = (stay_dropped self yes, (stay_ref (1 ∷ []) tt sitter, tt)) in
    proved 𝓛 En hs c 𝓜 𝓡 (Goes-dropped 𝓛 2 self yes (λ κs x f. refl), (Goes-ref 𝓛 2 1 tt sitter, tt)) #self fn
    (code.unfolded 𝓤 H 𝓜 𝓡 wired)
    (λ κs. (shr_vals, (mut_vals, tt))) (λ κs. (
      shr_Tells (named 0) κs.0 Row,
      (mut_Tells (named 1) κs.1.0 Sr, tt),
    )) (λ κs qs bounds a gh are.
    let b : ℕ = a.1.0.ref_ptr.0 in let o : ℕ = a.1.0.ref_ptr.1 in let h : Sr.Denot = a.1.0.now in
    let y : (walk_of 𝓛 En hs c).Ghost =
    ((κs, qs, bounds, a, (vptr a.0.ref_ptr.0 a.0.ref_ptr.1 ∷ [], (vptr b o ∷ [], tt))), gh)
    in let Post : Val → SProp 𝓤 = (walk_of 𝓛 En hs c).post y in
    let h' : Sr.Denot = record { list = h.list ++ a.0.now.list } in let Told : Type 0 = h'.list ≡ h.list
    ++ a.0.now.list in
    qed 𝓛 (((‵ (flft κs.0 qs.0) ⊛ ‵ (flft κs.1.0 qs.1.0) ⊛ ‵ ftrue) ⊛ ‵
    (owns (types_at En.signature.params κs) a y.0.4)) ∷ raw ((c κs a).requires gh) ∷ []) ∵
    split ! $ split3 ! $ move ! (3 ∷ []) $ fsplit3 ! $ move ! (1 ∷ []) $ fsplit3 !
    $ keep ! (1 ∷ 2 ∷ 6 ∷ 5 ∷ 7 ∷ []) $
    enter ! 𝓣.C 𝓣.Λ fn (vptr a.0.ref_ptr.0 a.0.ref_ptr.1 ∷ vptr b o ∷ []) Post $ alloc_all !
    (λ l. pass_all ! refl ((tt, tt), ((tt, tt), tt)) $
    opens ! tt Sr b o (λ ts. closes ! tt Sr h' ts b o $ feq_i ! (List Val) (vptr b o ∷ []) (vptr b o ∷ [])
    refl $ fjoin3 ! $
    nothing ! $ move ! (1 ∷ 0 ∷ []) $ fjoin ! $ nothing ! $ fjoin ! $ move ! (1 ∷ 3 ∷ []) $ join !
    $ move ! (2 ∷ 0 ∷ []) $ join ! $
    sets ! (of_opd ! (unit_lit !)) refl (tt, tt) $ use0 𝓛 (raw (fact 𝓤 Told)) (fact_i 𝓤 Told (emp 𝓤) refl)
    $ feq_i ! (List Val) (vunit ∷ []) (vunit ∷ []) refl $
    returns ! (look_at ! 0 refl) $ free_all ! refl $ keep ! (2 ∷ 3 ∷ 0 ∷ 1 ∷ [])
    $ by ! (leaves 𝓛 En hs c y vunit tt (tt, (h', tt)) (tt, (tt, tt))))))
