-- The next permit is cut off the source.
use Rattle.atomic_table.proofs.Names.{◌≡◌, ℕ, suc, ◌+◌, List, [], ◌∷◌, refl, arith, named, Val, vptr, SProp}
use Rattle.atomic_table.proofs.Names.{emp, Lft, Share, ftrue, flft, ‵, raw, ◌⊛◌, ◌$◌, ◌∵◌, !, qed, by, move}
use Rattle.atomic_table.proofs.Names.{keep, split, join, fsplit, fsplit3, fjoin, fjoin3, use0, use1, feq_i}
use Rattle.atomic_table.proofs.Names.{no_more, returns, enter, alloc_all, pass_all, free_all, look_at, sets}
use Rattle.atomic_table.proofs.Names.{agg, tables, RattleType, owns, types_at, plain, nothing, Stays}
use Rattle.atomic_table.proofs.Names.{stay_ref, Goes-ref, walk_of, fact, fact_i, mut_vals, mut_Tells, opens}
use Rattle.atomic_table.proofs.Names.{closes}
use types.Keyed.{token, ticket, tickets_from, entries_take}
use Rattle.atomic_table.proofs.Walks.{proved, leaves}
use Rattle.core_parts.specs.PermitIds.{PermitId}
use Rattle.core_parts.proofs.Fields.{permit_val, Blank, blank_made}
use Rattle.core_parts.specs.contracts.permit.Permit as permit
use Rattle.core_parts.specs.contracts.permit.Permits as permits
use Rattle.core_parts.specs.contracts.permit.Permits.draw.{ended, clauses}
use Rattle.core_parts.specs.contracts.permit.Permits.draw.Key.{name as #self}
use Rattle.core_parts.proofs.permit.Permits.draw.Statement.{statement}
use Rattle.core_parts.proofs.permit.Permits.draw.Code as code

pub draw_spec : {M : Type 1} → statement M
draw_spec 𝓤 𝓛 𝓜 𝓡 wired =
    let H = 𝓛.H in let 𝓣 = tables 𝓤 H 𝓜 𝓡 𝓡.env in let En = ended in let c = clauses 𝓛 𝓜.mem 𝓡.returns
    in let fn = code.function in let Sr : RattleType = permits.the_row in
    let hs : Stays En.signature.params En.kept = (stay_ref (0 ∷ []) tt (plain (λ _. Sr)), tt) in
    proved 𝓛 En hs c 𝓜 𝓡 (Goes-ref 𝓛 1 0 tt (plain (λ _. Sr)), tt) #self fn (code.unfolded 𝓤 H 𝓜 𝓡 wired)
    (λ κs. (mut_vals, tt)) (λ κs. (mut_Tells (named 0) κs.0 Sr, tt)) (λ κs qs bounds a gh are.
    let b : ℕ = a.0.ref_ptr.0 in let o : ℕ = a.0.ref_ptr.1 in let h : Sr.Denot = a.0.now in let κ : Lft = κs.0
    in let q : Share = qs.0 in let n : ℕ = h.next in
    let y : (walk_of 𝓛 En hs c).Ghost = ((κs, qs, bounds, a, (vptr b o ∷ [], tt)), gh) in let Post : Val
    → SProp 𝓤 = (walk_of 𝓛 En hs c).post y in
    qed 𝓛 (((‵ (flft κ q) ⊛ ‵ ftrue) ⊛ ‵ (owns (types_at En.signature.params κs) a y.0.4)) ∷ raw
    ((c κs a).requires gh) ∷ []) ∵
    split ! $ split ! $ move ! (2 ∷ []) $ fsplit ! $ fsplit3 ! $ keep ! (1 ∷ 2 ∷ 4 ∷ []) $
    enter ! 𝓣.C 𝓣.Λ fn (vptr b o ∷ []) Post $ alloc_all ! (λ l. pass_all ! refl ((tt, tt), tt) $
    opens ! tt Sr b o (λ ts. move ! (1 ∷ []) $ fsplit ! $ move ! (1 ∷ []) $
    use1 𝓛 (‵ (ticket h.family n) ⊛ ‵ (tickets_from h.family (suc n))) (entries_take token 𝓛 h.family n
    (λ _. tt)) $ split ! $ move ! (2 ∷ 1 ∷ []) $ fjoin ! $
    let h' : Sr.Denot = record {
      family = h.family;
      next = suc n;
    } in let made : PermitId = record { family = h.family; number = n } in let r : permit.the_row.Denot =
    record { id = made } in
    move ! (2 ∷ 0 ∷ 3 ∷ 4 ∷ 5 ∷ []) $ closes ! tt Sr h' ts b o $ feq_i ! (List Val) (vptr b o ∷ [])
    (vptr b o ∷ []) refl $ fjoin3 ! $ nothing ! $ move ! (1 ∷ 0 ∷ []) $ fjoin ! $
    use0 𝓛 (‵ (Blank.own_val tt (permit_val ∷ []))) (blank_made 𝓛) $ move ! (0 ∷ 3 ∷ []) $ fjoin ! $
    sets ! (agg ! (no_more !)) refl (tt, tt) $
    let First : Type 0 = (h.family ≡ h.family) × (suc n ≡ n + 1) in let Second : Type 0 = made ≡ made in
    use0 𝓛 (raw (fact 𝓤 Second)) (fact_i 𝓤 Second (emp 𝓤) refl) $ use0 𝓛 (raw (fact 𝓤 First))
    (fact_i 𝓤 First (emp 𝓤) (refl, omega arith)) $ join ! $
    nothing ! $ move ! (4 ∷ 0 ∷ []) $ join ! $
    returns ! (look_at ! 0 refl) $ free_all ! refl $ keep ! (0 ∷ 3 ∷ 2 ∷ 1 ∷ [])
    $ by ! (leaves 𝓛 En hs c y permit_val r (h', tt) (tt, tt)))))
