-- The permit is laid into the place, for the borrow of the value.
use Rattle.atomic_table.proofs.Names.{◌≡◌, ℕ, [], ◌∷◌, refl, a_type, named, Val, vptr, inst_fn, SProp, emp}
use Rattle.atomic_table.proofs.Names.{ftrue, Lft, Share, Fml, fsep, flft, ‵, raw, ◌⊛◌, some, later, ◌$◌, ◌∵◌}
use Rattle.atomic_table.proofs.Names.{ !, qed, by, move, keep, split, join, fsplit, fjoin, pick, use0, use1}
use Rattle.atomic_table.proofs.Names.{use3, await, rewrite, heard, no_more, and_then, returns, enter}
use Rattle.atomic_table.proofs.Names.{alloc_all, pass_all, free_all, look_at, get, sets, agg, tables, yes}
use Rattle.atomic_table.proofs.Names.{RattleType, owns, types_at, plain, nothing, param, layouts, Stays}
use Rattle.atomic_table.proofs.Names.{stay_dropped, walk_of, Goes-dropped, fact, fact_i, RefOf, shr_vals}
use Rattle.atomic_table.proofs.Names.{shr_Tells, unhide}
use contract.BorrowLft.{◌⊑◌}
use denote.Bor.{Bor}
use denote.Memory.{shared_of, hidden_shr}
use denote.SharingLaws.{contraction}
use denote.Signature.{named_lft}
use Rattle.atomic_table.proofs.Walks.{proved, leaves}
use Rattle.core_parts.specs.PermitIds.{PermitId, permit_owns}
use Rattle.core_parts.specs.Ownership.{open_owns}
use Rattle.core_parts.proofs.Fields.{permit_val, blank_told, open_val, Words, made}
use Rattle.core_parts.proofs.Opening.{opened, place_laws}
use Rattle.core_parts.specs.contracts.permit.Permit as permit
use Rattle.core_parts.specs.contracts.place.Place as place
use Rattle.core_parts.specs.contracts.place.Open as open_row
use Rattle.core_parts.specs.contracts.permit.Permit.into_open.{ended, clauses}
use Rattle.core_parts.specs.contracts.permit.Permit.into_open.Key.{name as #self}
use Rattle.core_parts.proofs.permit.Permit.into_open.Statement.{statement}
use Rattle.core_parts.proofs.permit.Permit.into_open.Code as code

pub into_open_spec : {M : Type 1} → statement M
into_open_spec 𝓤 𝓛 𝓜 𝓡 wired X L =
    let H = 𝓛.H in let 𝓣 = tables 𝓤 H 𝓜 𝓡 𝓡.env in let R : RattleType = param 0 X in let En = ended X
    in let c = clauses X 𝓛 𝓜.mem 𝓡.returns in
    let inst = layouts (a_type ∷ []) (X, tt) in let fn = inst_fn inst code.function in let closed =
    code.unfolded 𝓤 H 𝓜 𝓡 wired (X, tt) in
    let Row : RattleType = place.the_row R in let Pr : RattleType = permit.the_row in let self =
    plain (λ _. Pr) in let about = RefOf (0 ∷ []) tt (plain (λ _. Row)) (λ _. tt) in
    let hs : Stays En.signature.params En.kept = (stay_dropped self yes, (stay_dropped about yes, tt)) in
    proved 𝓛 En hs c 𝓜 𝓡 (
      Goes-dropped 𝓛 2 self yes (λ κs x f. refl),
      (Goes-dropped 𝓛 2 about yes (λ κs x f. refl), tt),
    ) (#self inst) fn closed
    (λ κs. ((λ _. permit_val ∷ []), (shr_vals, tt))) (λ κs. (
      (λ x vs so. blank_told vs so.0),
      (shr_Tells (named 0) κs.0 Row, tt),
    )) (λ κs qs bounds a gh are.
    let b : ℕ = a.1.0.ref_ptr.0 in let o : ℕ = a.1.0.ref_ptr.1 in let κ : Lft = κs.0 in let q : Share = qs.0
    in let others : Fml = fsep (flft κs.1.0 qs.1.0) ftrue in let id : PermitId = a.1.0.now in
    let ℓ = named_lft 2 0 tt κs in let Or : RattleType = open_row.the_row ℓ R in
    let y : (walk_of 𝓛 En hs c).Ghost = ((κs, qs, bounds, a, (permit_val ∷ [], (vptr b o ∷ [], tt))), gh)
    in let Post : Val → SProp 𝓤 = (walk_of 𝓛 En hs c).post y in
    qed 𝓛 (((‵ (flft κ q) ⊛ ‵ others) ⊛ ‵ (owns (types_at En.signature.params κs) a y.0.4)) ∷ raw
    (fact 𝓤 (κs.1.0 ⊑ X.lives)) ∷ raw (fact 𝓤 (a.0.id ≡ id)) ∷ []) ∵
    keep ! (2 ∷ 0 ∷ []) $ heard ! (a.0.id ≡ id) (λ asked. split ! $ split ! $ move ! (2 ∷ []) $ fsplit !
    $ fsplit ! $ move ! (2 ∷ []) $ fsplit ! $ fsplit ! $ keep ! (1 ∷ 4 ∷ 5 ∷ 6 ∷ []) $
    enter ! 𝓣.C 𝓣.Λ fn (permit_val ∷ vptr b o ∷ []) Post
    $ alloc_all ! (λ l. pass_all ! refl ((tt, tt), ((tt, tt), tt)) $
    use1 𝓛 (‵ (hidden_shr Row κ id b o) ⊛ ‵ (hidden_shr Row κ id b o)) (contraction 𝓛 (shared_of Row id b o)
    (place_laws R id b o) κ) $ split ! $
    unhide ! $ move ! (2 ∷ []) $ rewrite ! 0 (λ (n : PermitId). ‵ (permit_owns n)) asked refl
    $ move ! (1 ∷ 0 ∷ 3 ∷ []) $
    use3 𝓛 (later (some (λ (x : X.Denot). ‵ (open_owns κ R id (b, o) x)) ⊛ ‵ (flft κ q)))
    (opened 𝓛 κ R id b o q) $ await ! tt $ split ! $ pick ! (λ x.
    let at : Bor PermitId = record { ref_ptr = (b, o); now = id } in let r : Or.Denot = record {
      place = at;
      here = record {};
      id = id;
      value = x;
    } in move ! (2 ∷ []) $
    use1 𝓛 (‵ ((Words ℓ R).own_val (at, (tt, tt)) (open_val (b, o) ∷ []))) (made ℓ R 𝓛 at) $ fjoin ! $
    sets ! (agg ! (no_more !)) refl (tt, tt)
    $ sets ! (agg ! (and_then ! (get ! refl) (and_then ! (get ! refl) (no_more !)))) refl (
      tt,
      (tt, (tt, tt)),
    ) $
    use0 𝓛 (raw (fact 𝓤 (id ≡ id))) (fact_i 𝓤 (id ≡ id) (emp 𝓤) refl) $ move ! (2 ∷ 3 ∷ []) $ join !
    $ nothing ! $ nothing ! $ fjoin ! $ nothing ! $ fjoin ! $
    returns ! (look_at ! 0 refl) $ free_all ! refl $ keep ! (1 ∷ 0 ∷ 3 ∷ 2 ∷ [])
    $ by ! (leaves 𝓛 En hs c y (open_val (b, o)) r (tt, (tt, tt)) (tt, (tt, tt)))))))
