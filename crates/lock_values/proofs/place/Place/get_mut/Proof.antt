-- `get_mut` lends the value, and the place stays what it is.
use Rattle.atomic_table.proofs.Names.{ℕ, ◌+◌, [], ◌∷◌, refl, a_type, named, Val, vptr, inst_fn, SProp, sem}
use Rattle.atomic_table.proofs.Names.{Lft, Share, Fml, ftrue, fsep, flft, ‵, raw, ◌⊛◌, some, later, ◌$◌, ◌∵◌}
use Rattle.atomic_table.proofs.Names.{ !, qed, by, move, keep, split, split3, join, fsplit, fsplit3, pick}
use Rattle.atomic_table.proofs.Names.{use1, await, group, stop, fld, addr, returns, enter, alloc_all}
use Rattle.atomic_table.proofs.Names.{pass_all, free_all, look_at, through, sets, tables, no, RattleType}
use Rattle.atomic_table.proofs.Names.{owns, types_at, plain, nothing, param, layouts, Stays, stay_dropped}
use Rattle.atomic_table.proofs.Names.{walk_of, Goes-spent_ref, RefMutOf, mut_vals, mut_Tells, mem, follows}
use Rattle.atomic_table.proofs.Names.{apply∗, all_e, part_at, full_share}
use base.Fml.{GName}
use base.Stored.{Gv}
use denote.Follow.{lends_Part}
use denote.Laws.{Lawful}
use denote.Param.{layout}
use denote.Param.Laws.{param_laws}
use denote.Ref.{MutRef}
use denote.Struct.CellSteps.{BackTo}
use denote.Struct.Members.{Member}
use types.Kit.{fjoin}
use types.Mut.{open_ref}
use Rattle.core.proofs.cell.Inside.{νU}
use Rattle.atomic_table.proofs.Walks.{proved, leaves}
use Rattle.lock_values.specs.Ownership.{offset}
use Rattle.lock_values.specs.Ownership.{PlaceId}
use Rattle.core_parts.proofs.Apart.{out}
use Rattle.lock_values.specs.contracts.place.Place as place
use Rattle.lock_values.specs.contracts.place.Place.TheInside as inside
use Rattle.lock_values.specs.contracts.place.Place.get_mut.{ended, clauses}
use Rattle.lock_values.specs.contracts.place.Place.get_mut.Key.{name as #self}
use Rattle.lock_values.proofs.place.Place.get_mut.Statement.{statement}
use Rattle.lock_values.proofs.place.Place.get_mut.Code as code

pub get_mut_spec : {M : Type 1} → statement M
get_mut_spec 𝓤 𝓛 𝓜 𝓡 wired X L =
    let H = 𝓛.H in let 𝓣 = tables 𝓤 H 𝓜 𝓡 𝓡.env in let R : RattleType = param 0 X in let m : Member =
    record { row = R; ty = layout X } in let LR : Lawful 𝓛 R = (param_laws 0 X L).lawful 𝓛 in let En =
    ended X in let c = clauses X 𝓛 𝓜.mem 𝓡.returns in
    let inst = layouts (a_type ∷ []) (X, tt) in let fn = inst_fn inst code.function in let closed =
    code.unfolded 𝓤 H 𝓜 𝓡 wired (X, tt) in let Row : RattleType = place.the_row R in
    let ν = (denote.Struct.Declared.shape (inside.the_type R)).name in
    let hs : Stays En.signature.params En.kept =
    (stay_dropped (RefMutOf (0 ∷ []) tt (plain (λ _. Row)) (λ _. tt)) no, tt) in
    proved 𝓛 En hs c 𝓜 𝓡 (Goes-spent_ref 𝓛 2 (0 ∷ []) tt (plain (λ _. Row)), tt) (#self inst) fn closed
    (λ κs. (mut_vals, tt)) (λ κs. (mut_Tells (named 0) κs.0 Row, tt)) (λ κs qs bounds a gh are.
    let b : ℕ = a.0.ref_ptr.0 in let o : ℕ = a.0.ref_ptr.1 in let e : ℕ = o + offset R in let κ : Lft = κs.0
    in let q : Share = qs.0 in let others : Fml = fsep (flft κs.1.0 qs.1.0) ftrue in let d : PlaceId =
    a.0.now in let γ : GName = a.0.ghost_name in
    let F : X.Denot → PlaceId = λ _. d in let P : SProp 𝓤 = sem 𝓛 (part_at Row full_share d b o)
    in let At : X.Denot → SProp 𝓤 = λ w. sem 𝓛 (part_at R full_share w b e) in let Back : SProp 𝓤 =
    BackTo 𝓛 νU [] (R ∷ []) m (λ _. P) b e in let u : Gv = Row.coded.code d in
    let y : (walk_of 𝓛 En hs c).Ghost = ((κs, qs, bounds, a, (vptr b o ∷ [], tt)), gh) in let Post : Val
    → SProp 𝓤 = (walk_of 𝓛 En hs c).post y in
    qed 𝓛 (((‵ (flft κ q) ⊛ ‵ others) ⊛ ‵ (owns (types_at En.signature.params κs) a y.0.4)) ∷ raw
    ((c κs a).requires gh) ∷ []) ∵
    split ! $ split ! $ move ! (2 ∷ []) $ fsplit ! $ fsplit3 ! $ keep ! (1 ∷ 2 ∷ 4 ∷ 5 ∷ []) $
    enter ! 𝓣.C 𝓣.Λ fn (vptr b o ∷ []) Post $ alloc_all ! (λ l. pass_all ! refl ((tt, tt), tt) $
    open_ref ! tt (mem Row) $ use1 𝓛 (some (λ (x : X.Denot). ‵ (part_at R full_share x b e) ⊛ raw Back))
    (out 𝓛 m LR ν d b o) $ pick ! (λ x. split ! $
    move ! (2 ∷ 3 ∷ 4 ∷ 0 ∷ 1 ∷ []) $ group ! 5 $
    use1 𝓛 (later (some (λ (δ : GName). ‵ ((MutRef (named 0) κ R).own_val (record {
      ref_ptr = (b, e);
      ghost_name = δ;
      now = x;
    }) (vptr b e ∷ [])) ⊛ ‵ (flft κ q) ⊛ ‵ (follows Row R γ δ F))))
    (lends_Part 𝓛 Row R F (named 0) κ q b o b e γ Back (λ w. qed 𝓛 (‵ (part_at R full_share w b e) ∷ raw Back
    ∷ []) ∵ move ! (1 ∷ []) $
    use1 𝓛 (raw (base.Logic.wand 𝓤 (At w) P)) (all_e 𝓤 (λ (z : X.Denot). base.Logic.wand 𝓤 (At z) P) w)
    $ move ! (1 ∷ 0 ∷ []) $ by ! (apply∗ 𝓤 (At w) P)) u u x) $ await ! tt $ pick ! (λ δ. split3 ! $
    sets ! (addr ! (through ! refl (fld ! refl (stop !)))) refl (tt, tt) $
    move ! (1 ∷ 3 ∷ []) $ join ! $ nothing ! $ nothing ! $ fjoin ! $
    returns ! (look_at ! 0 refl) $ free_all ! refl $ keep ! (1 ∷ 0 ∷ 2 ∷ 3 ∷ [])
    $ by ! (leaves 𝓛 En hs c y (vptr b e) (record {
      ref_ptr = (b, e);
      ghost_name = δ;
      now = x;
    }) (tt, tt) (tt, tt))))))
