-- `deref_mut` lends the value, and the open place follows it.
use Rattle.atomic_table.proofs.Names.{◌≡◌, ℕ, ◌+◌, List, [], ◌∷◌, sym, refl, ap, a_type, named, Val, vptr}
use Rattle.atomic_table.proofs.Names.{inst_fn, SProp, ent, emp, wand, all, all_e, apply∗, Lft, Share, Fml}
use Rattle.atomic_table.proofs.Names.{ftrue, fsep, flft, sem, ‵, raw, ◌⊛◌, some, later, at_ret, ◌$◌, ◌∵◌, ! }
use Rattle.atomic_table.proofs.Names.{qed, by, move, keep, split, split3, join, fsplit, fsplit3, fjoin, fpick}
use Rattle.atomic_table.proofs.Names.{fpack, pick, use0, use1, use2, use3, await, rewrite, each, stop, fld}
use Rattle.atomic_table.proofs.Names.{addr, of_opd, first, blocks, exec, returns, enter, alloc_all, pass_all}
use Rattle.atomic_table.proofs.Names.{free_all, look_at, get, through, sets, sets_last, env, sub, whole}
use Rattle.atomic_table.proofs.Names.{tables, no, RattleType, owns, types_at, plain, nothing, param, layouts}
use Rattle.atomic_table.proofs.Names.{Stays, stay_dropped, walk_of, Goes-spent_ref, fact, fact_i, full_share}
use Rattle.atomic_table.proofs.Names.{Is, shows, cell_at, part_at, mem, peeks, RefMutOf, mut_vals, mut_Tells}
use Rattle.atomic_table.proofs.Names.{follows, part_out, part_in}
use base.Before.{before}
use base.Fml.{GName}
use denote.Memory.{part_of}
use denote.Ref.{MutRef}
use denote.Signature.{named_lft}
use types.Kit.{show, frame, assume}
use types.Mut.{open_ref, close_ref}
use types.Run.{hop}
use Rattle.core.proofs.atomic.Steps.{tail}
use Rattle.atomic_table.proofs.Walks.{proved, leaves}
use Rattle.core_parts.specs.Ownership.{offset, lent, open_owns}
use Rattle.core_parts.specs.Written.{with_value}
use Rattle.core_parts.proofs.Fields.{open_val, Words, told}
use Rattle.core_parts.proofs.Opening.{held_out}
use Rattle.core_parts.proofs.Through.{Opened, through_before}
use Rattle.core_parts.proofs.Reading.{look_in_raw}
use Rattle.core_parts.specs.contracts.place.Open as guard
use Rattle.core_parts.specs.contracts.lends.OpenDerefMut.deref_mut.{ended, clauses}
use Rattle.core_parts.specs.contracts.lends.OpenDerefMut.deref_mut.Key.{name as #self}
use Rattle.core_parts.proofs.lends.OpenDerefMut.deref_mut.Statement.{statement}
use Rattle.core_parts.proofs.lends.OpenDerefMut.deref_mut.Code as code

pub deref_mut_spec : {M : Type 1} → statement M
unfolding part_of
deref_mut_spec 𝓤 𝓛 𝓜 𝓡 wired X L =
    let H = 𝓛.H in let 𝓣 = tables 𝓤 H 𝓜 𝓡 𝓡.env in let R : RattleType = param 0 X in let En = ended X
    in let c = clauses X 𝓛 𝓜.mem 𝓡.returns in
    let inst = layouts (a_type ∷ []) (X, tt) in let fn = inst_fn inst code.function in let closed =
    code.unfolded 𝓤 H 𝓜 𝓡 wired (X, tt) in
    let row = plain (λ κs. guard.the_row (named_lft 3 1 tt κs) R) in let hs : Stays En.signature.params
    En.kept = (stay_dropped (RefMutOf (0 ∷ []) tt row (λ _. tt)) no, tt) in
    proved 𝓛 En hs c 𝓜 𝓡 (Goes-spent_ref 𝓛 3 (0 ∷ []) tt row, tt) (#self inst) fn closed
    (λ κs. (mut_vals, tt)) (λ κs. (mut_Tells (named 0) κs.0 (guard.the_row (named_lft 3 1 tt κs) R), tt))
    (λ κs qs bounds a gh are.
    let ℓ = named_lft 3 1 tt κs in let G : RattleType = guard.the_row ℓ R in let D : RattleType = Words ℓ R
    in let b : ℕ = a.0.ref_ptr.0 in let o : ℕ = a.0.ref_ptr.1 in let κ : Lft = κs.0 in let q : Share =
    qs.0 in let β : Lft = κs.1.0 in
    let h : G.Denot = a.0.now in let γ : GName = a.0.ghost_name in let p : ℕ × ℕ = h.place.ref_ptr
    in let x : X.Denot = h.value in let F : X.Denot → G.Denot = with_value h in let others : Fml =
    fsep (flft β qs.1.0) (fsep (flft κs.1.1.0 qs.1.1.0) ftrue) in
    let pb : ℕ = p.0 in let e : ℕ = p.1 + offset R in let Had : X.Denot → Fml = open_owns β R h.id p
    in let Ws : Fml = part_at D full_share (h.place, (tt, tt)) b o in
    let y : (walk_of 𝓛 En hs c).Ghost = ((κs, qs, bounds, a, (vptr b o ∷ [], tt)), gh) in let Post : Val
    → SProp 𝓤 = (walk_of 𝓛 En hs c).post y in
    let split_views : ent 𝓤 (sem 𝓛 (part_at G full_share h b o))
    (base.Logic.ex 𝓤 (Opened 𝓛 G R F (λ v w. ap (λ (g : G.Denot). g.value)) (named 0) κ β bounds.0 q a.0
    pb e x)) =
    let Back : Lft → X.Denot → SProp 𝓤 = λ α w. wand 𝓤 (sem 𝓛 (lent R pb e α w)) (sem 𝓛 (Had w)) in
    qed 𝓛 (‵ (part_at G full_share h b o) ∷ []) ∵ use1 𝓛 (‵ Ws ⊛ ‵ (Had x))
    (part_out 𝓛 (guard.the_type ℓ R) full_share h b o) $ split ! $ move ! (1 ∷ []) $
    use1 𝓛 (some (λ (α : Lft). ‵ (before β α) ⊛ ‵ (lent R pb e α x) ⊛ raw (all 𝓤 (Back α))))
    (held_out 𝓛 β R h.id p.0 p.1 x) $ pick ! (λ α. split3 ! $
    show ! (Opened 𝓛 G R F (λ v w. ap (λ (g : G.Denot). g.value)) (named 0) κ β bounds.0 q a.0 pb e x) α
    $ frame ! $ frame ! $
    each ! (λ (w : X.Denot). wand 𝓤 (sem 𝓛 (lent R pb e α w)) (sem 𝓛 (part_at G full_share (F w) b o)))
    (λ w. use1 𝓛 (raw (Back α w)) (all_e 𝓤 (Back α) w) $ assume ! (‵ (lent R pb e α w)) $
    use2 𝓛 (‵ (Had w)) (apply∗ 𝓤 (sem 𝓛 (lent R pb e α w)) (sem 𝓛 (Had w))) $ move ! (1 ∷ 0 ∷ []) $
    by ! (part_in 𝓛 (guard.the_type ℓ R) full_share (F w) b o))) in
    qed 𝓛 (((‵ (flft κ q) ⊛ ‵ others) ⊛ ‵ (owns (types_at En.signature.params κs) a y.0.4)) ∷ raw
    ((c κs a).requires gh) ∷ []) ∵
    split ! $ split ! $ move ! (2 ∷ []) $ fsplit ! $ fsplit3 ! $ keep ! (1 ∷ 2 ∷ 4 ∷ 5 ∷ []) $
    enter ! 𝓣.C 𝓣.Λ fn (vptr b o ∷ []) Post $ alloc_all ! (λ l. pass_all ! refl ((tt, tt), tt) $ let Ev =
    env fn.locals l in
    open_ref ! tt (mem G) $ use1 𝓛 (‵ Ws ⊛ ‵ (Had x)) (part_out 𝓛 (guard.the_type ℓ R) full_share h b o)
    $ split ! $
    fpick ! (λ vs. fsplit ! $ move ! (1 ∷ []) $ peeks ! D (Is D) (shows 𝓛 D) (h.place, (tt, tt)) vs (λ is_so.
    let ev : vs ≡ open_val p ∷ [] = told ℓ R h.place vs is_so in
    rewrite ! 1 (λ (us : List Val). ‵ (cell_at full_share D.mir us b o)) ev refl $ first ! $ blocks ! $
    sets ! (addr ! (through ! refl (fld ! refl (hop ! (look_in_raw ! 1 (sub ! 0 refl (whole !)))
    (fld ! refl (stop !)))))) refl (tt, tt) $
    sets_last ! (addr ! (through ! refl (stop !))) refl (tt, tt) $ exec ! 𝓣.C 𝓣.Λ Ev (tail fn.body)
    (at_ret Ev Post) $ sets ! (of_opd ! (get ! refl)) refl (tt, tt) $
    rewrite ! 1 (λ (us : List Val). ‵ (cell_at full_share D.mir us b o)) (sym ev) refl $ move ! (1 ∷ 0 ∷ [])
    $ fjoin ! $
    fpack ! (List Val) (λ us. fsep (cell_at full_share D.mir us b o) (D.own_val (h.place, (tt, tt)) us)) vs $
    use2 𝓛 (‵ (part_at G full_share h b o)) (part_in 𝓛 (guard.the_type ℓ R) full_share h b o)
    $ close_ref ! tt (mem G) h $
    use3 𝓛 (later (some (λ (δ : GName). ‵ ((MutRef (named 0) κ R).own_val (record {
      ref_ptr = (pb, e);
      ghost_name = δ;
      now = x;
    }) (vptr pb e ∷ [])) ⊛ ‵ (flft κ q) ⊛ ‵ (follows G R γ δ F))))
    (through_before 𝓛 G R F (λ v w. ap (λ (g : G.Denot). g.value)) (named 0) κ β bounds.0 q a.0 pb e x
    split_views)
    $ await ! tt $ pick ! (λ δ. split3 ! $
    use0 𝓛 (raw (fact 𝓤 (x ≡ x))) (fact_i 𝓤 (x ≡ x) (emp 𝓤) refl) $ move ! (3 ∷ 0 ∷ []) $ join !
    $ move ! (2 ∷ 3 ∷ []) $ join ! $ nothing ! $ nothing ! $ fjoin ! $
    returns ! (look_at ! 0 refl) $ free_all ! refl $ keep ! (1 ∷ 0 ∷ 3 ∷ 2 ∷ [])
    $ by ! (leaves 𝓛 En hs c y (vptr pb e) (record {
      ref_ptr = (pb, e);
      ghost_name = δ;
      now = x;
    }) (tt, tt) (tt, tt)))))))
