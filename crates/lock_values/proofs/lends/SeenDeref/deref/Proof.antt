-- `deref` hands out what a `&` to the open place holds of the value.
use Rattle.atomic_table.proofs.Names.{◌≡◌, ℕ, ◌+◌, List, [], ◌∷◌, ◌++◌, sym, refl, a_type, named, Val, vptr}
use Rattle.atomic_table.proofs.Names.{inst_fn, SProp, emp, Lft, Fml, ftrue, fsep, flft, ‵, raw, ◌⊛◌, ◌$◌, ◌∵◌}
use Rattle.atomic_table.proofs.Names.{ !, qed, by, move, keep, split, join, fsplit, fjoin, use0, use1}
use Rattle.atomic_table.proofs.Names.{rewrite}
use Rattle.atomic_table.proofs.Names.{feq_i, stop, fld, addr, returns, enter, alloc_all, pass_all, free_all}
use Rattle.atomic_table.proofs.Names.{look_at, through, sets, sub, whole, tables, yes, RattleType, owns}
use Rattle.atomic_table.proofs.Names.{types_at, plain, nothing, param, layouts, Stays, stay_dropped, walk_of}
use Rattle.atomic_table.proofs.Names.{Goes-dropped, fact, fact_i, Is, shows, cell_at, hidden_shr, peeks}
use Rattle.atomic_table.proofs.Names.{looks, shuts, RefOf, shr_vals, shr_Tells, unhide, lent_out}
use base.Fml.{Incl-refl, fhide}
use contract.BorrowLft.{⊑_meet}
use denote.Memory.{shared_of}
use denote.Param.Laws.{param_laws}
use denote.RawPtr.{RawPtr}
use denote.Signature.{named_lft}
use denote.SharingLaws.{shortens}
use types.Run.{hop}
use Rattle.atomic_table.proofs.Walks.{proved, leaves}
use Rattle.lock_values.specs.Ownership.{offset, open_shares}
use Rattle.lock_values.proofs.Fields.{open_val, SeenWords, seen_told, seen_words_open}
use Rattle.core_parts.proofs.Reading.{look_in_raw}
use Rattle.core.specs.contracts.marker.PhantomData as marker
use Rattle.lock_values.specs.contracts.place.Place as place
use Rattle.lock_values.specs.contracts.place.Seen as guard
use Rattle.lock_values.specs.contracts.lends.SeenDeref.deref.{ended, clauses}
use Rattle.lock_values.specs.contracts.lends.SeenDeref.deref.Key.{name as #self}
use Rattle.lock_values.proofs.lends.SeenDeref.deref.Statement.{statement}
use Rattle.lock_values.proofs.lends.SeenDeref.deref.Code as code

pub deref_spec : {M : Type 1} → statement M
deref_spec 𝓤 𝓛 𝓜 𝓡 wired X L =
    let H = 𝓛.H in let 𝓣 = tables 𝓤 H 𝓜 𝓡 𝓡.env in let R : RattleType = param 0 X in let LR = param_laws 0 X L
    in let En = ended X in let c = clauses X 𝓛 𝓜.mem 𝓡.returns in
    let inst = layouts (a_type ∷ []) (X, tt) in let fn = inst_fn inst code.function in let closed =
    code.unfolded 𝓤 H 𝓜 𝓡 wired (X, tt) in
    let row = plain (λ κs. guard.the_row (named_lft 3 1 tt κs) R) in let self =
    RefOf (0 ∷ []) tt row (λ _. tt) in let hs : Stays En.signature.params En.kept =
    (stay_dropped self yes, tt) in
    proved 𝓛 En hs c 𝓜 𝓡 (Goes-dropped 𝓛 3 self yes (λ κs x f. refl), tt) (#self inst) fn closed
    (λ κs. (shr_vals, tt)) (λ κs. (shr_Tells (named 0) κs.0 (guard.the_row (named_lft 3 1 tt κs) R), tt))
    (λ κs qs bounds a gh are.
    let ℓ = named_lft 3 1 tt κs in let Or : RattleType = guard.the_row ℓ R in let D : RattleType =
    SeenWords ℓ R in let b : ℕ = a.0.ref_ptr.0 in let o : ℕ = a.0.ref_ptr.1 in let κ : Lft = κs.0
    in let β : Lft = κs.1.0 in
    let h : Or.Denot = a.0.now in let p : ℕ × ℕ = h.place.ref_ptr in let x : X.Denot = h.value
    in let others : Fml = fsep (flft β qs.1.0) (fsep (flft κs.1.1.0 qs.1.1.0) ftrue) in
    let pb : ℕ = p.0 in let e : ℕ = p.1 + offset R in
    let y : (walk_of 𝓛 En hs c).Ghost = ((κs, qs, bounds, a, (vptr b o ∷ [], tt)), gh) in let Post : Val
    → SProp 𝓤 = (walk_of 𝓛 En hs c).post y in
    qed 𝓛 (((‵ (flft κ qs.0) ⊛ ‵ others) ⊛ ‵ (owns (types_at En.signature.params κs) a y.0.4))
    ∷ raw ((c κs a).requires gh) ∷ []) ∵
    split ! $ split ! $ move ! (2 ∷ []) $ fsplit ! $ fsplit ! $ keep ! (1 ∷ 3 ∷ 4 ∷ []) $
    enter ! 𝓣.C 𝓣.Λ fn (vptr b o ∷ []) Post $ alloc_all ! (λ l. pass_all ! refl ((tt, tt), tt) $
    use1 𝓛 (‵ (hidden_shr D κ (h.place, (tt, tt)) b o) ⊛ ‵ (fhide (open_shares β R p x κ)))
    (lent_out 𝓛 (guard.struct ℓ R) (guard.the_codes X.Denot R.coded (place.the_row R).coded
    (marker.the_row RawPtr).coded) (guard.the_heap β R) (guard.the_lent β R) κ h b o) $
    split ! $ move ! (1 ∷ []) $ unhide ! $
    use1 𝓛 (‵ (hidden_shr R κ x pb e)) (shortens 𝓛 (shared_of R x pb e) (LR.shr_laws x pb e) (κ ++ β) κ
    (⊑_meet κ κ β (Incl-refl κ) bounds.0)) $ move ! (1 ∷ 2 ∷ []) $
    looks ! tt D (seen_words_open ℓ R 𝓛) (h.place, (tt, tt)) b o (λ q vs. move ! (1 ∷ []) $ peeks ! D (Is D)
    (shows 𝓛 D) (h.place, (tt, tt)) vs (λ is_so.
    let ev : vs ≡ open_val p ∷ [] = seen_told ℓ R h.place vs is_so in
    rewrite ! 1 (λ (ws : List Val). ‵ (cell_at q D.mir ws b o)) ev refl $
    sets ! (addr ! (through ! refl (fld ! refl (hop ! (look_in_raw ! 1 (sub ! 0 refl (whole !)))
    (fld ! refl (stop !)))))) refl (tt, tt) $
    rewrite ! 1 (λ (ws : List Val). ‵ (cell_at q D.mir ws b o)) (sym ev) refl $ move ! (1 ∷ 0 ∷ 2 ∷ [])
    $ shuts ! tt D q (h.place, (tt, tt)) vs b o $
    move ! (0 ∷ 3 ∷ []) $ join ! $ move ! (2 ∷ []) $ feq_i ! (List Val) (vptr pb e ∷ []) (vptr pb e ∷ []) refl
    $ fjoin ! $
    use0 𝓛 (raw (fact 𝓤 (x ≡ x))) (fact_i 𝓤 (x ≡ x) (emp 𝓤) refl) $ nothing ! $ nothing ! $ fjoin ! $
    returns ! (look_at ! 0 refl) $ free_all ! refl $ keep ! (3 ∷ 0 ∷ 2 ∷ 1 ∷ [])
    $ by ! (leaves 𝓛 En hs c y (vptr pb e) (record { ref_ptr = (pb, e); now = x }) (tt, tt) (tt, tt))))))
