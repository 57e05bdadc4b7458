-- `put_back_permit` is a ghost update: what came out of the place goes back, for the seat.
use Rattle.atomic_table.proofs.Names.{◌≡◌, ℕ, List, [], ◌∷◌, sym, refl, a_type, dcons, dnil, named, Val, vptr}
use Rattle.atomic_table.proofs.Names.{inst_fn, SProp, emp, Lft, Fml, ftrue, fsep, flft, ‵, raw, ◌⊛◌, given}
use Rattle.atomic_table.proofs.Names.{some, later, await, ◌$◌, ◌∵◌, !, qed, by, move, keep, drop, pick, split}
use Rattle.atomic_table.proofs.Names.{split3, join, fsplit, fsplit3, fjoin, fjoin3, learn, use0, use1, use3}
use Rattle.atomic_table.proofs.Names.{rewrite, feq_i, unit_lit, of_opd, vunit, heard, no, returns, enter}
use Rattle.atomic_table.proofs.Names.{alloc_all, pass_all, free_all, look_at, sets, tables, yes, RattleType}
use Rattle.atomic_table.proofs.Names.{owns, types_at, plain, Ptr, block_ptr, nothing, param, bounded, Stays}
use Rattle.atomic_table.proofs.Names.{stay_dropped, walk_of, Goes-dropped, fact, fact_i, Coded, RefOf}
use Rattle.atomic_table.proofs.Names.{mut_vals, mut_Tells, shr_vals, shr_Tells, opens, closes, stay_ref}
use Rattle.atomic_table.proofs.Names.{Goes-ref, unhide, hidden_shr, lent_out, Tuple, shr_bor-open, obor_close}
use Rattle.atomic_table.proofs.Names.{tokens_halve}
use base.Share.{three_quarters}
use contract.BorrowLft.{◌⊑◌}
use denote.Signature.{named_lft}
use Rattle.atomic_table.proofs.Walks.{proved, leaves}
use Rattle.core.specs.contracts.marker.PhantomData as marker
use Rattle.atomic_table.specs.Seated.{TableId, age, common}
use Rattle.atomic_table.specs.contracts.shared.Shared as table
use Rattle.atomic_table.specs.contracts.badge.Badge as badge
use Rattle.atomic_table.proofs.Fields.{HandData}
use Rattle.core_words.specs.declared.views.View.{View}
use Rattle.core_words.specs.contracts.views.View as view
use Rattle.lock_values.specs.Owning.{alone, among}
use Rattle.lock_values.specs.Ownership.{PlaceId, Excluded, seat, seen_owned}
use Rattle.lock_values.specs.contracts.place.Seen as seen
use Rattle.lock_values.proofs.Fields.{open_val, seen_told}
use Rattle.lock_values.proofs.Going.{shuts_from_reading}
use Rattle.lock_values.specs.contracts.place.Seen.put_back_permit.{ended, clauses}
use Rattle.lock_values.specs.contracts.place.Seen.put_back_permit.Key.{name as #self}
use Rattle.lock_values.proofs.place.Seen.put_back_permit.Statement.{statement}
use Rattle.lock_values.proofs.place.Seen.put_back_permit.Code as code

pub put_back_permit_spec : {M : Type 1} → statement M
unfolding Rattle.atomic_table.specs.Seated.seal
put_back_permit_spec 𝓤 𝓛 𝓜 𝓡 wired X T Q P LX _ _ _ g d _ =
    let H = 𝓛.H in let 𝓣 = tables 𝓤 H 𝓜 𝓡 𝓡.env in let R : RattleType = param 0 X in let S : RattleType =
    param 1 T in let Kr : RattleType = param 2 Q in let Y : RattleType = param 3 P in let W : RattleType =
    view.the_row in let En = ended X T Q P g d in
    let inst = bounded (a_type ∷ a_type ∷ a_type ∷ a_type ∷ []) (X, (T, (Q, (P, tt)))) (dcons d dnil)
    in let fn = inst_fn inst code.function in
    let Row : RattleType = table.the_row S W Kr Y g in let Br : RattleType = badge.the_row W
    in let D : RattleType = HandData S W Kr Y g in
    let self = plain (λ κs. seen.the_row (named_lft 7 0 tt κs) R) in let tab =
    RefOf (1 ∷ []) tt (plain (λ _. Row)) (λ _. tt) in let pin = plain (λ _. Br) in
    let hs : Stays En.signature.params En.kept =
    (stay_dropped self no, (stay_dropped tab yes, (stay_ref (2 ∷ []) tt pin, tt))) in let c =
    clauses X T Q P g d 𝓛 𝓜.mem 𝓡.returns in
    proved 𝓛 En hs c 𝓜 𝓡 (
      Goes-dropped 𝓛 7 self no (λ κs x f. refl),
      (Goes-dropped 𝓛 7 tab yes (λ κs x f. refl), (Goes-ref 𝓛 7 2 tt pin, tt)),
    ) (#self inst) fn
    (code.unfolded 𝓤 H 𝓜 𝓡 wired (X, (T, (Q, (P, tt)))) d)
    (λ κs. ((λ x. open_val x.place.ref_ptr ∷ []), (shr_vals, (mut_vals, tt))))
    (λ κs. (
      (λ x vs so. seen_told (named_lft 7 0 tt κs) R x.place vs so.0),
      (shr_Tells (named 1) κs.1.0 Row, (mut_Tells (named 2) κs.1.1.0 Br, tt)),
    )) (λ κs qs bounds a gh are.
    let G : RattleType = seen.the_row (named_lft 7 0 tt κs) R in let h : G.Denot = a.0 in let pp : ℕ × ℕ =
    h.place.ref_ptr in let b : ℕ = pp.0 in let o : ℕ = pp.1 in let x : X.Denot = h.value in let v : View =
    h.view in let κ : Lft = κs.0 in let d₀ : PlaceId = h.of in let al = alone d₀.at in let am =
    among d₀.at in
    let b₁ : ℕ = a.1.0.ref_ptr.0 in let o₁ : ℕ = a.1.0.ref_ptr.1 in let κ₁ : Lft = κs.1.0
    in let t : Row.Denot = a.1.0.now in let w : Ptr = t.words in let p : Ptr = t.slots
    in let z : TableId = t.table_id in let α : Lft = age z in
    let cv : Coded View = W.coded in let C : Fml = common S cv.code (g.holds t.key) w p z in let τ : Lft =
    κs.1.1.1.0 in
    let b₂ : ℕ = a.1.1.0.ref_ptr.0 in let o₂ : ℕ = a.1.1.0.ref_ptr.1 in let k : Br.Denot = a.1.1.0.now in
    let y : (walk_of 𝓛 En hs c).Ghost =
    ((κs, qs, bounds, a, (open_val pp ∷ [], (vptr b₁ o₁ ∷ [], (vptr b₂ o₂ ∷ [], tt)))), gh)
    in let Post : Val → SProp 𝓤 = (walk_of 𝓛 En hs c).post y in
    let rest : Fml = fsep (flft κs.1.1.1.1.0 qs.1.1.1.1.0) (fsep (flft κs.1.1.1.1.1.0 qs.1.1.1.1.1.0)
    (fsep (flft κs.1.1.1.1.1.1.0 qs.1.1.1.1.1.1.0) ftrue)) in let others : Fml =
    fsep (flft τ qs.1.1.1.0) rest in
    qed 𝓛 (((‵ (flft κs.0 qs.0) ⊛ ‵ (flft κs.1.0 qs.1.0) ⊛ ‵ (flft κs.1.1.0 qs.1.1.0) ⊛ ‵ others) ⊛ ‵
    (owns (types_at En.signature.params κs) a y.0.4)) ∷ raw (fact 𝓤 (τ ⊑ X.lives)) ∷ raw (fact 𝓤 _)
    ∷ raw (fact 𝓤 _) ∷ raw (fact 𝓤 _)
    ∷ given ((z ≡ d₀.table) × Excluded (g.holds t.key) al am) (‵ ftrue) ∷ []) ∵
    keep ! (5 ∷ 1 ∷ 0 ∷ []) $ learn ! (λ asked. drop ! $ heard ! (τ ⊑ X.lives) (λ outlives. split ! $ split3 !
    $ move ! (2 ∷ []) $ split ! $ move ! (4 ∷ []) $ fsplit3 ! $ fsplit ! $ move ! (2 ∷ []) $ fsplit !
    $ move ! (4 ∷ []) $ fsplit ! $ fsplit3 ! $
    keep ! (5 ∷ 11 ∷ 10 ∷ 7 ∷ 9 ∷ 1 ∷ 2 ∷ 8 ∷ []) $
    enter ! 𝓣.C 𝓣.Λ fn (open_val pp ∷ vptr b₁ o₁ ∷ vptr b₂ o₂ ∷ []) Post $ alloc_all !
    (λ l. pass_all ! refl ((tt, (tt, (tt, tt))), ((tt, tt), ((tt, tt), tt))) $
    use1 𝓛 (‵ (hidden_shr D κ₁ (w, (p, (tt, tt))) b₁ o₁) ⊛ ‵
    (base.Fml.fhide (table.the_lent S W Kr Y g t (block_ptr b₁ o₁) κ₁)))
    (lent_out 𝓛 (table.struct S W Kr Y g) (table.the_codes T.Denot View Q.Denot P.Denot S.coded W.coded
    Kr.coded Y.coded (marker.the_row (Tuple (Y ∷ W ∷ Kr ∷ []))).coded) (table.the_heap S W Kr Y g)
    (table.the_lent S W Kr Y g) κ₁ t b₁ o₁) $
    split ! $ move ! (1 ∷ []) $ unhide ! $ fsplit ! $ move ! (0 ∷ 3 ∷ 1 ∷ []) $
    shr_bor-open ! tt (tokens_halve 𝓛 α) (λ s.
    move ! (7 ∷ 8 ∷ 9 ∷ []) $ opens ! tt Br b₂ o₂ (λ ts₂. move ! (1 ∷ []) $ fsplit ! $ rewrite ! 11
    (λ (u : TableId). ‵ (seen_owned R cv al am u κ pp v x)) (sym asked.0) refl $
    move ! (11 ∷ 8 ∷ 7 ∷ []) $ use3 𝓛 (later (some (λ (i : ℕ). ‵ (seat cv al am z three_quarters i v)) ⊛ ‵
    (flft α s))) (shuts_from_reading 𝓛 R cv al am z S (g.holds t.key) w p s asked.1 κ v b o x)
    $ await ! tt $ split ! $ pick ! (λ i.
    move ! (8 ∷ 1 ∷ []) $ obor_close ! tt $ drop ! $ move ! (3 ∷ []) $ drop ! $
    let k' : Br.Denot = record {
      marker = k.marker;
      table_id = z;
      id = i;
      views = v ∷ [];
    } in let Told : Type 0 = (z ≡ d₀.table) × (k'.views ≡ v ∷ []) in
    move ! (2 ∷ 1 ∷ []) $ fjoin ! $ move ! (2 ∷ 0 ∷ 3 ∷ 4 ∷ 5 ∷ []) $ closes ! tt Br k' ts₂ b₂ o₂
    $ feq_i ! (List Val) (vptr b₂ o₂ ∷ []) (vptr b₂ o₂ ∷ []) refl $ fjoin3 ! $
    nothing ! $ move ! (1 ∷ 0 ∷ []) $ fjoin ! $ nothing ! $ fjoin ! $ nothing ! $ fjoin ! $ move !
    (1 ∷ 5 ∷ []) $ join ! $ move ! (2 ∷ 0 ∷ []) $ join ! $ move ! (3 ∷ 0 ∷ []) $ join ! $
    sets ! (of_opd ! (unit_lit !)) refl (tt, tt) $ use0 𝓛 (raw (fact 𝓤 Told))
    (fact_i 𝓤 Told (emp 𝓤) (asked.0, refl)) $ feq_i ! (List Val) (vunit ∷ []) (vunit ∷ []) refl $
    returns ! (look_at ! 0 refl) $ free_all ! refl $ keep ! (2 ∷ 3 ∷ 0 ∷ 1 ∷ [])
    $ by ! (leaves 𝓛 En hs c y vunit tt (tt, (tt, (k', tt))) (tt, (tt, (tt, tt)))))))))))
