-- `join_views` is a ghost update: one seat takes in another's view.
use Rattle.atomic_table.proofs.Names.{◌≡◌, ℕ, List, [], ◌∷◌, sym, refl, a_type, dcons, dnil, named, Val}
use Rattle.atomic_table.proofs.Names.{vunit, vptr, inst_fn, SProp, emp, Lft, Fml, ftrue, fsep, flft}
use Rattle.atomic_table.proofs.Names.{‵, raw, ◌⊛◌, given, later, await, ◌$◌, ◌∵◌, !, qed, by, move, keep}
use Rattle.atomic_table.proofs.Names.{drop, split, split3, join, fsplit, fsplit3, fjoin, fjoin3, learn, use0}
use Rattle.atomic_table.proofs.Names.{use1, use3, rewrite, feq_i, unit_lit, of_opd, returns, enter, alloc_all}
use Rattle.atomic_table.proofs.Names.{pass_all, free_all, look_at, sets, tables, yes, RattleType, owns}
use Rattle.atomic_table.proofs.Names.{types_at, plain, Ptr, block_ptr, nothing, param, bounded, Stays}
use Rattle.atomic_table.proofs.Names.{stay_dropped, walk_of, Goes-dropped, fact, fact_i, Coded, RefOf}
use Rattle.atomic_table.proofs.Names.{mut_vals, mut_Tells, shr_vals, shr_Tells, opens, closes, stay_ref}
use Rattle.atomic_table.proofs.Names.{Goes-ref, unhide, hidden_shr, lent_out, Tuple, shr_bor-open, obor_close}
use Rattle.atomic_table.proofs.Names.{tokens_halve}
use Rattle.atomic_table.proofs.Walks.{proved, leaves}
use Rattle.core.specs.contracts.marker.PhantomData as marker
use Rattle.atomic_table.specs.Table.{Me, Joins}
use Rattle.atomic_table.specs.Seated.{TableId, age, common, mine}
use Rattle.atomic_table.specs.contracts.shared.Shared as table
use Rattle.atomic_table.specs.contracts.shared.Seat as seat
use Rattle.atomic_table.proofs.Fields.{HandData}
use Rattle.core_parts.proofs.Ghostly.{absorbs, merged}
use Rattle.core_parts.specs.contracts.seats.join_views.{ended, clauses}
use Rattle.core_parts.specs.contracts.seats.join_views.Key.{name as #self}
use Rattle.core_parts.proofs.seats.join_views.Statement.{statement}
use Rattle.core_parts.proofs.seats.join_views.Code as code

pub join_views_spec : {M : Type 1} → statement M
unfolding Rattle.atomic_table.specs.Seated.seal
join_views_spec 𝓤 𝓛 𝓜 𝓡 wired T U Q P Mv _ _ _ _ _ g d g' d' _ _ =
    let H = 𝓛.H in let 𝓣 = tables 𝓤 H 𝓜 𝓡 𝓡.env in let R : RattleType = param 0 T in let W : RattleType =
    param 1 U in let X : RattleType = param 2 Q in let Y : RattleType = param 3 P in let En =
    ended T U Q P Mv g d g' d' in
    let inst = bounded (a_type ∷ a_type ∷ a_type ∷ a_type ∷ a_type ∷ []) (T, (U, (Q, (P, (Mv, tt)))))
    (dcons d (dcons d' dnil)) in let fn = inst_fn inst code.function in
    let Row : RattleType = table.the_row R W X Y g in let Sr : RattleType = seat.the_row R W
    in let D : RattleType = HandData R W X Y g in let self = RefOf (0 ∷ []) tt (plain (λ _. Row))
    (λ _. tt) in let sitter = plain (λ _. Sr) in
    let hs : Stays En.signature.params En.kept =
    (stay_dropped self yes, (stay_ref (1 ∷ []) tt sitter, (stay_ref (2 ∷ []) tt sitter, tt))) in let c =
    clauses T U Q P Mv g d g' d' 𝓛 𝓜.mem 𝓡.returns in
    proved 𝓛 En hs c 𝓜 𝓡 (
      Goes-dropped 𝓛 8 self yes (λ κs x f. refl),
      (
        Goes-ref 𝓛 8 1 tt sitter,
        (Goes-ref 𝓛 8 2 tt sitter, tt),
      ),
    ) (#self inst) fn
    (code.unfolded 𝓤 H 𝓜 𝓡 wired (T, (U, (Q, (P, (Mv, tt))))) d d')
    (λ κs. (shr_vals, (mut_vals, (mut_vals, tt)))) (λ κs. (
      shr_Tells (named 0) κs.0 Row,
      (mut_Tells (named 1) κs.1.0 Sr, (mut_Tells (named 2) κs.1.1.0 Sr, tt)),
    )) (λ κs qs bounds a gh are.
    let b : ℕ = a.0.ref_ptr.0 in let o : ℕ = a.0.ref_ptr.1 in let κ : Lft = κs.0 in let t : Row.Denot =
    a.0.now in let w : Ptr = t.words in let p : Ptr = t.slots in let z : TableId = t.table_id
    in let α : Lft = age z in
    let cv : Coded U.Denot = W.coded in let C : Fml = common R cv.code (g.holds t.key) w p z in
    let b' : ℕ = a.1.0.ref_ptr.0 in let o' : ℕ = a.1.0.ref_ptr.1 in let h : Sr.Denot = a.1.0.now
    in let id : ℕ = h.id in let v : Me T.Denot U.Denot = h.me in let b₂ : ℕ = a.1.1.0.ref_ptr.0
    in let o₂ : ℕ = a.1.1.0.ref_ptr.1 in let k : Sr.Denot = a.1.1.0.now in let u₂ : Me T.Denot U.Denot =
    k.me in let lv : U.Denot = g'.both v.0 u₂.0 in
    let y : (walk_of 𝓛 En hs c).Ghost = (
      (
        κs,
        qs,
        bounds,
        a,
        (
          vptr a.0.ref_ptr.0 a.0.ref_ptr.1 ∷ [],
          (vptr a.1.0.ref_ptr.0 a.1.0.ref_ptr.1 ∷ [], (vptr a.1.1.0.ref_ptr.0 a.1.1.0.ref_ptr.1 ∷ [], tt)),
        ),
      ),
      gh,
    ) in let Post : Val → SProp 𝓤 = (walk_of 𝓛 En hs c).post y in
    let others : Fml = fsep (flft κs.1.1.1.0 qs.1.1.1.0) (fsep (flft κs.1.1.1.1.0 qs.1.1.1.1.0)
    (fsep (flft κs.1.1.1.1.1.0 qs.1.1.1.1.1.0) (fsep (flft κs.1.1.1.1.1.1.0 qs.1.1.1.1.1.1.0)
    (fsep (flft κs.1.1.1.1.1.1.1.0 qs.1.1.1.1.1.1.1.0) ftrue)))) in
    qed 𝓛 (((‵ (flft κs.0 qs.0) ⊛ ‵ (flft κs.1.0 qs.1.0) ⊛ ‵ (flft κs.1.1.0 qs.1.1.0) ⊛ ‵ others) ⊛ ‵
    (owns (types_at En.signature.params κs) a y.0.4)) ∷ raw (fact 𝓤 _) ∷ raw (fact 𝓤 _) ∷ raw (fact 𝓤 _)
    ∷ raw (fact 𝓤 _) ∷ raw (fact 𝓤 _) ∷ given ((h.table_id ≡ z) × (k.table_id ≡ z)
    × Joins (g.holds t.key) id v.0 k.id u₂.0 lv g'.spent) (‵ ftrue) ∷ []) ∵
    keep ! (6 ∷ 0 ∷ []) $ learn ! (λ asked. drop ! $ split ! $ split3 ! $ move ! (2 ∷ []) $ split !
    $ move ! (4 ∷ []) $ fsplit3 ! $ fsplit ! $ move ! (2 ∷ []) $ fsplit3 ! $ move ! (5 ∷ []) $ fsplit !
    $ fsplit3 ! $ keep ! (8 ∷ 11 ∷ 5 ∷ 6 ∷ 12 ∷ 10 ∷ 1 ∷ 2 ∷ 9 ∷ []) $ nothing ! $ drop ! $
    enter ! 𝓣.C 𝓣.Λ fn (vptr a.0.ref_ptr.0 a.0.ref_ptr.1 ∷ vptr a.1.0.ref_ptr.0 a.1.0.ref_ptr.1
    ∷ vptr a.1.1.0.ref_ptr.0 a.1.1.0.ref_ptr.1 ∷ []) Post $ alloc_all !
    (λ l. pass_all ! refl ((tt, tt), ((tt, tt), ((tt, tt), tt))) $
    use1 𝓛 (‵ (hidden_shr D κ (w, (p, (tt, tt))) b o) ⊛ ‵
    (base.Fml.fhide (table.the_lent R W X Y g t (block_ptr b o) κ))) (lent_out 𝓛 (table.struct R W X Y g)
    (table.the_codes T.Denot U.Denot Q.Denot P.Denot R.coded W.coded X.coded Y.coded
    (marker.the_row (Tuple (Y ∷ W ∷ X ∷ []))).coded) (table.the_heap R W X Y g) (table.the_lent R W X Y g)
    κ t b o) $
    split ! $ move ! (1 ∷ []) $ unhide ! $ fsplit ! $ move ! (0 ∷ 3 ∷ 1 ∷ []) $
    shr_bor-open ! tt (tokens_halve 𝓛 α) (λ s.
    move ! (8 ∷ 9 ∷ 10 ∷ []) $ opens ! tt Sr b₂ o₂ (λ ts₂. move ! (1 ∷ []) $ fsplit ! $ rewrite ! 1
    (λ (x : TableId). ‵ (mine R cv.code x k.id u₂)) asked.1 refl $ move ! (10 ∷ 11 ∷ 12 ∷ []) $
    opens ! tt Sr b' o' (λ ts. move ! (1 ∷ []) $ fsplit !
    $ rewrite ! 1 (λ (x : TableId). ‵ (mine R cv.code x id v)) asked.0 refl $ move ! (1 ∷ 7 ∷ [])
    $ fjoin ! $ move ! (13 ∷ 12 ∷ 0 ∷ []) $
    use3 𝓛 (later (‵ (merged 𝓛 R cv (g.holds t.key) w p z s id v k.id u₂ lv g'.spent) ⊛ ‵ (flft α s)))
    (absorbs 𝓛 R cv (g.holds t.key) w p z s id v k.id u₂ lv g'.spent asked.2) $ await ! tt $ split ! $
    move ! (12 ∷ 1 ∷ []) $ obor_close ! tt $ drop ! $ move ! (1 ∷ []) $ fsplit ! $
    let h' : Sr.Denot = record {
      marker = h.marker;
      table_id = z;
      id = id;
      me = (lv, v.1);
    } in let k' : Sr.Denot = record { marker = k.marker; table_id = z; id = k.id; me = (g'.spent, u₂.1) } in
    let Told : Type 0 = (z ≡ h.table_id) × (id ≡ id) × (h'.me ≡ h'.me) in
    move ! (3 ∷ 0 ∷ []) $ fjoin ! $ move ! (3 ∷ 0 ∷ 4 ∷ 5 ∷ 6 ∷ []) $ closes ! tt Sr h' ts b' o'
    $ feq_i ! (List Val) (vptr b' o' ∷ []) (vptr b' o' ∷ []) refl $ fjoin3 ! $
    move ! (4 ∷ 2 ∷ []) $ fjoin ! $ move ! (4 ∷ 0 ∷ 5 ∷ 6 ∷ 7 ∷ []) $ closes ! tt Sr k' ts₂ b₂ o₂
    $ feq_i ! (List Val) (vptr b₂ o₂ ∷ []) (vptr b₂ o₂ ∷ []) refl $ fjoin3 ! $
    nothing ! $ move ! (1 ∷ 0 ∷ []) $ fjoin ! $ move ! (2 ∷ 0 ∷ []) $ fjoin ! $ nothing ! $ fjoin !
    $ move ! (1 ∷ 5 ∷ []) $ join ! $ move ! (2 ∷ 0 ∷ []) $ join ! $ move ! (2 ∷ 0 ∷ []) $ join ! $
    sets ! (of_opd ! (unit_lit !)) refl (tt, tt) $ use0 𝓛 (raw (fact 𝓤 Told))
    (fact_i 𝓤 Told (emp 𝓤) (sym asked.0, refl, refl)) $ feq_i ! (List Val) (vunit ∷ []) (vunit ∷ []) refl
    $
    returns ! (look_at ! 0 refl) $ free_all ! refl $ keep ! (2 ∷ 3 ∷ 0 ∷ 1 ∷ [])
    $ by ! (leaves 𝓛 En hs c y vunit tt (tt, (h', (k', tt))) (tt, (tt, (tt, tt))))))))))
