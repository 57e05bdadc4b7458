-- `take_to_write` is a ghost update: the seat goes into the place, and the borrow of the value comes out.
use Rattle.atomic_table.proofs.Names.{◌≡◌, ◌∙◌, ℕ, List, [], ◌∷◌, sym, refl, a_type, dcons, dnil, named, Val}
use Rattle.atomic_table.proofs.Names.{vptr, inst_fn, SProp, emp, Lft, Fml, ftrue, fsep, flft, ‵, raw, ◌⊛◌}
use Rattle.atomic_table.proofs.Names.{given, some, later, await, ◌$◌, ◌∵◌, !, qed, by, move, keep, drop}
use Rattle.atomic_table.proofs.Names.{group, pick, split, split3, join, fsplit, fsplit3, fjoin, fjoin3, learn}
use Rattle.atomic_table.proofs.Names.{use0, use1, rewrite, feq_i, no_more, and_then, returns, enter}
use Rattle.atomic_table.proofs.Names.{alloc_all, pass_all, free_all, look_at, get, sets, agg, tables, yes}
use Rattle.atomic_table.proofs.Names.{RattleType, owns, types_at, plain, Ptr, block_ptr, nothing, param}
use Rattle.atomic_table.proofs.Names.{bounded, Stays, stay_dropped, walk_of, Goes-dropped, fact, fact_i}
use Rattle.atomic_table.proofs.Names.{Coded, RefOf, mut_vals, mut_Tells, shr_vals, shr_Tells, opens, closes}
use Rattle.atomic_table.proofs.Names.{stay_ref, Goes-ref, unhide, hidden_shr, lent_out, Tuple, shr_bor-open}
use Rattle.atomic_table.proofs.Names.{obor_close, tokens_halve}
use denote.Bor.{Bor}
use denote.Memory.{shared_of}
use denote.SharingLaws.{contraction}
use denote.Signature.{named_lft}
use Rattle.atomic_table.proofs.Walks.{proved, leaves}
use Rattle.core.specs.contracts.marker.PhantomData as marker
use Rattle.atomic_table.specs.Seated.{TableId, age, common, badge_owns}
use Rattle.atomic_table.specs.contracts.shared.Shared as table
use Rattle.atomic_table.specs.contracts.badge.Badge as badge
use Rattle.atomic_table.proofs.Fields.{HandData}
use Rattle.core_words.specs.declared.views.View.{View}
use Rattle.core_words.specs.contracts.views.View as view
use Rattle.lock_values.specs.Owning.{alone, among}
use Rattle.lock_values.specs.Ownership.{PlaceId, Excluded, place_shares, open_owned}
use Rattle.lock_values.specs.contracts.place.Place as place
use Rattle.lock_values.specs.contracts.place.Open as opened
use Rattle.lock_values.proofs.Fields.{open_val, Words, made, near_laws}
use Rattle.lock_values.proofs.Going.{opens_to_write}
use Rattle.lock_values.specs.contracts.place.Place.take_to_write.{ended, clauses}
use Rattle.lock_values.specs.contracts.place.Place.take_to_write.Key.{name as #self}
use Rattle.lock_values.proofs.place.Place.take_to_write.Statement.{statement}
use Rattle.lock_values.proofs.place.Place.take_to_write.Code as code

pub take_to_write_spec : {M : Type 1} → statement M
unfolding Rattle.atomic_table.specs.Seated.seal
take_to_write_spec 𝓤 𝓛 𝓜 𝓡 wired X T Q P LX _ _ _ g d _ =
    let H = 𝓛.H in let 𝓣 = tables 𝓤 H 𝓜 𝓡 𝓡.env in let R : RattleType = param 0 X in let S : RattleType =
    param 1 T in let Kr : RattleType = param 2 Q in let Y : RattleType = param 3 P in let W : RattleType =
    view.the_row in let En = ended X T Q P g d in
    let inst = bounded (a_type ∷ a_type ∷ a_type ∷ a_type ∷ []) (X, (T, (Q, (P, tt)))) (dcons d dnil)
    in let fn = inst_fn inst code.function in
    let Pl : RattleType = place.the_row R in let Row : RattleType = table.the_row S W Kr Y g
    in let Br : RattleType = badge.the_row W in let D : RattleType = HandData S W Kr Y g in
    let self = RefOf (0 ∷ []) tt (plain (λ _. Pl)) (λ _. tt) in let tab = RefOf (1 ∷ []) tt (plain (λ _. Row))
    (λ _. tt) in let pin = plain (λ _. Br) in
    let hs : Stays En.signature.params En.kept =
    (stay_dropped self yes, (stay_dropped tab yes, (stay_ref (2 ∷ []) tt pin, tt))) in let c =
    clauses X T Q P g d 𝓛 𝓜.mem 𝓡.returns in
    proved 𝓛 En hs c 𝓜 𝓡 (
      Goes-dropped 𝓛 7 self yes (λ κs x f. refl),
      (Goes-dropped 𝓛 7 tab yes (λ κs x f. refl), (Goes-ref 𝓛 7 2 tt pin, tt)),
    ) (#self inst) fn
    (code.unfolded 𝓤 H 𝓜 𝓡 wired (X, (T, (Q, (P, tt)))) d)
    (λ κs. (shr_vals, (shr_vals, (mut_vals, tt)))) (λ κs. (
      shr_Tells (named 0) κs.0 Pl,
      (shr_Tells (named 1) κs.1.0 Row, (mut_Tells (named 2) κs.1.1.0 Br, tt)),
    )) (λ κs qs bounds a gh are.
    let b : ℕ = a.0.ref_ptr.0 in let o : ℕ = a.0.ref_ptr.1 in let κ : Lft = κs.0 in let d₀ : PlaceId = a.0.now
    in let al = alone d₀.at in let am = among d₀.at in
    let b₁ : ℕ = a.1.0.ref_ptr.0 in let o₁ : ℕ = a.1.0.ref_ptr.1 in let κ₁ : Lft = κs.1.0
    in let t : Row.Denot = a.1.0.now in let w : Ptr = t.words in let p : Ptr = t.slots
    in let z : TableId = t.table_id in let α : Lft = age z in
    let cv : Coded View = W.coded in let C : Fml = common S cv.code (g.holds t.key) w p z in
    let b₂ : ℕ = a.1.1.0.ref_ptr.0 in let o₂ : ℕ = a.1.1.0.ref_ptr.1 in let k : Br.Denot = a.1.1.0.now
    in let ℓ = named_lft 7 0 tt κs in let G : RattleType = opened.the_row ℓ R in
    let y : (walk_of 𝓛 En hs c).Ghost =
    ((κs, qs, bounds, a, (vptr b o ∷ [], (vptr b₁ o₁ ∷ [], (vptr b₂ o₂ ∷ [], tt)))), gh) in let Post : Val
    → SProp 𝓤 = (walk_of 𝓛 En hs c).post y in
    let others : Fml = fsep (flft κs.1.1.1.0 qs.1.1.1.0) (fsep (flft κs.1.1.1.1.0 qs.1.1.1.1.0)
    (fsep (flft κs.1.1.1.1.1.0 qs.1.1.1.1.1.0) (fsep (flft κs.1.1.1.1.1.1.0 qs.1.1.1.1.1.1.0) ftrue))) in
    qed 𝓛 (((‵ (flft κs.0 qs.0) ⊛ ‵ (flft κs.1.0 qs.1.0) ⊛ ‵ (flft κs.1.1.0 qs.1.1.0) ⊛ ‵ others) ⊛ ‵
    (owns (types_at En.signature.params κs) a y.0.4)) ∷ raw (fact 𝓤 _) ∷ raw (fact 𝓤 _) ∷ raw (fact 𝓤 _)
    ∷ raw (fact 𝓤 _)
    ∷ given ((z ≡ d₀.table) × (k.table_id ≡ d₀.table) × Excluded (g.holds t.key) al am
    × ((v : View) × (k.views ≡ v ∷ []) × al v)) (‵ ftrue) ∷ []) ∵
    keep ! (5 ∷ 0 ∷ []) $ learn ! (λ asked. let v : View = asked.3.0 in drop ! $ split ! $ split3 !
    $ move ! (2 ∷ []) $ split ! $ move ! (4 ∷ []) $ fsplit3 ! $ fsplit ! $ move ! (2 ∷ []) $ fsplit !
    $ move ! (4 ∷ []) $ fsplit ! $ fsplit3 ! $
    keep ! (5 ∷ 11 ∷ 10 ∷ 7 ∷ 9 ∷ 1 ∷ 2 ∷ 8 ∷ []) $
    enter ! 𝓣.C 𝓣.Λ fn (vptr b o ∷ vptr b₁ o₁ ∷ vptr b₂ o₂ ∷ []) Post $ alloc_all !
    (λ l. pass_all ! refl ((tt, tt), ((tt, tt), ((tt, tt), tt))) $
    use1 𝓛 (‵ (hidden_shr D κ₁ (w, (p, (tt, tt))) b₁ o₁) ⊛ ‵
    (base.Fml.fhide (table.the_lent S W Kr Y g t (block_ptr b₁ o₁) κ₁)))
    (lent_out 𝓛 (table.struct S W Kr Y g) (table.the_codes T.Denot View Q.Denot P.Denot S.coded W.coded
    Kr.coded Y.coded (marker.the_row (Tuple (Y ∷ W ∷ Kr ∷ []))).coded) (table.the_heap S W Kr Y g)
    (table.the_lent S W Kr Y g) κ₁ t b₁ o₁) $
    split ! $ move ! (1 ∷ []) $ unhide ! $ fsplit ! $ move ! (0 ∷ 3 ∷ 1 ∷ []) $
    shr_bor-open ! tt (tokens_halve 𝓛 α) (λ s.
    move ! (7 ∷ 8 ∷ 9 ∷ []) $ opens ! tt Br b₂ o₂ (λ ts₂. move ! (1 ∷ []) $ fsplit ! $ rewrite ! 1
    (λ (x : TableId). ‵ (badge_owns cv.code x k.id k.views)) (asked.1 ∙ sym asked.0) refl
    $ rewrite ! 1 (λ (xs : List View). ‵ (badge_owns cv.code z k.id xs)) asked.3.1 refl $
    move ! (11 ∷ []) $ use1 𝓛 (‵ (hidden_shr Pl κ d₀ b o) ⊛ ‵ (hidden_shr Pl κ d₀ b o))
    (contraction 𝓛 (shared_of Pl d₀ b o) (near_laws R d₀ b o) κ) $ split ! $
    move ! (0 ∷ 2 ∷ 3 ∷ 4 ∷ 5 ∷ 6 ∷ 7 ∷ 8 ∷ 9 ∷ 10 ∷ 11 ∷ 12 ∷ 13 ∷ []) $ unhide ! $ rewrite ! 0
    (λ (x : TableId). ‵ (place_shares R cv al am x (block_ptr b o) κ)) (sym asked.0) refl $
    move ! (0 ∷ 2 ∷ 9 ∷ 8 ∷ 11 ∷ []) $ group ! 5 $
    use1 𝓛 (later (some (λ (x : X.Denot). ‵ (open_owned R cv al am z κ (b, o) v x)) ⊛ ‵ (flft α s) ⊛ ‵
    (flft κ qs.0))) (opens_to_write 𝓛 R cv al am z S (g.holds t.key) w p s asked.2 κ v b o asked.3.2 k.id
    qs.0) $ await ! tt $ split3 ! $ pick ! (λ x.
    move ! (8 ∷ 1 ∷ []) $ obor_close ! tt $ drop ! $ move ! (0 ∷ 1 ∷ 3 ∷ 4 ∷ 5 ∷ 6 ∷ 7 ∷ 8 ∷ 2 ∷ []) $
    let k' : Br.Denot = record {
      marker = k.marker;
      table_id = k.table_id;
      id = k.id;
      views = [];
    } in let at : Bor PlaceId = record { ref_ptr = (b, o); now = d₀ } in let r : G.Denot = record {
      place = at;
      here = record {};
      of = d₀;
      view = v;
      value = x;
    } in
    let Told : Type 0 = (d₀ ≡ d₀) × (k.views ≡ v ∷ []) × (k'.views ≡ []) in
    nothing ! $ move ! (3 ∷ 0 ∷ []) $ fjoin ! $ move ! (3 ∷ 0 ∷ 4 ∷ 5 ∷ 6 ∷ []) $ closes ! tt Br k' ts₂ b₂ o₂
    $ feq_i ! (List Val) (vptr b₂ o₂ ∷ []) (vptr b₂ o₂ ∷ []) refl $ fjoin3 ! $
    nothing ! $ move ! (1 ∷ 0 ∷ []) $ fjoin ! $ nothing ! $ fjoin ! $ nothing ! $ fjoin ! $ move !
    (1 ∷ 6 ∷ []) $ join ! $ move ! (2 ∷ 0 ∷ []) $ join ! $ move ! (4 ∷ 0 ∷ []) $ join ! $
    rewrite ! 2 (λ (u : TableId). ‵ (open_owned R cv al am u κ (b, o) v x)) asked.0 refl $ move ! (2 ∷ []) $
    move ! (4 ∷ []) $ use1 𝓛 (‵ ((Words ℓ R).own_val (at, (tt, tt)) (open_val (b, o) ∷ []))) (made ℓ R 𝓛 at)
    $ fjoin ! $
    sets ! (agg ! (no_more !)) refl (tt, tt)
    $ sets ! (agg ! (and_then ! (get ! refl) (and_then ! (get ! refl) (no_more !)))) refl (
      tt,
      (tt, (tt, tt)),
    ) $
    use0 𝓛 (raw (fact 𝓤 Told)) (fact_i 𝓤 Told (emp 𝓤) (refl, asked.3.1, refl)) $
    returns ! (look_at ! 0 refl) $ free_all ! refl $ keep ! (2 ∷ 3 ∷ 1 ∷ 0 ∷ [])
    $ by ! (leaves 𝓛 En hs c y (open_val (b, o)) r (tt, (tt, (k', tt))) (tt, (tt, (tt, tt))))))))))
