-- The steps at a place, each in one update of its invariant. Assumes `Logic`.
use Rattle.std.proofs.Common.{◌≡◌, ℕ, ◌+◌, List, [], ◌∷◌, ◌++◌, length, set, sym, refl, subst, arith}
use mathlib.Core.Bool.{Bool, true, false}
use mathlib.Core.Option.{some}
use mathlib.Core.Logic.{◌⊎◌, inl, inr}
use lib.ListN.{get_elem?}
use seplogic.Ra.Ura.{Ura}
use base.Fraction.{full_share}
use base.Share.{three_quarters, left, right}
use base.Stored.{Gv, gnil, gnum, gcons, Coded}
use base.Logic.{SProp, ent, sep, wand, all, all_e, upd, upd_i, apply∗}
use base.Fml.{GName, Share, Fml, ftrue, fsep, fex, fobs, fauth, flft, finv}
use types.Logic.{Logic, sem}
use types.Kit.{‵, raw, ◌⊛◌, given, ◌$◌, ◌∵◌, !, qed, by, move, keep, drop, split, fsplit, fsplit3, fjoin}
use types.Kit.{fjoin3, fpick, fpack, learn, frame, assume, suffices, settle, done, use1, use2, rewrite}
use types.Tokens.{name_agree}
use denote.RattleType.{RattleType, RowLaws}
use denote.Steps.{nothing}
use denote.Memory.{shared_of}
use denote.SharingLaws.{contraction, some_shr_laws}
use Rattle.atomic_table.specs.Seated.{TableId}
use Rattle.atomic_table.proofs.Roster.{moves, Moved, apart}
use Rattle.lock_values.specs.Ownership.{Rec, Shut, Id, PlacePhase, part, seat, bench, book, entry_of, clash}
use Rattle.lock_values.specs.Ownership.{shared_content, waits, between, state, Inv, reads, Jam, or_jam}
use Rattle.lock_values.specs.Ownership.{rec_coded, seat_coded}
use Rattle.lock_values.specs.Ownership.PlacePhase.{read, written, clashed}
use Rattle.lock_values.proofs.Bench.{any_open, not_shut, collects, lays_out, sits, rises}
use Rattle.lock_values.proofs.Clash.{halves, signs}

is-num : Gv → Type 0
is-num (gnum n) = Unit {0}
is-num (gcons g h) = ⊥
is-num gnil = ⊥

cons-num : (g h : Gv) (n : ℕ) → gcons g h ≡ gnum n → ⊥
unfolding is-num
cons-num g h n e = subst is-num (sym e) tt

module _ {M : Type 1} {𝓤 : Ura M} (𝓛 : Logic 𝓤) {V : Type 0} (cv : Coded V) (alone among : V → Type 0)
    (z : TableId) (R : RattleType) (b e : ℕ) (t : Id) where
  open 𝓛 use {H, A}

  abbrev Pr : Type 2
  Pr = SProp 𝓤

  abbrev ◌⊢◌ : Pr → Pr → Type 1
  P ⊢ Q = ent 𝓤 P Q

  abbrev ◌∗◌ : Pr → Pr → Pr
  P ∗ Q = sep 𝓤 P Q

  infix 26 ◌⊢◌
  infixr 35 ◌∗◌
  abbrev ◌-∗◌ : Pr → Pr → Pr
  P -∗ Q = wand 𝓤 P Q

  infixr 30 ◌-∗◌
  abbrev ⟦◌⟧ : Fml → Pr
  ⟦ P ⟧ = sem 𝓛 P

  abbrev Seat : Share → ℕ → V → Fml
  Seat q i v = seat cv alone among z q i v

  abbrev Held : ℕ → V → Fml
  Held i v = seat cv alone among z three_quarters i v

  abbrev Cl : ℕ → V → Share → ℕ → V → Share → Fml
  Cl = clash cv alone among z

  abbrev Bench : ℕ → List (Rec V) → Fml
  Bench a rs = bench cv alone among z full_share a rs

  abbrev Book : List (Rec V) → Fml
  Book rs = book cv alone among z t.1.0 rs

  abbrev I : Fml
  I = Inv cv alone among z R b e t

  abbrev St : PlacePhase V → Fml
  St = state cv alone among z R b e t

  abbrev J : Fml
  J = Jam cv alone among z R b e t

  abbrev Or : Fml → Fml
  Or P = fex Bool (or_jam cv alone among z R b e t P)

  fine : (P : Fml) → ⟦ P ⟧ ⊢ ⟦ Or P ⟧
  fine P = qed 𝓛 (‵ P ∷ []) ∵ fpack ! Bool (or_jam cv alone among z R b e t P) true $ done !

  -- a clash is laid down, and a part of it is kept
  jams : (P : Fml) (i : ℕ) (v : V) (q : Share) (j : ℕ) (w : V) (r : Share) → ⟦ Cl i v q j w r ⟧ ⊢ ⟦ I ⟧
      ∗ ⟦ Or P ⟧
  jams P i v q j w r = let No : Type 0 = (i ≡ j → ⊥) × alone v × (alone w ⊎ among w) in
      qed 𝓛 (‵ (Cl i v q j w r) ∷ []) ∵ fsplit3 ! $ fpick !
      (λ no. drop ! $ use1 𝓛 (‵ (Seat (left q) i v) ⊛ ‵ (Seat (right q) i v))
      (halves 𝓛 cv z.views_name q i v) $ split ! $ move ! (2 ∷ []) $
      use1 𝓛 (‵ (Seat (left r) j w) ⊛ ‵ (Seat (right r) j w)) (halves 𝓛 cv z.views_name r j w) $ split !
      $ nothing ! $ fpack ! No (λ _. ftrue) no $ move ! (0 ∷ 3 ∷ 1 ∷ []) $ fjoin3 ! $
      fpack ! (PlacePhase V) St (clashed i v (left q) j w (left r)) $ frame ! $ nothing ! $ fpack ! No
      (λ _. ftrue) no $ move ! (0 ∷ 2 ∷ 1 ∷ []) $ fjoin3 ! $
      fpack ! ((ℕ × (V × Share)) × (ℕ × (V × Share))) (λ k. Cl k.0.0 k.0.1.0 k.0.1.1 k.1.0 k.1.1.0 k.1.1.1)
      ((i, (v, right q)), (j, (w, right r))) $ fpack ! Bool (or_jam cv alone among z R b e t P) false
      $ done !)

  -- a seat that has the value alone, and another that may have it
  meets : (P : Fml) (i : ℕ) (v : V) (j : ℕ) (w : V) → alone v → (alone w) ⊎ (among w) → ⟦ Held i v ⟧
      ∗ ⟦ Held j w ⟧ ⊢ upd 𝓤 (⟦ I ⟧ ∗ ⟦ Or P ⟧)
  meets P i v j w mine theirs = qed 𝓛 (‵ (Held i v) ∷ ‵ (Held j w) ∷ []) ∵ use2 𝓛
      (given (¬ (j ≡ i)) (‵ (Held i v) ⊛ ‵ (Held j w))) (apart 𝓛 cv z.views_name i j v w) $ learn !
      (λ ne. split ! $ suffices ! _ (upd_i 𝓤 (⟦ I ⟧ ∗ ⟦ Or P ⟧)) $
      nothing ! $ fpack ! ((i ≡ j → ⊥) × alone v × (alone w ⊎ among w)) (λ _. ftrue) (
        (λ same. ne (sym same)),
        mine,
        theirs,
      ) $ fjoin3 ! $ by ! (jams P i v three_quarters j w three_quarters))

  stuck : (P X : Fml) (i : ℕ) (v : V) (q : Share) (j : ℕ) (w : V) (r : Share) → ⟦ St (clashed i v q j w r) ⟧
      ∗ ⟦ X ⟧ ⊢ upd 𝓤 (⟦ I ⟧ ∗ ⟦ Or P ⟧)
  stuck P X i v q j w r = qed 𝓛 (‵ (Cl i v q j w r) ∷ ‵ X ∷ []) ∵ suffices ! _ (upd_i 𝓤 (⟦ I ⟧ ∗ ⟦ Or P ⟧))
      $ keep ! (0 ∷ []) $ by ! (jams P i v q j w r)

  module _ (i : ℕ) (v : V) where
    -- ---- to read
    abbrev pub Reads : Fml
    Reads = fex (ℕ × ℕ) (λ s. reads cv alone among z R b e t i v s.0 s.1)

    enters_read : RowLaws R → among v → (y : PlacePhase V) → ⟦ St y ⟧ ∗ ⟦ Held i v ⟧ ⊢ upd 𝓤 (⟦ I ⟧
        ∗ ⟦ Or Reads ⟧)
    enters_read K m (read a rs) = let r : Rec V = (true, (a, (i, v))) in let rs' : List (Rec V) = rs ++ r ∷ []
        in let n : ℕ = length rs in let Z : Pr = ⟦ I ⟧ ∗ ⟦ Or Reads ⟧ in let same : 0 + n ≡ n = omega arith in
        qed 𝓛 (‵ (St (read a rs)) ∷ ‵ (Held i v) ∷ []) ∵ fsplit ! $ fsplit ! $ move ! (1 ∷ 3 ∷ [])
        $ use2 𝓛 (‵ (Bench a rs') ⊛ ‵ (flft (a ∷ []) (part full_share n)))
        (sits 𝓛 cv alone among z rs full_share a i v m) $ split ! $
        move ! (2 ∷ []) $ use1 𝓛 (raw (upd 𝓤 (⟦ Book rs' ⟧ ∗ ⟦ entry_of cv alone among z t.1.0 (0 + n) r ⟧)))
        (signs 𝓛 (rec_coded cv) t.1.0 rs 0 r) $ settle 𝓛 Z
        (‵ (Book rs') ⊛ ‵ (entry_of cv alone among z t.1.0 (0 + n) r)) $ split ! $
        rewrite ! 1 (λ (k : ℕ). ‵ (entry_of cv alone among z t.1.0 k r)) same refl $ move ! (4 ∷ [])
        $ fsplit ! $ move ! (1 ∷ []) $ fsplit ! $
        use1 𝓛 (‵ (shared_content R b e (a ∷ t.0)) ⊛ ‵ (shared_content R b e (a ∷ t.0)))
        (contraction 𝓛 (shared_content R b e) (some_shr_laws R.Denot (λ x. shared_of R x b e)
        (λ x. K x b e)) (a ∷ t.0)) $ split ! $
        move ! (1 ∷ 2 ∷ []) $ fjoin ! $ move ! (2 ∷ 0 ∷ []) $ fjoin ! $ move ! (2 ∷ 4 ∷ []) $ fjoin !
        $ fjoin ! $ fpack ! (PlacePhase V) St (read a rs') $ suffices ! _ (upd_i 𝓤 Z) $ frame ! $
        move ! (1 ∷ 2 ∷ 0 ∷ []) $ fjoin3 ! $ fpack ! (ℕ × ℕ) (λ s. reads cv alone among z R b e t i v s.0 s.1)
        (a, n) $ by ! (fine Reads)
    enters_read K m (written j w rs) = qed 𝓛 (‵ (St (written j w rs)) ∷ ‵ (Held i v) ∷ []) ∵ fsplit3 !
        $ fpick ! (λ so. drop ! $ move ! (1 ∷ []) $ fsplit ! $ keep ! (0 ∷ 3 ∷ [])
        $ by ! (meets Reads j w i v so.0 (inr m)))
    enters_read K m (clashed j w q k u r) = stuck Reads (Held i v) j w q k u r

    leaves_read : (a n : ℕ) (y : PlacePhase V) → ⟦ St y ⟧ ∗ ⟦ reads cv alone among z R b e t i v a n ⟧ ⊢ upd 𝓤
        (⟦ I ⟧ ∗ ⟦ Or (Held i v) ⟧)
    leaves_read a n (read a' rs) = let x : ℕ × (ℕ × V) = (a, (i, v)) in let r : Rec V = (true, x)
        in let r' : Rec V = (false, x) in let rs' : List (Rec V) = set rs n r' in let Z : Pr = ⟦ I ⟧
        ∗ ⟦ Or (Held i v) ⟧ in let ε : GName = t.1.0 in
        qed 𝓛 (‵ (St (read a' rs)) ∷ ‵ (reads cv alone among z R b e t i v a n) ∷ []) ∵ fsplit ! $ fsplit !
        $ move ! (3 ∷ []) $ fsplit3 ! $ move ! (3 ∷ 0 ∷ []) $
        use2 𝓛 (given (get_elem? rs n ≡ some r) (raw (all 𝓤 (Moved 𝓛 (rec_coded cv) ε 0 rs n n))))
        (moves 𝓛 (rec_coded cv) ε rs 0 n n r (omega arith)) $ learn ! (λ at.
        use1 𝓛 (raw (Moved 𝓛 (rec_coded cv) ε 0 rs n n r')) (all_e 𝓤 (Moved 𝓛 (rec_coded cv) ε 0 rs n n) r')
        $ settle 𝓛 Z (‵ (Book rs') ⊛ ‵ (entry_of cv alone among z ε n r')) $ split ! $ move ! (4 ∷ []) $
        use1 𝓛 (given ((a ≡ a') × among v) (‵ (Held i v) ⊛ raw (A.lft (a' ∷ []) (part full_share n)
        -∗ ⟦ Bench a' rs' ⟧))) (rises 𝓛 cv alone among z rs full_share a' n x at) $ learn !
        (λ so. split ! $
        rewrite ! 4 (λ (c : ℕ). ‵ (flft (c ∷ []) (part full_share n))) so.0 refl $ move ! (4 ∷ 1 ∷ [])
        $ use2 𝓛 (‵ (Bench a' rs')) (apply∗ 𝓤 (A.lft (a' ∷ []) (part full_share n)) ⟦ Bench a' rs' ⟧) $
        move ! (2 ∷ 0 ∷ []) $ fjoin ! $ move ! (0 ∷ 4 ∷ []) $ fjoin ! $ fpack ! (PlacePhase V) St
        (read a' rs') $ suffices ! _ (upd_i 𝓤 Z) $ frame ! $ keep ! (0 ∷ []) $ by ! (fine (Held i v))))
    leaves_read a n (written j w rs) = let x : ℕ × (ℕ × V) = (a, (i, v)) in let r : Rec V = (true, x)
        in let ε : GName = t.1.0 in
        qed 𝓛 (‵ (St (written j w rs)) ∷ ‵ (reads cv alone among z R b e t i v a n) ∷ []) ∵ fsplit3 !
        $ fpick ! (λ so. drop ! $ move ! (2 ∷ []) $ fsplit3 ! $ move ! (3 ∷ 0 ∷ []) $
        use2 𝓛 (given (get_elem? rs n ≡ some r) (raw (all 𝓤 (Moved 𝓛 (rec_coded cv) ε 0 rs n n))))
        (moves 𝓛 (rec_coded cv) ε rs 0 n n r (omega arith))
        $ learn ! (λ at. absurd (not_shut rs n x at so.1)))
    leaves_read a n (clashed j w q k u r) = stuck (Held i v) (reads cv alone among z R b e t i v a n) j w q k
        u r

    -- ---- to write
    abbrev mine : Gv
    mine = (seat_coded cv).code (i, v)

    abbrev pub writes : ℕ → Fml
    writes a = fsep (fobs t.1.1 mine) (fsep (flft (a ∷ []) full_share) (waits cv alone among z R b e t a))

    abbrev pub Writes : Fml
    Writes = fex ℕ writes

    takes_all : alone v → (a : ℕ) (rs : List (Rec V)) → (Shut rs) ⊎ ((n : ℕ) × (r : ℕ × (ℕ × V))
        × (get_elem? rs n ≡ some (true, r))) → ⟦ St (read a rs) ⟧ ∗ ⟦ Held i v ⟧ ⊢ upd 𝓤 (⟦ I ⟧
        ∗ ⟦ Or Writes ⟧)
    takes_all m a rs (inl sh) = let δ : GName = t.1.1 in let Z : Pr = ⟦ I ⟧ ∗ ⟦ Or Writes ⟧ in
        qed 𝓛 (‵ (St (read a rs)) ∷ ‵ (Held i v) ∷ []) ∵ fsplit ! $ fsplit ! $ move ! (1 ∷ [])
        $ use1 𝓛 (‵ (flft (a ∷ []) full_share)) (collects 𝓛 cv alone among z rs full_share a sh)
        $ move ! (2 ∷ []) $ fsplit ! $ fpick ! (λ g. fsplit ! $
        use2 𝓛 (raw (upd 𝓤 (A.obs δ mine ∗ A.auth δ mine))) (𝓛.names.name_set_upd δ ((seat_coded cv).code g)
        ((seat_coded cv).code g) mine) $ settle 𝓛 Z (‵ (fobs δ mine) ⊛ ‵ (fauth δ mine)) $ split !
        $ move ! (2 ∷ []) $ fsplit ! $ drop ! $
        suffices ! _ (upd_i 𝓤 Z) $ move ! (5 ∷ 2 ∷ []) $ fjoin ! $ move ! (4 ∷ 0 ∷ []) $ fjoin ! $ nothing !
        $ fpack ! (alone v × Shut rs) (λ _. ftrue) (m, sh) $ fjoin ! $ fpack ! (PlacePhase V) St
        (written i v rs) $ frame ! $
        move ! (1 ∷ 2 ∷ 0 ∷ []) $ fjoin3 ! $ fpack ! ℕ writes a $ by ! (fine Writes))
    takes_all m a rs (inr f) = let n : ℕ = f.0 in let r : ℕ × (ℕ × V) = f.1 in
        qed 𝓛 (‵ (St (read a rs)) ∷ ‵ (Held i v) ∷ []) ∵ fsplit ! $ fsplit ! $ move ! (1 ∷ []) $
        use1 𝓛 (given ((r.0 ≡ a) × among r.1.1) (‵ (Held r.1.0 r.1.1) ⊛ raw
        (A.lft (a ∷ []) (part full_share n) -∗ ⟦ Bench a (set rs n (false, r)) ⟧)))
        (rises 𝓛 cv alone among z rs full_share a n r f.2) $ learn ! (λ so. split ! $
        keep ! (4 ∷ 0 ∷ []) $ by ! (meets Writes i v r.1.0 r.1.1 m (inr so.1)))

    enters_write : alone v → (y : PlacePhase V) → ⟦ St y ⟧ ∗ ⟦ Held i v ⟧ ⊢ upd 𝓤 (⟦ I ⟧ ∗ ⟦ Or Writes ⟧)
    enters_write m (read a rs) = takes_all m a rs (any_open rs)
    enters_write m (written j w rs) = qed 𝓛 (‵ (St (written j w rs)) ∷ ‵ (Held i v) ∷ []) ∵ fsplit3 !
        $ fpick ! (λ so. drop ! $ move ! (1 ∷ []) $ fsplit ! $ keep ! (3 ∷ 0 ∷ [])
        $ by ! (meets Writes i v j w m (inl so.0)))
    enters_write m (clashed j w q k u r) = stuck Writes (Held i v) j w q k u r

    abbrev pub wrote : ℕ → Fml
    wrote a = fsep (fobs t.1.1 mine) (fsep (flft (a ∷ []) full_share) (between cv alone among z R b e t a))

    leaves_write : (a : ℕ) (y : PlacePhase V) → ⟦ St y ⟧ ∗ ⟦ wrote a ⟧ ⊢ upd 𝓤 (⟦ I ⟧ ∗ ⟦ Or (Held i v) ⟧)
    leaves_write a (read a' rs) = let δ : GName = t.1.1 in let Z : Pr = ⟦ I ⟧ ∗ ⟦ Or (Held i v) ⟧ in
        qed 𝓛 (‵ (St (read a' rs)) ∷ ‵ (wrote a) ∷ []) ∵ fsplit ! $ drop ! $ fsplit ! $ fpick !
        (λ g. fsplit ! $
        use2 𝓛 (raw (upd 𝓤 (A.obs δ (gnum 0) ∗ A.auth δ (gnum 0))))
        (𝓛.names.name_set_upd δ ((seat_coded cv).code g) ((seat_coded cv).code g) (gnum 0))
        $ settle 𝓛 Z (‵ (fobs δ (gnum 0)) ⊛ ‵ (fauth δ (gnum 0))) $ split ! $ move ! (3 ∷ []) $ fsplit3 !
        $ move ! (0 ∷ 4 ∷ []) $
        use2 𝓛 (given (mine ≡ gnum 0) (‵ (fobs δ mine) ⊛ ‵ (fauth δ (gnum 0))))
        (𝓛.names.name_agree δ mine (gnum 0)) $ learn ! (λ x. absurd (cons-num (gnum i) (cv.code v) 0 x)))
    leaves_write a (written j w rs) = let δ : GName = t.1.1 in let Z : Pr = ⟦ I ⟧ ∗ ⟦ Or (Held i v) ⟧ in
        qed 𝓛 (‵ (St (written j w rs)) ∷ ‵ (wrote a) ∷ []) ∵ fsplit3 ! $ fpick ! (λ so. drop !
        $ move ! (1 ∷ []) $ fsplit ! $ move ! (3 ∷ []) $ fsplit3 ! $ move ! (0 ∷ 4 ∷ [])
        $ name_agree ! (seat_coded cv) (λ same.
        rewrite ! 1 (λ (g : ℕ × V). ‵ (fauth δ ((seat_coded cv).code g))) (sym same) refl $ fjoin !
        $ fpack ! (ℕ × V) (λ g. fsep (fobs δ ((seat_coded cv).code g)) (fauth δ ((seat_coded cv).code g)))
        (i, v) $
        rewrite ! 3 (λ (g : ℕ × V). ‵ (Held g.0 g.1)) (sym same) refl $ move ! (1 ∷ []) $ use1 𝓛
        (‵ (Bench a rs)) (lays_out 𝓛 cv alone among z rs full_share a so.1) $
        move ! (4 ∷ 0 ∷ []) $ fjoin ! $ move ! (1 ∷ 2 ∷ []) $ fjoin ! $ move ! (1 ∷ 0 ∷ []) $ fjoin !
        $ fpack ! (PlacePhase V) St (read a rs) $ suffices ! _ (upd_i 𝓤 Z) $ frame ! $ by !
        (fine (Held i v))))
    leaves_write a (clashed j w q k u r) = stuck (Held i v) (wrote a) j w q k u r

    -- ---- the same of the invariant
    in_one : (X P : Fml) → ((y : PlacePhase V) → ⟦ St y ⟧ ∗ ⟦ X ⟧ ⊢ upd 𝓤 (⟦ I ⟧ ∗ ⟦ P ⟧)) → A.inv I
        ∗ ⟦ X ⟧ ⊢ H.⇛ ⟦ P ⟧
    in_one X P h = qed 𝓛 (‵ (finv I) ∷ ‵ X ∷ []) ∵ suffices ! _ (𝓛.invs.inv_acc I ⟦ P ⟧) $ frame !
        $ assume ! (‵ I) $ fpick ! (λ y. by ! (h y))

    pub goes_to_read : RowLaws R → among v → A.inv I ∗ ⟦ Held i v ⟧ ⊢ H.⇛ ⟦ Or Reads ⟧
    goes_to_read K m = in_one (Held i v) (Or Reads) (enters_read K m)

    pub comes_from_reading : (a n : ℕ) → A.inv I ∗ ⟦ reads cv alone among z R b e t i v a n ⟧ ⊢ H.⇛
        ⟦ Or (Held i v) ⟧
    comes_from_reading a n = in_one (reads cv alone among z R b e t i v a n) (Or (Held i v)) (leaves_read a n)

    pub goes_to_write : alone v → A.inv I ∗ ⟦ Held i v ⟧ ⊢ H.⇛ ⟦ Or Writes ⟧
    goes_to_write m = in_one (Held i v) (Or Writes) (enters_write m)

    pub comes_from_writing : (a : ℕ) → A.inv I ∗ ⟦ wrote a ⟧ ⊢ H.⇛ ⟦ Or (Held i v) ⟧
    comes_from_writing a = in_one (wrote a) (Or (Held i v)) (leaves_write a)
