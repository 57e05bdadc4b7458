-- A table's rule and views are changed with no step: its invariant is opened while a share of its lifetime's
-- token is held. Assumes `Logic`.
use Rattle.std.proofs.Common.{◌≡◌, ℕ, ◌+◌, ◌<◌, List, [], ◌∷◌, ◌++◌, length, length-set, set}
use Rattle.std.proofs.Common.{sym, refl, ◌∙◌, subst, arith}
use mathlib.Core.Option as maybe
use mathlib.Core.List.{not-mem-nil}
use lib.ListN.{get_elem?}
use seplogic.Ra.Ura.{Ura}
use base.Share.{three_quarters}
use base.Stored.{Coded}
use base.Logic.{SProp, ent, sep, ex, all, guard, upd, emp, via, all_e, upd_i, id⊢}
use base.Fml.{Lft, Share, Fml, ftrue, fsep, fex, fbor, flft, fnamed}
use types.Logic.{Logic, sem}
use types.Kit.{‵, raw, ◌⊛◌, some, given, ◌$◌, ◌∵◌, !, qed, by, move, drop, split, join, fsplit}
use types.Kit.{fsplit3, fjoin, fjoin3, fpick, fpack, pick, learn, show, check, frame, assume, suffices}
use types.Kit.{settle, done, use0, use1, use2, rewrite}
use denote.RattleType.{RattleType}
use denote.RawPtr.{Ptr, block_of, count_of}
use denote.Steps.{nothing}
use Rattle.atomic_table.specs.Table.{State, Me, Act, keeps, takes, gives, chain, homes_after, carried_after}
use Rattle.atomic_table.specs.Table.{Valid, Splits, Joins}
use Rattle.core_parts.specs.Changes.{Stirs}
use Rattle.atomic_table.specs.Seated.{fact, row, seen, roster, tracked, carried, shelf, TableId, age, place}
use Rattle.atomic_table.specs.Seated.{names, standing, inner, common, mine}
use Rattle.atomic_table.proofs.Roster.{Moved, moves, Joined, joins, apart, taken, returned}

module _ {M : Type 1} {𝓤 : Ura M} (𝓛 : Logic 𝓤) (R : RattleType) {V : Type 0} (cv : Coded V)
    (holds : State R.Denot V → Type 0) (w p : Ptr) (z : TableId) (q : Share) where
  open 𝓛 use {H, A}

  abbrev Pr : Type 2
  Pr = SProp 𝓤

  abbrev ◌⊢◌ : Pr → Pr → Type 1
  P ⊢ Q = ent 𝓤 P Q

  abbrev ◌∗◌ : Pr → Pr → Pr
  P ∗ Q = sep 𝓤 P Q

  infix 26 ◌⊢◌
  infixr 35 ◌∗◌
  abbrev ⟦◌⟧ : Fml → Pr
  ⟦ P ⟧ = sem 𝓛 P

  abbrev κ : Lft
  κ = age z

  abbrev C : Fml
  C = common R cv.code holds w p z

  abbrev I : Fml
  I = inner R cv.code holds w p z

  abbrev B : Fml
  B = fbor κ I

  abbrev S : Type 0
  S = R.Denot

  abbrev sat : ℕ → Me S V → Fml
  sat = mine R cv.code z

  abbrev half : ℕ → V → Fml
  half id v = seen cv.code z.views_name id three_quarters v

  abbrev pub Fits : State S V → Type 0
  Fits s = holds s × (length s.words ≡ z.words) × (length s.homes ≡ z.slots)

  abbrev pub Rest : State S V → Pr
  Rest s = ⟦ shelf κ R (place z) (names z) 0 s.homes ⟧ ∗ ⟦ roster cv.code z.views_name 0 s.views ⟧

  abbrev pub Next : Fml → State S V → State S V → Pr
  Next after s t = guard 𝓤 ((t.words ≡ s.words) × holds t × (length t.homes ≡ z.slots)) (Rest t ∗ ⟦ after ⟧)

  module _ (after K : Fml) (law : (s : State S V) → Fits s → Rest s ∗ ⟦ K ⟧ ⊢ upd 𝓤 (ex 𝓤 (Next after s)))
    where
      abbrev b : ℕ
      b = block_of w

      abbrev o : ℕ
      o = count_of w

      at_number : (n : ℕ) → A.named n B ∗ A.lft κ q ∗ ⟦ K ⟧ ⊢ H.⇛ (⟦ after ⟧ ∗ A.lft κ q)
      at_number n = let Z : Pr = ⟦ I ⟧ ∗ emp 𝓤 ∗ ⟦ after ⟧ in
          via 𝓤 _ (qed 𝓛 (‵ (fnamed n B) ∷ ‵ (flft κ q) ∷ ‵ K ∷ []) ∵ use0 𝓛 (‵ ftrue) (id⊢ 𝓤 (emp 𝓤))
          $ move ! (1 ∷ 0 ∷ []) $ fjoin ! $ frame ! $ frame ! $ assume ! (‵ I ⊛ ‵ ftrue) $
          split ! $ fpick ! (λ s. fsplit3 ! $ move ! (2 ∷ []) $ fpick ! (λ so. drop ! $ move ! (1 ∷ 3 ∷ [])
          $ use2 𝓛 (raw (upd 𝓤 (ex 𝓤 (Next after s)))) (law s so) $
          settle 𝓛 Z (some (λ (t : State S V). given ((t.words ≡ s.words) × holds t
          × (length t.homes ≡ z.slots))
          (‵ (fsep (shelf κ R (place z) (names z) 0 t.homes) (roster cv.code z.views_name 0 t.views)) ⊛ ‵
          after))) $ pick ! (λ t. learn ! (λ good. split ! $
          rewrite ! 2 (λ (ms : List ℕ). ‵ (row b o ms)) (sym good.0) refl $ nothing ! $ fpack ! (Fits t)
          (λ _. ftrue) (good.1, subst (λ (ms : List ℕ). length ms ≡ z.words) (sym good.0) so.1, good.2) $
          move ! (3 ∷ 1 ∷ 0 ∷ []) $ fjoin3 ! $ fpack ! (State S V) (standing R cv.code holds w p z) t
          $ suffices ! _ (upd_i 𝓤 Z) $ frame ! $ move ! (1 ∷ 0 ∷ []) $ done !)))))
          (𝓛.invs.invs_bor_acc n κ q I [] ⟦ after ⟧ ((λ m. not-mem-nil m), tt))

      pub opened : ⟦ C ⟧ ∗ A.lft κ q ∗ ⟦ K ⟧ ⊢ H.⇛ (⟦ after ⟧ ∗ A.lft κ q)
      opened = qed 𝓛 (‵ C ∷ ‵ (flft κ q) ∷ ‵ K ∷ []) ∵ fsplit ! $ drop ! $ use1 𝓛
          (some (λ (n : ℕ). ‵ (fnamed n B))) (𝓛.invs.inv_named B) $ pick ! (λ n. by ! (at_number n))

  module _ (id : ℕ) (me : Me S V) (other : ℕ) (it : Me S V) (all_ spent : V) where
    abbrev pub merged : Fml
    merged = fsep (sat id (all_, me.1)) (sat other (spent, it.1))

    pub absorbs : Joins holds id me.0 other it.0 all_ spent → ⟦ C ⟧ ∗ A.lft κ q
        ∗ ⟦ fsep (sat id me) (sat other it) ⟧ ⊢ H.⇛ (⟦ merged ⟧ ∗ A.lft κ q)
    absorbs law = let u : V = it.0 in opened merged (fsep (sat id me) (sat other it)) (λ s so.
        let Z : Pr = ex 𝓤 (Next merged s) in let γ : ℕ = z.views_name in let vs : List V = set s.views id all_
        in let t : State S V = record {
          words = s.words;
          homes = s.homes;
          views = set vs other spent;
        } in
        qed 𝓛 ((‵ (shelf κ R (place z) (names z) 0 s.homes) ⊛ ‵ (roster cv.code γ 0 s.views))
        ∷ ‵ (fsep (sat id me) (sat other it)) ∷ []) ∵ split ! $ move ! (2 ∷ []) $ fsplit ! $ fsplit !
        $ move ! (2 ∷ []) $ fsplit ! $ move ! (2 ∷ 0 ∷ []) $
        use2 𝓛 (given (¬ (other ≡ id)) (‵ (half id me.0) ⊛ ‵ (half other u))) (apart 𝓛 cv γ id other me.0 u)
        $ learn ! (λ two. split ! $ move ! (5 ∷ 0 ∷ []) $
        use2 𝓛 (given (get_elem? s.views id ≡ maybe.some me.0) (raw (all 𝓤 (Moved 𝓛 cv γ 0 s.views id id))))
        (moves 𝓛 cv γ s.views 0 id id me.0 (omega arith)) $ learn ! (λ at.
        use1 𝓛 (raw (Moved 𝓛 cv γ 0 s.views id id all_)) (all_e 𝓤 (Moved 𝓛 cv γ 0 s.views id id) all_)
        $ settle 𝓛 Z (‵ (roster cv.code γ 0 vs) ⊛ ‵ (half id all_)) $ split ! $ move ! (0 ∷ 2 ∷ []) $
        use2 𝓛 (given (get_elem? vs other ≡ maybe.some u) (raw (all 𝓤 (Moved 𝓛 cv γ 0 vs other other))))
        (moves 𝓛 cv γ vs 0 other other u (omega arith)) $ learn ! (λ at'.
        use1 𝓛 (raw (Moved 𝓛 cv γ 0 vs other other spent)) (all_e 𝓤 (Moved 𝓛 cv γ 0 vs other other) spent)
        $ settle 𝓛 Z (‵ (roster cv.code γ 0 t.views) ⊛ ‵ (half other spent)) $ split ! $
        suffices ! _ (upd_i 𝓤 Z) $ show ! (Next merged s) t $ check ! (refl, law s so.0 at two at', so.2)
        $ move ! (5 ∷ 0 ∷ []) $ join ! $ frame ! $
        move ! (0 ∷ 2 ∷ []) $ fjoin ! $ move ! (1 ∷ 2 ∷ []) $ fjoin ! $ done !))))

  module _ (id : ℕ) (me : Me S V) (l r : V) where
    abbrev pub two : ℕ → Fml
    two j = fsep (sat id (l, me.1)) (half j r)

    pub forks : Splits holds id me.0 l r → ⟦ C ⟧ ∗ A.lft κ q ∗ ⟦ sat id me ⟧ ⊢ H.⇛ (⟦ fex ℕ two ⟧ ∗ A.lft κ q)
    forks law = opened (fex ℕ two) (sat id me) (λ s so. let Z : Pr = ex 𝓤 (Next (fex ℕ two) s) in let γ : ℕ =
        z.views_name in let vs : List V = set s.views id l in
        let t : State S V = record { words = s.words; homes = s.homes; views = vs ++ r ∷ [] } in
        qed 𝓛 ((‵ (shelf κ R (place z) (names z) 0 s.homes) ⊛ ‵ (roster cv.code γ 0 s.views))
        ∷ ‵ (half id me.0) ∷ ‵ (carried κ R (place z) (names z) z.slots me.1) ∷ []) ∵ split !
        $ move ! (1 ∷ 2 ∷ []) $
        use2 𝓛 (given (get_elem? s.views id ≡ maybe.some me.0) (raw (all 𝓤 (Moved 𝓛 cv γ 0 s.views id id))))
        (moves 𝓛 cv γ s.views 0 id id me.0 (omega arith)) $ learn ! (λ at.
        use1 𝓛 (raw (Moved 𝓛 cv γ 0 s.views id id l)) (all_e 𝓤 (Moved 𝓛 cv γ 0 s.views id id) l)
        $ settle 𝓛 Z (‵ (roster cv.code γ 0 vs) ⊛ ‵ (half id l)) $ split ! $
        use1 𝓛 (raw (upd 𝓤 (ex 𝓤 (Joined 𝓛 cv γ 0 vs r)))) (joins 𝓛 cv γ vs 0 r) $ settle 𝓛 Z
        (some (λ (j : ℕ). ‵ (roster cv.code γ 0 (vs ++ r ∷ [])) ⊛ ‵ (half j r))) $ pick ! (λ j. split ! $
        suffices ! _ (upd_i 𝓤 Z) $ show ! (Next (fex ℕ two) s) t $ check ! (refl, law s so.0 at, so.2)
        $ move ! (3 ∷ 0 ∷ []) $ join ! $ frame ! $
        show ! (λ (x : ℕ). ⟦ two x ⟧) j $ move ! (1 ∷ 2 ∷ []) $ fjoin ! $ done !)))

  acts : (hs : List (maybe.Option S)) (cs : List (ℕ × S)) (a : Act S) → length hs ≡ z.slots → Valid hs cs a
      → ⟦ shelf κ R (place z) (names z) 0 hs ⟧ ∗ ⟦ carried κ R (place z) (names z) z.slots cs ⟧ ⊢ guard 𝓤
      (length (homes_after hs cs a) ≡ z.slots) (⟦ shelf κ R (place z) (names z) 0 (homes_after hs cs a) ⟧
      ∗ ⟦ carried κ R (place z) (names z) z.slots (carried_after cs a) ⟧)
  acts hs cs keeps long ok = base.Logic.guard_i 𝓤 (length hs ≡ z.slots) _ long
  acts hs cs (takes k y) long ok = qed 𝓛 (‵ (shelf κ R (place z) (names z) 0 hs)
      ∷ ‵ (carried κ R (place z) (names z) z.slots cs) ∷ []) ∵ check ! (length-set hs k maybe.none ∙ long) $
      use1 𝓛 (given (k < length hs) (‵ (tracked κ R (place z) (names z) k y) ⊛ ‵
      (shelf κ R (place z) (names z) 0 (set hs k maybe.none)))) (taken 𝓛 κ R (place z) (names z) hs 0 k k
      y (omega arith) ok) $ learn ! (λ near. split ! $ move ! (1 ∷ []) $ frame ! $
      nothing ! $ fpack ! (k < z.slots) (λ _. ftrue) (subst (λ (n : ℕ). k < n) long near) $ done !)
  acts hs [] gives long ok = base.Logic.guard_i 𝓤 (length hs ≡ z.slots) _ long
  acts hs (x ∷ xs) gives long ok = qed 𝓛 (‵ (shelf κ R (place z) (names z) 0 hs)
      ∷ ‵ (carried κ R (place z) (names z) z.slots (x ∷ xs)) ∷ []) ∵ check !
      (length-set hs x.0 (maybe.some x.1) ∙ long) $ move ! (1 ∷ []) $ fsplit3 ! $ drop ! $ move ! (2 ∷ 0 ∷ [])
      $
      use2 𝓛 (‵ (shelf κ R (place z) (names z) 0 (set hs x.0 (maybe.some x.1))))
      (returned 𝓛 κ R (place z) (names z) hs 0 x.0 x.0 x.1 (omega arith)) $ done !
  acts hs cs (chain a a') long ok = let hs' : List (maybe.Option S) = homes_after hs cs a
      in let cs' : List (ℕ × S) = carried_after cs a in qed 𝓛 (‵ (shelf κ R (place z) (names z) 0 hs)
      ∷ ‵ (carried κ R (place z) (names z) z.slots cs) ∷ []) ∵
      use2 𝓛 (given (length hs' ≡ z.slots) (‵ (shelf κ R (place z) (names z) 0 hs') ⊛ ‵
      (carried κ R (place z) (names z) z.slots cs'))) (acts hs cs a long ok.0) $ learn !
      (λ long'. split ! $ by ! (acts hs' cs' a' long' ok.1))

  module _ (id : ℕ) (me : Me S V) (then : Me S V → Type 0) where
    abbrev pub next : Me S V → Fml
    next u = fsep (fact (then u)) (sat id u)

    abbrev pub after : Fml
    after = fex (Me S V) next

    pub stirs : Stirs holds z.slots id me then → ⟦ C ⟧ ∗ A.lft κ q ∗ ⟦ sat id me ⟧ ⊢ H.⇛ (⟦ after ⟧
        ∗ A.lft κ q)
    stirs law = opened after (sat id me) (λ s so. let Z : Pr = ex 𝓤 (Next after s) in let γ : ℕ = z.views_name
        in
        qed 𝓛 ((‵ (shelf κ R (place z) (names z) 0 s.homes) ⊛ ‵ (roster cv.code γ 0 s.views))
        ∷ ‵ (half id me.0) ∷ ‵ (carried κ R (place z) (names z) z.slots me.1) ∷ []) ∵ split !
        $ move ! (1 ∷ 2 ∷ []) $
        use2 𝓛 (given (get_elem? s.views id ≡ maybe.some me.0) (raw (all 𝓤 (Moved 𝓛 cv γ 0 s.views id id))))
        (moves 𝓛 cv γ s.views 0 id id me.0 (omega arith)) $ learn ! (λ at.
        let r = law s so.0 so.2 at in let u : V = r.0 in let a : Act S = r.1 in let t : State S V = record {
          words = s.words;
          homes = homes_after s.homes me.1 a;
          views = set s.views id u;
        } in let me' : Me S V = (u, carried_after me.1 a) in
        use1 𝓛 (raw (Moved 𝓛 cv γ 0 s.views id id u)) (all_e 𝓤 (Moved 𝓛 cv γ 0 s.views id id) u)
        $ settle 𝓛 Z (‵ (roster cv.code γ 0 t.views) ⊛ ‵ (half id u)) $ split ! $ move ! (2 ∷ 3 ∷ []) $
        use2 𝓛 (given (length t.homes ≡ z.slots) (‵ (shelf κ R (place z) (names z) 0 t.homes) ⊛ ‵
        (carried κ R (place z) (names z) z.slots me'.1))) (acts s.homes me.1 a so.2 r.2)
        $ learn ! (λ long. split ! $
        suffices ! _ (upd_i 𝓤 Z) $ show ! (Next after s) t $ check ! (refl, r.3, long) $ move ! (0 ∷ 2 ∷ [])
        $ join ! $ frame ! $ show ! (λ (x : Me S V). ⟦ next x ⟧) me' $
        nothing ! $ fpack ! (then me') (λ _. ftrue) r.4 $ move ! (0 ∷ 2 ∷ 1 ∷ []) $ done !)))
