-- A place is opened and shut, by a seat of its table. Assumes `Logic`.
use Rattle.std.proofs.Common.{ℕ, ◌+◌, [], ◌∷◌}
use mathlib.Core.Bool.{Bool, true, false}
use seplogic.Ra.Ura.{Ura}
use base.Share.{three_quarters}
use base.Stored.{Coded}
use base.Logic.{SProp, ent, sep, ex, ex_i, never_e}
use base.Fml.{Lft, Share, Incl, Incl-refl, Fml, ffalse, fex, fdead, fbor, flft, finv}
use base.Before.{before}
use contract.BorrowLft.{meet_⊑_left}
use types.Logic.{Logic, sem}
use types.Kit.{‵, raw, ◌⊛◌, some, later, ◌$◌, ◌∵◌, !, qed, by, move, keep, drop, join, use1, use2, use3}
use types.Kit.{split, split3, fsplit, fsplit3, fjoin, fjoin3, fpick, fpack, pick, await, updating, now, done}
use types.Tokens.{lft_end, lent_back}
use types.Na.{before_dup}
use denote.RattleType.{RattleType, RowLaws}
use denote.RawPtr.{Ptr, block_ptr}
use denote.Shares.{Shares}
use denote.Memory.{shared_of}
use Rattle.atomic_table.specs.Table.{State}
use Rattle.atomic_table.specs.Seated.{TableId, age, common}
use Rattle.lock_values.specs.Ownership.{Excluded, offset, content, lent, Id, seat, Jam, or_jam, Inv}
use Rattle.lock_values.specs.Ownership.{place_shares, seen_at, seen_by, seen_owned, open_at, open_by}
use Rattle.lock_values.specs.Ownership.{open_owned}
use Rattle.lock_values.proofs.Clash.{refutes}
use Rattle.lock_values.proofs.Steps.{goes_to_read, comes_from_reading, goes_to_write, comes_from_writing}
use Rattle.lock_values.proofs.Steps.{Reads, Writes}
use Rattle.core_parts.proofs.Tracked.{tracks, untracks, by_before}
use Rattle.lock_values.proofs.Fresh.{Fresh, fresh}

module _ {M : Type 1} {𝓤 : Ura M} (𝓛 : Logic 𝓤) (R : RattleType) {V : Type 0} (cv : Coded V) (alone among : V
    → Type 0) (z : TableId) (S : RattleType) (holds : State S.Denot V → Type 0) (w p : Ptr) (s : Share)
    (law : Excluded holds alone among) where
  open 𝓛 use {H, A}

  abbrev Pr : Type 2
  Pr = SProp 𝓤

  abbrev ◌⊢◌ : Pr → Pr → Type 1
  P ⊢ Q = ent 𝓤 P Q

  abbrev ◌∗◌ : Pr → Pr → Pr
  P ∗ Q = sep 𝓤 P Q

  infix 26 ◌⊢◌
  infixr 35 ◌∗◌
  abbrev ⟦◌⟧ : Fml → Pr
  ⟦ P ⟧ = sem 𝓛 P

  abbrev C : Fml
  C = common S cv.code holds w p z

  abbrev Tok : Fml
  Tok = flft (age z) s

  abbrev Held : ℕ → V → Fml
  Held i v = seat cv alone among z three_quarters i v

  abbrev Seen : Lft → V → ℕ → ℕ → R.Denot → Fml
  Seen β v b o x = seen_owned R cv alone among z β (b, o) v x

  abbrev Op : Lft → V → ℕ → ℕ → R.Denot → Fml
  Op β v b o x = open_owned R cv alone among z β (b, o) v x

  -- a clash can't be
  module _ (b e : ℕ) (t : Id) (P : Fml) where
    resolved : (y : Bool) → ⟦ or_jam cv alone among z R b e t P y ⟧ ∗ ⟦ C ⟧ ∗ ⟦ Tok ⟧ ⊢ H.⇛ (⟦ P ⟧ ∗ ⟦ Tok ⟧)
    resolved true = qed 𝓛 (‵ P ∷ ‵ C ∷ ‵ Tok ∷ []) ∵ updating ! $ now ! $ keep ! (0 ∷ 2 ∷ []) $ done !
    resolved false = qed 𝓛 (‵ (Jam cv alone among z R b e t) ∷ ‵ C ∷ ‵ Tok ∷ []) ∵ updating !
        $ fpick ! (λ j. move ! (1 ∷ 2 ∷ 0 ∷ []) $
        use3 𝓛 (later (‵ ffalse ⊛ ‵ Tok)) (refutes 𝓛 S cv holds w p z s alone among law j.0.0 j.0.1.0 j.0.1.1
        j.1.0 j.1.1.0 j.1.1.1) $ await ! tt $ split ! $ keep ! (0 ∷ []) $ by ! (never_e 𝓤 _))

    resolves : ⟦ fex Bool (or_jam cv alone among z R b e t P) ⟧ ∗ ⟦ C ⟧ ∗ ⟦ Tok ⟧ ⊢ H.⇛ (⟦ P ⟧ ∗ ⟦ Tok ⟧)
    resolves = qed 𝓛 (‵ (fex Bool (or_jam cv alone among z R b e t P)) ∷ ‵ C ∷ ‵ Tok ∷ []) ∵ fpick !
        (λ y. by ! (resolved y))

  module _ (β : Lft) (v : V) (b o : ℕ) where
    abbrev e : ℕ
    e = o + offset R

    abbrev I : Id → Fml
    I t = Inv cv alone among z R b e t

    pub opens_to_read : RowLaws R → among v → (i : ℕ) → ⟦ place_shares R cv alone among z (block_ptr b o) β ⟧
        ∗ ⟦ Held i v ⟧ ∗ ⟦ C ⟧ ∗ ⟦ Tok ⟧ ⊢ H.⇛ (ex 𝓤 (λ (x : R.Denot). ⟦ Seen β v b o x ⟧) ∗ ⟦ Tok ⟧)
    opens_to_read K m i = qed 𝓛 (‵ (place_shares R cv alone among z (block_ptr b o) β) ∷ ‵ (Held i v) ∷ ‵ C
        ∷ ‵ Tok ∷ []) ∵ updating ! $ fpick ! (λ t. fsplit ! $ move ! (1 ∷ [])
        $ use1 𝓛 (‵ (finv (I t)) ⊛ ‵ (finv (I t))) (𝓛.invs.inv_dup (I t)) $ split ! $
        move ! (0 ∷ 3 ∷ []) $ use2 𝓛 (later
        (‵ (fex Bool (or_jam cv alone among z R b e t (Reads 𝓛 cv alone among z R b e t i v)))))
        (goes_to_read 𝓛 cv alone among z R b e t i v K m) $ await ! tt $ move ! (0 ∷ 3 ∷ 4 ∷ []) $
        use3 𝓛 (later (‵ (Reads 𝓛 cv alone among z R b e t i v) ⊛ ‵ Tok))
        (resolves b e t (Reads 𝓛 cv alone among z R b e t i v)) $ await ! tt $ split ! $ fpick !
        (λ k. fsplit3 ! $ move ! (2 ∷ []) $ fpick ! (λ x. move ! (1 ∷ 2 ∷ 0 ∷ []) $ fjoin3 ! $
        fpack ! ((ℕ × ℕ) × ℕ) (seen_at R cv alone among z b o β v x t) ((k.1, i), k.0) $ move ! (3 ∷ 2 ∷ [])
        $ fjoin ! $ move ! (0 ∷ 1 ∷ []) $ fjoin ! $ fpack ! Id (seen_by R cv alone among z b o β v x) t $
        use1 𝓛 (raw (ex 𝓤 (λ (y : R.Denot). ⟦ Seen β v b o y ⟧)))
        (ex_i 𝓤 (λ (y : R.Denot). ⟦ Seen β v b o y ⟧) x) $ now ! $ done !)))

    pub shuts_from_reading : (x : R.Denot) → ⟦ Seen β v b o x ⟧ ∗ ⟦ C ⟧
        ∗ ⟦ Tok ⟧ ⊢ H.⇛ (ex 𝓤 (λ (i : ℕ). ⟦ Held i v ⟧) ∗ ⟦ Tok ⟧)
    shuts_from_reading x = qed 𝓛 (‵ (Seen β v b o x) ∷ ‵ C ∷ ‵ Tok ∷ []) ∵ updating ! $ fpick !
        (λ t. fsplit ! $ fsplit ! $ drop ! $ move ! (1 ∷ []) $ fpick ! (λ k. let i : ℕ = k.0.1
        in fsplit3 ! $ move ! (2 ∷ []) $ fpack ! R.Denot (λ y. shared_of R y b e (k.1 ∷ t.0)) x $
        move ! (1 ∷ 2 ∷ 0 ∷ []) $ fjoin3 ! $ move ! (1 ∷ 0 ∷ [])
        $ use2 𝓛 (later (‵ (fex Bool (or_jam cv alone among z R b e t (Held i v)))))
        (comes_from_reading 𝓛 cv alone among z R b e t i v k.1 k.0.0) $ await ! tt $
        use3 𝓛 (later (‵ (Held i v) ⊛ ‵ Tok)) (resolves b e t (Held i v)) $ await ! tt $ split !
        $ use1 𝓛 (raw (ex 𝓤 (λ (j : ℕ). ⟦ Held j v ⟧))) (ex_i 𝓤 (λ (j : ℕ). ⟦ Held j v ⟧) i) $ now !
        $ done !))

    pub opens_to_write : alone v → (i : ℕ) (q : Share) → ⟦ place_shares R cv alone among z (block_ptr b o) β ⟧
        ∗ ⟦ Held i v ⟧ ∗ ⟦ C ⟧ ∗ ⟦ Tok ⟧ ∗ A.lft β q ⊢ H.⇛ (ex 𝓤 (λ (x : R.Denot). ⟦ Op β v b o x ⟧) ∗ ⟦ Tok ⟧
        ∗ A.lft β q)
    opens_to_write m i q = qed 𝓛 (‵ (place_shares R cv alone among z (block_ptr b o) β) ∷ ‵ (Held i v) ∷ ‵ C
        ∷ ‵ Tok ∷ ‵ (flft β q) ∷ []) ∵ updating ! $ fpick ! (λ t. let α : Lft = t.0 in fsplit !
        $ use1 𝓛 (‵ (before β α) ⊛ ‵ (before β α)) (before_dup 𝓛 β α) $ split ! $
        move ! (2 ∷ []) $ use1 𝓛 (‵ (finv (I t)) ⊛ ‵ (finv (I t))) (𝓛.invs.inv_dup (I t)) $ split ! $
        move ! (0 ∷ 4 ∷ []) $ use2 𝓛 (later
        (‵ (fex Bool (or_jam cv alone among z R b e t (Writes 𝓛 cv alone among z R b e t i v)))))
        (goes_to_write 𝓛 cv alone among z R b e t i v m) $ await ! tt $ move ! (0 ∷ 4 ∷ 5 ∷ []) $
        use3 𝓛 (later (‵ (Writes 𝓛 cv alone among z R b e t i v) ⊛ ‵ Tok))
        (resolves b e t (Writes 𝓛 cv alone among z R b e t i v)) $ await ! tt $ split ! $ fpick !
        (λ a. fsplit3 ! $ move ! (1 ∷ []) $ lft_end ! tt $
        use1 𝓛 (‵ (fdead (a ∷ α))) (𝓛.lfts.dead-incl (a ∷ α) (a ∷ []) (meet_⊑_left (a ∷ []) α))
        $ move ! (0 ∷ 2 ∷ []) $ lent_back ! tt $
        move ! (4 ∷ 0 ∷ 6 ∷ []) $ use3 𝓛 (later (some (λ (x : R.Denot). ‵ (lent R b e α x)) ⊛ ‵ (flft β q)))
        (tracks 𝓛 R b e β α q) $ await ! tt $ split ! $ pick ! (λ x.
        move ! (2 ∷ 0 ∷ []) $ fjoin ! $ fpack ! ℕ (open_at R cv alone among z b o v x t) i $ move !
        (4 ∷ 3 ∷ []) $ fjoin ! $ move ! (0 ∷ 1 ∷ []) $ fjoin ! $ fpack ! Id
        (open_by R cv alone among z b o β v x) t $
        use1 𝓛 (raw (ex 𝓤 (λ (y : R.Denot). ⟦ Op β v b o y ⟧))) (ex_i 𝓤 (λ (y : R.Denot). ⟦ Op β v b o y ⟧) x)
        $ now ! $ keep ! (0 ∷ 2 ∷ 1 ∷ []) $ done !)))

    pub shuts_from_writing : Shares 𝓛 R R.lives → (x : R.Denot) (q : Share) (τ : Lft) (r : Share)
        → Incl τ R.lives → ⟦ Op β v b o x ⟧ ∗ ⟦ C ⟧ ∗ ⟦ Tok ⟧ ∗ A.lft β q
        ∗ A.lft τ r ⊢ H.⇛ (ex 𝓤 (λ (i : ℕ). ⟦ Held i v ⟧) ∗ ⟦ Tok ⟧ ∗ A.lft β q ∗ A.lft τ r)
    shuts_from_writing shares x q τ r j = qed 𝓛 (‵ (Op β v b o x) ∷ ‵ C ∷ ‵ Tok ∷ ‵ (flft β q) ∷ ‵ (flft τ r)
        ∷ []) ∵ updating ! $ fpick ! (λ t. let α : Lft = t.0 in fsplit ! $ fsplit ! $ use1 𝓛
        (‵ (before β α) ⊛ ‵ (before β α)) (before_dup 𝓛 β α) $ split ! $ move ! (3 ∷ []) $
        fpick ! (λ i. fsplit ! $ move ! (2 ∷ 1 ∷ 7 ∷ [])
        $ use3 𝓛 (later (‵ (fbor α (content R b e)) ⊛ ‵ (flft β q))) (untracks 𝓛 R b e β α q x)
        $ await ! tt $ split ! $
        let X : Pr = A.bor α (content R b e) ∗ A.lft τ r in let Y : Pr = ⟦ Fresh 𝓛 R b e α ⟧ ∗ A.lft τ r in
        move ! (0 ∷ 7 ∷ []) $ join ! $ move ! (3 ∷ 0 ∷ 1 ∷ [])
        $ use3 𝓛 (later ((‵ (Fresh 𝓛 R b e α) ⊛ ‵ (flft τ r)) ⊛ ‵ (flft β q)))
        (by_before 𝓛 R b e β α q X Y (λ u. qed 𝓛 ((‵ (fbor α (content R b e)) ⊛ ‵ (flft τ r)) ∷ ‵ (flft α u)
        ∷ []) ∵ updating ! $ split ! $ move ! (0 ∷ 2 ∷ 1 ∷ []) $
        use3 𝓛 (later (‵ (Fresh 𝓛 R b e α) ⊛ ‵ (flft α u) ⊛ ‵ (flft τ r)))
        (fresh 𝓛 R b e R.lives shares α α u τ r (Incl-refl α) j) $ await ! tt $ split3 !
        $ move ! (0 ∷ 2 ∷ []) $ join ! $ now ! $ done !)) $ await ! tt $ split ! $ split ! $
        fpick ! (λ a. fsplit ! $ move ! (4 ∷ 0 ∷ 1 ∷ []) $ fjoin3 ! $ move ! (3 ∷ 0 ∷ []) $ use2 𝓛
        (later (‵ (fex Bool (or_jam cv alone among z R b e t (Held i v)))))
        (comes_from_writing 𝓛 cv alone among z R b e t i v a) $ await ! tt $ move ! (0 ∷ 3 ∷ 4 ∷ []) $
        use3 𝓛 (later (‵ (Held i v) ⊛ ‵ Tok)) (resolves b e t (Held i v)) $ await ! tt $ split !
        $ use1 𝓛 (raw (ex 𝓤 (λ (k : ℕ). ⟦ Held k v ⟧))) (ex_i 𝓤 (λ (k : ℕ). ⟦ Held k v ⟧) i) $ now !
        $ keep ! (0 ∷ 1 ∷ 3 ∷ 2 ∷ []) $ done !)))
