-- The holdings of a thread that has opened a place, and its loans. Assumes `Logic`.
use Rattle.std.proofs.Common.{ℕ, ◌+◌, [], ◌∷◌, ◌++◌}
use mathlib.Core.Bool.{true}
use seplogic.Ra.Ura.{Ura}
use base.Fraction.{full_share}
use base.Stored.{Coded}
use base.Logic.{SProp, ent, sep, wand, ex, all, all_e, upd_i, id⊢}
use base.Fml.{Lft, Share, Incl, Incl-trans, Fml, ftrue, fsep, fseps, fwand, fupd, fdead, fbor, flft, finv}
use base.Before.{before}
use contract.BorrowLft.{meet_⊑_left, meet_⊑_right, ⊑_meet}
use ghost.Rules.{span}
use types.Logic.{Logic, sem, lfts}
use types.Kit.{‵, raw, ◌⊛◌, some, ◌$◌, ◌∵◌, !, qed, by, move, keep, group, use1, use2, split, split3, fsplit}
use types.Kit.{fsplit3, fjoin, fjoin3, fpick, fpack, pick, show, frame, each, assume, suffices, updating, now}
use types.Kit.{done}
use types.Tokens.{bor_open, obor_alter, bor_fracture}
use types.Na.{before_dup, before_shorten}
use denote.RattleType.{RattleType, RowLaws}
use denote.RawPtr.{block_ptr}
use denote.Shares.{Shares}
use denote.Sharing.{ShrLaws, ends, always}
use denote.SharingLaws.{within_shr_laws, some_shr_laws, beside_shr_laws, ends_shr_laws, always_shr_laws}
use denote.SharingLaws.{contraction, shortens}
use denote.Moves.{moves, moves_before}
use denote.Memory.{shared_of}
use denote.Steps.{nothing}
use denote.Struct.Lending.{Lends}
use Rattle.core.proofs.cell.Borrows.{by_one}
use Rattle.atomic_table.specs.Seated.{TableId}
use Rattle.lock_values.specs.Ownership.{offset, lent, Id, part, entry_of, Inv, kept, place_shares, seen_at}
use Rattle.lock_values.specs.Ownership.{seen_by, seen_owned, open_at, open_by, open_owned, open_shares}
use Rattle.core_parts.proofs.Tracked.{Gives, Lends-tracked}

-- a `&` to a place can be had twice, and for less long
pub place_laws : (R : RattleType) {V : Type 0} (cv : Coded V) (alone among : V → Type 0) (z : TableId)
    (b o : ℕ) → ShrLaws (place_shares R cv alone among z (block_ptr b o))
place_laws R cv alone among z b o = some_shr_laws Id (kept R cv alone among z b o) (λ t. let J : Fml =
    Inv cv alone among z R b (o + offset R) t in beside_shr_laws (ends t.0) (always J) (ends_shr_laws t.0)
    (always_shr_laws J))

pub seen_laws : (β : Lft) (R : RattleType) → RowLaws R → (p : ℕ × ℕ) (x : R.Denot)
    → ShrLaws (open_shares β R p x)
seen_laws β R L p x = within_shr_laws β (shared_of R x p.0 (p.1 + offset R)) (L x p.0 (p.1 + offset R))

module _ {M : Type 1} {𝓤 : Ura M} (𝓛 : Logic 𝓤) where
  open 𝓛 use {H, A}

  abbrev Pr : Type 2
  Pr = SProp 𝓤

  abbrev ◌⊢◌ : Pr → Pr → Type 1
  P ⊢ Q = ent 𝓤 P Q

  abbrev ◌∗◌ : Pr → Pr → Pr
  P ∗ Q = sep 𝓤 P Q

  abbrev ◌-∗◌ : Pr → Pr → Pr
  P -∗ Q = wand 𝓤 P Q

  abbrev ⟦◌⟧ : Fml → Pr
  ⟦ P ⟧ = sem 𝓛 P

  infix 26 ◌⊢◌
  infixr 35 ◌∗◌
  infixr 30 ◌-∗◌
  module _ (R : RattleType) {V : Type 0} (cv : Coded V) (alone among : V → Type 0) (z : TableId) (β : Lft)
      (v : V) where
    abbrev Seen : ℕ × ℕ → R.Denot → Fml
    Seen p x = seen_owned R cv alone among z β p v x

    abbrev Op : ℕ × ℕ → R.Denot → Fml
    Op p x = open_owned R cv alone among z β p v x

    -- ---- writers
    module _ (b o : ℕ) (x : R.Denot) where
      abbrev Again : Lft → R.Denot → Pr
      Again α w = ⟦ lent R b (o + offset R) α w ⟧ -∗ ⟦ Op (b, o) w ⟧

      abbrev pub Ajar : Lft → Pr
      Ajar α = ⟦ before β α ⟧ ∗ ⟦ lent R b (o + offset R) α x ⟧ ∗ all 𝓤 (Again α)

      pub held_out : ⟦ Op (b, o) x ⟧ ⊢ ex 𝓤 Ajar
      held_out = qed 𝓛 (‵ (Op (b, o) x) ∷ []) ∵ fpick ! (λ t. fsplit ! $ fsplit !
          $ use1 𝓛 (‵ (before β t.0) ⊛ ‵ (before β t.0)) (before_dup 𝓛 β t.0) $ split ! $ move ! (3 ∷ [])
          $ fpick ! (λ i. fsplit ! $
          show ! Ajar t.0 $ move ! (2 ∷ 1 ∷ []) $ frame ! $ frame ! $
          each ! (Again t.0) (λ w. assume ! (‵ (lent R b (o + offset R) t.0 w)) $ move ! (1 ∷ 0 ∷ [])
          $ fjoin ! $ fpack ! ℕ (open_at R cv alone among z b o v w t) i $ move ! (1 ∷ 2 ∷ []) $ fjoin !
          $ fjoin ! $ fpack ! Id (open_by R cv alone among z b o β v w) t $ done !)))

      held_Gives : ⟦ Op (b, o) x ⟧ ⊢ ex 𝓤 (Gives 𝓛 R b (o + offset R) β x (Op (b, o) x))
      held_Gives = qed 𝓛 (‵ (Op (b, o) x) ∷ []) ∵ use1 𝓛
          (some (λ (α : Lft). ‵ (before β α) ⊛ ‵ (lent R b (o + offset R) α x) ⊛ raw (all 𝓤 (Again α))))
          held_out $ pick ! (λ α. split3 ! $ move ! (2 ∷ []) $
          use1 𝓛 (raw (Again α x)) (all_e 𝓤 (Again α) x)
          $ show ! (Gives 𝓛 R b (o + offset R) β x (Op (b, o) x)) α $ move ! (1 ∷ 2 ∷ 0 ∷ []) $ done !)

    pub Lends-held : (l : Lft) → Incl l β → Shares 𝓛 R l → (p : ℕ × ℕ) (x : R.Denot)
        → Lends 𝓛 (Op p x) (open_shares β R p x) l
    Lends-held l le s p x = Lends-tracked 𝓛 R p.0 (p.1 + offset R) β x (Op p x) l le s (held_Gives p.0 p.1 x)

    -- ---- readers
    module _ (L : RowLaws R) (b o : ℕ) (x : R.Denot) (ν : Lft) (inc : Incl ν β) where
      abbrev P : Fml
      P = Seen (b, o) x

      abbrev W : Lft → Fml
      W = shared_of R x b (o + offset R)

      abbrev K : ShrLaws W
      K = L x b (o + offset R)

      abbrev I : Id → Fml
      I t = Inv cv alone among z R b (o + offset R) t

      abbrev Signed : Id → (ℕ × ℕ) × ℕ → Fml
      Signed t s = entry_of cv alone among z t.1.0 s.0.0 (true, (s.1, (s.0.1, v)))

      reader_again : (t : Id) (s : (ℕ × ℕ) × ℕ) → ⟦ before β t.0 ⟧ ∗ A.inv (I t) ∗ ⟦ Signed t s ⟧
          ∗ ⟦ W (s.1 ∷ t.0) ⟧ ⊢ ⟦ fwand
          (fsep (fdead ν) (fseps (flft (s.1 ∷ []) (part full_share s.0.0) ∷ []))) (fupd P) ⟧
      unfolding fseps
      reader_again t s = let e : Share = part full_share s.0.0
          in qed 𝓛 (‵ (before β t.0) ∷ ‵ (finv (I t)) ∷ ‵ (Signed t s) ∷ ‵ (W (s.1 ∷ t.0)) ∷ []) ∵ assume !
          (‵ (fsep (fdead ν) (fsep (flft (s.1 ∷ []) e) ftrue))) $ suffices ! ⟦ P ⟧ (upd_i 𝓤 ⟦ P ⟧) $
          fsplit3 ! $ move ! (5 ∷ 1 ∷ 6 ∷ []) $ fjoin3 ! $ fpack ! ((ℕ × ℕ) × ℕ)
          (seen_at R cv alone among z b o β v x t) s $ move ! (3 ∷ 4 ∷ []) $ fjoin ! $ fjoin !
          $ fpack ! Id (seen_by R cv alone among z b o β v x) t $ keep ! (0 ∷ []) $ done !

      lends_seen : (q : Share) → A.bor ν P ∗ A.lft ν q ⊢ H.⇛ (⟦ W ν ⟧ ∗ A.lft ν q)
      unfolding fseps
      lends_seen q = qed 𝓛 (‵ (fbor ν P) ∷ ‵ (flft ν q) ∷ []) ∵ updating ! $ bor_open ! tt $ move ! (1 ∷ [])
          $ fpick ! (λ t. fsplit ! $ fsplit ! $ move ! (2 ∷ []) $ fpick ! (λ s. fsplit3 ! $
          let a : Lft = s.1 ∷ [] in let e : Share = part full_share s.0.0 in let μ : Lft = a ++ ν in
          move ! (2 ∷ []) $ use1 𝓛 (‵ (W (s.1 ∷ t.0)) ⊛ ‵ (W (s.1 ∷ t.0))) (contraction 𝓛 W K (s.1 ∷ t.0))
          $ split ! $ move ! (4 ∷ []) $
          use1 𝓛 (‵ (before β t.0) ⊛ ‵ (before β t.0)) (before_dup 𝓛 β t.0) $ split ! $ move !
          (0 ∷ 6 ∷ 4 ∷ 2 ∷ []) $ group ! 4 $
          use1 𝓛 (‵ (fwand (fsep (fdead ν) (fseps (flft a e ∷ []))) (fupd P))) (reader_again t s) $ nothing !
          $ move ! (4 ∷ 0 ∷ []) $ fjoin ! $ move ! (4 ∷ 0 ∷ 1 ∷ []) $ obor_alter ! tt (flft a e ∷ []) $
          use1 𝓛 (‵ (fbor ν (flft a e)) ⊛ ‵ ftrue) (id⊢ 𝓤 _) $ split ! $ bor_fracture ! tt (λ r. flft a r) e
          $ move ! (4 ∷ []) $
          use1 𝓛 (‵ (W (μ ++ t.0))) (shortens 𝓛 W K (a ++ t.0) (μ ++ t.0) (⊑_meet (μ ++ t.0) a t.0
          (Incl-trans (meet_⊑_left μ t.0) (meet_⊑_left a ν)) (meet_⊑_right μ t.0))) $ move ! (4 ∷ []) $
          use1 𝓛 (‵ (before μ t.0)) (before_shorten 𝓛 β μ t.0 (Incl-trans (meet_⊑_right a ν) inc))
          $ use2 𝓛 (‵ (W μ)) (moves_before 𝓛 W K μ t.0) $ move ! (1 ∷ 0 ∷ []) $
          use2 𝓛 (‵ (W ν)) (moves 𝓛 W K ν a) $ now ! $ keep ! (0 ∷ 2 ∷ []) $ done !))

    pub Lends-reads : RowLaws R → (l : Lft) → Incl l β → (p : ℕ × ℕ) (x : R.Denot)
        → Lends 𝓛 (Seen p x) (open_shares β R p x) l
    Lends-reads L l le p x = λ κ ts inc sp.
        let b : ℕ = p.0 in
        let o : ℕ = p.1 in
        let ν : Lft = κ ++ β in
        let P : Fml = Seen p x in
        qed 𝓛 (‵ (fbor κ P) ∷ raw (lfts 𝓛 ts) ∷ []) ∵ use1 𝓛 (‵ (fbor ν P))
        (𝓛.bors.bor_shorten κ ν P (meet_⊑_left κ β)) $
        by ! (by_one 𝓛 ν ts (⊑_meet (span ts) κ β sp (Incl-trans inc le)) (A.bor ν P)
        ⟦ shared_of R x b (o + offset R) ν ⟧ (lends_seen L b o x ν (meet_⊑_right κ β)))
