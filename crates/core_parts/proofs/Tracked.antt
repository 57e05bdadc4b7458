-- A borrow of a value under a name, as a thread that has opened its place holds it. Assumes `Logic`.
-- tracks, untracks the borrow is named, and the name is given up. Lends-tracked the law of what tracks its
-- value
use mathlib.Core.List.{[], ◌∷◌, ◌++◌}
use Prim.Native.Nat.{ℕ}
use seplogic.Ra.Ura.{Ura}
use base.Share
use base.Fraction.{full_share}
use base.Logic.{SProp, ent, sep, wand, ex, ex_i, emp, upd, upd_i, apply∗, id⊢}
use base.Stored.{Gv}
use base.Fml.{Lft, GName, Share, Incl, Fml, ftrue, fsep, fseps, fwand, fupd, fdead, fauth, fobs, fbor, flft}
use base.Fml.{Incl-refl, Incl-trans}
use base.Before.{before}
use contract.BorrowLft.{meet_⊑_left, meet_⊑_right, ⊑_meet}
use ghost.Rules.{Toks, span}
use types.Logic.{Logic, sem, lfts}
use types.Kit.{‵, raw, ◌⊛◌, some, later, given, ◌$◌, ◌∵◌, !, qed, by, move, keep, drop, use0, use1, use2}
use types.Kit.{use3, split, split3, fsplit, fsplit3, fjoin, fjoin3, fpick, fpack, pick, assume, suffices}
use types.Kit.{learn, await, settle, updating, now, done}
use types.Tokens.{bor_open, obor_close, obor_alter, name_new}
use types.Na.{before_acc, before_shorten}
use denote.RattleType.{RattleType}
use denote.Memory.{part_at, mem, shared_of}
use denote.Sharing.{within}
use denote.Shares.{Shares, settles}
use denote.Steps.{nothing}
use denote.Struct.Lending.{Lends}
use Rattle.core.proofs.cell.Borrows.{by_one, unnest_before}
use Rattle.core_parts.specs.Ownership.{content, named_content, lent}

module _ {M : Type 1} {𝓤 : Ura M} (𝓛 : Logic 𝓤) (R : RattleType) (b e : ℕ) where
  open 𝓛 use {H, A}

  abbrev Pr : Type 2
  Pr = SProp 𝓤

  abbrev ◌⊢◌ : Pr → Pr → Type 1
  P ⊢ Q = ent 𝓤 P Q

  abbrev ◌∗◌ : Pr → Pr → Pr
  P ∗ Q = sep 𝓤 P Q

  abbrev ◌-∗◌ : Pr → Pr → Pr
  P -∗ Q = wand 𝓤 P Q

  abbrev ⟦◌⟧ : Fml → Pr
  ⟦ P ⟧ = sem 𝓛 P

  infix 26 ◌⊢◌
  infixr 35 ◌∗◌
  infixr 30 ◌-∗◌
  abbrev At : R.Denot → Fml
  At x = part_at R full_share x b e

  abbrev V : Fml
  V = content R b e

  abbrev Named : GName → Fml
  Named δ = named_content R b e δ

  abbrev Ob : GName → R.Denot → Fml
  Ob δ x = fobs δ (R.coded.code x)

  -- a step for one token of α is a step for one of κ
  pub by_before : (κ α : Lft) (q : Share) (X Y : Pr) → ((s : Share) → X ∗ A.lft α s ⊢ H.⇛ (Y ∗ A.lft α s))
      → ⟦ before κ α ⟧ ∗ X ∗ A.lft κ q ⊢ H.⇛ (Y ∗ A.lft κ q)
  by_before κ α q X Y f = qed 𝓛 (‵ (before κ α) ∷ raw X ∷ ‵ (flft κ q) ∷ []) ∵ updating ! $ move !
      (0 ∷ 2 ∷ []) $
      use2 𝓛 (later (some (λ (us : Toks). given (Incl (span us) α)
      (raw (lfts 𝓛 us) ⊛ raw (lfts 𝓛 us -∗ H.⇛ (A.lft κ q)))))) (before_acc 𝓛 κ α ((κ, q) ∷ [])
      (Incl-refl κ)) $ await ! tt $ pick ! (λ us. learn ! (λ h. split ! $
      move ! (2 ∷ 0 ∷ []) $ use2 𝓛 (later (raw Y ⊛ raw (lfts 𝓛 us))) (by_one 𝓛 α us h X Y f) $ await ! tt
      $ split ! $
      move ! (1 ∷ 2 ∷ []) $ use2 𝓛 (later (‵ (flft κ q))) (apply∗ 𝓤 (lfts 𝓛 us) (H.⇛ (A.lft κ q)))
      $ await ! tt $ now ! $ move ! (1 ∷ 0 ∷ []) $ done !))

  abbrev pub Tracked : Lft → Pr
  Tracked α = ex 𝓤 (λ (x : R.Denot). ⟦ lent R b e α x ⟧)

  forgets : (α : Lft) (δ : GName) → emp 𝓤 ⊢ ⟦ fwand (fsep (fdead α) (fseps (Named δ ∷ []))) (fupd V) ⟧
  unfolding fseps
  forgets α δ = qed 𝓛 [] ∵ assume ! (‵ (fsep (fdead α) (fsep (Named δ) ftrue))) $ suffices ! ⟦ V ⟧
      (upd_i 𝓤 ⟦ V ⟧) $ fsplit3 ! $ keep ! (1 ∷ []) $ fpick ! (λ x. fsplit ! $ keep ! (0 ∷ [])
      $ fpack ! R.Denot At x $ done !)

  names : (α : Lft) (s : Share) → A.bor α V ∗ A.lft α s ⊢ H.⇛ (Tracked α ∗ A.lft α s)
  unfolding fseps
  names α s = qed 𝓛 (‵ (fbor α V) ∷ ‵ (flft α s) ∷ []) ∵ updating ! $ bor_open ! tt $ move ! (1 ∷ [])
      $ fpick ! (λ x. name_new ! tt (R.coded.code x) (λ δ. move ! (2 ∷ 1 ∷ []) $ fjoin ! $
      fpack ! R.Denot (λ w. fsep (At w) (fauth δ (R.coded.code w))) x $ nothing ! $ move ! (1 ∷ 0 ∷ [])
      $ fjoin ! $
      use0 𝓛 (‵ (fwand (fsep (fdead α) (fseps (Named δ ∷ []))) (fupd V))) (forgets α δ) $ move !
      (3 ∷ 1 ∷ 0 ∷ []) $ obor_alter ! tt (Named δ ∷ []) $
      use1 𝓛 (‵ (fbor α (Named δ)) ⊛ ‵ ftrue) (id⊢ 𝓤 _) $ split ! $ move ! (3 ∷ 0 ∷ []) $ fjoin !
      $ fpack ! GName (λ η. fsep (Ob η x) (fbor α (Named η))) δ $
      use1 𝓛 (raw (Tracked α)) (ex_i 𝓤 (λ (y : R.Denot). ⟦ lent R b e α y ⟧) x) $ now ! $ keep ! (0 ∷ 2 ∷ [])
      $ done !))

  pub tracks : (κ α : Lft) (q : Share) → ⟦ before κ α ⟧ ∗ A.bor α V ∗ A.lft κ q ⊢ H.⇛ (Tracked α ∗ A.lft κ q)
  tracks κ α q = by_before κ α q (A.bor α V) (Tracked α) (names α)

  way : (α : Lft) (δ : GName) (u v : Gv) → A.obs δ u
      ∗ A.auth δ v ⊢ ⟦ fwand (fsep (fdead α) (fseps (V ∷ []))) (fupd (Named δ)) ⟧
  unfolding fseps
  way α δ u v = qed 𝓛 (‵ (fobs δ u) ∷ ‵ (fauth δ v) ∷ []) ∵ assume ! (‵ (fsep (fdead α) (fsep V ftrue)))
      $ fsplit3 ! $ drop ! $ fpick ! (λ y. move ! (2 ∷ 3 ∷ []) $
      use2 𝓛 (raw (upd 𝓤 (⟦ Ob δ y ⟧ ∗ A.auth δ (R.coded.code y)))) (𝓛.names.name_set_upd δ u v
      (R.coded.code y)) $
      settle 𝓛 ⟦ Named δ ⟧ (‵ (Ob δ y) ⊛ ‵ (fauth δ (R.coded.code y))) $ split ! $ suffices ! ⟦ Named δ ⟧
      (upd_i 𝓤 ⟦ Named δ ⟧) $ keep ! (2 ∷ 1 ∷ []) $ fjoin ! $
      fpack ! R.Denot (λ z. fsep (At z) (fauth δ (R.coded.code z))) y $ done !)

  unnames : (α : Lft) (x : R.Denot) (s : Share) → ⟦ lent R b e α x ⟧ ∗ A.lft α s ⊢ H.⇛ (A.bor α V ∗ A.lft α s)
  unfolding fseps
  unnames α x s = qed 𝓛 (‵ (lent R b e α x) ∷ ‵ (flft α s) ∷ []) ∵ updating !
      $ fpick ! (λ δ. fsplit ! $ move ! (1 ∷ 2 ∷ []) $ bor_open ! tt $ move ! (1 ∷ []) $ fpick !
      (λ y. fsplit ! $
      fpack ! R.Denot At y $ nothing ! $ move ! (1 ∷ 0 ∷ []) $ fjoin ! $ move ! (3 ∷ 1 ∷ []) $
      use2 𝓛 (‵ (fwand (fsep (fdead α) (fseps (V ∷ []))) (fupd (Named δ))))
      (way α δ (R.coded.code x) (R.coded.code y)) $ move ! (2 ∷ 1 ∷ 0 ∷ []) $ obor_alter ! tt (V ∷ []) $
      use1 𝓛 (‵ (fbor α V) ⊛ ‵ ftrue) (id⊢ 𝓤 _) $ split ! $ now ! $ keep ! (0 ∷ 2 ∷ []) $ done !))

  pub untracks : (κ α : Lft) (q : Share) (x : R.Denot) → ⟦ before κ α ⟧ ∗ ⟦ lent R b e α x ⟧
      ∗ A.lft κ q ⊢ H.⇛ (A.bor α V ∗ A.lft κ q)
  untracks κ α q x = by_before κ α q ⟦ lent R b e α x ⟧ (A.bor α V) (unnames α x)

  module _ (β : Lft) (x : R.Denot) (P : Fml) where
    abbrev pub Gives : Lft → Pr
    Gives α = ⟦ before β α ⟧ ∗ ⟦ lent R b e α x ⟧ ∗ (⟦ lent R b e α x ⟧ -∗ ⟦ P ⟧)

    again : (ν α : Lft) (δ : GName) → (⟦ lent R b e α x ⟧ -∗ ⟦ P ⟧) ⊢
        ⟦ fwand (fsep (fdead ν) (fseps (Ob δ x ∷ fbor α (Named δ) ∷ []))) (fupd P) ⟧
    unfolding fseps
    again ν α δ = qed 𝓛 (raw (⟦ lent R b e α x ⟧ -∗ ⟦ P ⟧) ∷ []) ∵ assume !
        (‵ (fsep (fdead ν) (fsep (Ob δ x) (fsep (fbor α (Named δ)) ftrue)))) $ suffices ! ⟦ P ⟧
        (upd_i 𝓤 ⟦ P ⟧) $
        fsplit ! $ drop ! $ fsplit3 ! $ fjoin ! $ fpack ! GName (λ η. fsep (Ob η x) (fbor α (Named η))) δ
        $ keep ! (0 ∷ 2 ∷ []) $ by ! (apply∗ 𝓤 ⟦ lent R b e α x ⟧ ⟦ P ⟧)

    Lends-at : ⟦ P ⟧ ⊢ ex 𝓤 Gives → (ν : Lft) → Incl ν β → (q : Share) → A.bor ν P
        ∗ A.lft ν q ⊢ H.⇛ (A.bor ν (At x) ∗ A.lft ν q)
    unfolding fseps
    Lends-at opens ν inc q = qed 𝓛 (‵ (fbor ν P) ∷ ‵ (flft ν q) ∷ []) ∵ updating ! $ bor_open ! tt
        $ move ! (1 ∷ []) $
        use1 𝓛 (some (λ (α : Lft). ‵ (before β α) ⊛ ‵ (lent R b e α x) ⊛ raw (⟦ lent R b e α x ⟧ -∗ ⟦ P ⟧)))
        opens $ pick ! (λ α. split3 ! $ move ! (1 ∷ []) $ fpick ! (λ δ. fsplit ! $ move ! (3 ∷ []) $
        use1 𝓛 (‵ (fwand (fsep (fdead ν) (fseps (Ob δ x ∷ fbor α (Named δ) ∷ []))) (fupd P))) (again ν α δ)
        $ nothing ! $ move ! (2 ∷ 3 ∷ 0 ∷ []) $ fjoin3 ! $
        move ! (3 ∷ 0 ∷ 1 ∷ []) $ obor_alter ! tt (Ob δ x ∷ fbor α (Named δ) ∷ [])
        $ use1 𝓛 (‵ (fbor ν (Ob δ x)) ⊛ ‵ (fbor ν (fbor α (Named δ))) ⊛ ‵ ftrue) (id⊢ 𝓤 _) $ split3 ! $
        move ! (4 ∷ []) $ use1 𝓛 (‵ (before ν α)) (before_shorten 𝓛 β ν α inc) $ keep ! (0 ∷ 2 ∷ 4 ∷ 1 ∷ []) $
        use3 𝓛 (later (‵ (fbor ν (Named δ)) ⊛ ‵ (flft ν q))) (unnest_before 𝓛 ν α q (Named δ)) $ await ! tt
        $ split ! $ move ! (1 ∷ []) $
        use1 𝓛 (‵ (flft ν (Share.left q)) ⊛ ‵ (flft ν (Share.right q))) (𝓛.lfts.lft_split ν q) $ split !
        $ move ! (3 ∷ 0 ∷ []) $ bor_open ! tt $ move ! (1 ∷ 3 ∷ 2 ∷ []) $
        use3 𝓛 (later (‵ (Ob δ x) ⊛ ‵ (fbor ν (At x)) ⊛ ‵ (flft ν (Share.right q))))
        (settles 𝓛 (mem R) ν ((ν, Share.right q) ∷ []) (Incl-refl ν) δ x b e) $ await ! tt $ split3 ! $
        move ! (3 ∷ 0 ∷ []) $ obor_close ! tt $ drop ! $ move ! (0 ∷ 2 ∷ []) $ use2 𝓛 (‵ (flft ν q))
        (𝓛.lfts.lft_join ν q) $ now ! $ move ! (1 ∷ 0 ∷ []) $ done !))

    pub Lends-tracked : (l : Lft) → Incl l β → Shares 𝓛 R l → ⟦ P ⟧ ⊢ ex 𝓤 Gives
        → Lends 𝓛 P (within β (shared_of R x b e)) l
    Lends-tracked l le s opens κ ts inc sp =
        let ν : Lft = κ ++ β in
        let sm : Incl (span ts) ν = ⊑_meet (span ts) κ β sp (Incl-trans inc le) in
        qed 𝓛 (‵ (fbor κ P) ∷ raw (lfts 𝓛 ts) ∷ []) ∵ updating ! $ use1 𝓛 (‵ (fbor ν P))
        (𝓛.bors.bor_shorten κ ν P (meet_⊑_left κ β)) $
        use2 𝓛 (later (‵ (fbor ν (At x)) ⊛ raw (lfts 𝓛 ts))) (by_one 𝓛 ν ts sm (A.bor ν P) (A.bor ν (At x))
        (Lends-at opens ν (meet_⊑_right κ β))) $ await ! tt $
        use1 𝓛 (later (‵ (shared_of R x b e ν) ⊛ raw (lfts 𝓛 ts))) (s x ν ts b e inc sm) $ await ! tt $ now !
        $ done !
