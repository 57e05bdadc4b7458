-- The value is shared for a lifetime of its own. Assumes `Logic`.
use Rattle.std.proofs.Common.{ℕ, [], ◌∷◌, ◌++◌}
use seplogic.Ra.Ura.{Ura}
use base.Fraction.{full_share}
use base.Logic.{SProp, ent, sep, ex, ex_i, emp, upd_i, id⊢}
use base.Fml.{Lft, Share, Incl, Incl-trans, Fml, ftrue, fsep, fseps, fex, fwand, fupd, fdead, fbor, flft}
use base.Fml.{flent}
use contract.BorrowLft.{meet_⊑_left, meet_⊑_right, ⊑_meet}
use ghost.Rules.{Toks, span}
use types.Logic.{Logic, sem, lfts}
use types.Kit.{‵, raw, ◌⊛◌, some, later, ◌$◌, ◌∵◌, !, qed, move, keep, group, use0, use1, use2, split, split3}
use types.Kit.{fsplit3, fjoin, fpick, fpack, pick, assume, suffices, await, updating, now, done}
use types.Tokens.{bor_open, obor_alter, lft_new}
use denote.RattleType.{RattleType}
use denote.Memory.{shared_of, part_at}
use denote.Shares.{Shares}
use denote.Steps.{nothing}
use Rattle.core.proofs.cell.Borrows.{by_one}
use Rattle.lock_values.specs.Ownership.{content, shared_content}

module _ {M : Type 1} {𝓤 : Ura M} (𝓛 : Logic 𝓤) (R : RattleType) (b e : ℕ) where
  open 𝓛 use {H, A}

  abbrev Pr : Type 2
  Pr = SProp 𝓤

  abbrev ◌⊢◌ : Pr → Pr → Type 1
  P ⊢ Q = ent 𝓤 P Q

  abbrev ◌∗◌ : Pr → Pr → Pr
  P ∗ Q = sep 𝓤 P Q

  infix 26 ◌⊢◌
  infixr 35 ◌∗◌
  abbrev ⟦◌⟧ : Fml → Pr
  ⟦ P ⟧ = sem 𝓛 P

  abbrev At : R.Denot → Fml
  At x = part_at R full_share x b e

  abbrev Value : Fml
  Value = content R b e

  module _ (κ : Lft) (q : Share) where
    packs : (x : R.Denot) → emp 𝓤 ⊢ ⟦ fwand (fsep (fdead κ) (fseps (At x ∷ []))) (fupd Value) ⟧
    unfolding fseps
    packs x = qed 𝓛 [] ∵ assume ! (‵ (fsep (fdead κ) (fsep (At x) ftrue))) $ suffices ! ⟦ Value ⟧
        (upd_i 𝓤 ⟦ Value ⟧) $ fsplit3 ! $ keep ! (1 ∷ []) $ fpack ! R.Denot At x $ done !

    at_some : A.bor κ Value ∗ A.lft κ q ⊢ H.⇛ (ex 𝓤 (λ (x : R.Denot). A.bor κ (At x)) ∗ A.lft κ q)
    unfolding fseps
    at_some = qed 𝓛 (‵ (fbor κ Value) ∷ ‵ (flft κ q) ∷ []) ∵ updating ! $ bor_open ! tt $ move ! (1 ∷ [])
        $ fpick ! (λ x. nothing ! $ move ! (1 ∷ 0 ∷ []) $ fjoin ! $
        use0 𝓛 (‵ (fwand (fsep (fdead κ) (fseps (At x ∷ []))) (fupd Value))) (packs x) $ move !
        (2 ∷ 1 ∷ 0 ∷ []) $ obor_alter ! tt (At x ∷ []) $
        use1 𝓛 (‵ (fbor κ (At x)) ⊛ ‵ ftrue) (id⊢ 𝓤 _) $ split !
        $ use1 𝓛 (raw (ex 𝓤 (λ (y : R.Denot). A.bor κ (At y)))) (ex_i 𝓤 (λ (y : R.Denot). A.bor κ (At y))
        x) $ now ! $ keep ! (0 ∷ 2 ∷ []) $ done !)

  abbrev pub anew : Lft → ℕ → Fml
  anew α a = fsep (flft (a ∷ []) full_share) (fsep (shared_content R b e (a ∷ α))
      (flent (a ∷ α) (fbor α Value)))

  abbrev pub Fresh : Lft → Fml
  Fresh α = fex ℕ (anew α)

  pub fresh : (l : Lft) → Shares 𝓛 R l → (α μ : Lft) (s : Share) (τ : Lft) (r : Share) → Incl μ α → Incl τ l
      → A.bor α Value ∗ A.lft μ s ∗ A.lft τ r ⊢ H.⇛ (⟦ Fresh α ⟧ ∗ A.lft μ s ∗ A.lft τ r)
  fresh l shares α μ s τ r i j =
      qed 𝓛 (‵ (fbor α Value) ∷ ‵ (flft μ s) ∷ ‵ (flft τ r) ∷ []) ∵ updating ! $ lft_new ! tt (λ a.
      let ts : Toks = (a ∷ [], full_share) ∷ (μ, s) ∷ (τ, r) ∷ [] in let more : Lft = μ ++ τ in
      let sp : Incl (span ts) (a ∷ α) = ⊑_meet (a ∷ more) (a ∷ []) α (meet_⊑_left (a ∷ []) more)
      (Incl-trans (meet_⊑_right (a ∷ []) more) (Incl-trans (meet_⊑_left μ τ) i)) in
      move ! (1 ∷ []) $ use1 𝓛 (later (‵ (fbor (a ∷ α) Value) ⊛ ‵ (flent (a ∷ α) (fbor α Value))))
      (𝓛.more.bor_reborrow α (a ∷ α) Value (meet_⊑_right (a ∷ []) α)) $ await ! tt $ split !
      $ move ! (2 ∷ 3 ∷ 4 ∷ []) $ group ! 3 $ move ! (1 ∷ 0 ∷ []) $
      use2 𝓛 (later (some (λ (x : R.Denot). ‵ (fbor (a ∷ α) (At x))) ⊛ raw (lfts 𝓛 ts)))
      (by_one 𝓛 (a ∷ α) ts sp (A.bor (a ∷ α) Value) (ex 𝓤 (λ (x : R.Denot). A.bor (a ∷ α) (At x)))
      (at_some (a ∷ α))) $ await ! tt $ split ! $ pick ! (λ x.
      use2 𝓛 (later (‵ (shared_of R x b e (a ∷ α)) ⊛ ‵ (flft (a ∷ []) full_share) ⊛ ‵ (flft μ s) ⊛ ‵
      (flft τ r))) (shares x (a ∷ α) ts b e (Incl-trans (meet_⊑_right (a ∷ []) more)
      (Incl-trans (meet_⊑_right μ τ) j)) sp) $ await ! tt $ split3 ! $
      fpack ! R.Denot (λ y. shared_of R y b e (a ∷ α)) x $ move ! (0 ∷ 3 ∷ []) $ fjoin ! $ move ! (1 ∷ 0 ∷ [])
      $ fjoin ! $ fpack ! ℕ (anew α) a $ now ! $ done !))
