-- A `&mut` to an open place gives one to its value, and the place follows it. Assumes `Logic`.
use mathlib.Core.Path.{◌≡◌, refl}
use mathlib.Core.List.{List, [], ◌∷◌}
use Prim.Native.Nat.{ℕ}
use seplogic.Ra.Ura.{Ura}
use mir.Syntax.{Lifetime}
use mir.Val.{Val}
use base.Logic.{SProp, ent, sep, wand, ex, all, all_e, apply∗, via}
use base.Fml.{Lft, GName, Share, Incl, fsep, fobs, fbor, flft}
use base.Before.{before}
use types.Logic.{Logic, sem}
use types.SemTy.{Body}
use types.Kit.{‵, raw, ◌⊛◌, some, later, ◌$◌, ◌∵◌, !, qed, by, move, drop, use1, use3, split3, fsplit, fjoin}
use types.Kit.{fjoin3, fpick, fpack, pick, show, await, updating, now, feq_i, done}
use denote.RattleType.{RattleType}
use denote.Memory.{mem}
use denote.Ref.{MutBor, mut_vals}
use denote.Follow.{follows}
use denote.Through.{Lent}
use Rattle.core.proofs.cell.Through.{hands_before}
use Rattle.core_parts.specs.Ownership.{named_content, lent}

module _ {M : Type 1} {𝓤 : Ura M} (𝓛 : Logic 𝓤) (G R : RattleType) (F : R.Denot → G.Denot)
    (inj : (v w : R.Denot) → F v ≡ F w → v ≡ w)
    (ℓ : Lifetime) (κ β : Lft) (inc : Incl κ β) (q : Share) (x : MutBor G.Denot) (c e : ℕ) (y : R.Denot) where
  open 𝓛 use {H, A}

  abbrev Whole : R.Denot → SProp 𝓤
  Whole w = sem 𝓛 ((mem G).own_at (F w) x.ref_ptr.0 x.ref_ptr.1)

  abbrev Again : Lft → R.Denot → SProp 𝓤
  Again α w = wand 𝓤 (sem 𝓛 (lent R c e α w)) (Whole w)

  abbrev pub Opened : Lft → SProp 𝓤
  Opened α = sep 𝓤 (sem 𝓛 (before β α)) (sep 𝓤 (sem 𝓛 (lent R c e α y)) (all 𝓤 (Again α)))

  abbrev pub inside : MutBor R.Denot
  inside = record { ref_ptr = (c, e); ghost_name = x.ghost_name; now = y }

  abbrev Parts : R.Denot → Lft × GName → SProp 𝓤
  Parts w i = sep 𝓤 (sem 𝓛 (before β i.0)) (sep 𝓤 (A.obs i.1 (R.coded.code w))
      (sep 𝓤 (A.bor i.0 (named_content R c e i.1)) (all 𝓤 (Again i.0))))

  Parts-out : ent 𝓤 (ex 𝓤 Opened) (ex 𝓤 (Parts y))
  Parts-out = qed 𝓛 (some (λ (α : Lft). ‵ (before β α) ⊛ ‵ (lent R c e α y) ⊛ raw (all 𝓤 (Again α))) ∷ []) ∵
      pick ! (λ α. split3 ! $ move ! (1 ∷ []) $ fpick ! (λ δ. fsplit ! $
      show ! (Parts y) (α, δ) $ move ! (2 ∷ []) $ done !))

  Parts-in : (i : Lft × GName) (w : R.Denot) → ent 𝓤 (Parts w i) (Whole w)
  Parts-in i w = qed 𝓛 (‵ (before β i.0) ∷ ‵ (fobs i.1 (R.coded.code w)) ∷ ‵
      (fbor i.0 (named_content R c e i.1)) ∷ raw (all 𝓤 (Again i.0)) ∷ []) ∵ drop ! $ fjoin ! $
      fpack ! GName (λ δ. fsep (fobs δ (R.coded.code w)) (fbor i.0 (named_content R c e δ))) i.1
      $ move ! (1 ∷ []) $ use1 𝓛 (raw (Again i.0 w)) (all_e 𝓤 (Again i.0) w) $ move ! (1 ∷ 0 ∷ []) $
      by ! (apply∗ 𝓤 (sem 𝓛 (lent R c e i.0 w)) (Whole w))

  pub through_before : ent 𝓤 (sem 𝓛 ((mem G).own_at x.now x.ref_ptr.0 x.ref_ptr.1)) (ex 𝓤 Opened)
      → ent 𝓤 (sep 𝓤 (A.obs x.ghost_name (G.coded.code x.now))
      (sep 𝓤 (A.bor κ (Body (mem G) x.ref_ptr.0 x.ref_ptr.1 x.ghost_name)) (A.lft κ q)))
      (H.⇛ (ex 𝓤 (Lent 𝓛 G R F ℓ κ q x.ghost_name inside)))
  through_before split_views =
      qed 𝓛 (‵ (fobs x.ghost_name (G.coded.code x.now)) ∷ ‵
      (fbor κ (Body (mem G) x.ref_ptr.0 x.ref_ptr.1 x.ghost_name)) ∷ ‵ (flft κ q) ∷ []) ∵ updating ! $
      use3 𝓛 (later (some (λ (γ' : GName). ‵ (fobs γ' (R.coded.code y)) ⊛ ‵ (fbor κ (named_content R c e γ'))
      ⊛ ‵ (flft κ q) ⊛ ‵ (follows G R x.ghost_name γ' F))))
      (hands_before 𝓛 (mem G) (mem R) F inj x.ref_ptr.0 x.ref_ptr.1 c e x.ghost_name κ β inc (Lft × GName)
      (λ i. i.0) (λ i. i.1) (λ i. all 𝓤 (Again i.0)) Parts-in q x.now y (via 𝓤 _ split_views Parts-out)) $
      await ! tt $ pick ! (λ γ'. split3 ! $ feq_i ! (List Val) (mut_vals inside) (mut_vals inside) refl
      $ fjoin3 ! $ now ! $ show ! (Lent 𝓛 G R F ℓ κ q x.ghost_name inside) γ' $ done !)
