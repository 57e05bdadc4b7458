-- A pointer in a field of a struct behind a reference is followed, where the field's type is a reference's.
-- Assumes `Logic`.
use mathlib.Core.List.{List, [], ◌∷◌}
use Prim.Native.Nat.{ℕ}
use seplogic.Ra.Ura.{Ura}
use mir.Syntax.{Ty}
use mir.Raw.{raw as raw_ty}
use mir.Val.{Val}
use base.Logic.{SProp, wand, ex, via, apply∗}
use base.Fml.{Share, fat}
use prog.Wp.{read}
use types.Logic.{Logic}
use types.Kit.{Item, ‵, raw, ◌⊛◌, some, nth, ◌$◌, !, qed, by, use1, split, frame, pick, show, assume}
use types.Part.{Part, look_in}
use types.Run.{Reads}

module _ {M : Type 1} {𝓤 : Ura M} {𝓛 : Logic 𝓤} {K : Type 0} {Γ : List (Item 𝓤)} where
  open 𝓛 use {H}

  -- `look_in` for a cell at the raw form of the place's type
  pub look_in_raw : K → (n : ℕ) {q : Share} {τ : Ty} {b o : ℕ} {v : Val} {back : Val → Item 𝓤}
      → Part K 𝓛 (nth 𝓛 n Γ) q (raw_ty τ) b o v back → Reads K 𝓛 Γ τ b o v
  look_in_raw t n {τ = τ} {b = b} {o = o} p = record {
    go = λ Kt h. via 𝓤 (read 𝓤 H (raw_ty τ) b o Kt) ((look_in t n p).go Kt h) (
        let Raw : Share → Val → SProp 𝓤 = λ s u. wand 𝓤 (H.at s (raw_ty τ) b o u) (Kt u) in
        let Own : Share → Val → SProp 𝓤 = λ s u. wand 𝓤 (H.at s τ b o u) (Kt u) in
        let At : Share → Val → SProp 𝓤 = λ s u. base.Logic.sep 𝓤 (H.at s τ b o u) (Own s u) in
        qed 𝓛 (some (λ (s : Share). some (λ (u : Val). ‵ (fat s (raw_ty τ) b o u) ⊛ raw (Raw s u))) ∷ []) {P =
        read 𝓤 H τ b o Kt} (pick ! (λ s. pick ! (λ u. split ! $
        use1 𝓛 (‵ (fat s τ b o u)) (𝓛.laws.raw_at s τ b o u) $ show ! (λ (z : Share). ex 𝓤 (At z)) s
        $ show ! (At s) u $ frame ! $
        assume ! (‵ (fat s τ b o u)) $ use1 𝓛 (‵ (fat s (raw_ty τ) b o u)) (𝓛.laws.at_raw s τ b o u)
        $ by ! (apply∗ 𝓤 (H.at s (raw_ty τ) b o u) (Kt u))))));
  }
