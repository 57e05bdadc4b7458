-- Two seats that exclude each other refute the table's rule. Assumes `Logic`.
use Rattle.std.proofs.Common.{◌≡◌, ℕ, zero, suc, ◌+◌, List, [], ◌∷◌, ◌++◌, length, refl, ap, arith}
use mathlib.Core.Option.{some}
use lib.ListN.{get_elem?}
use mathlib.Mathlib.Data.Part.{◌∈◌}
use seplogic.Ra.Pcs.{OpDef, OpDef-comm}
use seplogic.Ra.Ura.{Ura}
use seplogic.Ra.Constructions.Prod
use seplogic.Ra.Instances.Ag
use base.Fraction.{full_share}
use base.Share.{quarter, three_quarters, left, right}
use base.Share
use base.FractionLaws.{not-OpDef-full_share}
use base.SetCodes.{coded, SetCoded-set}
use base.Algebras.{pcs, shares}
use base.Stored.{Gv, Coded}
use base.Logic.{SProp, ent, sep, ex, ex_e, guard, guard_i, guard_e, upd, upd_i, via}
use base.Fml.{Share, Fml, ffalse}
use contract.Monad.{fact as known, fact_i, fact_use}
use types.Logic.{Logic, sem}
use types.Keyed.{entry, entries_take, entries_beside, entry_cut, entry_glue}
use types.Kit.{‵, raw, ◌⊛◌, given, ◌$◌, ◌∵◌, !, qed, by, move, keep, drop, split, join, fsplit3, fpick, fpack}
use types.Kit.{learn, suffices, settle, done, use1, use2, rewrite}
use denote.RattleType.{RattleType}
use denote.RawPtr.{Ptr}
use Rattle.atomic_table.specs.Table.{State}
use Rattle.atomic_table.specs.Seated.{halved, itself, seen, unused, roster, shelf, TableId, age, place, names}
use Rattle.atomic_table.specs.Seated.{common}
use Rattle.atomic_table.proofs.Roster.{resets}
use Rattle.core_parts.proofs.Ghostly.{opened, Next}
use Rattle.lock_values.specs.Ownership.{Excluded, clash}

module _ {M : Type 1} {𝓤 : Ura M} (𝓛 : Logic 𝓤) where
  open 𝓛 use {H, A}

  abbrev Pr : Type 2
  Pr = SProp 𝓤

  abbrev ◌⊢◌ : Pr → Pr → Type 1
  P ⊢ Q = ent 𝓤 P Q

  abbrev ◌∗◌ : Pr → Pr → Pr
  P ∗ Q = sep 𝓤 P Q

  infix 26 ◌⊢◌
  infixr 35 ◌∗◌
  abbrev ⟦◌⟧ : Fml → Pr
  ⟦ P ⟧ = sem 𝓛 P

  module _ {V : Type 0} (cv : Coded V) (γ : ℕ) where
    abbrev c : V → Gv
    c = cv.code

    -- a share of a seat's view shows that it is the roster's
    pub sees : (q : Share) (vs : List V) (k i j : ℕ) (v : V) → j ≡ k + i → ⟦ roster c γ k vs ⟧
        ∗ ⟦ seen c γ j q v ⟧ ⊢ known 𝓤 (get_elem? vs i ≡ some v)
    sees q [] k i j v e = qed 𝓛 (‵ (roster c γ k []) ∷ ‵ (seen c γ j q v) ∷ []) ∵ fpick !
        (λ d. move ! (1 ∷ 0 ∷ []) $
        use2 𝓛 (given (OpDef halved.op (q, c v) (full_share, c d)) (‵ (seen c γ j q v) ⊛ ‵ (unused c γ k d)))
        (entries_beside halved 𝓛 γ k j (λ _. (full_share, c d)) (q, c v) (omega arith)) $
        learn ! (λ x. absurd (not-OpDef-full_share q ((OpDef-comm (pcs shares) {a = q} {b = full_share}).0
        x.0))))
    sees q (w ∷ ws) k zero j v e = let is : j ≡ k = omega arith in let F : Share × Gv → Pr =
        λ x. guard 𝓤 (x ∈ halved.op (quarter, c w) (q, c v)) ⟦ entry halved γ k x ⟧ in let Z : Pr =
        known 𝓤 (some w ≡ some v) in
        qed 𝓛 ((‵ (seen c γ k quarter w) ⊛ ‵ (roster c γ (suc k) ws)) ∷ ‵ (seen c γ j q v) ∷ []) ∵ split !
        $ rewrite ! 2 (λ (m : ℕ). ‵ (seen c γ m q v)) is refl $ keep ! (0 ∷ 2 ∷ []) $
        by ! (via 𝓤 (ex 𝓤 F) (entry_glue halved 𝓛 γ k (quarter, c w) (q, c v))
        (ex_e 𝓤 F (λ x. guard_e 𝓤 (x ∈ halved.op (quarter, c w) (q, c v)) ⟦ entry halved γ k x ⟧
        (λ m. fact_i 𝓤 (some w ≡ some v) ⟦ entry halved γ k x ⟧ (ap some (cv.inj w v m.0.1))))))
    sees q (w ∷ ws) k (suc i) j v e = qed 𝓛 ((‵ (seen c γ k quarter w) ⊛ ‵ (roster c γ (suc k) ws))
        ∷ ‵ (seen c γ j q v) ∷ []) ∵ split ! $ keep ! (1 ∷ 2 ∷ [])
        $ by ! (sees q ws (suc k) i j v (omega arith))

    in_two : (q : Share) (v : Gv) → ◌∈◌ {α = Share × Gv} (q, v) (halved.op (left q, v) (right q, v))
    in_two q v = Prod.mk-mem-op Share.op (Ag.op (SetCoded-set (coded itself))) {a = left q} {a' = right q}
        {x = q} {b = v} {b' = v} {y = v} (Share.halves q) (Ag.idem (SetCoded-set (coded itself)) v)

    pub halves : (q : Share) (j : ℕ) (v : V) → ⟦ seen c γ j q v ⟧ ⊢ ⟦ seen c γ j (left q) v ⟧
        ∗ ⟦ seen c γ j (right q) v ⟧
    halves q j v = entry_cut halved 𝓛 γ j (left q, c v) (right q, c v) (q, c v) (in_two q (c v))

    -- a new one comes after the last
    pub signs : (vs : List V) (k : ℕ) (u : V) → ⟦ roster c γ k vs ⟧ ⊢ upd 𝓤 (⟦ roster c γ k (vs ++ u ∷ []) ⟧
        ∗ ⟦ seen c γ (k + length vs) three_quarters u ⟧)
    signs [] k u = let Z : Pr = ⟦ roster c γ k (u ∷ []) ⟧ ∗ ⟦ seen c γ (k + 0) three_quarters u ⟧
        in let same : k ≡ k + 0 = omega arith in qed 𝓛 (‵ (roster c γ k []) ∷ []) ∵ fpick ! (λ d.
        use1 𝓛 (‵ (seen c γ k full_share d) ⊛ ‵ (unused c γ (suc k) d)) (entries_take halved 𝓛 γ k
        (λ _. (full_share, c d))) $ split ! $
        use1 𝓛 (raw (upd 𝓤 (⟦ seen c γ k quarter u ⟧ ∗ ⟦ seen c γ k three_quarters u ⟧)))
        (resets 𝓛 cv γ k d u) $ settle 𝓛 Z (‵ (seen c γ k quarter u) ⊛ ‵ (seen c γ k three_quarters u))
        $ split ! $ suffices ! _ (upd_i 𝓤 Z) $
        rewrite ! 1 (λ (m : ℕ). ‵ (seen c γ m three_quarters u)) same refl $ move ! (2 ∷ [])
        $ fpack ! V (unused c γ (suc k)) d $ move ! (1 ∷ 0 ∷ []) $ join ! $ done !)
    signs (w ∷ ws) k u = let n : ℕ = k + length (w ∷ ws) in let Z : Pr = ⟦ roster c γ k (w ∷ ws ++ u ∷ []) ⟧
        ∗ ⟦ seen c γ n three_quarters u ⟧ in let same : suc k + length ws ≡ n = omega arith in
        qed 𝓛 (‵ (seen c γ k quarter w) ∷ ‵ (roster c γ (suc k) ws) ∷ []) ∵ move ! (1 ∷ []) $ use1 𝓛
        (raw (upd 𝓤 (⟦ roster c γ (suc k) (ws ++ u ∷ []) ⟧
        ∗ ⟦ seen c γ (suc k + length ws) three_quarters u ⟧))) (signs ws (suc k) u) $
        settle 𝓛 Z (‵ (roster c γ (suc k) (ws ++ u ∷ [])) ⊛ ‵ (seen c γ (suc k + length ws) three_quarters u))
        $ split ! $ suffices ! _ (upd_i 𝓤 Z) $ rewrite ! 1 (λ (m : ℕ). ‵ (seen c γ m three_quarters u))
        same refl $
        move ! (2 ∷ 0 ∷ []) $ join ! $ done !

  module _ (R : RattleType) {V : Type 0} (cv : Coded V) (holds : State R.Denot V → Type 0) (w p : Ptr)
      (z : TableId) (s : Share) (alone among : V → Type 0) where
    abbrev γ : ℕ
    γ = z.views_name

    abbrev C : Fml
    C = common R cv.code holds w p z

    -- the table's rule refutes a clash
    pub refutes : Excluded holds alone among → (i : ℕ) (v : V) (q : Share) (j : ℕ) (u : V) (r : Share) → ⟦ C ⟧
        ∗ A.lft (age z) s ∗ ⟦ clash cv alone among z i v q j u r ⟧ ⊢ H.⇛ (⟦ ffalse ⟧ ∗ A.lft (age z) s)
    refutes law i v q j u r = let K : Fml = clash cv alone among z i v q j u r
        in opened 𝓛 R cv holds w p z s ffalse K (λ st so. let Z : Pr =
        ex 𝓤 (Next 𝓛 R cv holds w p z s ffalse st) in
        let Ro : Fml = roster cv.code γ 0 st.views in let At : Type 0 = get_elem? st.views i ≡ some v
        in let At' : Type 0 = get_elem? st.views j ≡ some u in
        qed 𝓛 ((‵ (shelf (age z) R (place z) (names z) 0 st.homes) ⊛ ‵ Ro) ∷ ‵ K ∷ []) ∵ split ! $ drop !
        $ move ! (1 ∷ []) $ fsplit3 ! $ fpick ! (λ no. drop ! $ move ! (2 ∷ 0 ∷ []) $
        use2 𝓛 (given At (‵ Ro ⊛ ‵ (seen cv.code γ i q v)))
        (fact_use 𝓤 At (sees cv γ q st.views 0 i i v (omega arith)) (guard_i 𝓤 At (⟦ Ro ⟧
        ∗ ⟦ seen cv.code γ i q v ⟧))) $ learn ! (λ at. split ! $ move ! (0 ∷ 2 ∷ []) $
        use2 𝓛 (given At' (‵ Ro ⊛ ‵ (seen cv.code γ j r u)))
        (fact_use 𝓤 At' (sees cv γ r st.views 0 j j u (omega arith)) (guard_i 𝓤 At' (⟦ Ro ⟧
        ∗ ⟦ seen cv.code γ j r u ⟧))) $ learn ! (λ at'.
        absurd (law st so.0 i j v u no.0 at at' no.1 no.2)))))
