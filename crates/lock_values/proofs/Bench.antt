-- The parts of a token along the book of a thread that reads. Assumes `Logic`.
use Rattle.std.proofs.Common.{◌≡◌, ◌∙◌, true≢false, ℕ, zero, suc, List, [], ◌∷◌, ◌++◌, length, set, sym, refl}
use mathlib.Core.Bool.{Bool, true, false}
use mathlib.Core.Option.{some, some-injective, some-ne-none}
use mathlib.Core.Logic.{◌⊎◌, inl, inr}
use lib.ListN.{get_elem?}
use seplogic.Ra.Ura.{Ura}
use base.Share.{three_quarters, left, right}
use base.Stored.{Coded}
use base.Logic.{SProp, ent, sep, wand, guard, id⊢, apply∗}
use base.Fml.{Share, Fml, ftrue, flft}
use types.Logic.{Logic, sem}
use types.Kit.{‵, raw, ◌⊛◌, given, ◌$◌, ◌∵◌, !, qed, by, move, drop, split, fsplit, fjoin, fpick, fpack}
use types.Kit.{learn, check, frame, assume, done, use1, use2, rewrite}
use denote.Steps.{nothing}
use Rattle.atomic_table.specs.Seated.{TableId}
use Rattle.lock_values.specs.Ownership.{Rec, Shut, part, seat, berth, bench}

-- whether somebody has the place open to read
pub any_open : {V : Type 0} (rs : List (Rec V)) → (Shut rs)
    ⊎ ((n : ℕ) × (r : ℕ × (ℕ × V)) × (get_elem? rs n ≡ some (true, r)))
any_open [] = inl tt
any_open {V} (r ∷ rs) = by_head r.0 refl (any_open rs)
  where
    Found : Type 0
    Found = (n : ℕ) × (x : ℕ × (ℕ × V)) × (get_elem? (r ∷ rs) n ≡ some (true, x))

    by_head : (y : Bool) → r.0 ≡ y → (Shut rs) ⊎ ((n : ℕ) × (x : ℕ × (ℕ × V))
        × (get_elem? rs n ≡ some (true, x))) → ((r.0 ≡ false) × Shut rs) ⊎ Found
    by_head true e rest = inr (zero, r.1, λ i. some (e i, r.1))
    by_head false e (inl shut) = inl (e, shut)
    by_head false e (inr f) = inr (suc f.0, f.1, f.2)

-- a thread that is in the book as open keeps it from being shut
pub not_shut : {V : Type 0} (rs : List (Rec V)) (n : ℕ) (r : ℕ × (ℕ × V)) → get_elem? rs n ≡ some (true, r)
    → Shut rs → ⊥
not_shut [] n r e s = some-ne-none (true, r) (sym e)
not_shut (x ∷ xs) zero r e s = true≢false (sym (λ i. (some-injective x (true, r) e i).0) ∙ s.0)
not_shut (x ∷ xs) (suc n) r e s = not_shut xs n r e s.1

module _ {M : Type 1} {𝓤 : Ura M} (𝓛 : Logic 𝓤) {V : Type 0} (cv : Coded V) (alone among : V → Type 0)
    (z : TableId) where
  open 𝓛 use {H, A}

  abbrev Pr : Type 2
  Pr = SProp 𝓤

  abbrev ◌⊢◌ : Pr → Pr → Type 1
  P ⊢ Q = ent 𝓤 P Q

  abbrev ◌∗◌ : Pr → Pr → Pr
  P ∗ Q = sep 𝓤 P Q

  infix 26 ◌⊢◌
  infixr 35 ◌∗◌
  abbrev ◌-∗◌ : Pr → Pr → Pr
  P -∗ Q = wand 𝓤 P Q

  infixr 30 ◌-∗◌
  abbrev ⟦◌⟧ : Fml → Pr
  ⟦ P ⟧ = sem 𝓛 P

  abbrev Seat : ℕ → V → Fml
  Seat i v = seat cv alone among z three_quarters i v

  abbrev Berth : Share → ℕ → Bool → ℕ × (ℕ × V) → Fml
  Berth = berth cv alone among z

  abbrev Bench : Share → ℕ → List (Rec V) → Fml
  Bench = bench cv alone among z

  -- nobody reads: the whole token is here
  pub collects : (rs : List (Rec V)) (q : Share) (a : ℕ) → Shut rs → ⟦ Bench q a rs ⟧ ⊢ A.lft (a ∷ []) q
  collects [] q a s = id⊢ 𝓤 _
  collects (r ∷ rs) q a s = qed 𝓛 (‵ (Bench q a (r ∷ rs)) ∷ []) ∵ fsplit !
      $ rewrite ! 0 (λ (y : Bool). ‵ (Berth q a y r.1)) s.0 refl $ move ! (1 ∷ []) $
      use1 𝓛 (‵ (flft (a ∷ []) (right q))) (collects rs (right q) a s.1) $ move ! (1 ∷ 0 ∷ [])
      $ by ! (𝓛.lfts.lft_join (a ∷ []) q)

  -- A bench is laid out along a book that is shut.
  pub lays_out : (rs : List (Rec V)) (q : Share) (a : ℕ) → Shut rs → A.lft (a ∷ []) q ⊢ ⟦ Bench q a rs ⟧
  lays_out [] q a s = id⊢ 𝓤 _
  lays_out (r ∷ rs) q a s = qed 𝓛 (‵ (flft (a ∷ []) q) ∷ []) ∵ use1 𝓛 (‵ (flft (a ∷ []) (left q)) ⊛ ‵
      (flft (a ∷ []) (right q))) (𝓛.lfts.lft_split (a ∷ []) q) $ split ! $
      rewrite ! 0 (λ (y : Bool). ‵ (Berth q a y r.1)) (sym s.0) refl $ move ! (1 ∷ []) $ use1 𝓛
      (‵ (Bench (right q) a rs)) (lays_out rs (right q) a s.1) $ move ! (1 ∷ 0 ∷ []) $ fjoin ! $ done !

  -- one more leaves its seat, and has a part
  pub sits : (rs : List (Rec V)) (q : Share) (a i : ℕ) (v : V) → among v → ⟦ Bench q a rs ⟧
      ∗ ⟦ Seat i v ⟧ ⊢ ⟦ Bench q a (rs ++ (true, (a, (i, v))) ∷ []) ⟧ ∗ A.lft (a ∷ []) (part q (length rs))
  sits [] q a i v m = qed 𝓛 (‵ (flft (a ∷ []) q) ∷ ‵ (Seat i v) ∷ []) ∵ use1 𝓛
      (‵ (flft (a ∷ []) (left q)) ⊛ ‵ (flft (a ∷ []) (right q))) (𝓛.lfts.lft_split (a ∷ []) q) $ split !
      $ move ! (2 ∷ []) $
      nothing ! $ fpack ! ((a ≡ a) × among v) (λ _. ftrue) (refl, m) $ fjoin ! $ move ! (0 ∷ 2 ∷ []) $ fjoin !
      $ done !
  sits (r ∷ rs) q a i v m = qed 𝓛 (‵ (Bench q a (r ∷ rs)) ∷ ‵ (Seat i v) ∷ []) ∵ fsplit ! $ move !
      (1 ∷ 2 ∷ []) $
      use2 𝓛 (‵ (Bench (right q) a (rs ++ (true, (a, (i, v))) ∷ [])) ⊛ ‵
      (flft (a ∷ []) (part (right q) (length rs)))) (sits rs (right q) a i v m) $ split !
      $ move ! (2 ∷ 0 ∷ []) $ fjoin ! $ done !

  -- a thread that is in the book as open has its seat here, and lays its part back for it
  pub rises : (rs : List (Rec V)) (q : Share) (a n : ℕ) (r : ℕ × (ℕ × V)) → get_elem? rs n ≡ some (true, r)
      → ⟦ Bench q a rs ⟧ ⊢ guard 𝓤 ((r.0 ≡ a) × among r.1.1) (⟦ Seat r.1.0 r.1.1 ⟧
      ∗ (A.lft (a ∷ []) (part q n) -∗ ⟦ Bench q a (set rs n (false, r)) ⟧))
  rises [] q a n r e = absurd (some-ne-none (true, r) (sym e))
  rises (x ∷ xs) q a zero r e = let is = some-injective x (true, r) e in
      qed 𝓛 (‵ (Bench q a (x ∷ xs)) ∷ []) ∵ fsplit ! $ rewrite ! 0 (λ (y : Rec V). ‵ (Berth q a y.0 y.1)) is
      refl $ fsplit ! $ fpick ! (λ so. drop ! $ check ! so $ frame ! $ assume !
      (‵ (flft (a ∷ []) (left q))) $ fjoin ! $ done !)
  rises (x ∷ xs) q a (suc n) r e = qed 𝓛 (‵ (Bench q a (x ∷ xs)) ∷ []) ∵ fsplit ! $ move ! (1 ∷ []) $
      use1 𝓛 (given ((r.0 ≡ a) × among r.1.1) (‵ (Seat r.1.0 r.1.1) ⊛ raw (A.lft (a ∷ []) (part (right q) n)
      -∗ ⟦ Bench (right q) a (set xs n (false, r)) ⟧))) (rises xs (right q) a n r e) $
      learn ! (λ so. check ! so $ split ! $ frame ! $ assume ! (‵ (flft (a ∷ []) (part (right q) n)))
      $ move ! (0 ∷ 1 ∷ []) $
      use2 𝓛 (‵ (Bench (right q) a (set xs n (false, r)))) (apply∗ 𝓤 (A.lft (a ∷ []) (part (right q) n))
      ⟦ Bench (right q) a (set xs n (false, r)) ⟧) $ move ! (1 ∷ 0 ∷ []) $ fjoin ! $ done !)
