-- Each step of a row of locks keeps its rule.
use Rattle.std.proofs.Common.{◌≡◌, ◌≢◌, ℕ, zero, suc, ◌<◌, ◌≤◌, List, [], ◌∷◌, map, length, get_or, set, sym}
use Rattle.std.proofs.Common.{refl, ap, ◌∙◌, subst, arith, Option, Some, length-set, get_or-set_same}
use Rattle.std.proofs.Common.{get_or-set_other, All}
use Rattle.std.proofs.lemmas.List.{length-map}
use mathlib.Core.Logic.{dite}
use mathlib.Core.Option.{some, none}
use native.Mathlib.Decide.{ℕ_discrete, dec_lt}
use lib.ListN.{get_elem?}
use Rattle.atomic_table.specs.Table.{Me, keeps, takes, gives, Allows, Arrives, opening}
use Rattle.atomic_table.proofs.Lists.{set_here, set_else}
use Rattle.core_parts.specs.Guards.{Guards, HasTaken, HasValue}

module _ {T : Type 0} (fits : T → Type 0) where
  full_at : (xs : List (Option T)) (i : ℕ) → All (HasValue fits) xs → i < length xs → (value : T)
      × (get_elem? (map some xs) i ≡ some (some (Some value))) × fits value
  full_at [] i all h = absurd (omega arith)
  full_at (x ∷ xs) zero all h = let t = all 0 x (omega arith)
      in (t.0, ap (λ (y : Option T). some (some y)) t.1, t.2)
  full_at (x ∷ xs) (suc i) all h = full_at xs i (λ k d near. all (suc k) d (omega arith)) (omega arith)

module _ {T K : Type 0} (fits : T → Type 0) where
  -- a swap with a value that fits in the slot
  pub releases : (n id i m : ℕ) (me : Me (Option T) K) (key : K) (value : T) (more : List (ℕ × Option T))
      → i < n → me ≡ (key, (i, Some value) ∷ more) → fits value
      → Allows (Guards fits) n id me i (λ _. m) (λ _ _. Unit {0})
  releases n id i m me key value more near e ok =
      subst (λ (x : Me (Option T) K). Allows (Guards fits) n id x i (λ _. m) (λ _ _. Unit {0})) (sym e)
      (λ s g wide at _. let g₀ = g.0 in (
        key,
        gives,
        tt,
        (
          length-set s.words i m ∙ g₀ ∙ sym (length-set s.homes i (some (Some value))),
          λ r h free. dite (ℕ_discrete r i)
              (λ (e₂ : r ≡ i). (
                value,
                ap (get_elem? (set s.homes i (some (Some value)))) e₂
                    ∙ set_here s.homes i (some (Some value)) (omega arith),
                ok,
              ))
              (λ ne. let t = g.1 r (omega (arith, length-set s.words i m))
              (subst (λ (w : ℕ). w < 2) (get_or-set_other s.words i r m 0 ne) free)
              in (t.0, set_else s.homes i r (some (Some value)) ne ∙ t.1, t.2)),
        ),
        tt,
      ))

  -- a swap by a new seat, which leaves a word that says that the value is out
  pub seizes : (n i m : ℕ) (key : K) → i < n → 2 ≤ m → Arrives (Guards fits) n i (λ _. m) (λ found me. found
      < 2 → HasTaken {K = K} fits i me)
  seizes n i m key near large s g wide _ = let g₀ = g.0 in let here : get_or (set s.words i m) i 0 ≡ m =
      get_or-set_same s.words i m 0 (omega arith) in
      let out : (r : ℕ) → r ≡ i → get_or (set s.words i m) r 0 ≡ m = λ r e. ap
      (λ (k : ℕ). get_or (set s.words i m) k 0) e ∙ here in
      let other : (r : ℕ) → r ≢ i → get_or (set s.words i m) r 0 < 2 → get_or s.words r 0 < 2 =
      λ r ne still. subst (λ (w : ℕ). w < 2) (get_or-set_other s.words i r m 0 ne) still in
      dite (dec_lt (get_or s.words i 0) 2)
      (λ free. let t = g.1 i (omega arith) free in (
        key,
        takes i (Some t.0),
        t.1,
        (
          length-set s.words i m ∙ g₀ ∙ sym (length-set s.homes i none),
          λ r h still. dite (ℕ_discrete r i) (λ (e : r ≡ i). absurd (let w = out r e
              in omega (arith, still, w, large)))
              (λ ne. let u = g.1 r (omega (arith, length-set s.words i m)) (other r ne still)
              in (u.0, set_else s.homes i r none ne ∙ u.1, u.2)),
        ),
        λ _. (t.0, refl, t.2),
      ))
      (λ held. (
        key,
        keeps,
        tt,
        (
          length-set s.words i m ∙ g₀,
          λ r h still. dite (ℕ_discrete r i) (λ (e : r ≡ i). absurd (let w = out r e
              in omega (arith, still, w, large)))
              (λ ne. g.1 r (omega (arith, length-set s.words i m)) (other r ne still)),
        ),
        λ below. absurd (held below),
      ))

  pub opens : (words : List ℕ) (values : List (Option T)) (key : K) → length words ≡ length values
      → All (HasValue fits) values → Guards {K = K} fits (opening words values key)
  opens words values key same all = (
    same ∙ sym (length-map values some),
    λ i h free. full_at fits values i
        all (omega arith),
  )
