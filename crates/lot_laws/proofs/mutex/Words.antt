-- The word of a mutex tells its owner.
use Rattle.lot_laws.proofs.Imports
use Imports.{ℕ, true, false, Option, Some, None, ◌≡◌, inl, inr, refl, is_locked, IsMutexWord}

pub free_word : (v : ℕ) (o : Option ℕ) → IsMutexWord v o → is_locked v ≡ false → o ≡ None
free_word v None c h = refl
free_word v (Some u) (inl e) h = let g : is_locked 1 ≡ false = rw e at h in absurd cc
free_word v (Some u) (inr e) h = let g : is_locked 3 ≡ false = rw e at h in absurd cc

pub owned_word : (v : ℕ) (o : Option ℕ) → IsMutexWord v o → is_locked v ≡ true → o ≡ None → ⊥
owned_word v None (inl e) h f = let g : is_locked 0 ≡ true = rw e at h in cc
owned_word v None (inr e) h f = let g : is_locked 2 ≡ true = rw e at h in cc
owned_word v (Some u) c h f = cc
