-- One run of the world, and what its definitions refuse.
use Rattle.lot_laws.proofs.Imports
use Imports.{ℕ, zero, suc, true, Some, None, ◌≡◌, inl, inr, [], ◌∷◌, refl, sym, ◌∙◌, arith, Option, after_steps}
use Imports.{Line, Main, IsLookedAfterIn, FairUnlockHandsOver, NoWaiterIsForgotten, NobodyIsPassedOver, three}
use Imports.{row, row_told, forgotten, opening_well_formed, All-cons, All-nil, fits, IsWorld}
use Rattle.spec_locks.specs.declared.kinds.Kind.TheVariants as kind
use Rattle.lot_laws.proofs.sites.Opening.{opening_condvars, opening_inductive}
use Rattle.lot_laws.proofs.hands.CountsPut.{opening_counted}
use Rattle.lot_laws.proofs.mutex.FairMutexes.{opening_settled}
use Rattle.lot_laws.proofs.promises.WorldRuns.{world_run, run_refines}

three_hold : IsWorld three
three_hold = record {
  well_formed = opening_well_formed (kind.Mutex ∷ []) 3 (omega arith);
  inductive = opening_inductive (kind.Mutex ∷ []) 3 (omega arith) (All-cons (λ k. fits k 3 ≡ true) kind.Mutex
      []
      refl (All-nil (λ k. fits k 3 ≡ true)));
  counted = opening_counted (kind.Mutex ∷ []) 3;
  condvars = opening_condvars (kind.Mutex ∷ []) 3;
  settled = opening_settled (kind.Mutex ∷ []) 3;
}

pub hands_over : FairUnlockHandsOver
hands_over = record {
  run = run_refines three (after_steps three row) row row_told (world_run three row three_hold);
  owner = refl;
  queue = refl;
  word = refl;
}

-- nobody owes or retries
nobody_looks : (u : ℕ) (h : IsLookedAfterIn forgotten 0 Main) → h.debtor ≡ u → ⊥
nobody_looks zero h e = elim h.debt [
  | inl owes ↦ let f : ◌≡◌ {A = Option Line} None (Some Main) = rw e at owes.0 in cc
  | inr retries ↦ let f : None ≡ Some 0 = rw e at retries.0 in cc
]
nobody_looks (suc zero) h e = elim h.debt [
  | inl owes ↦ let f : ◌≡◌ {A = Option Line} None (Some Main) = rw e at owes.0 in cc
  | inr retries ↦ let f : None ≡ Some 0 = rw e at retries.0 in cc
]
nobody_looks (suc (suc u)) h e = elim h.debt [
  | inl owes ↦ let f : ◌≡◌ {A = Option Line} None (Some Main) = rw e at owes.0 in cc
  | inr retries ↦ let f : None ≡ Some 0 = rw e at retries.0 in cc
]

pub no_waiter_forgotten : NoWaiterIsForgotten
no_waiter_forgotten kept = let looked = kept.nobody_forgotten.main 1 0 (omega arith) (inl refl)
    (λ h. absurd cc) in nobody_looks looked.debtor looked refl

pub nobody_passed_over : NobodyIsPassedOver
nobody_passed_over v free fair = elim (fair.gives 0 0 ((refl, refl), refl, refl)) [
  | inl owns ↦ let e : None ≡ Some 0 = sym free ∙ owns.0 in cc
  | inr (inl hands) ↦ let e : None ≡ Some hands.0 = sym free ∙ hands.2 in cc
  | inr (inr lets) ↦ lets.1 1 _ refl
]
