-- By a turn that changes no more than its thread's place, and sections, no lock changes: its call alone does.
use Rattle.lot_laws.proofs.Imports
use Imports.{ℕ, Option, ◌≡◌, ◌<◌, List, length, length-set, replicate, get_or, get_or-set_other}
use Imports.{get_or-set_same, inl, inr, refl, ◌∙◌, ap, cases_eq, Place, Idle, Rights, rights_of, CallState}
use Imports.{Stays, State, place_at, put, call_state, lock_state, locks_of, taken_at}
use Rattle.spec_locks.specs.declared.outcomes.Outcome.TheVariants as outcome
use Rattle.lot_laws.proofs.calls.CallEvents.{put_is, rights}

module _ (w : State) (t : ℕ) (there : t < length w.places) where
  pub placed : (s : List (Option ℕ)) (p p2 : Place) → place_at w t ≡ p
      → ((k : ℕ) → taken_at p2 k ≡ taken_at p k)
      → (c : CallState) → ((r : ℕ → Rights) → r ≡ rights w t → call_state p2 r ≡ c)
      → Stays (locks_of w) t c outcome.Step (locks_of (put (record w { sections = s }) t p2))
  placed s p p2 is stays c called = record {
    told = refl;
    locks = same_locks;
    calls = λ u. put_is (λ x. call_state (place_at w x) (rights w x)) t c u _
        (λ e. rw (e, get_or-set_same w.places t p2 Idle there)
        (called _ (λ i k. rights_of (same_locks k i) t)))
        (λ ne. ap (λ q. call_state q (rights (put (record w { sections = s }) t p2) u))
        (get_or-set_other w.places t u p2 Idle ne) ∙ ap (call_state (place_at w u))
        (λ i k. rights_of (same_locks k i) u));
  }
    where
      taken_same : (u k : ℕ) → taken_at (place_at (put (record w { sections = s }) t p2) u) k
          ≡ taken_at (place_at w u) k
      taken_same u k = elim (cases_eq u t) [
        | inl e ↦ rw (e, get_or-set_same w.places t p2 Idle there, is) (stays k)
        | inr ne ↦ ap (λ q. taken_at q k) (get_or-set_other w.places t u p2 Idle ne)
      ]

      same_locks : (k : ℕ) → lock_state (put (record w { sections = s }) t p2) k ≡ lock_state w k
      same_locks k = λ i. record (lock_state w k) {
        shared = get_or w.shares k (replicate (length-set w.places t p2 i) 0);
        taken = λ u. taken_same u k i;
      }
