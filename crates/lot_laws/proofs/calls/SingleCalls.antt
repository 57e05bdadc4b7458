-- The call of a place of one lock, by that lock and the row there alone.
use Rattle.lot_laws.proofs.Imports
use Imports.{ℕ, Some, None, ◌≡◌, ◌∙◌, ap, Rights, no_call, Place, called_lock, profile, profile_at_mutex, call_on}
use Imports.{call_on_both, call_state}
use Rattle.lot_laws.specs.Refinement.{call_by}
use Rattle.lot_laws.proofs.machine.Parts.{IsSingle, calls_none, none_beside}

pub single_call : (p : Place) → IsSingle p → (r : ℕ → Rights) → call_state p r ≡ call_on (called_lock p)
    (profile p) r
single_call p single r = ap (λ m. call_on_both m (called_lock p) (profile p) (profile_at_mutex p) r)
    (none_beside p single)

pub call_none : (p : Place) → called_lock p ≡ None → (r : ℕ → Rights) → call_state p r ≡ no_call
call_none p none r = ap (λ q. call_state q r) (calls_none p none)

pub call_here : (p : Place) (l : ℕ) → IsSingle p → called_lock p ≡ Some l → (r : ℕ → Rights)
    → call_state p r ≡ call_by l (profile p) r
call_here p l single own r = single_call p single r ∙ ap (λ o. call_on o (profile p) r) own
