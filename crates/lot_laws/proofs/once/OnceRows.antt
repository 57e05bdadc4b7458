-- The rows of a `Once`: all that is asked of them beside their promises.
use Rattle.lot_laws.proofs.Imports
use Imports.{ℕ, Bool, true, false, Option, Some, ◌≡◌, inl, inr, refl, subst, Want, OnceCall, WaitTimed, LetsIn}
use Imports.{Line, IsReleasing, once_purpose, is_timed, GiveUpAt, LookAt, GiveUp, retried_want, look_row}
use Imports.{once_profile}
use Rattle.spec_locks.specs.declared.calls.OnceCall.TheVariants.{CallOnce, Wait}
use Rattle.spec_locks.specs.Locks as locks
use Rattle.steps_once.specs.declared.look.LookAt.TheVariants as look
use Rattle.steps_once.specs.declared.places.OncePlace.TheVariants.{Look}

unreleased : (timed : Bool) (wanted : Option Want) (at : LookAt) → (look_row timed wanted at).released ≡ false
unreleased timed wanted look.Load = refl
unreleased timed wanted at = refl

pub lets_nobody : (l : ℕ) (c : OnceCall) (again : Bool) (at : LookAt)
    → LetsIn locks.Once l (once_profile (Look c again at)) → ⊥
lets_nobody l c again at (inr h) = let f : false ≡ true = h.0 in cc
lets_nobody l c again at (inl h) = by_call c (subst (λ b. IsReleasing (Some (once_purpose l c)) b l)
    (unreleased (is_timed c) (retried_want c again) at) h)
  where
    by_call : (c : OnceCall) → IsReleasing (Some (once_purpose l c)) false l → ⊥
    by_call (CallOnce forced) g = let f : false ≡ true = g.1 in cc
    by_call (Wait forced) g = g
    by_call WaitTimed g = g

-- nor does a thread whose time is up
pub gives_up_quietly : (l : ℕ) (again : Bool) (at : GiveUpAt)
    → LetsIn locks.Once l (once_profile (GiveUp again at)) → ⊥
gives_up_quietly l again at (inr h) = let f : false ≡ true = h.0 in cc
gives_up_quietly l again at (inl h) = h

pub look_owes : (timed : Bool) (wanted : Option Want) (at : LookAt) (m : Line)
    → (look_row timed wanted at).owes ≡ Some m
    → (look_row timed wanted at).role.inside ≡ Some m
look_owes timed wanted look.Check m h = h
look_owes timed wanted (look.Leave parked) m h = h
look_owes timed wanted at m h = absurd cc
