-- Nothing leaves Done, and a thread that waits to run is looked after.
use Rattle.std.proofs.Common.{ℕ, Bool, true, false, Option, Some, None, if◌then◌else◌, ◌≡◌, ◌⊎◌, inl, inr}
use Rattle.std.proofs.Common.{◌∙◌, refl, sym, subst, arith}
use Rattle.core_base.specs.declared.wants.Want.{Want}
use Rattle.core_base.specs.declared.wants.Want.TheVariants.{Exclusive, Upgradable, Shared}
use Rattle.spec_locks.specs.Onces.{Done, OnceCase, Start, Finish, Fail, Rest, TakeAll, MayStart}
use Rattle.spec_locks.specs.Locks.{LockCase, LockState, Needs, Pending, Rules, after_case, Enter, Pend}
use Rattle.spec_locks.specs.Locks.{Settle, Leave, Convert, Park, Aside, TakeFirst, TakeAside, TakePicked}
use Rattle.spec_locks.specs.Locks.{Wake, HandOff, Late, Rollback, OfOnce, OnceNeeds, once_after, Sort, Once}
use Rattle.spec_locks.specs.Locks.{with_owner, without_owner, converted, falling_back, pending_for, OfCondvar}
use Rattle.spec_locks.specs.Locks.{SeeOwner, Look, Show, Hide}
use Rattle.spec_locks.specs.Sites.{Main, Role, IsOpen, IsDebtorRole}
use Rattle.spec_locks.specs.OnceLaws.{NothingLeavesDone, CallersAreLookedAfter}
use Rattle.spec_locks.proofs.Hands.{is_handed}
use Rattle.spec_locks.proofs.SiteFacts.{callers_stand}

-- owners have no phase
given : (t : ℕ) (x : Want) (s : LockState) → (with_owner t x s).phase ≡ s.phase
given t Exclusive s = refl
given t Upgradable s = refl
given t Shared s = refl
given t x s = refl

given_up : (t : ℕ) (x : Want) (s : LockState) → (without_owner t x s).phase ≡ s.phase
given_up t Exclusive s = refl
given_up t Upgradable s = refl
given_up t Shared s = refl
given_up t x s = refl

written : (t : ℕ) (b c : Bool) (s : LockState)
    → (if b then with_owner t Exclusive s else pending_for t c s).phase ≡ s.phase
written t true c s = refl
written t false c s = refl

turned : (t : ℕ) (x : Want) (s : LockState) → (converted t x s).phase ≡ s.phase
turned t Exclusive s = written t _ true s
turned t Upgradable s = refl
turned t Shared s = refl
turned t x s = refl

fallen : (t : ℕ) (p : Option Pending) (s : LockState) → (falling_back t p s).phase ≡ s.phase
fallen t None s = refl
fallen t (Some p) s = by_fallback p.falls_back
  where
    by_fallback : (b : Bool) → (if b then with_owner t Upgradable s else s).phase ≡ s.phase
    by_fallback true = refl
    by_fallback false = refl

once_stays : (case : OnceCase) (s : LockState) (t : ℕ) → OnceNeeds case s t → s.phase ≡ Done
    → (once_after case s t).phase ≡ Done
once_stays (Start forced) s t n e = absurd (let may : MayStart Done forced = rw e at n in may)
once_stays Finish s t n e = refl
once_stays Fail s t n e = absurd (let runs = n in cc)
once_stays (Rest wanted forced) s t n e = e
once_stays TakeAll s t n e = e

-- only a case of a `Once` changes how far it has come
pub phase_by : (r : Rules) (case : LockCase) (s : LockState) (t : ℕ)
    → ((after_case r case s t).phase ≡ s.phase) ⊎ ((c : OnceCase) × (case ≡ OfOnce c))
phase_by r (Enter x) s t = inl (given t x s)
phase_by r Pend s t = inl refl
phase_by r Settle s t = inl refl
phase_by r (Leave x) s t = inl (given_up t x s)
phase_by r (Convert x y) s t = inl (turned t y (without_owner t x s) ∙ given_up t x s)
phase_by r (Park x) s t = inl refl
phase_by r Aside s t = inl refl
phase_by r (TakeFirst x) s t = inl refl
phase_by r (TakeAside u) s t = inl refl
phase_by r (TakePicked start) s t = inl refl
phase_by r Wake s t = inl refl
phase_by r (HandOff x successor) s t = inl ((is_handed t x successor s).phase)
phase_by r Late s t = inl refl
phase_by r Rollback s t = inl (fallen t s.pending (record s { pending = None }))
phase_by r (OfOnce c) s t = inr (c, refl)
phase_by r (OfCondvar (Look seen)) s t = inl refl
phase_by r (OfCondvar (Show m)) s t = inl refl
phase_by r (OfCondvar Hide) s t = inl refl
phase_by r (SeeOwner owned) s t = inl refl

pub done_stays : NothingLeavesDone
done_stays r case s t n e = elim (phase_by r case s t) [
  | inl same ↦ same ∙ e
  | inr once ↦ subst (λ x. Needs r x s t → (after_case r x s t).phase ≡ Done) (sym once.1)
      (λ m. once_stays once.0 s t m.1 e) n
]

-- at a `Once` no thread that tries again passes a turn on
debt_of : (sort : Sort) (d : Role) → sort ≡ Once → IsDebtorRole sort d → (d.wakes ≡ Some Main)
    ⊎ (d.owes_taken ≡ true)
debt_of sort d e (inl wakes) = inl wakes
debt_of sort d e (inr (inl owes_taken)) = inr owes_taken
debt_of sort d e (inr (inr again)) = absurd (grind (arith, e))

pub callers : CallersAreLookedAfter
callers r s sort room h call free =
    let open_now : IsOpen r.sort s.lock = rw sort (call, free) in
    let one = h.main (inl (callers_stand s.lock.queue call)) open_now room in
    (one.0, debt_of r.sort (s.role one.0) sort one.1)
