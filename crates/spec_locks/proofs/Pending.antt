-- A pending right goes only as its thread owns, or has given up.
use Rattle.std.proofs.Common.{ℕ, Bool, true, false, Option, Some, None, if◌then◌else◌, ◌≡◌, ◌≢◌, ◌⊎◌, inl}
use Rattle.std.proofs.Common.{inr}
use Rattle.std.proofs.Common.{refl, sym, ◌∙◌, ap, subst}
use Rattle.core_base.specs.declared.wants.Want.{Want}
use Rattle.core_base.specs.declared.wants.Want.TheVariants.{Exclusive, Upgradable, Shared, Wait, CallOnce}
use Rattle.spec_locks.specs.declared.calls.Turn.{Turn}
use Rattle.spec_locks.specs.declared.outcomes.Outcome.{Outcome}
use Rattle.spec_locks.specs.Locks as locks
use Rattle.spec_locks.specs.Locks.{LockState, LockCase, Pending, Queued, Rules, Sort, Needs, IsLockState}
use Rattle.spec_locks.specs.Locks.{IsSomePending}
use Rattle.spec_locks.specs.Locks.{Enter, Pend, Settle, Leave, Convert, Park, Aside, TakeFirst, TakeAside}
use Rattle.spec_locks.specs.Locks.{TakePicked}
use Rattle.spec_locks.specs.Locks.{Wake, HandOff, Late, Rollback, OfOnce, OfCondvar, SeeOwner, Look, Show}
use Rattle.spec_locks.specs.Locks.{Hide}
use Rattle.spec_locks.specs.Locks.{Owns, after_case, with_owner, without_owner}
use Rattle.spec_locks.specs.Onces.{OnceCase, Start, Finish, Fail, Rest, TakeAll}
use Rattle.spec_locks.specs.Purposes.{Purpose, Enters, Releases, Converts, Bumps, CallsOnce, Awaits, Waits}
use Rattle.spec_locks.specs.Purposes.{Notifies}
use Rattle.spec_locks.specs.Purposes.{CondvarMemory, IsMadeOf}
use Rattle.spec_locks.specs.Runs.{LocksState, AreLockStates, Event, Nothing, AtLock, Moves, Begins, MayDo}
use Rattle.spec_locks.specs.Runs.{MayHappen}
use Rattle.spec_locks.specs.Runs.{Turned, locks_after, rules_at}
use Rattle.spec_locks.specs.EachStep.{PendsOn}
use Rattle.spec_locks.proofs.Changes.{by_case, by_move, by_step}
use Rattle.spec_locks.proofs.Runs.{needs_of}

-- ---------------------------------------------------------------- one lock

given : (t : ℕ) (x : Want) (s : LockState) → (with_owner t x s).pending ≡ s.pending
given t Exclusive s = refl
given t Upgradable s = refl
given t Shared s = refl
given t Wait s = refl
given t CallOnce s = refl

given_up : (t : ℕ) (x : Want) (s : LockState) → (without_owner t x s).pending ≡ s.pending
given_up t Exclusive s = refl
given_up t Upgradable s = refl
given_up t Shared s = refl
given_up t Wait s = refl
given_up t CallOnce s = refl

-- a lock at which a writer may begin to wait has no writer
none_pends : (sort : Sort) (limit : ℕ) (s : LockState) → locks.Knows sort Exclusive → locks.Knows sort Shared
    → locks.IsFreeAt sort limit s Exclusive → s.pending ≡ None
none_pends locks.Normal limit s knows shares free = free.1
none_pends locks.Recursive limit s knows shares free = free.1
none_pends locks.Mutex limit s knows shares free = absurd shares
none_pends locks.Semaphore limit s knows shares free = absurd knows
none_pends locks.Once limit s knows shares free = absurd knows
none_pends locks.Condvar limit s knows shares free = absurd knows

some_none : {A : Type 0} (p : Pending) (s : LockState) → s.pending ≡ Some p → s.pending ≡ None → A
some_none p s e f = absurd (let g : ◌≡◌ {A = Option Pending} (Some p) None = sym e ∙ f in cc)

module _ (r : Rules) (s : LockState) (t : ℕ) (p : Pending) (here : s.pending ≡ Some p)
    (is : IsLockState r s) where
  abbrev Goes : LockCase → LockState → Type 0
  Goes case now = (now.pending ≡ Some p) ⊎ ((now.exclusive ≡ Some p.thread)
      ⊎ ((p.thread ≡ t) × (case ≡ Rollback)))

  own : IsSomePending s.pending t → p.thread ≡ t
  own some = subst (λ (x : Option Pending). IsSomePending x t) here some

  -- the exclusive and the upgradable right have no pending one beside them
  alone : {A : Type 0} (x : Want) → Owns s t x → x ≢ Shared → A
  alone Exclusive owns more = some_none p s here (is.exclusive_alone t owns).0
  alone Upgradable owns more =
      absurd (let f : ◌≡◌ {A = Option ℕ} (Some t) None = sym owns ∙ is.pending_alone p here in cc)
  alone Shared owns more = absurd (more refl)
  alone Wait owns more = absurd owns
  alone CallOnce owns more = absurd owns

  turned : (x y : Want) → Owns s t x → locks.MayConvert x y
      → (locks.converted t y (without_owner t x s)).pending ≡ Some p
  turned Upgradable Exclusive owns may = alone Upgradable owns (λ e. cc)
  turned Exclusive Shared owns may = here
  turned Exclusive Upgradable owns may = here
  turned Upgradable Shared owns may = here
  turned x y owns may = absurd may

  at_once : (c : OnceCase) → (locks.once_after c s t).pending ≡ Some p
  at_once (Start b) = here
  at_once Finish = here
  at_once Fail = here
  at_once (Rest x b) = here
  at_once TakeAll = here

  pub pends : (case : LockCase) → Needs r case s t → Goes case (after_case r case s t)
  pends (Enter x) needs = inl (given t x s ∙ here)
  pends Pend needs = some_none p s here (none_pends r.sort r.limit s needs.0.0.0 needs.1 needs.0.0.1)
  pends Settle needs = inr (inl (ap (λ (k : ℕ). Some k) (sym (own needs.0))))
  pends (Leave x) needs = inl (given_up t x s ∙ here)
  pends (Convert x y) needs = inl (turned x y needs.0 needs.1)
  pends (HandOff x y) needs = alone x needs.0 needs.1
  pends Rollback needs = inr (inr (own needs.0, refl))
  pends (OfOnce c) needs = inl (at_once c)
  pends (Park x) needs = inl here
  pends Aside needs = inl here
  pends (TakeFirst x) needs = inl here
  pends (TakeAside u) needs = inl here
  pends (TakePicked start) needs = inl here
  pends Wake needs = inl here
  pends Late needs = inl here
  pends (OfCondvar (Look seen)) needs = inl here
  pends (OfCondvar (Show m)) needs = inl here
  pends (OfCondvar Hide) needs = inl here
  pends (SeeOwner b) needs = inl here

-- ---------------------------------------------------------------- the call

-- a call goes back only after it has given up
rolls_back : (q : Purpose) (g : Option ℕ) (b : Bool) (c : CondvarMemory) (l : ℕ) → IsMadeOf q g b c l Rollback
    → g ≢ None
rolls_back (Enters k x how) g b c l made = made.1
rolls_back (Converts k x y how) g b c l made = made.1
rolls_back (Bumps k x) g b c l (e, inl gives) = absurd gives
rolls_back (Bumps k x) g b c l (e, inr enters) = enters.1
rolls_back (Waits k m timed) g b c l (inl made) = absurd made.1
rolls_back (Waits k m timed) g b c l (inr (e, inl gives)) = absurd gives
rolls_back (Waits k m timed) g b c l (inr (e, inr enters)) = enters.1
rolls_back (Releases k x fair) g b c l made = absurd made.1
rolls_back (CallsOnce k forced) g b c l made = absurd made.1
rolls_back (Awaits k forced timed) g b c l made = absurd made.1
rolls_back (Notifies k all) g b c l (inl made) = absurd made.1
rolls_back (Notifies k all) g b c l (inr made) = absurd made

-- ---------------------------------------------------------------- a step

module _ (w v : LocksState) (t : ℕ) (o : Outcome) (all : AreLockStates w) (l : ℕ) where
  gave_up : (o : Option Purpose) → MayDo w t l Rollback o → (w.calls t).gave_up ≢ None
  gave_up None may = absurd may
  gave_up (Some q) may = rolls_back q (w.calls t).gave_up (w.calls t).released (w.calls t).recalls l may.0

  a_case : (case : LockCase) → MayHappen w t (AtLock l case)
      → PendsOn w l (after_case (rules_at w l) case (w.locks l) t)
  a_case case may p here =
      elim (pends (rules_at w l) (w.locks l) t p here (all l) case
      (needs_of w t l case (w.calls t).purpose may)) [
        | inl stays ↦ inl stays
        | inr (inl owns) ↦ inr (inl owns)
        | inr (inr back) ↦ inr (inr (subst (λ k. (w.calls k).gave_up ≢ None) (sym back.0)
            (gave_up (w.calls t).purpose (subst (λ x. MayHappen w t (AtLock l x)) back.1 may))))
      ]

  event : (e : Event) → MayHappen w t e → Begins w e o → PendsOn w l (locks_after w t e l)
  event Nothing may begins = λ p here. inl here
  event (Moves c m every owned n) may begins =
      by_move w t l (PendsOn w l) (λ p here. inl here) c m every owned n may
      (λ is p here. inl here) (λ is p here. inl here)
  event (AtLock k case) may begins = by_case w t l (PendsOn w l) (λ p here. inl here)
      (λ j. MayHappen w t (AtLock j case)) k case may (a_case case)

  pub pends_on : (x : Turn) → Turned w t x o v → PendsOn w l (v.locks l)
  pends_on x turned = by_step w t l (PendsOn w l) (λ p here. inl here) v o event x turned
