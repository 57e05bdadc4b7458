-- Each thread of one lock has one right at most, and calls began with what they need and no more.
use Rattle.std.specs.Prelude.{ℕ, Bool, true, false, Option, Some, None, ◌≡◌, ◌≢◌, ◌≤◌, ◌+◌}
use Rattle.spec_locks.specs.declared.outcomes.Outcome.{Outcome}
use Rattle.spec_locks.specs.declared.calls.Call.{Call}
use Rattle.spec_locks.specs.Locks.{Rights, standing, with_right}
use Rattle.spec_locks.specs.Purposes.{Purpose, Enters, Releases, Converts, Bumps, CallsOnce, Awaits, Waits}
use Rattle.spec_locks.specs.Purposes.{Notifies, lock_for}
use Rattle.spec_locks.specs.Runs.{CallState, LocksState, AreLockStates, GoesOn, Stays, HasRight, new_call}
use Rattle.spec_locks.specs.Runs.{no_rights, purpose_at, rights_in}

-- how many rights a thread has
abbrev pub number : Rights → ℕ
number r = r.exclusive + r.pending + r.upgradable + r.shared

abbrev pub IsFew : Rights → Type 0
IsFew r = number r ≤ 1

-- A thread with one right that isn't pending, as only one in a call is.
abbrev pub IsPlain : Rights → Type 0
IsPlain r = number r + r.pending ≤ 1

-- A thread has few rights between its calls, or had as its call began: nothing where that is to get
-- a right, the one right that it turns into another or gives up for a while, and of a release that
-- right and one more at most.
abbrev pub HasFew : Option Purpose → (before now : Rights) → Type 0
HasFew None before now = IsPlain now
HasFew (Some (Enters l x how)) before now = before ≡ no_rights
HasFew (Some (Releases l x fair)) before now = (rest : Rights) × IsPlain rest × (with_right x rest ≡ before)
HasFew (Some (Converts l x y how)) before now = before ≡ with_right x no_rights
HasFew (Some (Bumps l x)) before now = before ≡ with_right x no_rights
HasFew (Some (CallsOnce l forced)) before now = ⊥
HasFew (Some (Awaits l forced timed)) before now = ⊥
HasFew (Some (Waits l m timed)) before now = ⊥
HasFew (Some (Notifies l all)) before now = ⊥

-- A call that gets a right had nothing as it began. A bump gets its right once it has given
-- it up, and then had no other.
abbrev pub HadNone : Purpose → (released : Bool) → (former : Rights) → Type 0
HadNone (Enters l x how) released former = former ≡ no_rights
HadNone (Bumps l x) true former = former ≡ with_right x no_rights
HadNone (Bumps l x) false former = Unit {0}
HadNone (Releases l x fair) released former = Unit {0}
HadNone (Converts l x y how) released former = Unit {0}
HadNone (CallsOnce l forced) released former = Unit {0}
HadNone (Awaits l forced timed) released former = Unit {0}
HadNone (Waits l m timed) released former = Unit {0}
HadNone (Notifies l all) released former = Unit {0}

abbrev pub InACall : Option Purpose → (Purpose → Type 0) → Type 0
InACall None holds = Unit {0}
InACall (Some purpose) holds = holds purpose

-- from an earlier call a thread has nothing of lock 0, where its call needs no right or is a bump
-- that has given its own up
abbrev pub HasNoneBefore : CallState → Type 0
HasNoneBefore c = InACall c.purpose (λ p. HadNone p c.released (c.former 0))

-- between its calls, and in a call that only gives a right up, a thread isn't pending
abbrev pub PendsInCall : Option Purpose → Rights → Type 0
PendsInCall None now = now.pending ≡ 0
PendsInCall (Some (Releases l x fair)) now = now.pending ≡ 0
PendsInCall (Some (Enters l x how)) now = Unit {0}
PendsInCall (Some (Converts l x y how)) now = Unit {0}
PendsInCall (Some (Bumps l x)) now = Unit {0}
PendsInCall (Some (CallsOnce l forced)) now = Unit {0}
PendsInCall (Some (Awaits l forced timed)) now = Unit {0}
PendsInCall (Some (Waits l m timed)) now = Unit {0}
PendsInCall (Some (Notifies l all)) now = Unit {0}

abbrev pub AllHaveFew : LocksState → ℕ → Type 0
AllHaveFew w l =
    (t : ℕ) → HasFew (w.calls t).purpose ((w.calls t).former l) (rights_in w t l)

-- all calls are of one lock, and a thread that stands there is in one
pub record IsOfOneLock (w : LocksState) (l : ℕ) : Type 0 where
  pub calls : (t : ℕ) (p : Purpose) → (w.calls t).purpose ≡ Some p → lock_for p ≡ l
  pub standing : (t : ℕ) → 1 ≤ standing t (w.locks l) → (w.calls t).purpose ≢ None

-- a thread that goes on keeps it so
abbrev pub FewGoOn : Type 0
FewGoOn =
    (w v : LocksState) (l t : ℕ) (o : Outcome) → AreLockStates w → IsOfOneLock w l → AllHaveFew w l
    → GoesOn w t o v
    → AllHaveFew v l

-- A call that begins to give its right up.
abbrev pub IsRelease : Option Purpose → ℕ → Type 0
IsRelease (Some (Releases k x fair)) l = k ≡ l
IsRelease None l = ⊥
IsRelease (Some (Enters k x how)) l = ⊥
IsRelease (Some (Converts k x y how)) l = ⊥
IsRelease (Some (Bumps k x)) l = ⊥
IsRelease (Some (CallsOnce k forced)) l = ⊥
IsRelease (Some (Awaits k forced timed)) l = ⊥
IsRelease (Some (Waits k m timed)) l = ⊥
IsRelease (Some (Notifies k all)) l = ⊥

abbrev pub FewBegin : Type 0
FewBegin =
    (w v : LocksState) (l t : ℕ) (c : Call) (o : Outcome) → AllHaveFew w l
    → (w.calls t).purpose ≡ None → IsRelease (purpose_at w c) l → HasRight w t (purpose_at w c)
    → Stays w t (new_call (purpose_at w c) (rights_in w t)) o v
    → AllHaveFew v l
