-- How long a thread waits for a mutex that is handed over: one that is k-th owns it after k others at most.
use Rattle.std.specs.Prelude.{ℕ, zero, suc, true, Option, Some, None, if◌then◌else◌, ◌==◌, ◌+◌, ◌<◌, ◌≤◌, ◌≡◌}
use Rattle.std.specs.Prelude.{◌≢◌, ◌⊎◌, List, [], ◌∷◌}
use Rattle.spec_locks.specs.declared.calls.Step.{Step}
use Rattle.spec_locks.specs.declared.outcomes.Outcome.{Outcome}
use Rattle.spec_locks.specs.Locks.{LockState, Mutex, Queued, Taken, Owns, one_if_some, standing, times}
use Rattle.core_base.specs.declared.wants.Want.TheVariants.{Exclusive}
use Rattle.spec_locks.specs.Purposes.{Purpose, Enters, Releases, Converts, Bumps, CallsOnce, Awaits, Waits}
use Rattle.spec_locks.specs.Purposes.{Notifies}
use Rattle.spec_locks.specs.Runs.{LocksState, AreLockStates, IsStep, rules_at}

-- how many stand ahead of a thread in a line
abbrev pub ahead : ℕ → List Queued → ℕ
ahead t [] = 0
ahead t (x ∷ q) = if x.thread == t then 0 else 1 + ahead t q

-- how many of the first n threads are in a hand
abbrev pub in_hands : ℕ → (ℕ → Option Taken) → ℕ
in_hands zero taken = 0
in_hands (suc n) taken = one_if_some (taken n) + in_hands n taken

-- how many threads come before this one
abbrev pub turns : ℕ → ℕ → LockState → ℕ
turns n t s = ahead t s.queue + in_hands n s.taken

-- a mutex passes on where another owns it then
abbrev pub passed : Option ℕ → Option ℕ → ℕ
passed (Some a) (Some b) = if a == b then 0 else 1
passed before now = 0

-- In a step, somebody waits for a mutex and goes on waiting. The mutex is owned, and isn't let go: a thread
-- that releases it hands it over. Nobody comes into a hand but from its queue.
pub record IsHandedOn (w v : LocksState) (n l t : ℕ) : Type 0 where
  pub mutex : (rules_at w l).sort ≡ Mutex
  pub waits : 1 ≤ times t (w.locks l).queue
  pub waits_on : 1 ≤ times t (v.locks l).queue
  pub owned : (w.locks l).exclusive ≢ None
  pub owned_on : (v.locks l).exclusive ≢ None
  -- the threads that wait are among so many
  pub few : (u : ℕ) → 1 ≤ standing u (w.locks l) → u < n
  pub hands : (u : ℕ) → (v.locks l).taken u ≢ None
      → ((w.locks l).taken u ≢ None) ⊎ (1 ≤ times u (w.locks l).queue)

-- each passing of the mutex costs one of the threads that come before the waiter then, and nobody comes
-- before it anew
abbrev pub NobodyOvertakes : Type 0
NobodyOvertakes =
    (w v : LocksState) (s : Step) (o : Outcome) (n l t : ℕ) → AreLockStates w → IsStep w s o v
    → IsHandedOn w v n l t
    → turns n t (v.locks l) + passed (w.locks l).exclusive (v.locks l).exclusive
    ≤ turns n t (w.locks l)

-- a run in which it goes on so, and in which the mutex passes on so many times
abbrev pub PassesOn : ℕ → ℕ → ℕ → ℕ → LocksState → List Step → List Outcome → LocksState → Type 0
PassesOn n l t number w [] [] v = (number ≡ 0) × (v ≡ w)
PassesOn n l t number w (s ∷ ss) (o ∷ os) v =
    (u : LocksState) × (more : ℕ) × IsStep w s o u × IsHandedOn w u n l t
    × (number ≡ passed (w.locks l).exclusive (u.locks l).exclusive + more)
    × PassesOn n l t more u ss os v
PassesOn n l t number w ss os v = ⊥

-- While a thread waits for a mutex that is handed over, it passes on no more often than there were threads
-- ahead of it and in a hand.
abbrev pub BypassIsBounded : Type 0
BypassIsBounded =
    (n l t number : ℕ) (w v : LocksState) (steps : List Step) (told : List Outcome)
    → AreLockStates w → PassesOn n l t number w steps told v
    → turns n t (v.locks l) + number ≤ turns n t (w.locks l)

-- ---------------------------------------------------------------- a fair mutex

-- a call that would release the mutex does so fairly, and no wait names it
abbrev pub ReleasesFairly : Option Purpose → ℕ → Type 0
ReleasesFairly None l = Unit {0}
ReleasesFairly (Some (Enters k x how)) l = Unit {0}
ReleasesFairly (Some (Releases k x fair)) l = k ≡ l → fair ≡ true
ReleasesFairly (Some (Converts k x y how)) l = Unit {0}
ReleasesFairly (Some (Bumps k x)) l = Unit {0}
ReleasesFairly (Some (CallsOnce k forced)) l = Unit {0}
ReleasesFairly (Some (Awaits k forced timed)) l = Unit {0}
ReleasesFairly (Some (Waits k m timed)) l = m ≢ l
ReleasesFairly (Some (Notifies k all)) l = Unit {0}

abbrev pub AllReleaseFairly : LocksState → ℕ → Type 0
AllReleaseFairly w l = (t : ℕ) → ReleasesFairly (w.calls t).purpose l

-- unlock_fair, the unlock of a fair mutex, or a bump
abbrev pub IsFairRelease : Option Purpose → ℕ → Type 0
IsFairRelease (Some (Releases l Exclusive fair)) k = (l ≡ k) × (fair ≡ true)
IsFairRelease (Some (Bumps l Exclusive)) k = l ≡ k
IsFairRelease purpose k = ⊥

-- a fair release lets the mutex go while somebody waits for it
pub record LetsGoWhileSomeWait (w v : LocksState) (t l : ℕ) : Type 0 where
  pub releases : IsFairRelease (w.calls t).purpose l
  pub owner : Owns (w.locks l) t Exclusive
  pub gone : (v.locks l).exclusive ≡ None
  pub waiter : (w.locks l).queue ≢ []
