-- A lock is kept as if it had never been full, over the deeds of a step.
use Rattle.std.specs.Prelude.{ℕ, Bool, true, Some, List, [], ◌∷◌, ◌≡◌}
use Rattle.core_base.specs.declared.wants.Want.{Want}
use Rattle.spec_locks.specs.declared.calls.Call.{Call}
use Rattle.spec_locks.specs.Purposes.{Releases}
use Rattle.spec_locks.specs.Runs.{MayBegin, purpose_at}
use Rattle.lot_laws.specs.Refinement.{locks_of}
use Rattle.lot_world.specs.Ordered.{begin_of}
use Rattle.spec_locks.specs.Locks.{Rules}
use Rattle.spec_locks.specs.Sites.{Site, IsSite, Deed, Out, Bring, Send, LeaveLine, Case, has_readers}
use Rattle.spec_locks.specs.Sites.{is_full}
use Rattle.lot_machine.specs.Machine.{State, after, go_of}
use Rattle.lot_laws.specs.ThreadDeeds.{Act}
use Rattle.lot_laws.specs.SitesOf.{ActsNeeded, after_acts}
use Rattle.lot_world.specs.Drained.{as_now}
use Rattle.lot_world.specs.Quiet.{IsDraining}
use Rattle.lot_world.specs.Full.{IsStrict}

-- owners, queue and hands stay
abbrev pub KeepsLock : Deed → Type 0
KeepsLock (Case case) = ⊥
KeepsLock Out = ⊥
KeepsLock (Bring taken moved) = ⊥
KeepsLock (Send all) = ⊥
KeepsLock LeaveLine = ⊥
KeepsLock d = Unit {0}

abbrev pub AllKeep : List Act → Type 0
AllKeep [] = Unit {0}
AllKeep (a ∷ ds) = KeepsLock a.deed × AllKeep ds

-- one case at most, and what is there beside it leaves the lock
abbrev pub IsOneFollowed : Deed → Type 0 → Type 0 → Type 0
IsOneFollowed (Case case) rest more = rest
IsOneFollowed Out rest more = rest
IsOneFollowed (Bring taken moved) rest more = ⊥
IsOneFollowed (Send all) rest more = ⊥
IsOneFollowed LeaveLine rest more = rest
IsOneFollowed d rest more = more

abbrev pub HasOneCase : List Act → Type 0
HasOneCase [] = Unit {0}
HasOneCase (a ∷ ds) = IsOneFollowed a.deed (AllKeep ds) (HasOneCase ds)

abbrev pub StepKeepsNow : Type 0
StepKeepsNow =
    (r : Rules) (s : Site) (ds : List Act) → has_readers r.sort ≡ true → HasOneCase ds
    → IsSite r (as_now r s)
    → ActsNeeded r ds s
    → (is_full r s.lock ≡ true → s.lock.queue ≡ [])
    → IsSite r (as_now r (after_acts r ds s))

-- a state that is being drained is one that is after each step of the machine
abbrev pub DrainingGoesOn : Type 0
DrainingGoesOn =
    (w : State) (t : ℕ) → IsDraining w → IsStrict w → IsDraining (after w (go_of t))

-- A world that drains does so as a release begins.
abbrev pub DrainingBegins : Type 0
DrainingBegins =
    (w : State) (t : ℕ) (c : Call) (x : Want) (fair : Bool) → IsDraining w → IsStrict w
    → MayBegin (locks_of w) t c
    → purpose_at (locks_of w) c ≡ Some (Releases 0 x fair)
    → IsDraining (after w (begin_of t c)) × IsStrict (after w (begin_of t c))
