-- Deeds of one thread, one after another, and the one case of the abstract lock that they are.
use Rattle.std.specs.Prelude.{ℕ, Bool, false, Option, Some, None, List, [], ◌∷◌}
use Rattle.spec_locks.specs.Locks.{LockState, LockCase, Late, Rules, Wake, Needs, after_case}
use Rattle.spec_locks.specs.Sites.{Site, Deed, Out, Bring, Send, LeaveLine, Case, Needed, after_deed}
use Rattle.spec_locks.specs.Runs.{Event, Nothing, AtLock, Moves}

-- the site after them
abbrev pub after_all : Rules → List Deed → Site → ℕ → Site
after_all r [] s t = s
after_all r (d ∷ ds) s t = after_all r ds (after_deed r d s t) t

-- each may be done where it is
abbrev pub AllNeeded : Rules → List Deed → Site → ℕ → Type 0
AllNeeded r [] s t = Unit {0}
AllNeeded r (d ∷ ds) s t = Needed r d s t × AllNeeded r ds (after_deed r d s t) t

-- owners, queue and hands stay
abbrev pub KeepLock : List Deed → Type 0
KeepLock [] = Unit {0}
KeepLock (Case case ∷ ds) = ⊥
KeepLock (Out ∷ ds) = ⊥
KeepLock (Bring taken moved ∷ ds) = ⊥
KeepLock (Send all ∷ ds) = ⊥
KeepLock (LeaveLine ∷ ds) = ⊥
KeepLock (d ∷ ds) = KeepLock ds

-- one case at most, or out of a section
abbrev pub AreOneCase : List Deed → Type 0
AreOneCase [] = Unit {0}
AreOneCase (Case case ∷ ds) = KeepLock ds
AreOneCase (Out ∷ ds) = KeepLock ds
AreOneCase (Bring taken moved ∷ ds) = ⊥
AreOneCase (Send all ∷ ds) = ⊥
AreOneCase (LeaveLine ∷ ds) = KeepLock ds
AreOneCase (d ∷ ds) = AreOneCase ds

-- A case by itself. A thread that leaves a section wakes those that it has in hand, if any, where it
-- hasn't handed the lock over. `hand` tells both.
abbrev pub case_of : Option Bool → List Deed → Option LockCase
case_of hand [] = None
case_of hand (Case case ∷ ds) = Some case
case_of hand (LeaveLine ∷ ds) = Some Late
case_of (Some false) (Out ∷ ds) = Some Wake
case_of hand (d ∷ ds) = case_of hand ds

abbrev pub event_by : ℕ → Option LockCase → Event
event_by l None = Nothing
event_by l (Some case) = AtLock l case

abbrev pub event_of : ℕ → Option Bool → List Deed → Event
event_of l hand ds = event_by l (case_of hand ds)

-- an event of one lock: its condition, and where it leads the lock
abbrev pub EventNeeds : Rules → Event → LockState → ℕ → Type 0
EventNeeds r Nothing s t = Unit {0}
EventNeeds r (AtLock l case) s t = Needs r case s t
EventNeeds r (Moves c m all owned number) s t = ⊥

abbrev pub after_event : Rules → Event → LockState → ℕ → LockState
after_event r Nothing s t = s
after_event r (AtLock l case) s t = after_case r case s t
after_event r (Moves c m all owned number) s t = s
