-- The rows of the places of a reader-writer lock. A row says all that is asked of a place's thread.
use Rattle.std.specs.Prelude.{ℕ, Bool, true, false, Option, Some, None, if◌then◌else◌, ◌&&◌, not, ◌-◌}
use Rattle.core_base.specs.declared.keys.Line.{Line}
use Rattle.core_base.specs.declared.keys.Line.TheVariants.{Main, Second}
use Rattle.core_base.specs.declared.wants.Want.{Want}
use Rattle.core_base.specs.declared.wants.Want.TheVariants.{Exclusive, Upgradable}
use Rattle.spec_locks.specs.declared.calls.Patience.{Patience}
use Rattle.spec_locks.specs.declared.calls.Patience.TheVariants.{Patient, Timed}
use Rattle.steps_rwlock.specs.declared.places.Admission.{Admission}
use Rattle.steps_rwlock.specs.declared.places.RwLockPlace.{RwLockPlace}
use Rattle.steps_rwlock.specs.declared.purposes.RwLockPurpose.{RwLockPurpose}
use Rattle.steps_rwlock.specs.declared.purposes.RwLockPurpose.TheVariants as purposes
use Rattle.steps_rwlock.specs.declared.places.RwLockAt.{RwLockAt}
use Rattle.steps_rwlock.specs.declared.places.RwLockAt.TheVariants as at
use Rattle.steps_rwlock.specs.declared.enter.Decision.{Decision}
use Rattle.steps_rwlock.specs.declared.enter.Decision.TheVariants as decisions
use Rattle.steps_rwlock.specs.declared.park.ParkAt.{ParkAt}
use Rattle.steps_rwlock.specs.declared.park.ParkAt.TheVariants as parking
use Rattle.steps_rwlock.specs.declared.release.WakeAt.{WakeAt}
use Rattle.steps_rwlock.specs.declared.release.WakeAt.TheVariants as waking
use Rattle.steps_rwlock.specs.RwLockSteps.{wanted, from_of, to_of, patience_of, decided}
use Rattle.steps_rwlock.specs.RwLockDeeds.{rwlock_role}
use Rattle.steps_base.specs.Profiles.{Hand, Profile, hand, hand_owner, in_hand, in_line}
use Rattle.spec_locks.specs.Codes.{has_aside}
use Rattle.spec_locks.specs.Locks.{Rights, putting}
use Rattle.spec_locks.specs.Runs.{one_more_at, one_less_at}
use Rattle.spec_locks.specs.Purposes.{Purpose, Enters, Releases, Converts, Blank}

-- ---------------------------------------------------------------- on its way into a queue, and out of it

abbrev pub is_inside : ParkAt → Bool
is_inside parking.Asleep = false
is_inside (parking.Taken by) = false
is_inside to = true

abbrev pub stands_parking : Line → ParkAt → Option Line
stands_parking m (parking.Leave parked) = if parked then Some m else None
stands_parking m parking.Asleep = Some m
stands_parking m parking.Remove = Some m
stands_parking m to = None

abbrev pub hand_parking : ParkAt → Option Hand
hand_parking (parking.Taken by) = hand by false
hand_parking to = None

abbrev pub is_asleep : ParkAt → Bool
is_asleep parking.Asleep = true
is_asleep to = false

-- the thread's time was up, and it has left the line
abbrev pub is_late : ParkAt → Bool
is_late parking.Remove = true
is_late parking.Clear = true
is_late parking.GiveUp = true
is_late to = false

abbrev pub has_given_up : ParkAt → Bool
has_given_up parking.Clear = true
has_given_up parking.GiveUp = true
has_given_up to = false

-- ---------------------------------------------------------------- fields of the row

abbrev pub stands_at : RwLockAt → Option Line
stands_at (at.Park to) = stands_parking Main to
stands_at (at.Aside to) = stands_parking Second to
stands_at to = None

abbrev pub parked_hand : RwLockAt → Option Hand
parked_hand (at.Park to) = hand_parking to
parked_hand (at.Aside to) = hand_parking to
parked_hand to = None

abbrev pub carries_waking : WakeAt → Option Bool
carries_waking (waking.Clear any) = in_hand any false
carries_waking (waking.Leave any) = in_hand any false
carries_waking to = None

abbrev pub carries_at : RwLockAt → Option Bool
carries_at (at.Wake m to) = carries_waking to
carries_at to = None

-- the queue on which it owes a wake: from the step that saw waiters, or from entering the section,
-- until the section is left
abbrev pub owes_at : RwLockAt → Option Line
owes_at (at.Park to) = in_line (is_inside to) Main
owes_at (at.Aside to) = in_line (is_inside to) Second
owes_at (at.Wake m to) = Some m
owes_at to = None

abbrev pub is_mark : Decision → Bool
is_mark decisions.Mark = true
is_mark decision = false

-- where it looks at the word once more: where its act would set a bit before it sleeps, or it is
-- pending
abbrev pub looking_at : Admission → RwLockPlace → RwLockAt → Option RwLockAt
looking_at a p (at.Decide seen) =
    if is_mark (decided a p seen) && not (has_aside seen) then Some at.Load else None
looking_at a p (at.Count seen) = Some at.Look
looking_at a p to = None

abbrev pub is_timed : Patience → Bool
is_timed Timed = true
is_timed how = false

-- the line in which it sleeps and may give up
abbrev pub late_line_at : Patience → RwLockAt → Option Line
late_line_at how (at.Park to) = in_line (is_asleep to && is_timed how) Main
late_line_at how (at.Aside to) = in_line (is_asleep to && is_timed how) Second
late_line_at how to = None

-- an entering thread wakes others only where it has given up
abbrev pub enters_late : (ParkAt → Bool) → RwLockAt → Bool
enters_late parked (at.Park to) = parked to
enters_late parked (at.Aside to) = parked to
enters_late parked at.RollBack = true
enters_late parked (at.Wake m to) = true
enters_late parked to = false

abbrev pub late_at : (ParkAt → Bool) → RwLockPurpose → RwLockAt → Bool
late_at parked (purposes.Enter x how) to = enters_late parked to
late_at parked (purposes.Upgrade how) to = enters_late parked to
late_at parked q to = false

abbrev pub wants_for : RwLockPurpose → Option Want
wants_for (purposes.Enter x how) = Some (wanted x)
wants_for (purposes.Upgrade how) = Some Exclusive
wants_for q = None

abbrev pub purpose_by : RwLockPurpose → ℕ → Purpose
purpose_by (purposes.Enter x how) l = Enters l (wanted x) how
purpose_by (purposes.Release x) l = Releases l (wanted x) false
purpose_by (purposes.Downgrade d) l = Converts l (wanted (from_of d)) (wanted (to_of d)) Patient
purpose_by (purposes.Upgrade how) l = Converts l Upgradable Exclusive how

-- a release has given its right up once it wakes others
abbrev pub has_released : RwLockPurpose → RwLockAt → Bool
has_released (purposes.Release x) (at.Wake m to) = true
has_released q to = false

-- a pending writer has its right yet to come
abbrev pub is_pending : RwLockAt → Bool
is_pending at.Look = true
is_pending (at.Count seen) = true
is_pending at.Marked = true
is_pending (at.Aside to) = true
is_pending at.RollBack = true
is_pending to = false

abbrev pub is_waking : RwLockAt → Bool
is_waking (at.Wake m to) = true
is_waking to = false

abbrev pub without_pending : ℕ → (ℕ → Rights) → ℕ → Rights
without_pending l rights = putting rights l (record (rights l) { pending = (rights l).pending - 1 })

-- the thread's ownership of each lock as its call began, by what it owns now
abbrev pub before : RwLockPurpose → RwLockAt → ℕ → (ℕ → Rights) → ℕ → Rights
before (purposes.Enter x how) to l rights =
    if is_pending to then without_pending l rights else rights
before (purposes.Release x) to l rights =
    if is_waking to then one_more_at l (wanted x) rights else rights
before (purposes.Downgrade d) to l rights =
    if is_waking to then one_more_at l (wanted (from_of d))
    (one_less_at l (wanted (to_of d)) rights) else rights
before (purposes.Upgrade how) to l rights =
    if is_pending to then one_more_at l Upgradable (without_pending l rights) else rights

abbrev pub rwlock_profile : Admission → RwLockPlace → Profile
rwlock_profile a p = record {
  role = rwlock_role p;
  stands = stands_at p.at;
  has_taken = carries_at p.at;
  hand = parked_hand p.at;
  wants = wants_for p.purpose;
  owes = owes_at p.at;
  retries = p.retries;
  timed = is_timed (patience_of p.purpose);
  late_line = late_line_at (patience_of p.purpose) p.at;
  late = late_at is_late p.purpose p.at;
  gave_up = late_at has_given_up p.purpose p.at;
  failed = false;
  recalls = Blank;
  stage = None;
  names = None;
  purpose = purpose_by p.purpose;
  released = has_released p.purpose p.at;
  former = before p.purpose p.at;
}

-- ---------------------------------------------------------------- the conditions on a place

abbrev pub rwlock_taker : RwLockPlace → Option ℕ
rwlock_taker p = hand_owner (parked_hand p.at)

abbrev pub rwlock_wants : RwLockPlace → Option Want
rwlock_wants p = wants_for p.purpose

abbrev pub gone_to : RwLockPlace → Option RwLockAt → Option RwLockPlace
gone_to p None = None
gone_to p (Some to) = Some (record p { at = to })

-- from where it looks at the word once more, in place of an act that leads to sleep
abbrev pub rwlock_respin : Admission → RwLockPlace → Option RwLockPlace
rwlock_respin a p = gone_to p (looking_at a p p.at)

abbrev pub rwlock_late_line : RwLockPlace → Option Line
rwlock_late_line p = late_line_at (patience_of p.purpose) p.at

abbrev pub rwlock_owes : RwLockPlace → Option Line
rwlock_owes p = owes_at p.at
