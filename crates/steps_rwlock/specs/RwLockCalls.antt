-- The effect of each step of a reader-writer lock on its call. The row of the next place is what
-- the step's case makes of the call. The call is made of that case, and its answer is true.
use Rattle.std.specs.Prelude.{ℕ, Bool, true, false, Option, Some, None, ◌≡◌, ◌≢◌, ◌<◌, ◌^◌}
use Rattle.core_base.specs.declared.keys.Line.TheVariants.{Main, Second}
use Rattle.core_base.specs.declared.notes.Note.TheVariants.{Normal}
use Rattle.core_base.specs.declared.ops.Op.{Op}
use Rattle.spec_locks.specs.declared.calls.Access.{Access}
use Rattle.spec_locks.specs.declared.calls.Access.TheVariants as access
use Rattle.spec_locks.specs.declared.calls.Patience.{Patience}
use Rattle.spec_locks.specs.declared.calls.Patience.TheVariants.{Timed, Try}
use Rattle.steps_base.specs.declared.acts.Act.TheVariants as act
use Rattle.steps_base.specs.declared.acts.Next.{Next}
use Rattle.steps_base.specs.declared.acts.Next.TheVariants as next
use Rattle.steps_base.specs.declared.acts.Reply.{Reply}
use Rattle.steps_base.specs.declared.acts.Reply.TheVariants as reply
use Rattle.steps_base.specs.Profiles.{Profile, hand}
use Rattle.steps_base.specs.Calls.{CallFollows, call_by, IsNotLate}
use Rattle.steps_rwlock.specs.declared.places.Admission.{Admission}
use Rattle.steps_rwlock.specs.declared.places.RwLockPlace.{RwLockPlace}
use Rattle.steps_rwlock.specs.declared.purposes.RwLockPurpose.{RwLockPurpose}
use Rattle.steps_rwlock.specs.declared.purposes.RwLockPurpose.TheVariants as purpose
use Rattle.steps_rwlock.specs.declared.places.RwLockAt.{RwLockAt}
use Rattle.steps_rwlock.specs.declared.places.RwLockAt.TheVariants as at
use Rattle.steps_rwlock.specs.declared.enter.Decision.{Decision}
use Rattle.steps_rwlock.specs.declared.enter.Decision.TheVariants as decisions
use Rattle.steps_rwlock.specs.declared.park.ParkAt.{ParkAt}
use Rattle.steps_rwlock.specs.declared.park.ParkAt.TheVariants as parking
use Rattle.steps_rwlock.specs.RwLockSteps.{patience_of, decided, rwlock_act, rwlock_next, decided_for}
use Rattle.steps_rwlock.specs.RwLockDeeds.{IsAt, MayReply, rwlock_deeds, IsFreshTry}
use Rattle.steps_rwlock.specs.RwLockProfiles.{rwlock_profile, rwlock_respin, parked_hand, late_line_at}
use Rattle.spec_locks.specs.Locks.{Rules, Rights, standing}
use Rattle.spec_locks.specs.Codes.{code}
use Rattle.spec_locks.specs.Runs.{CallState}
use Rattle.spec_locks.specs.Sites.{Site}

-- ---------------------------------------------------------------- where a call may stand

abbrev pub WaitsIfBlocked : Patience → Type 0
WaitsIfBlocked Try = ⊥
WaitsIfBlocked how = Unit {0}

abbrev pub HasDeadline : Patience → Type 0
HasDeadline Timed = Unit {0}
HasDeadline how = ⊥

-- a thread that leaves a line because its time is up has a deadline
abbrev pub ParksBy : Patience → ParkAt → Type 0
ParksBy how parking.Remove = HasDeadline how
ParksBy how parking.Clear = HasDeadline how
ParksBy how parking.GiveUp = HasDeadline how
ParksBy how to = WaitsIfBlocked how

-- a writer's try looks once; only a writer is pending, and only a thread that has a deadline gives up
abbrev pub WritesAt : Patience → RwLockAt → Type 0
WritesAt how at.First = Unit {0}
WritesAt how (at.Park to) = ParksBy how to
WritesAt how (at.Aside to) = ParksBy how to
WritesAt how at.RollBack = HasDeadline how
WritesAt how (at.Wake Main to) = HasDeadline how
WritesAt how (at.Wake Second to) = ⊥
WritesAt how at.GiveWay = ⊥
WritesAt how to = WaitsIfBlocked how

abbrev pub SharesAt : Patience → RwLockAt → Type 0
SharesAt how at.Load = Unit {0}
SharesAt how (at.Decide seen) = Unit {0}
SharesAt how (at.Park to) = ParksBy how to
SharesAt how to = ⊥

abbrev pub EntersAt : Access → Patience → RwLockAt → Type 0
EntersAt access.Exclusive how to = WritesAt how to
EntersAt x how to = SharesAt how to

-- an upgrade that gives its right up was never woken
abbrev pub UpgradesAt : Patience → Bool → RwLockAt → Type 0
UpgradesAt Try again at.Load = Unit {0}
UpgradesAt Try again (at.Decide seen) = Unit {0}
UpgradesAt Try again to = ⊥
UpgradesAt how again at.GiveWay = again ≡ false
UpgradesAt how again at.Look = Unit {0}
UpgradesAt how again (at.Count seen) = Unit {0}
UpgradesAt how again at.Marked = Unit {0}
UpgradesAt how again (at.Aside to) = ParksBy how to
UpgradesAt how again at.RollBack = HasDeadline how
UpgradesAt how again (at.Wake Main to) = HasDeadline how
UpgradesAt how again to = ⊥

-- the last reader wakes the writer aside, and each thread that had more the main line
abbrev pub ReleasesAt : Access → RwLockAt → Type 0
ReleasesAt x at.GiveWay = Unit {0}
ReleasesAt access.Shared (at.Wake Second to) = Unit {0}
ReleasesAt access.Shared to = ⊥
ReleasesAt x (at.Wake Main to) = Unit {0}
ReleasesAt x to = ⊥

abbrev pub DowngradesAt : RwLockAt → Type 0
DowngradesAt at.GiveWay = Unit {0}
DowngradesAt (at.Wake Main to) = Unit {0}
DowngradesAt to = ⊥

abbrev pub StandsAt : RwLockPurpose → Bool → RwLockAt → Type 0
StandsAt (purpose.Enter x how) again to = EntersAt x how to
StandsAt (purpose.Release x) again to = ReleasesAt x to
StandsAt (purpose.Downgrade d) again to = DowngradesAt to
StandsAt (purpose.Upgrade how) again to = UpgradesAt how again to

-- the decision of the thread by the value that it saw is not to refuse: then its call has ended
abbrev pub IsNoRefusal : Decision → Type 0
IsNoRefusal (decisions.Refuse answer) = ⊥
IsNoRefusal decision = Unit {0}

abbrev pub IsDecided : Admission → RwLockPurpose → RwLockAt → Type 0
IsDecided a q (at.Decide seen) = IsNoRefusal (decided_for a q seen)
IsDecided a q to = Unit {0}

pub record MayStand (a : Admission) (p : RwLockPlace) : Type 0 where
  pub place : StandsAt p.purpose p.retries p.at
  pub fresh : IsFreshTry (patience_of p.purpose) p.retries
  pub decided : IsDecided a p.purpose p.at

abbrev pub MayStandNext : Admission → Next RwLockPlace → Type 0
MayStandNext a (next.At p) = MayStand a p
MayStandNext a (next.End answer) = Unit {0}

-- nobody enters the section of a queue but a thread that decided to wait, nobody is told that its time is up
-- but a thread that has a deadline, and a word has 64 bits
abbrev pub MayBeTold : Admission → RwLockPlace → RwLockAt → Reply → Type 0
MayBeTold a p (at.Decide seen) reply.Done = decided a p seen ≡ decisions.Park
MayBeTold a p to (reply.Value seen) = seen < 2 ^ 64
MayBeTold a p to reply.Late = HasDeadline (patience_of p.purpose)
MayBeTold a p to told = Unit {0}

-- a call that stands where it may goes on where it may
abbrev pub RwLockCallsStand : Type 0
RwLockCallsStand =
    (a : Admission) (p : RwLockPlace) (told : Reply) → MayStand a p → MayBeTold a p p.at told
    → MayStandNext a (rwlock_next a p told)

-- where a thread looks once more, its row is as it was, and its call stands where it may
abbrev pub RwLockLooksStand : Type 0
RwLockLooksStand =
    (a : Admission) (p q : RwLockPlace) → rwlock_respin a p ≡ Some q
    → (rwlock_profile a q ≡ rwlock_profile a p) × (MayStand a p → MayStand a q)

-- ---------------------------------------------------------------- the laws

abbrev pub next_row : Admission → Next RwLockPlace → Next Profile
next_row a (next.At p) = next.At (rwlock_profile a p)
next_row a (next.End answer) = next.End answer

abbrev pub CallFollowsBy : Rules → Admission → Site → ℕ → ℕ → RwLockPlace → Option ℕ → Reply
    → Type 0
CallFollowsBy r a s t l p whom told =
    CallFollows r s.lock t l (rwlock_profile a p) (rwlock_deeds a p whom told)
    (next_row a (rwlock_next a p told))

-- a thread that is there stands at a place of a call of the lock, where it may
pub record IsCalling (r : Rules) (a : Admission) (s : Site) (t : ℕ) (p : RwLockPlace) : Type 0 where
  pub at : IsAt r a s t p
  pub stands : MayStand a p

-- each step on the word
abbrev pub RwLockStepsTell : Type 0
RwLockStepsTell =
    (r : Rules) (a : Admission) (s : Site) (t l : ℕ) (p : RwLockPlace) (op : Op)
    → IsCalling r a s t p
    → standing t s.lock ≡ 0 → rwlock_act l a p ≡ act.Word l op
    → CallFollowsBy r a s t l p None (reply.Value (code r s))

-- Each step into a section, in it, and out of it answers truly.
abbrev pub RwLockSectionsTell : Type 0
RwLockSectionsTell =
    (r : Rules) (a : Admission) (s : Site) (t l : ℕ) (p : RwLockPlace) (whom : Option ℕ)
    (told : Reply)
    → IsCalling r a s t p → MayReply r a s t p p.at whom told → IsNotLate told
    → CallFollowsBy r a s t l p whom told

-- the call of a thread asleep, after what befalls it
abbrev pub CallBecomes : Admission → ℕ → RwLockPlace → Reply → (CallState → CallState) → Type 0
CallBecomes a l p told becomes =
    (p2 : RwLockPlace) (rights : ℕ → Rights) → rwlock_next a p told ≡ next.At p2
    → call_by l (rwlock_profile a p2) rights ≡ becomes (call_by l (rwlock_profile a p) rights)

-- nothing, where it is taken; it tries again, where it is woken that was taken; and it is late,
-- where its time is up
pub record SleepersGetReply (a : Admission) (l : ℕ) (p : RwLockPlace) : Type 0 where
  pub taken : (u : ℕ) → CallBecomes a l p (reply.TakenBy u) (λ c. c)
  pub woken : (u : ℕ) → parked_hand p.at ≡ hand u false
      → CallBecomes a l p (reply.Woken Normal) (λ c. record c { retries = Some l })
  pub late : late_line_at (patience_of p.purpose) p.at ≢ None
      → CallBecomes a l p reply.Late (λ c. record c { late = true })

abbrev pub RwLockSleepersHear : Type 0
RwLockSleepersHear = (a : Admission) (l : ℕ) (p : RwLockPlace) → MayStand a p → SleepersGetReply a l p
