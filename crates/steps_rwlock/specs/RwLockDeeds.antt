-- The steps of a reader-writer lock, told by what a thread does about the abstract lock: what each
-- place is, and the deeds of each step.
use Rattle.std.specs.Prelude.{ℕ, Bool, true, false, Option, Some, None, if◌then◌else◌, ◌==◌, ◌&&◌, not, ◌≡◌}
use Rattle.std.specs.Prelude.{◌<◌, ◌-◌, ◌^◌, List, [], ◌∷◌, length, slice_index}
use Rattle.core_base.specs.declared.keys.Line.{Line}
use Rattle.core_base.specs.declared.keys.Line.TheVariants.{Main, Second}
use Rattle.core_base.specs.declared.ops.Op.{Op}
use Rattle.core_base.specs.declared.wants.Want.{Want}
use Rattle.core_base.specs.declared.wants.Want.TheVariants.{Exclusive, Upgradable, Shared}
use Rattle.core_base.specs.declared.wants.Waiter.{Waiter}
use Rattle.core_base.specs.Words.{apply}
use Rattle.spec_locks.specs.declared.calls.Access.TheVariants as access
use Rattle.spec_locks.specs.declared.calls.Patience.{Patience}
use Rattle.spec_locks.specs.declared.calls.Patience.TheVariants.{Try}
use Rattle.steps_base.specs.declared.acts.Act.TheVariants as act
use Rattle.steps_base.specs.declared.acts.Next.{Next}
use Rattle.steps_base.specs.declared.acts.Next.TheVariants as next
use Rattle.steps_base.specs.declared.acts.Reply.{Reply}
use Rattle.steps_base.specs.declared.acts.Reply.TheVariants as reply
use Rattle.steps_rwlock.specs.declared.places.Admission.{Admission}
use Rattle.steps_rwlock.specs.declared.places.RwLockPlace.{RwLockPlace}
use Rattle.steps_rwlock.specs.declared.purposes.RwLockPurpose.{RwLockPurpose}
use Rattle.steps_rwlock.specs.declared.purposes.RwLockPurpose.TheVariants as purpose
use Rattle.steps_rwlock.specs.declared.places.RwLockAt.{RwLockAt}
use Rattle.steps_rwlock.specs.declared.places.RwLockAt.TheVariants as at
use Rattle.steps_rwlock.specs.declared.enter.Decision.{Decision}
use Rattle.steps_rwlock.specs.declared.enter.Decision.TheVariants as decisions
use Rattle.steps_rwlock.specs.declared.park.ParkAt.{ParkAt}
use Rattle.steps_rwlock.specs.declared.park.ParkAt.TheVariants as parking
use Rattle.steps_rwlock.specs.declared.release.WakeAt.{WakeAt}
use Rattle.steps_rwlock.specs.declared.release.WakeAt.TheVariants as waking
use Rattle.steps_rwlock.specs.RwLockSteps.{wanted, from_of, to_of, access_of, start_of, want_at, patience_at}
use Rattle.steps_rwlock.specs.RwLockSteps.{decided, park_check, rwlock_act, rwlock_next, rwlock_owners}
use Rattle.steps_rwlock.specs.RwLockSteps.{rwlock_shares}
use Rattle.steps_base.specs.Acts.{holds}
use Rattle.steps_base.specs.declared.owners.Owners.{Owners}
use Rattle.steps_base.specs.Owners.{lock_seen, shares_then}
use Rattle.steps_base.specs.Moves.{IsSectionFree, StandsAlone, MayTake}
use Rattle.spec_locks.specs.Locks.{Rules, Taken, Enter, Pend, Settle, Leave, Convert, Park, Aside, TakeAside}
use Rattle.spec_locks.specs.Locks.{TakePicked, Late, Rollback, is_recursive, keeps_more, standing}
use Rattle.spec_locks.specs.Sites.{Claim, Has, Pends, Role, idle, is_main, Site, IsSite, has_readers, Deed}
use Rattle.spec_locks.specs.Sites.{End, In, Out, Mark, Clear, FindNobody, Case}
pub use Rattle.spec_locks.specs.Deeds.{after_all, AllNeeded}
use Rattle.spec_locks.specs.Codes.{code, HasLimit, count_in, has_aside, has_parked}

-- ---------------------------------------------------------------- the acts of a thread, by its place

abbrev pub at_rest : Option Want → Option Claim → Role
at_rest again claims = record idle { retries = again; claims = claims }

abbrev pub within : Line → Option Want → Option Claim → Role
within m again claims = record idle { inside = Some m; retries = again; claims = claims }

-- the thread has seen the queue empty
abbrev pub finding : Line → Option Claim → Role
finding m claims = record idle { inside = Some m; empty = Some m; claims = claims }

abbrev pub parking_role : Line → Option Want → Option Claim → ParkAt → Role
parking_role m again claims parking.Check = within m again claims
parking_role m again claims (parking.Leave false) = within m again claims
parking_role m again claims (parking.Leave true) = within m None claims
parking_role m again claims parking.Asleep = at_rest None claims
parking_role m again claims (parking.Taken by) = at_rest None claims
parking_role m again claims parking.Remove = within m None claims
parking_role m again claims parking.Clear = finding m claims
parking_role m again claims parking.GiveUp = within m None claims

-- the right that a thread keeps while it wakes others
abbrev pub kept_claim : Option Want → Option Claim
kept_claim None = None
kept_claim (Some x) = Some (Has x)

-- a right that a waking thread may keep
abbrev pub MayKeep : Option Want → Type 0
MayKeep None = Unit {0}
MayKeep (Some Shared) = Unit {0}
MayKeep (Some Upgradable) = Unit {0}
MayKeep start = ⊥

abbrev pub covers_line : Option Want → Line → Bool
covers_line start m = is_main m && not (keeps_more start)

abbrev pub waking_role : Option Want → Line → WakeAt → Role
waking_role start m waking.Enter = record idle { wakes = Some m; claims = kept_claim start }
waking_role start m waking.Take =
    record idle { inside = Some m; wakes = Some m; claims = kept_claim start }
waking_role start m (waking.Clear any) =
    record idle {
      inside = Some m;
      has_taken = true;
      owes_taken = covers_line start m;
      empty = Some m;
      claims = kept_claim start;
    }
waking_role start m (waking.Leave any) =
    record idle {
      inside = Some m;
      has_taken = true;
      owes_taken = covers_line start m;
      claims = kept_claim start;
    }

abbrev pub falls_back : RwLockPurpose → Bool
falls_back (purpose.Upgrade how) = true
falls_back q = false

abbrev pub pends : RwLockPurpose → Option Claim
pends q = Some (Pends (falls_back q))

-- an upgrade has the upgradable right until it has taken another
abbrev pub claimed : RwLockPurpose → Option Claim
claimed (purpose.Upgrade how) = Some (Has Upgradable)
claimed q = None

-- the right of a thread that is about to give it up, or to turn it into another
abbrev pub held_of : RwLockPurpose → Want
held_of (purpose.Upgrade how) = Upgradable
held_of q = wanted (access_of q)

abbrev pub role_at : Option Want → RwLockPurpose → RwLockAt → Role
role_at again q at.First = at_rest again None
role_at again q at.Load = at_rest again (claimed q)
role_at again q (at.Decide seen) = at_rest again (claimed q)
role_at again q (at.Park to) = parking_role Main again None to
role_at again q at.Look = at_rest again (pends q)
role_at again q (at.Count seen) = at_rest again (pends q)
role_at again q at.Marked = at_rest again (pends q)
role_at again q (at.Aside to) = parking_role Second again (pends q) to
role_at again q at.RollBack = at_rest None (pends q)
role_at again q at.GiveWay = at_rest None (Some (Has (held_of q)))
role_at again q (at.Wake m to) = waking_role (start_of q) m to

-- the want of the thread again since it was woken
abbrev pub retried_want : RwLockPlace → Option Want
retried_want p = if p.retries then Some (want_at p) else None

abbrev pub rwlock_role : RwLockPlace → Role
rwlock_role p = role_at (retried_want p) p.purpose p.at

-- the state after a step, at its next place or in no call
abbrev pub role_next : Next RwLockPlace → Role
role_next (next.At p) = rwlock_role p
role_next (next.End answer) = idle

-- ---------------------------------------------------------------- the deeds of each step

abbrev pub missed_deeds : Patience → List Deed
missed_deeds Try = End ∷ []
missed_deeds how = []

abbrev pub looked_deeds : Decision → List Deed
looked_deeds (decisions.Refuse answer) = End ∷ []
looked_deeds decision = []

-- a writer is pending until it has looked for readers
abbrev pub enters_deeds : Want → List Deed
enters_deeds Exclusive = Case Pend ∷ []
enters_deeds x = Case (Enter x) ∷ End ∷ []

abbrev pub came_in_deeds : RwLockPurpose → List Deed
came_in_deeds (purpose.Upgrade how) = Case (Convert Upgradable Exclusive) ∷ End ∷ []
came_in_deeds q = enters_deeds (wanted (access_of q))

-- the state after its exchange, by whether it succeeded
abbrev pub exchanged_deeds : RwLockPurpose → Decision → Bool → Decision → List Deed
exchanged_deeds q decisions.Take true now = came_in_deeds q
exchanged_deeds q decisions.Mark true now = Mark Main ∷ []
exchanged_deeds q decision won now = looked_deeds now

-- a pending writer owns where nobody shares
abbrev pub counted_deeds : ℕ → List Deed
counted_deeds seen = if count_in seen == 0 then Case Settle ∷ End ∷ [] else []

-- a case of the lock, and the end of the call where nobody is to be woken
abbrev pub does_and_wakes : Bool → Deed → List Deed
does_and_wakes true deed = deed ∷ []
does_and_wakes false deed = deed ∷ End ∷ []

-- whether a release sees somebody to wake
abbrev pub sees_waiter : Want → ℕ → Bool
sees_waiter Shared seen = has_aside seen && (count_in seen == 1)
sees_waiter x seen = has_parked seen

-- how a thread gives its right up, or turns it into another
abbrev pub gives_deeds : RwLockPurpose → ℕ → List Deed
gives_deeds (purpose.Enter x how) seen =
    does_and_wakes (sees_waiter (wanted x) seen) (Case (Leave (wanted x)))
gives_deeds (purpose.Release x) seen =
    does_and_wakes (sees_waiter (wanted x) seen) (Case (Leave (wanted x)))
gives_deeds (purpose.Downgrade d) seen =
    does_and_wakes (has_parked seen) (Case (Convert (wanted (from_of d)) (wanted (to_of d))))
gives_deeds (purpose.Upgrade how) seen =
    does_and_wakes (not (count_in seen == 1)) (Case (Convert Upgradable Exclusive))

abbrev pub park_deeds : Deed → Line → ParkAt → Reply → List Deed
park_deeds parks m parking.Check (reply.Parked true) = parks ∷ []
park_deeds parks m (parking.Leave parked) reply.Done = Out ∷ []
park_deeds parks m parking.Asleep reply.Late = In m ∷ []
park_deeds parks m parking.Remove (reply.Removed none_left) = Case Late ∷ []
park_deeds parks m parking.Clear (reply.Value seen) = Clear m ∷ []
park_deeds parks m parking.GiveUp reply.Done = Out ∷ []
park_deeds parks m to told = []

-- the waiter taken of the second queue, if any, is no part of a place: `whom`
abbrev pub take_deed : Option Want → Line → Option ℕ → Deed
take_deed start Main whom = Case (TakePicked start)
take_deed start Second None = FindNobody Second
take_deed start Second (Some u) = Case (TakeAside u)

-- a thread that keeps a right of its own ends that as its call ends
abbrev pub leaves_with : Option Want → List Deed
leaves_with None = Out ∷ []
leaves_with (Some x) = Out ∷ End ∷ []

abbrev pub wake_deeds : Option Want → Line → WakeAt → Option ℕ → Reply → List Deed
wake_deeds start m waking.Enter whom reply.Done = In m ∷ []
wake_deeds start m waking.Take whom (reply.Took any none_left) = take_deed start m whom ∷ []
wake_deeds start m waking.Take whom (reply.Picked n x none_left) = take_deed start m whom ∷ []
wake_deeds start m (waking.Clear any) whom (reply.Value seen) = Clear m ∷ []
wake_deeds start m (waking.Leave any) whom reply.Done = leaves_with start
wake_deeds start m to whom told = []

abbrev pub deeds_at : Admission → RwLockPlace → RwLockAt → Option ℕ → Reply → List Deed
deeds_at a p at.First whom (reply.Value seen) =
    if seen == 0 then Case (Enter Exclusive) ∷ End ∷ [] else missed_deeds (patience_at p)
deeds_at a p at.Load whom (reply.Value seen) = looked_deeds (decided a p seen)
deeds_at a p (at.Decide expected) whom (reply.Value seen) =
    exchanged_deeds p.purpose (decided a p expected) (seen == expected) (decided a p seen)
deeds_at a p (at.Decide expected) whom reply.Done = In Main ∷ []
deeds_at a p (at.Park to) whom told = park_deeds (Case (Park (want_at p))) Main to told
deeds_at a p at.Look whom (reply.Value seen) = counted_deeds seen
deeds_at a p (at.Count expected) whom (reply.Value seen) =
    if seen == expected then Mark Second ∷ [] else counted_deeds seen
deeds_at a p (at.Count expected) whom reply.Done = In Second ∷ []
deeds_at a p at.Marked whom reply.Done = In Second ∷ []
deeds_at a p (at.Aside to) whom told = park_deeds (Case Aside) Second to told
deeds_at a p at.RollBack whom (reply.Value seen) = does_and_wakes (has_parked seen) (Case Rollback)
deeds_at a p at.GiveWay whom (reply.Value seen) = gives_deeds p.purpose seen
deeds_at a p (at.Wake m to) whom told = wake_deeds (start_of p.purpose) m to whom told
deeds_at a p to whom told = []

abbrev pub rwlock_deeds : Admission → RwLockPlace → Option ℕ → Reply → List Deed
rwlock_deeds a p whom told = deeds_at a p p.at whom told

-- ---------------------------------------------------------------- the laws

-- the lock lets readers in as its rules say
abbrev pub Admits : Rules → Admission → Type 0
Admits r a = (has_readers r.sort ≡ true) × (is_recursive r.sort ≡ a.recursive) × (r.limit ≡ a.limit)

-- a try is of a thread that wasn't woken
abbrev pub IsFreshTry : Patience → Bool → Type 0
IsFreshTry Try retries = retries ≡ false
IsFreshTry how retries = Unit {0}

-- an upgrade that tries looks at the word
abbrev pub AtTry : RwLockAt → Type 0
AtTry at.Load = Unit {0}
AtTry (at.Decide seen) = Unit {0}
AtTry to = ⊥

-- The place of another call that gives its right up, and is pending.
abbrev pub AtPending : RwLockAt → Type 0
AtPending at.GiveWay = Unit {0}
AtPending at.Look = Unit {0}
AtPending (at.Count seen) = Unit {0}
AtPending at.Marked = Unit {0}
AtPending (at.Aside to) = Unit {0}
AtPending at.RollBack = Unit {0}
AtPending (at.Wake Main to) = Unit {0}
AtPending to = ⊥

abbrev pub AtUpgrade : Patience → RwLockAt → Type 0
AtUpgrade Try to = AtTry to
AtUpgrade how to = AtPending to

-- only a writer tries a word that is 0, only a thread that wants to write is pending, and a thread that gives
-- a right up only wakes others then
abbrev pub AtFits : RwLockPurpose → RwLockAt → Type 0
AtFits (purpose.Enter x how) at.First = x ≡ access.Exclusive
AtFits (purpose.Enter x how) at.GiveWay = ⊥
AtFits (purpose.Enter x how) to = Unit {0}
AtFits (purpose.Release x) at.GiveWay = Unit {0}
AtFits (purpose.Release x) (at.Wake m to) = Unit {0}
AtFits (purpose.Release x) to = ⊥
AtFits (purpose.Downgrade d) at.GiveWay = Unit {0}
AtFits (purpose.Downgrade d) (at.Wake Main to) = Unit {0}
AtFits (purpose.Downgrade d) to = ⊥
AtFits (purpose.Upgrade how) to = AtUpgrade how to

-- a thread that is there stands at a place
pub record IsAt (r : Rules) (a : Admission) (s : Site) (t : ℕ) (p : RwLockPlace) : Type 0 where
  pub admits : Admits r a
  pub site : IsSite r s
  pub role : s.role t ≡ rwlock_role p
  pub fresh : IsFreshTry (patience_at p) p.retries
  pub place : AtFits p.purpose p.at
  pub there : t < length s.lock.shared

-- the deeds may be done, and the thread does then what this says
pub record Follows (r : Rules) (s : Site) (t : ℕ) (ds : List Deed) (d : Role) : Type 0 where
  pub needed : AllNeeded r ds s t
  pub role : (after_all r ds s t).role t ≡ d

-- the deeds of a reply may be done, and the next place says what the thread does then
abbrev pub FollowsBy : Rules → Admission → Site → ℕ → RwLockPlace → Option ℕ → Reply → Type 0
FollowsBy r a s t p whom told =
    Follows r s t (rwlock_deeds a p whom told) (role_next (rwlock_next a p told))

-- each step on the word follows
abbrev pub RwLockStepsFollow : Type 0
RwLockStepsFollow =
    (r : Rules) (a : Admission) (s : Site) (t l : ℕ) (p : RwLockPlace) (op : Op) → IsAt r a s t p
    → standing t s.lock ≡ 0 → rwlock_act l a p ≡ act.Word l op
    → FollowsBy r a s t p None (reply.Value (code r s))

-- Each step leaves the word of the lock after its deeds.
abbrev pub RwLockStepsCode : Type 0
RwLockStepsCode =
    (r : Rules) (a : Admission) (s : Site) (t l : ℕ) (p : RwLockPlace) (op : Op) → IsAt r a s t p
    → standing t s.lock ≡ 0 → rwlock_act l a p ≡ act.Word l op
    → t < length s.lock.shared → code r s < 2 ^ 64 → a.limit < 2 ^ 60 - 1 → HasLimit r s.lock
    → apply op (code r s)
    ≡ code r (after_all r (rwlock_deeds a p None (reply.Value (code r s))) s t)

-- ---------------------------------------------------------------- steps in and out of sections

-- the outcomes that a thread may be told on its way into a queue, and out of it
abbrev pub MayHearParking : Rules → Site → ℕ → Line → Bool → ParkAt → Reply → Type 0
MayHearParking r s t m finds parking.Check (reply.Parked b) = (b ≡ finds) × (standing t s.lock ≡ 0)
MayHearParking r s t m finds (parking.Leave parked) reply.Done = s.lock.taken t ≡ None
MayHearParking r s t m finds parking.Asleep reply.Late = IsSectionFree s m
MayHearParking r s t m finds parking.Remove (reply.Removed none_left) = StandsAlone s t m none_left
MayHearParking r s t m finds parking.GiveUp reply.Done = s.lock.taken t ≡ None
MayHearParking r s t m finds to told = ⊥

abbrev pub MayHearWaking : Rules → Site → ℕ → Option Want → Line → WakeAt → Option ℕ → Reply
    → Type 0
MayHearWaking r s t start m waking.Enter whom reply.Done = IsSectionFree s m
MayHearWaking r s t start m waking.Take whom (reply.Took any none_left) =
    MayTake r s start m whom none_left
MayHearWaking r s t start m waking.Take whom (reply.Picked n x none_left) =
    MayTake r s start m whom none_left
MayHearWaking r s t start m (waking.Leave any) whom reply.Done = s.lock.taken t ≡ None
MayHearWaking r s t start m to whom told = ⊥

-- the outcomes that a thread may be told of its steps in and out of sections, and as it is late
abbrev pub MayReply : Rules → Admission → Site → ℕ → RwLockPlace → RwLockAt → Option ℕ → Reply
    → Type 0
MayReply r a s t p (at.Decide seen) whom reply.Done =
    (decided a p seen ≡ decisions.Park) × IsSectionFree s Main
MayReply r a s t p (at.Count seen) whom reply.Done = IsSectionFree s Second
MayReply r a s t p at.Marked whom reply.Done = IsSectionFree s Second
MayReply r a s t p (at.Park to) whom told =
    MayHearParking r s t Main (holds (park_check a (want_at p) Main) (code r s)) to told
MayReply r a s t p (at.Aside to) whom told =
    MayHearParking r s t Second (holds (park_check a (want_at p) Second) (code r s)) to told
MayReply r a s t p (at.Wake m to) whom told = MayHearWaking r s t (start_of p.purpose) m to whom told
MayReply r a s t p to whom told = ⊥

-- each such step follows too
abbrev pub RwLockSectionsFollow : Type 0
RwLockSectionsFollow =
    (r : Rules) (a : Admission) (s : Site) (t : ℕ) (p : RwLockPlace) (whom : Option ℕ)
    (told : Reply)
    → IsAt r a s t p → MayReply r a s t p p.at whom told → FollowsBy r a s t p whom told

-- ---------------------------------------------------------------- owners

-- each step on the word leaves the owners and shares of the lock after its deeds; a number of
-- shares wraps, as a word does, and none comes near
abbrev pub RwLockOwnersFollow : Type 0
RwLockOwnersFollow =
    (r : Rules) (a : Admission) (s : Site) (t l : ℕ) (p : RwLockPlace) (op : Op) (shared : List ℕ)
    (o : Owners) (main second : List Waiter) (taken : ℕ → Option Taken)
    → IsAt r a s t p → rwlock_act l a p ≡ act.Word l op → a.limit < 2 ^ 60 - 1 → HasLimit r s.lock
    → s.lock ≡ lock_seen shared o main second taken
    → lock_seen (shares_then shared t (rwlock_shares a p (code r s) (slice_index shared t)))
    (rwlock_owners a p t (code r s) o) main second taken
    ≡ (after_all r (rwlock_deeds a p None (reply.Value (code r s))) s t).lock
