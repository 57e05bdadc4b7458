-- Where the thread of a fair release, of a bump, or one that was handed the lock may stand, and
-- what it may hear.
use Rattle.std.specs.Prelude.{ℕ, Bool, true, false, Option, Some, None, ◌≡◌, ◌<◌, ◌+◌, length}
use Rattle.core_base.specs.declared.keys.Line.TheVariants.{Main}
use Rattle.core_base.specs.declared.wants.Want.{Want}
use Rattle.spec_locks.specs.declared.calls.Access.{Access}
use Rattle.spec_locks.specs.declared.calls.Access.TheVariants as access
use Rattle.spec_locks.specs.declared.calls.Patience.{Patience}
use Rattle.spec_locks.specs.declared.calls.Patience.TheVariants.{Patient}
use Rattle.steps_base.specs.declared.acts.Next.{Next}
use Rattle.steps_base.specs.declared.acts.Next.TheVariants as next
use Rattle.steps_base.specs.declared.acts.Reply.{Reply}
use Rattle.steps_base.specs.declared.acts.Reply.TheVariants as reply
use Rattle.steps_base.specs.Moves.{IsSectionFree, MayTake, heir_of}
use Rattle.spec_locks.specs.Locks.{LockState, Rules, IsSuccessor, readers, sharing_handed}
use Rattle.spec_locks.specs.Sites.{Site, IsSite}
use Rattle.spec_locks.specs.Codes.{has_parked}
use Rattle.steps_rwlock.specs.declared.places.Admission.{Admission}
use Rattle.steps_rwlock.specs.declared.purposes.RwLockPurpose.{RwLockPurpose}
use Rattle.steps_rwlock.specs.declared.purposes.RwLockPurpose.TheVariants as purpose
use Rattle.steps_rwlock.specs.RwLockDeeds.{Admits, MayReply}
use Rattle.steps_rwlock.specs.RwLockCalls.{MayStand, WaitsIfBlocked, MayBeTold}
use Rattle.steps_rwlock_fair.specs.declared.places.RwLockCallPlace.{RwLockCallPlace}
use Rattle.steps_rwlock_fair.specs.declared.places.RwLockCallPlace.TheVariants.{Plain, PeekQueue, HandOver}
use Rattle.steps_rwlock_fair.specs.declared.places.RwLockCallPlace.TheVariants.{Bump}
use Rattle.steps_rwlock_fair.specs.declared.places.RwLockCallPlace.TheVariants.{Handed}
use Rattle.steps_rwlock_fair.specs.declared.hand_over.Taken.{Taken}
use Rattle.steps_rwlock_fair.specs.declared.hand_over.HandOverAt.{HandOverAt}
use Rattle.steps_rwlock_fair.specs.declared.hand_over.HandOverAt.TheVariants as handing
use Rattle.steps_rwlock_fair.specs.declared.handed.HandedAt.{HandedAt}
use Rattle.steps_rwlock_fair.specs.declared.handed.HandedAt.TheVariants as handed
use Rattle.steps_rwlock_fair.specs.FairDeeds.{call_role}
use Rattle.steps_rwlock_fair.specs.FairProfiles.{in_hand_at}

-- ---------------------------------------------------------------- where a call may stand

-- a bump releases a shared right, and was not woken yet, or enters and waits for ever
abbrev pub IsOfBump : RwLockPurpose → Bool → Type 0
IsOfBump (purpose.Enter x Patient) retries = Unit {0}
IsOfBump (purpose.Release access.Shared) retries = retries ≡ false
IsOfBump q retries = ⊥

-- an exclusive owner tries the word that tells of nobody else, and hands over whatever it takes; an
-- upgradable one looks; a thread that sees nobody wait enters no section
abbrev pub HandsOverAt : Access → HandOverAt → Type 0
HandsOverAt access.Shared to = ⊥
HandsOverAt access.Exclusive (handing.Free seen) = seen ≡ 8
HandsOverAt access.Upgradable (handing.Free seen) = has_parked seen ≡ false
HandsOverAt access.Exclusive handing.Load = ⊥
HandsOverAt access.Exclusive (handing.Look k) = ⊥
HandsOverAt access.Exclusive (handing.Exchange k seen) = ⊥
HandsOverAt access.Exclusive (handing.Leave any false) = ⊥
HandsOverAt access.Upgradable (handing.Store k) = ⊥
HandsOverAt x to = Unit {0}

-- a bump waits for ever
abbrev pub WaitsWithPatience : Bool → Patience → Type 0
WaitsWithPatience true how = how ≡ Patient
WaitsWithPatience false how = WaitsIfBlocked how

abbrev pub CallStands : Admission → RwLockCallPlace → Type 0
CallStands a (Plain p) = MayStand a p
CallStands a (Bump p) = MayStand a p × IsOfBump p.purpose p.retries
CallStands a (PeekQueue x) = Unit {0}
CallStands a (HandOver x b to) = HandsOverAt x to
CallStands a (Handed x how b to) = WaitsWithPatience b how

abbrev pub CallStandsNext : Admission → Next RwLockCallPlace → Type 0
CallStandsNext a (next.At c) = CallStands a c
CallStandsNext a (next.End answer) = Unit {0}

-- a thread that is there stands at a place of a call of the lock, where it may
pub record IsInCall (r : Rules) (a : Admission) (s : Site) (t : ℕ)
    (c : RwLockCallPlace) : Type 0 where
  pub admits : Admits r a
  pub site : IsSite r s
  pub role : s.role t ≡ call_role c
  pub stands : CallStands a c
  pub there : t < length s.lock.shared

-- ---------------------------------------------------------------- the waiters that it has in hand

abbrev pub in_hand_of : RwLockCallPlace → Option Taken
in_hand_of (HandOver x b to) = in_hand_at to
in_hand_of c = None

abbrev pub IsNamed : Option Want → Option ℕ → Type 0
IsNamed None None = Unit {0}
IsNamed (Some x) (Some u) = Unit {0}
IsNamed x whom = ⊥

-- the place tells the truth of them: how many want to share, and which one wants more
pub record HasInHand (s : LockState) (t : ℕ) (k : Taken) (whom : Option ℕ) : Type 0 where
  pub named : IsNamed k.successor whom
  pub successor : IsSuccessor s t (heir_of whom k.successor)
  pub sharers : readers (sharing_handed t s) ≡ readers s + k.sharers

-- -------------------------------------------- the notes that it may hear of its steps in and out of sections

abbrev pub MayHearHanding : Rules → Site → ℕ → HandOverAt → Option ℕ → Reply → Type 0
MayHearHanding r s t handing.Enter whom reply.Done = IsSectionFree s Main
MayHearHanding r s t handing.Take whom (reply.Picked n y none_left) =
    MayTake r s None Main whom none_left
MayHearHanding r s t (handing.Leave any handed) whom reply.Done = s.lock.taken t ≡ None
MayHearHanding r s t to whom told = ⊥

abbrev pub MayHearHanded : Access → HandedAt → Reply → Type 0
MayHearHanded access.Exclusive to told = ⊥
MayHearHanded x handed.Accept reply.Done = Unit {0}
MayHearHanded x to told = ⊥

abbrev pub CallMayHear : Rules → Admission → Site → ℕ → RwLockCallPlace → Option ℕ → Reply → Type 0
CallMayHear r a s t (Plain p) whom told = MayReply r a s t p p.at whom told
CallMayHear r a s t (Bump p) whom told = MayReply r a s t p p.at whom told
CallMayHear r a s t (PeekQueue x) whom told = ⊥
CallMayHear r a s t (HandOver x b to) whom told = MayHearHanding r s t to whom told
CallMayHear r a s t (Handed x how b to) whom told = MayHearHanded x to told

-- ---------------------------------------------------------------- the notes that it may hear of any step

abbrev pub CallMayBeTold : Admission → RwLockCallPlace → Reply → Type 0
CallMayBeTold a (Plain p) told = MayBeTold a p p.at told
CallMayBeTold a (Bump p) told = MayBeTold a p p.at told
CallMayBeTold a c told = Unit {0}
