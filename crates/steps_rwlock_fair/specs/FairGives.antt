-- A fair release, or a bump, of more than a shared right gives all that it takes what they waited
-- for, in one step. Where the limit would be passed, it gives it to none of them.
use Rattle.std.specs.Prelude.{ℕ, Bool, true, false, Option, Some, None, ◌≡◌, ◌≢◌, ◌<◌, ◌≤◌, ◌+◌, ◌⊎◌, []}
use Rattle.std.specs.Prelude.{length, slice_index}
use Rattle.core_base.specs.declared.ops.Op.{Op}
use Rattle.core_base.specs.declared.wants.Want.{Want}
use Rattle.core_base.specs.declared.wants.Want.TheVariants.{Exclusive, Upgradable, Shared, Wait, CallOnce}
use Rattle.steps_base.specs.declared.acts.Act.TheVariants as act
use Rattle.spec_locks.specs.Locks.{LockState, Rules, Queued, Owns, IsTaken, HasTakenNobody, IsSuccessor}
use Rattle.spec_locks.specs.Locks.{count, handed, readers}
use Rattle.spec_locks.specs.Purposes.{Purpose, Releases, Bumps}
use Rattle.spec_locks.specs.Sites.{Site}
use Rattle.spec_locks.specs.Codes.{code, has_parked}
use Rattle.steps_rwlock.specs.declared.places.Admission.{Admission}
use Rattle.steps_rwlock_fair.specs.declared.places.RwLockCallPlace.{RwLockCallPlace}
use Rattle.steps_rwlock_fair.specs.declared.hand_over.Taken.{Taken}
use Rattle.steps_rwlock_fair.specs.FairSteps.{call_act}
use Rattle.steps_rwlock_fair.specs.FairProfiles.{call_profile}
use Rattle.steps_rwlock_fair.specs.FairCalls.{IsInCall, HasInHand, in_hand_of}
use Rattle.steps_rwlock_fair.specs.FairLaws.{lock_slow}

-- the call is to give this right up fairly, and has it still
abbrev pub IsToGive : Purpose → Bool → Want → Type 0
IsToGive (Releases l x fair) released y = (x ≡ y) × (fair ≡ true) × (released ≡ false)
IsToGive (Bumps l x) released y = (x ≡ y) × (released ≡ false)
IsToGive purpose released y = ⊥

-- from s to s2 the thread has got one right more to share, or the right that one thread has at a
-- time; beside readers a writer is pending
abbrev pub HasGot : LockState → LockState → ℕ → Want → Type 0
HasGot s s2 u Shared = slice_index s2.shared u ≡ slice_index s.shared u + 1
HasGot s s2 u Upgradable = s2.upgradable ≡ Some u
HasGot s s2 u Exclusive =
    (s2.exclusive ≡ Some u)
    ⊎ ((s2.pending ≡ Some (record { thread = u; falls_back = false })) × (1 ≤ readers s2))
HasGot s s2 u Wait = ⊥
HasGot s s2 u CallOnce = ⊥

-- from s to s2 everybody that it had taken gets what it waited for; it had taken somebody, or
-- nobody waits
pub record GivesToAll (s s2 : LockState) (t : ℕ) : Type 0 where
  pub all : (u : ℕ) (x : Want) → IsTaken s t u x → u < length s.shared → HasGot s s2 u x
  pub some : ((u : ℕ) × ((x : Want) × IsTaken s t u x)) ⊎ (s.queue ≡ [])

-- the thread lets the lock go: it had taken nobody, and the word tells of nobody that waits
abbrev pub LetsGo : LockState → ℕ → ℕ → Type 0
LetsGo s word t = HasTakenNobody s t × (has_parked word ≡ false)

-- the threads that it has taken of an upgradable right would pass the limit: they stay in its hand, and it
-- wakes them
abbrev pub WakesThem : Rules → LockState → LockState → ℕ → Want → Type 0
WakesThem r s s2 t x =
    (x ≡ Upgradable) × (s2.taken ≡ s.taken)
    × ((successor : Option Queued)
    × (IsSuccessor s t successor × (r.limit < count (handed t Upgradable successor s))))

-- a step of an owner on the word; which thread is the one that wants more, if any, is no part of its place
abbrev pub FairReleasesGive : Type 0
FairReleasesGive =
    (r : Rules) (a : Admission) (s : Site) (t l : ℕ) (c : RwLockCallPlace) (op : Op)
    (whom : Option ℕ) (x : Want) → IsInCall r a s t c
    → s.lock.taken t ≡ None → ((k : Taken) → in_hand_of c ≡ Some k → HasInHand s.lock t k whom)
    → IsToGive ((call_profile a c).purpose l) (call_profile a c).released x → x ≢ Shared
    → (call_act l a c ≡ act.Word l op) ⊎ (call_act l a c ≡ act.HandOver l op)
    → Owns (lock_slow r a s t c whom) t x
    ⊎ (GivesToAll s.lock (lock_slow r a s t c whom) t
    ⊎ (LetsGo s.lock (code r s) t ⊎ WakesThem r s.lock (lock_slow r a s t c whom) t x))
