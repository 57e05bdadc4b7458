-- The test whether a world may be drained.
use Rattle.std.specs.Prelude.{ℕ, zero, suc, Bool, true, false, Option, Some, None, if◌then◌else◌, ◌==◌, ◌&&◌}
use Rattle.std.specs.Prelude.{◌||◌, not, length, nat_le, nat_lt}
use Rattle.spec_locks.specs.declared.calls.Access.{Access}
use Rattle.spec_locks.specs.declared.calls.Access.TheVariants as access
use Rattle.spec_locks.specs.declared.kinds.Kind.{Kind}
use Rattle.spec_locks.specs.declared.kinds.Kind.TheVariants as kind
use Rattle.steps_base.specs.declared.owners.Owners.{Owners}
use Rattle.steps_base.specs.declared.owners.Pending as owners
use Rattle.spec_locks.specs.Locks.{Rights, rights_of}
use Rattle.steps_mutex.specs.declared.places.MutexPlace.{MutexPlace}
use Rattle.steps_mutex.specs.declared.places.MutexPlace.TheVariants as mutex
use Rattle.steps_mutex.specs.declared.hand_off.HandOffAt.{HandOffAt}
use Rattle.steps_mutex.specs.declared.hand_off.HandOffAt.TheVariants as hand_off
use Rattle.steps_mutex.specs.MutexProfiles.{was_handed}
use Rattle.steps_rwlock.specs.declared.purposes.RwLockPurpose.{RwLockPurpose}
use Rattle.steps_rwlock.specs.declared.purposes.RwLockPurpose.TheVariants as purposes
use Rattle.steps_rwlock.specs.declared.places.RwLockAt.{RwLockAt}
use Rattle.steps_rwlock.specs.RwLockProfiles.{is_pending, is_waking}
use Rattle.steps_rwlock_fair.specs.declared.places.RwLockCallPlace.{RwLockCallPlace}
use Rattle.steps_rwlock_fair.specs.declared.places.RwLockCallPlace.TheVariants.{Plain, PeekQueue, HandOver}
use Rattle.steps_rwlock_fair.specs.declared.places.RwLockCallPlace.TheVariants.{Bump}
use Rattle.steps_rwlock_fair.specs.declared.places.RwLockCallPlace.TheVariants.{Handed}
use Rattle.steps_rwlock_fair.specs.declared.handed.HandedAt.{HandedAt}
use Rattle.steps_rwlock_fair.specs.declared.handed.HandedAt.TheVariants as handed
use Rattle.steps_rwlock_fair.specs.FairProfiles.{has_given}
use Rattle.lot_steps.specs.declared.places.Place.{Place}
use Rattle.lot_steps.specs.declared.places.Place.TheVariants as place
use Rattle.lot_machine.specs.Machine.{State, filled_at, kind_at, owners_at, place_at}
use Rattle.lot_laws.specs.Refinement.{lock_state}
use Rattle.lot_world.specs.declared.gains.Gain.{Gain}
use Rattle.lot_world.specs.declared.gains.Gain.TheVariants.{Nothing, Pending, Right}
use Rattle.lot_world.specs.declared.drainable.HeldRights.{HeldRights}
use Rattle.lot_world.specs.Drains.{number}

-- ---------------------------------------------------------------- the rights that a call has got

-- the right of a call that began with nothing, or that has given up the right it began with
abbrev pub handed_off : HandOffAt → Bool
handed_off hand_off.Enter = false
handed_off hand_off.Take = false
handed_off (hand_off.Store any none_left) = false
handed_off (hand_off.Leave any) = true

abbrev pub nothing_if : Bool → Option Gain
nothing_if false = None
nothing_if true = Some Nothing

abbrev pub mutex_gain : MutexPlace → Option Gain
mutex_gain (mutex.Lock e retries at) =
    Some (if was_handed at then Right access.Exclusive else Nothing)
mutex_gain mutex.TryLock = Some Nothing
mutex_gain (mutex.Unlock at) = None
mutex_gain mutex.UnlockFair = None
mutex_gain mutex.Bump = None
mutex_gain (mutex.HandOff bumps at) = nothing_if (bumps && handed_off at)

-- a writer that waits for readers is pending
abbrev pub entry_gain : RwLockAt → Gain
entry_gain at = if is_pending at then Pending else Nothing

abbrev pub plain_gain : RwLockPurpose → RwLockAt → Option Gain
plain_gain (purposes.Enter x how) at = Some (entry_gain at)
plain_gain (purposes.Release x) at = None
plain_gain (purposes.Downgrade d) at = None
plain_gain (purposes.Upgrade how) at = None

-- a bump has given its right up once it wakes others, and then enters again
abbrev pub bump_gain : RwLockPurpose → RwLockAt → Option Gain
bump_gain (purposes.Enter x how) at = Some (entry_gain at)
bump_gain (purposes.Release x) at = nothing_if (is_waking at)
bump_gain (purposes.Downgrade d) at = None
bump_gain (purposes.Upgrade how) at = None

-- a thread that was handed the lock has its right; a writer beside readers is pending
abbrev pub handed_gain : Access → HandedAt → Gain
handed_gain access.Exclusive (handed.Asleep by false) = Pending
handed_gain access.Exclusive (handed.Asleep by true) = Right access.Exclusive
handed_gain access.Exclusive handed.Accept = Right access.Exclusive
handed_gain access.Upgradable at = Right access.Upgradable
handed_gain access.Shared at = Right access.Shared

abbrev pub call_gain : RwLockCallPlace → Option Gain
call_gain (Plain p) = plain_gain p.purpose p.at
call_gain (PeekQueue x) = None
call_gain (HandOver x bumps at) = nothing_if (bumps && has_given at)
call_gain (Bump p) = bump_gain p.purpose p.at
call_gain (Handed x how bumps at) = Some (handed_gain x at)

abbrev pub gain_of : Place → Option Gain
gain_of place.Idle = None
gain_of (place.Mutex l at) = mutex_gain at
gain_of (place.RwLock l a at) = call_gain at
gain_of (place.Once l at) = None
gain_of (place.Condvar l at) = None
gain_of (place.Semaphore l at) = None

-- whether it may be the pending writer: where its call does more than give a right up
abbrev pub mutex_may_pend : MutexPlace → Bool
mutex_may_pend (mutex.Lock e retries at) = true
mutex_may_pend mutex.TryLock = true
mutex_may_pend (mutex.Unlock at) = false
mutex_may_pend mutex.UnlockFair = false
mutex_may_pend mutex.Bump = true
mutex_may_pend (mutex.HandOff bumps at) = bumps

abbrev pub plain_may_pend : RwLockPurpose → Bool
plain_may_pend (purposes.Enter x how) = true
plain_may_pend (purposes.Release x) = false
plain_may_pend (purposes.Downgrade d) = true
plain_may_pend (purposes.Upgrade how) = true

abbrev pub call_may_pend : RwLockCallPlace → Bool
call_may_pend (Plain p) = plain_may_pend p.purpose
call_may_pend (PeekQueue x) = true
call_may_pend (HandOver x bumps at) = bumps
call_may_pend (Bump p) = true
call_may_pend (Handed x how bumps at) = true

abbrev pub may_pend : Place → Bool
may_pend place.Idle = false
may_pend (place.Mutex l at) = mutex_may_pend at
may_pend (place.RwLock l a at) = call_may_pend at
may_pend (place.Once l at) = true
may_pend (place.Condvar l at) = true
may_pend (place.Semaphore l at) = true

-- how many rights that is
abbrev pub rights_gained : Gain → Rights → ℕ
rights_gained Nothing r = 0
rights_gained Pending r = r.pending
rights_gained (Right access.Exclusive) r = r.exclusive
rights_gained (Right access.Upgradable) r = r.upgradable
rights_gained (Right access.Shared) r = r.shared

-- ---------------------------------------------------------------- the test

abbrev pub one_if : Bool → ℕ
one_if true = 1
one_if false = 0

abbrev pub rights_held : HeldRights → Rights
rights_held h = record {
  exclusive = one_if h.exclusive;
  pending = one_if h.pending;
  upgradable = one_if h.upgradable;
  shared = h.shared;
}

-- a thread has what its call has got, and nothing else
abbrev pub has_only : Option Gain → Rights → Bool
has_only None r = true
has_only (Some gain) r = number r == rights_gained gain r

abbrev pub holds_few : Place → Rights → Bool
holds_few p r =
    nat_le (number r) 1 && ((may_pend p || (r.pending == 0)) && has_only (gain_of p) r)

-- n threads from t on
abbrev pub all_hold_few : State → ℕ → ℕ → Bool
all_hold_few w t zero = true
all_hold_few w t (suc n) =
    holds_few (place_at w t) (rights_of (lock_state w 0) t) && all_hold_few w (suc t) n

abbrev pub has_owners : Kind → Bool
has_owners kind.Mutex = true
has_owners kind.Fair = true
has_owners (kind.RwLock limit) = true
has_owners (kind.Recursive limit) = true
has_owners kind.Condvar = false
has_owners kind.Once = false
has_owners (kind.Semaphore permits) = false

abbrev pub is_below : Option ℕ → ℕ → Bool
is_below None n = true
is_below (Some t) n = nat_lt t n

abbrev pub pending_thread : Option owners.Pending → Option ℕ
pending_thread None = None
pending_thread (Some p) = Some p.thread

abbrev pub are_below : Owners → ℕ → Bool
are_below o n =
    is_below o.exclusive n && (is_below (pending_thread o.pending) n && is_below o.upgradable n)

abbrev pub is_drainable : State → Bool
is_drainable w =
    (length w.locks == 1) && (nat_le 1 (length w.places) && (has_owners (kind_at w 0)
    && (not (filled_at w 0) && (are_below (owners_at w 0) (length w.places)
    && all_hold_few w 0 (length w.places)))))
