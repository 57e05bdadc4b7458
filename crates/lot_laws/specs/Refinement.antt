-- The abstract locks that a world's words, places and queues stand for.
use Rattle.std.specs.Prelude.{ℕ, Bool, true, false, Option, Some, None, if◌then◌else◌, ◌&&◌, not, ◌+◌, ◌*◌}
use Rattle.std.specs.Prelude.{◌≡◌, ◌≢◌, ◌⊎◌, length, is_some}
use Rattle.lot_steps.specs.declared.places.Place.{Place}
use Rattle.steps_base.specs.Profiles.{Profile, bringing_nobody, taken_from}
pub use Rattle.steps_base.specs.Calls.{call_by, call_of_two}
pub use Rattle.steps_base.specs.Owners.{lock_seen}
use Rattle.steps_mutex.specs.declared.places.MutexPlace.{MutexPlace}
use Rattle.steps_base.specs.declared.acts.Act.{Act}
use Rattle.steps_base.specs.declared.acts.Act.TheVariants.{Enter, Sleep}
use Rattle.core_base.specs.declared.keys.Keys.{Keys}
use Rattle.lot_steps.specs.Steps.{act_of, beside_of, respins_from, called_lock, calls, is_lock, profile}
use Rattle.lot_steps.specs.Steps.{profile_at_mutex}
pub use Rattle.steps_mutex.specs.MutexProfiles.{mutex_profile, is_bump, entry_purpose, release_purpose}
pub use Rattle.steps_mutex.specs.MutexProfiles.{before_entry, before_release}
pub use Rattle.lot_machine.specs.Machine.{runs_closure}
use Rattle.lot_machine.specs.Machine.{State, place_at, word_at, owners_at, shares_at, kind_at, queue_at}
use Rattle.lot_machine.specs.Machine.{section_at}
use Rattle.spec_locks.specs.Locks.{LockState, Taken, Rights}
use Rattle.spec_locks.specs.Runs.{LocksState, CallState, Status, no_call}
use Rattle.spec_locks.specs.Locks as locks

-- ---------------------------------------------------------------- one lock

-- the thread by which the one at a place was taken from the queue of a lock
abbrev pub taken_at : Place → ℕ → Option Taken
taken_at p l =
    if is_lock l (beside_of p) && not (calls p l)
    then taken_from (profile_at_mutex p).hand (profile_at_mutex p).wants true
    else taken_from (profile p).hand (profile p).wants (calls p l)

abbrev pub lock_state : State → ℕ → LockState
lock_state w l =
    lock_seen (shares_at w l) (owners_at w l) (queue_at w (2 * l)) (queue_at w (2 * l + 1))
    (λ u. taken_at (place_at w u) l)

abbrev pub owner_at : State → ℕ → Option ℕ
owner_at w l = (owners_at w l).exclusive

-- ---------------------------------------------------------------- one call

abbrev pub mutex_call_state : ℕ → MutexPlace → (ℕ → Rights) → CallState
mutex_call_state l at rights = call_by l (bringing_nobody (mutex_profile at)) rights

-- ---------------------------------------------------------------- how a thread stands

abbrev pub sleeps : Act → Bool
sleeps Sleep = true
sleeps a = false

abbrev pub keys_entered : Act → Option Keys
keys_entered (Enter keys) = Some keys
keys_entered a = None

abbrev pub stance_by : Act → Option Place → Status
stance_by a looks_from =
    record {
      asleep = sleeps a;
      in_closure = runs_closure a;
      enters = keys_entered a;
      may_spin = is_some looks_from;
    }

-- by what it does next
abbrev pub stance_of : Place → Status
stance_of p = stance_by (act_of p) (respins_from p)

-- ---------------------------------------------------------------- calls

-- the state of a thread's call, by its place and by what it owns now
abbrev pub call_on : Option ℕ → Profile → (ℕ → Rights) → CallState
call_on None row rights = no_call
call_on (Some l) row rights = call_by l row rights

-- The state of a call of two locks, by its place at both.
abbrev pub call_on_both : Option ℕ → Option ℕ → Profile → Profile → (ℕ → Rights) → CallState
call_on_both None lock row beside rights = call_on lock row rights
call_on_both (Some m) None row beside rights = no_call
call_on_both (Some m) (Some l) row beside rights = call_of_two l m row beside rights

abbrev pub call_state : Place → (ℕ → Rights) → CallState
call_state p rights = call_on_both (beside_of p) (called_lock p) (profile p) (profile_at_mutex p) rights

-- ---------------------------------------------------------------- the world

abbrev pub locks_of : State → LocksState
locks_of w = record {
  threads = length w.places;
  size = length w.locks;
  kinds = kind_at w;
  locks = lock_state w;
  inside = section_at w;
  calls = λ t. call_state (place_at w t) (λ l. locks.rights_of (lock_state w l) t);
  stances = λ t. stance_of (place_at w t);
}

-- the call of a thread
abbrev pub call_at : State → ℕ → CallState
call_at w t = (locks_of w).calls t

-- a thread is in its call of the lock, and runs its closure
abbrev pub RunsClosure : State → ℕ → ℕ → Type 0
RunsClosure w t l = (called_lock (place_at w t) ≡ Some l)
    × (runs_closure (act_of (place_at w t)) ≡ true)

-- a step changes one word at most, or queues whose sections its thread is in, never both
abbrev pub ChangesOneThing : State → ℕ → State → Type 0
ChangesOneThing w t v =
    ((l : ℕ) × ((k : ℕ) → k ≢ l → word_at v k ≡ word_at w k)
    × ((key : ℕ) → queue_at v key ≡ queue_at w key))
    ⊎ (((l : ℕ) → word_at v l ≡ word_at w l)
    × ((key : ℕ) → (queue_at v key ≡ queue_at w key) ⊎ (section_at w key ≡ Some t)))
