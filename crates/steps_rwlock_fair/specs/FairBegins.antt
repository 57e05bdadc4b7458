-- Where each call of a reader-writer lock begins, and the right that it needs.
use Rattle.std.specs.Prelude.{ℕ, Bool, true, false}
use Rattle.spec_locks.specs.declared.calls.Access.{Access}
use Rattle.spec_locks.specs.declared.calls.Access.TheVariants as access
use Rattle.spec_locks.specs.declared.calls.RwLockCall.{RwLockCall}
use Rattle.spec_locks.specs.declared.calls.RwLockCall.TheVariants as call
use Rattle.steps_base.specs.declared.owners.Owners.{Owners}
use Rattle.steps_rwlock.specs.declared.purposes.RwLockPurpose.{RwLockPurpose}
use Rattle.steps_rwlock.specs.declared.purposes.RwLockPurpose.TheVariants as purpose
use Rattle.steps_rwlock.specs.RwLockBegins.{rwlock_first, has_access}
use Rattle.steps_rwlock.specs.RwLockSteps.{from_of}
use Rattle.steps_rwlock_fair.specs.declared.places.RwLockCallPlace.{RwLockCallPlace}
use Rattle.steps_rwlock_fair.specs.declared.places.RwLockCallPlace.TheVariants.{Plain, PeekQueue, HandOver}
use Rattle.steps_rwlock_fair.specs.declared.hand_over.HandOverAt.TheVariants as handing

-- a call that neither hands the lock over nor bumps
abbrev pub plain_first : RwLockPurpose → RwLockCallPlace
plain_first q = Plain (rwlock_first q)

-- an exclusive owner tries a word that tells of nobody else, and an upgradable one looks
abbrev pub release_first : Access → RwLockCallPlace
release_first access.Shared = plain_first (purpose.Release access.Shared)
release_first access.Upgradable = HandOver access.Upgradable false handing.Load
release_first access.Exclusive = HandOver access.Exclusive false (handing.Free 8)

abbrev pub call_first : RwLockCall → RwLockCallPlace
call_first (call.Enter x how) = plain_first (purpose.Enter x how)
call_first (call.Release x) = plain_first (purpose.Release x)
call_first (call.Downgrade d) = plain_first (purpose.Downgrade d)
call_first (call.Upgrade how) = plain_first (purpose.Upgrade how)
call_first (call.ReleaseFair x) = release_first x
call_first (call.Bump x) = PeekQueue x

-- whether a thread has the right that the call needs
abbrev pub call_right : RwLockCall → ℕ → Owners → ℕ → Bool
call_right (call.Enter x how) t owners shares = true
call_right (call.Release x) t owners shares = has_access x t owners shares
call_right (call.Downgrade d) t owners shares = has_access (from_of d) t owners shares
call_right (call.Upgrade how) t owners shares = has_access access.Upgradable t owners shares
call_right (call.ReleaseFair x) t owners shares = has_access x t owners shares
call_right (call.Bump x) t owners shares = has_access x t owners shares
