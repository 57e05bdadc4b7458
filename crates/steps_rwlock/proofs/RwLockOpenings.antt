-- The first places of the calls of a reader-writer lock.
use Rattle.std.proofs.Common.{ℕ, Bool, false, Option, Some, None, ◌≡◌, refl, ap}
use Rattle.core_base.specs.declared.wants.Want.TheVariants.{Exclusive, Upgradable, Shared}
use Rattle.spec_locks.specs.declared.calls.Access.TheVariants as access
use Rattle.spec_locks.specs.declared.calls.Downgrade.TheVariants as downgrade
use Rattle.spec_locks.specs.declared.calls.Patience.TheVariants.{Patient, Timed, Try}
use Rattle.spec_locks.specs.Locks.{Rights}
use Rattle.spec_locks.specs.Purposes.{Blank, CondvarMemory}
use Rattle.spec_locks.specs.Sites.{Claim, Has, Role, idle}
use Rattle.steps_base.specs.Locations.{Location, location_by, nowhere}
use Rattle.steps_base.specs.Profiles.{Profile}
use Rattle.steps_rwlock.specs.declared.purposes.RwLockPurpose.TheVariants.{Enter, Release, Downgrade, Upgrade}
use Rattle.steps_rwlock.specs.RwLockOpenings.{IsOpeningRow, RwLockCallsOpen}
use Rattle.steps_rwlock.proofs.RwLockStands.{unwoken_fresh}

-- what a row says of a call that has done nothing: its role, its location, whether it is late, gave up and
-- failed, what it recalls, and whether it retries and is released
abbrev pub Told : Type 0
Told = Role × Location × Bool × Bool × Bool × CondvarMemory × Bool × Bool

abbrev pub told : Profile → Told
told row =
    (row.role, location_by row, row.late, row.gave_up, row.failed, row.recalls, row.retries, row.released)

abbrev pub opens : {row : Profile} (claims : Option Claim)
    → told row ≡ (record idle { claims = claims }, nowhere, false, false, false, Blank, false, false)
    → ((l : ℕ) (rights : ℕ → Rights) → row.former l rights ≡ rights) → IsOpeningRow row
opens claims e former = record {
  claims = claims;
  role = ap (λ x. x.0) e;
  location = ap (λ x. x.1) e;
  late = ap (λ x. x.2) e;
  gave_up = ap (λ x. x.3) e;
  failed = ap (λ x. x.4) e;
  recalls = ap (λ x. x.5) e;
  retries = ap (λ x. x.6) e;
  released = ap (λ x. x.7) e;
  former = former;
}

pub rwlock_calls_open : RwLockCallsOpen
rwlock_calls_open a (Enter access.Exclusive how) = record {
  stands = record { place = tt; fresh = unwoken_fresh how; decided = tt };
  opening = opens None refl (λ l rights. refl);
}
rwlock_calls_open a (Enter access.Shared how) = record {
  stands = record { place = tt; fresh = unwoken_fresh how; decided = tt };
  opening = opens None refl (λ l rights. refl);
}
rwlock_calls_open a (Enter access.Upgradable how) = record {
  stands = record { place = tt; fresh = unwoken_fresh how; decided = tt };
  opening = opens None refl (λ l rights. refl);
}
rwlock_calls_open a (Release access.Exclusive) = record {
  stands = record { place = tt; fresh = tt; decided = tt };
  opening = opens (Some (Has Exclusive)) refl (λ l rights. refl);
}
rwlock_calls_open a (Release access.Upgradable) = record {
  stands = record { place = tt; fresh = tt; decided = tt };
  opening = opens (Some (Has Upgradable)) refl (λ l rights. refl);
}
rwlock_calls_open a (Release access.Shared) = record {
  stands = record { place = tt; fresh = tt; decided = tt };
  opening = opens (Some (Has Shared)) refl (λ l rights. refl);
}
rwlock_calls_open a (Downgrade downgrade.ToShared) = record {
  stands = record { place = tt; fresh = tt; decided = tt };
  opening = opens (Some (Has Exclusive)) refl (λ l rights. refl);
}
rwlock_calls_open a (Downgrade downgrade.ToUpgradable) = record {
  stands = record { place = tt; fresh = tt; decided = tt };
  opening = opens (Some (Has Exclusive)) refl (λ l rights. refl);
}
rwlock_calls_open a (Downgrade downgrade.UpgradableToShared) = record {
  stands = record { place = tt; fresh = tt; decided = tt };
  opening = opens (Some (Has Upgradable)) refl (λ l rights. refl);
}
rwlock_calls_open a (Upgrade Try) = record {
  stands = record { place = tt; fresh = refl; decided = tt };
  opening = opens (Some (Has Upgradable)) refl (λ l rights. refl);
}
rwlock_calls_open a (Upgrade Patient) = record {
  stands = record { place = refl; fresh = tt; decided = tt };
  opening = opens (Some (Has Upgradable)) refl (λ l rights. refl);
}
rwlock_calls_open a (Upgrade Timed) = record {
  stands = record { place = refl; fresh = tt; decided = tt };
  opening = opens (Some (Has Upgradable)) refl (λ l rights. refl);
}
