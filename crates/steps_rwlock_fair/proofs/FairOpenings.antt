-- The first places of the calls of a reader-writer lock.
use Rattle.std.proofs.Common.{ℕ, true, Option, Some, None, not, ◌==◌, ◌≡◌, ◌≤◌, refl, ap, arith}
use Rattle.std.proofs.lemmas.Bool.{eqb-true}
use Rattle.std.proofs.lemmas.Bool.Decides.{nat_tests}
use Rattle.core_base.specs.declared.wants.Want.TheVariants.{Exclusive, Upgradable, Shared}
use Rattle.spec_locks.specs.declared.calls.Access.TheVariants as access
use Rattle.spec_locks.specs.declared.calls.Downgrade.TheVariants as downgrade
use Rattle.spec_locks.specs.declared.calls.Patience.TheVariants.{Patient, Timed, Try}
use Rattle.spec_locks.specs.declared.calls.RwLockCall.TheVariants as call
use Rattle.steps_base.specs.Owners.{is_thread}
use Rattle.spec_locks.specs.Sites.{Has}
use Rattle.steps_rwlock.specs.declared.purposes.RwLockPurpose.TheVariants as purpose
use Rattle.steps_rwlock.proofs.RwLockOpenings.{opens, rwlock_calls_open}
use Rattle.steps_rwlock_fair.specs.FairLaws.{CallsOpen}

owner_is : (t : ℕ) (o : Option ℕ) → is_thread t o ≡ true → o ≡ Some t
owner_is t None h = absurd cc
owner_is t (Some u) h = ap Some (eqb-true u t h)

some_shares : (n : ℕ) → not (n == 0) ≡ true → 1 ≤ n
some_shares n h = grind (arith, nat_tests)

pub calls_open : CallsOpen
calls_open a (call.Enter access.Exclusive how) = record {
  stands = (rwlock_calls_open a (purpose.Enter access.Exclusive how)).stands;
  purpose = λ l. refl;
  opening = opens None refl (λ l rights. refl);
  has = λ t shared o main second taken h. tt;
}
calls_open a (call.Enter access.Shared how) = record {
  stands = (rwlock_calls_open a (purpose.Enter access.Shared how)).stands;
  purpose = λ l. refl;
  opening = opens None refl (λ l rights. refl);
  has = λ t shared o main second taken h. tt;
}
calls_open a (call.Enter access.Upgradable how) = record {
  stands = (rwlock_calls_open a (purpose.Enter access.Upgradable how)).stands;
  purpose = λ l. refl;
  opening = opens None refl (λ l rights. refl);
  has = λ t shared o main second taken h. tt;
}
calls_open a (call.Release access.Shared) = record {
  stands = (rwlock_calls_open a (purpose.Release access.Shared)).stands;
  purpose = λ l. refl;
  opening = opens (Some (Has Shared)) refl (λ l rights. refl);
  has = λ t shared o main second taken h. some_shares _ h;
}
calls_open a (call.Release access.Upgradable) = record {
  stands = (rwlock_calls_open a (purpose.Release access.Upgradable)).stands;
  purpose = λ l. refl;
  opening = opens (Some (Has Upgradable)) refl (λ l rights. refl);
  has = λ t shared o main second taken h. owner_is t o.upgradable h;
}
calls_open a (call.Release access.Exclusive) = record {
  stands = (rwlock_calls_open a (purpose.Release access.Exclusive)).stands;
  purpose = λ l. refl;
  opening = opens (Some (Has Exclusive)) refl (λ l rights. refl);
  has = λ t shared o main second taken h. owner_is t o.exclusive h;
}
calls_open a (call.Downgrade downgrade.ToShared) = record {
  stands = (rwlock_calls_open a (purpose.Downgrade downgrade.ToShared)).stands;
  purpose = λ l. refl;
  opening = opens (Some (Has Exclusive)) refl (λ l rights. refl);
  has = λ t shared o main second taken h. owner_is t o.exclusive h;
}
calls_open a (call.Downgrade downgrade.ToUpgradable) = record {
  stands = (rwlock_calls_open a (purpose.Downgrade downgrade.ToUpgradable)).stands;
  purpose = λ l. refl;
  opening = opens (Some (Has Exclusive)) refl (λ l rights. refl);
  has = λ t shared o main second taken h. owner_is t o.exclusive h;
}
calls_open a (call.Downgrade downgrade.UpgradableToShared) = record {
  stands = (rwlock_calls_open a (purpose.Downgrade downgrade.UpgradableToShared)).stands;
  purpose = λ l. refl;
  opening = opens (Some (Has Upgradable)) refl (λ l rights. refl);
  has = λ t shared o main second taken h. owner_is t o.upgradable h;
}
calls_open a (call.Upgrade Try) = record {
  stands = (rwlock_calls_open a (purpose.Upgrade Try)).stands;
  purpose = λ l. refl;
  opening = opens (Some (Has Upgradable)) refl (λ l rights. refl);
  has = λ t shared o main second taken h. owner_is t o.upgradable h;
}
calls_open a (call.Upgrade Patient) = record {
  stands = (rwlock_calls_open a (purpose.Upgrade Patient)).stands;
  purpose = λ l. refl;
  opening = opens (Some (Has Upgradable)) refl (λ l rights. refl);
  has = λ t shared o main second taken h. owner_is t o.upgradable h;
}
calls_open a (call.Upgrade Timed) = record {
  stands = (rwlock_calls_open a (purpose.Upgrade Timed)).stands;
  purpose = λ l. refl;
  opening = opens (Some (Has Upgradable)) refl (λ l rights. refl);
  has = λ t shared o main second taken h. owner_is t o.upgradable h;
}
calls_open a (call.ReleaseFair access.Shared) = record {
  stands = (rwlock_calls_open a (purpose.Release access.Shared)).stands;
  purpose = λ l. refl;
  opening = opens (Some (Has Shared)) refl (λ l rights. refl);
  has = λ t shared o main second taken h. some_shares _ h;
}
calls_open a (call.ReleaseFair access.Upgradable) = record {
  stands = tt;
  purpose = λ l. refl;
  opening = opens (Some (Has Upgradable)) refl (λ l rights. refl);
  has = λ t shared o main second taken h. owner_is t o.upgradable h;
}
calls_open a (call.ReleaseFair access.Exclusive) = record {
  stands = refl;
  purpose = λ l. refl;
  opening = opens (Some (Has Exclusive)) refl (λ l rights. refl);
  has = λ t shared o main second taken h. owner_is t o.exclusive h;
}
calls_open a (call.Bump access.Shared) = record {
  stands = tt;
  purpose = λ l. refl;
  opening = opens (Some (Has Shared)) refl (λ l rights. refl);
  has = λ t shared o main second taken h. some_shares _ h;
}
calls_open a (call.Bump access.Upgradable) = record {
  stands = tt;
  purpose = λ l. refl;
  opening = opens (Some (Has Upgradable)) refl (λ l rights. refl);
  has = λ t shared o main second taken h. owner_is t o.upgradable h;
}
calls_open a (call.Bump access.Exclusive) = record {
  stands = tt;
  purpose = λ l. refl;
  opening = opens (Some (Has Exclusive)) refl (λ l rights. refl);
  has = λ t shared o main second taken h. owner_is t o.exclusive h;
}
