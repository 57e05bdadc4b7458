use Rattle.std.proofs.Common.{rules, ◌≡◌, Some, Ok}
use Rattle.spec_locks.specs.declared.calls.Access.TheVariants.{Upgradable}
use Rattle.raw_rwlocks.proofs.RwLockEntries.{came_in}
use Rattle.raw_rwlocks.proofs.recursive_upgrade.RawRwLocktrueRawRwLockUpgrade.lock_upgradable_slow.Goals
    as goal

pub returns-in-Ok-Some-clause-over : goal.returns-in-Ok-Some-clause-over
returns-in-Ok-Some-clause-over g c = λ before begun.
    let is : c.enter_slow.result ≡ Ok (Some c.in-Ok-Some.right) = search rules in
    let entered = c.enter_slow.ensures.entered before begun in
    let lock = c.args.self.now.lock in
    let came = came_in lock Upgradable before c.enter_slow.new.token c.in-Ok-Some.right is entered in
    (came.0, came.1, tt)
