use Rattle.std.proofs.Common.{rules, ◌≡◌, Some, Ok}
use Rattle.spec_locks.specs.declared.calls.Access.TheVariants.{Exclusive}
use Rattle.raw_rwlocks.proofs.RwLockEntries.{came_in}
use Rattle.raw_rwlocks.proofs.recursive.RawRwLocktrueRawRwLockHalves.lock_exclusive_slow.Goals as goal

pub returns-clause-over : goal.returns-clause-over
returns-clause-over g c = λ before begun.
    let is : c.enter_slow.result ≡ Ok (Some c.in-Ok-Some.right) = search rules in
    let entered = c.enter_slow.ensures.entered before begun in
    came_in c.args.self.now.lock Exclusive before c.enter_slow.new.token c.in-Ok-Some.right is entered
