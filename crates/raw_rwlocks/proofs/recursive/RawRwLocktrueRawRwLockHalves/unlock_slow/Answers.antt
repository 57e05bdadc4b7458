use Rattle.raw_rwlocks.proofs.RwLockEntries.{went}
use Rattle.raw_rwlocks.proofs.recursive.RawRwLocktrueRawRwLockHalves.unlock_slow.Goals as goal

pub returns-clause-over : goal.returns-clause-over
returns-clause-over g c = λ before begun.
    let released = c.release_slow.ensures.over before begun in
    went c.args.self.now.lock c.args.access before c.release_slow.new.token released
