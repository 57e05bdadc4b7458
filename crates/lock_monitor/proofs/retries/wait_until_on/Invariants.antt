use Rattle.std.proofs.Common.{◌≡◌, true}
use Rattle.lock_api.specs.Conditions.{WaitedOrNot}
use Rattle.lock_api.specs.Guards.{lock_of}
use Rattle.lock_api.specs.Waits.{WaitsAnyTimes}
use Rattle.spec_locks.specs.declared.outcomes.Answer.TheVariants as answers
use Rattle.lock_monitor.proofs.retries.wait_until_on.Given as goal

abbrev pub invariant-loop : goal.invariant-loop
invariant-loop g l = record {
  turns : (goal.iterator-loop g).can_next l.iterator' × (goal.iterator-loop g).is_finite l.iterator';
  thread : g.R.RawMutex.RawMutex.is_token_of (g.R.RawCondvar.lot_of l.condvar) l.token;
  keeps_rights : WaitedOrNot g.R.RawMutex.RawMutex.keeps_rights l.fn.token l.token;
  refused : WaitsAnyTimes (g.R.RawCondvar.waited l.fn.condvar (lock_of l.fn.guard) true answers.TwoMutexes)
      l.fn.token l.token;
  guard : lock_of l.guard ≡ lock_of l.fn.guard;
}
