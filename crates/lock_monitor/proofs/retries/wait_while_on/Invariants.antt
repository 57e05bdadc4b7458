use Rattle.std.proofs.Common.{◌≡◌, false}
use denote.Param.Always.{always_mut}
use Rattle.std.specs.Iterator.Runs.{CallKeepsClosure}
use Rattle.lock_api.specs.Conditions.{WaitedOrNot}
use Rattle.lock_api.specs.Guards.{lock_of}
use Rattle.lock_monitor.specs.Conditions.{WaitsOften}
use Rattle.spec_locks.specs.declared.outcomes.Answer.TheVariants as answers
use Rattle.lock_monitor.proofs.retries.wait_while_on.Given as goal

abbrev pub invariant-loop : goal.invariant-loop
invariant-loop g l = record {
  turns : (goal.iterator-loop g).can_next l.iterator' × (goal.iterator-loop g).is_finite l.iterator';
  thread : g.R.RawMutex.RawMutex.is_token_of (g.R.RawCondvar.lot_of l.condvar) l.token;
  keeps_rights : WaitedOrNot g.R.RawMutex.RawMutex.keeps_rights l.fn.token l.token;
  waits : WaitsOften (g.R.RawCondvar.waited l.fn.condvar (lock_of l.fn.guard) false) answers.Ok l.fn.token
      l.token;
  guard : lock_of l.guard ≡ lock_of l.fn.guard;
  callable : always_mut g.F.FnMut l.condition;
  kept : CallKeepsClosure g.F.FnMut l.initial.condition → l.condition ≡ l.initial.condition;
}
