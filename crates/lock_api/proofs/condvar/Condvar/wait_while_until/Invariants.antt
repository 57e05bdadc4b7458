use Rattle.std.proofs.Common.{◌≡◌, true}
use denote.Param.Always.{always_mut}
use Rattle.std.specs.Iterator.Runs.{CallKeepsClosure}
use Rattle.core_clocks.specs.Clocks.{HasPassed}
use Rattle.lock_api.specs.Conditions.{WaitedOrNot}
use Rattle.lock_api.specs.Guards.{lock_of}
use Rattle.lock_api.proofs.WaitsOn.{WaitedSoFar}
use Rattle.lock_api.proofs.condvar.Condvar.wait_while_until.Given as goal

abbrev pub invariant-loop : goal.invariant-loop
invariant-loop g l = record {
  turns : (goal.iterator-loop g).can_next l.iterator' × (goal.iterator-loop g).is_finite l.iterator';
  thread : g.R.RawMutex.RawMutex.is_token_of (g.R.RawCondvar.lot_of l.self) l.token;
  keeps_rights : WaitedOrNot g.R.RawMutex.RawMutex.keeps_rights l.fn.token l.token;
  waits : WaitedSoFar (g.R.RawCondvar.waited l.fn.self (lock_of l.fn.guard) true) l.late l.fn.token l.token;
  guard : lock_of l.guard ≡ lock_of l.fn.guard;
  passed : l.late ≡ true → HasPassed (g.C.Clock.tells l.clock) l.deadline;
  callable : always_mut g.F.FnMut l.condition;
  kept : CallKeepsClosure g.F.FnMut l.initial.condition → l.condition ≡ l.initial.condition;
}
