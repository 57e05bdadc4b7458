use Rattle.std.proofs.Common.{◌≢◌, rules}
use Rattle.parking_lot_core.specs.declared.tokens.Token.{Token}
use Rattle.run_base.specs.Courses.{steps_in}
use Rattle.run_base.proofs.Courses.{steps_since}
use Rattle.run_locks.specs.CondvarCalls.{HasLooked}
use Rattle.run_locks.proofs.CondvarNotifying.{some_wait, tells_moved}
use Rattle.run_locks.proofs.condvar_calls.notify_slow.Goals as goal

pub returns-clause-record : goal.returns-clause-record
returns-clause-record g c = let mutex = c.mutex_shown-mutex.result in
    tells_moved c.args.condvar.number mutex.number c.args.all c.args.seen c.notify_shown.result
    c.args.token.now c.notify_shown.new.token c.mutex_shown-mutex.ensures.2 (
      steps_in c.notify_shown.ensures.path.0,
      steps_since _ _ c.notify_shown.ensures.path.0 c.notify_shown.ensures.path.1,
    )
    c.notify_shown.ensures.over.1

pub returns-clause-path : goal.returns-clause-path
returns-clause-path g c = let mutex = c.mutex_shown-mutex.result in
    let ne : mutex.number ≢ c.args.condvar.number = search rules in
    λ (before : Token) (looked : HasLooked c.args.lot.now.words.count c.args.condvar.number c.args.seen before
    c.args.token.now).
    some_wait c.args.condvar.number c.args.all c.args.seen c.notify_shown.result before c.args.token.now
    looked.0 looked.3 looked.4
    mutex.number ne c.mutex_shown-mutex.ensures.2 c.notify_shown.new.token c.notify_shown.ensures.path
