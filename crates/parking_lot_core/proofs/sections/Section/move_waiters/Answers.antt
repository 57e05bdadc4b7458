use Rattle.std.proofs.Common.{rules}
use Rattle.std.specs.Sync.Mutex.{mutex_guard_value}
use Rattle.core_queues.specs.Places.{IsSameBucket}
use Rattle.parking_lot_core.specs.Pairs.{AreBuckets}
use Rattle.parking_lot_core.proofs.Pairs.{for_some, there_then, two_still}
use Rattle.parking_lot_core.proofs.sections.Section.move_waiters.Goals as goal

pub requeue_beside-first-requires-clause-keys : goal.requeue_beside-first-requires-clause-keys
requeue_beside-first-requires-clause-keys c = let self = c.args.self.now in let keys = c.requires.keys in
    rw (c.deref_mut.ensures.value, c.deref_mut-in-Some.ensures.value) (
      c.requires.here,
      there_then self.keys (mutex_guard_value self.first) (mutex_guard_value c.in-Some.other) c.args.from
          c.args.to (self.two c.in-Some.other c.in-Some.is) keys.0 keys.1 keys.2 c.requires.here,
      keys.2,
    )

pub requeue_beside-first-requires-clause-two : goal.requeue_beside-first-requires-clause-two
requeue_beside-first-requires-clause-two c = let self = c.args.self.now in
    rw (c.deref_mut.ensures.value, c.deref_mut-in-Some.ensures.value) (self.two c.in-Some.other
    c.in-Some.is).0

pub invariant_of-self-clause-two : goal.invariant_of-self-clause-two
invariant_of-self-clause-two c = let self = c.args.self.now in let moved = c.requeue_beside-first in
    let one : IsSameBucket (mutex_guard_value self.first) moved.new.self = search rules in
    let other : IsSameBucket (mutex_guard_value c.in-Some.other) moved.new.other = search rules in
    for_some (λ guard. AreBuckets self.keys moved.new.self (mutex_guard_value guard)) _
    (two_still self.keys (mutex_guard_value self.first) (mutex_guard_value c.in-Some.other) moved.new.self
    moved.new.other one other (self.two c.in-Some.other c.in-Some.is))
