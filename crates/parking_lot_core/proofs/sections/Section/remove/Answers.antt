use Rattle.std.proofs.Common.{rules}
use Rattle.std.specs.Sync.Mutex.{mutex_guard_value}
use Rattle.core_queues.specs.Places.{IsSameBucket, KeepApart}
use Rattle.parking_lot_core.specs.Pairs.{AreApartAt, AreBuckets}
use Rattle.parking_lot_core.proofs.Pairs.{apart_still, for_some, two_still}
use Rattle.parking_lot_core.proofs.sections.Section.remove.Goals as goal

pub invariant_of-self-clause-two : goal.invariant_of-self-clause-two
invariant_of-self-clause-two c = let self = c.args.self.now in
    let one : IsSameBucket (mutex_guard_value self.first) c.remove_beside.new.self = search rules in
    let other : IsSameBucket (mutex_guard_value c.in-Some.other) c.remove_beside.new.other = search rules in
    for_some (λ guard. AreBuckets self.keys c.remove_beside.new.self (mutex_guard_value guard)) _
    (two_still self.keys (mutex_guard_value self.first) (mutex_guard_value c.in-Some.other)
    c.remove_beside.new.self c.remove_beside.new.other one other (self.two c.in-Some.other c.in-Some.is))

pub invariant_of-self-clause-apart : goal.invariant_of-self-clause-apart
invariant_of-self-clause-apart c = let self = c.args.self.now in
    let keep : KeepApart (mutex_guard_value self.first) (mutex_guard_value c.in-Some.other)
    c.remove_beside.new.self c.remove_beside.new.other = rw (
      ← c.deref_mut.ensures.value,
      ← c.deref_mut-in-Some.ensures.value,
    ) c.remove_beside.ensures.apart in
    λ nothing. for_some (λ guard. AreApartAt self.keys c.remove_beside.new.self (mutex_guard_value guard)) _
    (apart_still self.keys (mutex_guard_value self.first) (mutex_guard_value c.in-Some.other)
    c.remove_beside.new.self c.remove_beside.new.other keep (self.apart nothing c.in-Some.other
    c.in-Some.is))
