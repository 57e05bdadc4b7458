use Rattle.std.proofs.Common.{rules}
use Rattle.std.specs.Sync.Mutex.{mutex_guard_value}
use Rattle.core_queues.specs.Places.{IsSameBucket, KeepApart}
use Rattle.parking_lot_core.specs.Pairs.{AreApartAt, AreBuckets}
use Rattle.parking_lot_core.proofs.Pairs.{apart_still, for_some, two_still}
use Rattle.parking_lot_core.proofs.sections.Section.append.Goals as goal

pub append_beside-requires-clause-two : goal.append_beside-requires-clause-two
append_beside-requires-clause-two c = let self = c.args.self.now in
    rw (c.deref_mut.ensures.value, c.deref_mut-in-Some.ensures.value)
    ((self.two c.in-Some.other c.in-Some.is).0, self.seated.1)

pub append_beside-requires-clause-key : goal.append_beside-requires-clause-key
append_beside-requires-clause-key c = let self = c.args.self.now in
    rw (c.deref_mut.ensures.value, c.deref_mut-in-Some.ensures.value)
    ((self.two c.in-Some.other c.in-Some.is).1.each c.args.key c.requires.key)

pub invariant_of-self-clause-two : goal.invariant_of-self-clause-two
invariant_of-self-clause-two c = let self = c.args.self.now in
    let one : IsSameBucket (mutex_guard_value self.first) c.append_beside.new.self = search rules in
    let other : IsSameBucket (mutex_guard_value c.in-Some.other) c.append_beside.new.other = search rules in
    for_some (λ guard. AreBuckets self.keys c.append_beside.new.self (mutex_guard_value guard)) _
    (two_still self.keys (mutex_guard_value self.first) (mutex_guard_value c.in-Some.other)
    c.append_beside.new.self c.append_beside.new.other one other (self.two c.in-Some.other c.in-Some.is))

pub invariant_of-self-clause-apart : goal.invariant_of-self-clause-apart
invariant_of-self-clause-apart c = let self = c.args.self.now in
    let keep : KeepApart (mutex_guard_value self.first) (mutex_guard_value c.in-Some.other)
    c.append_beside.new.self c.append_beside.new.other = rw (
      ← c.deref_mut.ensures.value,
      ← c.deref_mut-in-Some.ensures.value,
    ) c.append_beside.ensures.apart in
    λ nothing. for_some (λ guard. AreApartAt self.keys c.append_beside.new.self (mutex_guard_value guard)) _
    (apart_still self.keys (mutex_guard_value self.first) (mutex_guard_value c.in-Some.other)
    c.append_beside.new.self c.append_beside.new.other keep (self.apart nothing c.in-Some.other
    c.in-Some.is))
