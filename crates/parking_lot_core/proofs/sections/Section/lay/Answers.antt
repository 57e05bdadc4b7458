use Rattle.std.proofs.Common.{◌≡◌, rules}
use Rattle.std.specs.Sync.Mutex.{mutex_guard_value}
use Rattle.core_queues.specs.Places.{IsSameBucket}
use Rattle.parking_lot_core.proofs.Pairs.{alone_still, apart_same, two_still}
use Rattle.parking_lot_core.proofs.sections.Section.lay.Goals as goal

pub invariant_of-self-clause-alone : goal.invariant_of-self-clause-alone
invariant_of-self-clause-alone g c = let self = c.args.self.now in
    let same : IsSameBucket (mutex_guard_value self.first) c.note_right.new.self = search rules in
    λ none. alone_still self.keys (mutex_guard_value self.first) c.note_right.new.self same (self.alone none)

pub invariant_of-self-clause-two : goal.invariant_of-self-clause-two
invariant_of-self-clause-two g c = let self = c.args.self.now in
    let same : IsSameBucket (mutex_guard_value self.first) c.note_right.new.self = search rules in
    λ guard is. two_still self.keys (mutex_guard_value self.first) (mutex_guard_value guard)
    c.note_right.new.self (mutex_guard_value guard) same (search rules) (self.two guard is)

pub invariant_of-self-clause-apart : goal.invariant_of-self-clause-apart
invariant_of-self-clause-apart g c = let self = c.args.self.now in
    let queues : c.note_right.new.self.queues ≡ (mutex_guard_value self.first).queues = search rules in
    λ nothing guard is. apart_same self.keys (mutex_guard_value self.first) c.note_right.new.self
    (mutex_guard_value guard) queues (self.apart nothing guard is)
