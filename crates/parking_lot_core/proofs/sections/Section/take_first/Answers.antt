use Rattle.std.proofs.Common.{◌≡◌, ◌∙◌, ap, rules, take}
use Rattle.std.specs.Sync.Mutex.{mutex_guard_value}
use Rattle.core_base.specs.Lines.{line, lines, first_of}
use Rattle.core_queues.specs.Buckets.{both}
use Rattle.core_queues.specs.Places.{IsSameBucket}
use Rattle.core_queues.specs.Wants.{wants_of}
use Rattle.core_queues.specs.declared.section_queues.SectionQueues.{SectionQueues}
use Rattle.core_queues.proofs.Halves.{line_old, side_first}
use Rattle.parking_lot_core.specs.Sections.{others_in, waiting_in}
use Rattle.parking_lot_core.proofs.Pairs.{alone_still, two_still}
use Rattle.parking_lot_core.proofs.sections.Section.take_first.Goals as goal

pub invariant_of-self-clause-alone : goal.invariant_of-self-clause-alone
invariant_of-self-clause-alone c = let turned = c.turn_to.new.self in
    let same : IsSameBucket (mutex_guard_value turned.first) c.take_first-first.new.self =
    rw (← c.deref_mut.ensures.value) c.take_first-first.ensures.same in
    λ none. alone_still turned.keys (mutex_guard_value turned.first) c.take_first-first.new.self same
    (turned.alone none)

pub invariant_of-self-clause-two : goal.invariant_of-self-clause-two
invariant_of-self-clause-two c = let turned = c.turn_to.new.self in
    let same : IsSameBucket (mutex_guard_value turned.first) c.take_first-first.new.self =
    rw (← c.deref_mut.ensures.value) c.take_first-first.ensures.same in
    λ guard is. two_still turned.keys (mutex_guard_value turned.first) (mutex_guard_value guard)
    c.take_first-first.new.self (mutex_guard_value guard) same (search rules) (turned.two guard is)

pub returns-clause-first : goal.returns-clause-first
returns-clause-first c = let turned = c.turn_to.new.self in let first = c.deref_mut.result.now in let old =
    waiting_in c.args.self.now in
    let same : lines (both first.queues.waiters (others_in turned)) ≡ lines old =
    ap (λ (q : SectionQueues). lines (both q.queues.waiters (others_in turned))) c.deref_mut.ensures.value
    ∙ c.turn_to.ensures.lines in
    let here : line c.args.key first.queues.waiters ≡ line c.args.key old =
    line_old c.args.key first.queues.waiters old (others_in turned) c.turn_to.ensures.none same in
    c.take_first-first.ensures.first ∙ ap first_of here

pub returns-clause-wants : goal.returns-clause-wants
returns-clause-wants c = let turned = c.turn_to.new.self in let first = c.deref_mut.result.now in let old =
    waiting_in c.args.self.now in
    let same : lines (both first.queues.waiters (others_in turned)) ≡ lines old =
    ap (λ (q : SectionQueues). lines (both q.queues.waiters (others_in turned))) c.deref_mut.ensures.value
    ∙ c.turn_to.ensures.lines in
    let here : line c.args.key first.queues.waiters ≡ line c.args.key old =
    line_old c.args.key first.queues.waiters old (others_in turned) c.turn_to.ensures.none same in
    c.take_first-first.ensures.wants ∙ ap (λ l. wants_of (take 1 l)) here

pub returns-clause-lines : goal.returns-clause-lines
returns-clause-lines c = let turned = c.turn_to.new.self in let first = c.deref_mut.result.now in let old =
    waiting_in c.args.self.now in
    let same : lines (both first.queues.waiters (others_in turned)) ≡ lines old =
    ap (λ (q : SectionQueues). lines (both q.queues.waiters (others_in turned))) c.deref_mut.ensures.value
    ∙ c.turn_to.ensures.lines in
    side_first c.args.key first.queues.waiters c.take_first-first.new.self.queues.waiters old
    (others_in turned) c.turn_to.ensures.none same c.take_first-first.ensures.lines
