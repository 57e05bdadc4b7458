use Rattle.std.proofs.Common.{◌≡◌, sym, []}
use Rattle.core_base.specs.Lines.{line}
use Rattle.core_queues.proofs.InBuckets.{bucket_first}
use Rattle.core_queues.proofs.Halves.{apart_moved, in_another, moved_over, none_over}
use Rattle.core_queues.proofs.section_queues.SectionQueues.move_first.Goals as goal

pub invariant_of-self-clause-of_bucket : goal.invariant_of-self-clause-of_bucket
invariant_of-self-clause-of_bucket c = let self = c.args.self.now in bucket_first self.bits self.number
    self.seats c.args.from self.queues.waiters _ self.of_bucket c.take_first.ensures.lines

pub returns-in_default-clause-lines : goal.returns-in_default-clause-lines
returns-in_default-clause-lines c = let self = c.args.self.now in let other = c.args.other.now in let two =
    c.requires.two in
    let none : line c.args.from other.queues.waiters ≡ [] = in_another self.bits other.bits other.number
    other.seats c.args.from other.queues.waiters other.of_bucket self.number c.requires.keys.0 two.1 two.2
    in
    (none_over c.args.from c.args.to self.queues.waiters other.queues.waiters _ none
    c.in_default.ensures.first c.in_default.ensures.lines).1

pub returns-clause-lines : goal.returns-clause-lines
returns-clause-lines c = let self = c.args.self.now in let other = c.args.other.now in let two =
    c.requires.two in
    let none : line c.args.from other.queues.waiters ≡ [] = in_another self.bits other.bits other.number
    other.seats c.args.from other.queues.waiters other.of_bucket self.number c.requires.keys.0 two.1 two.2
    in
    moved_over c.args.from c.args.to c.in-Some.thread self.queues.waiters other.queues.waiters _ _ none
    c.requires.apart (sym c.in-Some.ensures.first) c.in-Some.ensures.lines c.append.ensures.lines

pub returns-clause-apart : goal.returns-clause-apart
returns-clause-apart c = let self = c.args.self.now in let other = c.args.other.now in
    λ _. apart_moved c.args.from c.args.to c.in-Some.thread self.queues.waiters other.queues.waiters _ _
    self.of_bucket.seated.once (sym c.in-Some.ensures.first) c.in-Some.ensures.lines
    c.append.ensures.lines c.requires.apart
