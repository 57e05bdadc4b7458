use Rattle.std.proofs.Common.{◌≡◌, ◌∙◌, length}
use Rattle.core_base.specs.Lines.{IsSeated}
use Rattle.core_queues.proofs.Walks.{none_marked}
use Rattle.core_queues.proofs.section_queues.SectionQueues.doubled.Goals as goal

pub returns-clause-apart : goal.returns-clause-apart
returns-clause-apart c = let self = c.args.self.now in
    let seats : length c.mark_all.new.marks.items ≡ self.seats = c.mark_all.ensures.length ∙ self.marked in
    let seated : IsSeated self.queues.waiters (length c.mark_all.new.marks.items) = rw seats
    self.of_bucket.seated in
    let marked = rw c.waiters-others.ensures.all at c.mark_all.ensures.marked in
    let unmarked = rw (c.waiters.ensures.all, c.deref.ensures.value) at c.first_marked-doubled.ensures in
    λ none. none_marked c.args.key self.queues.waiters c.args.other.now.queues.waiters
    c.mark_all.new.marks.items seated marked
    (unmarked none)
