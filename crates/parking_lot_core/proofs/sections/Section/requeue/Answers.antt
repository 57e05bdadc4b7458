use Rattle.std.proofs.Common.{◌∙◌, ap, length}
use Rattle.core_base.specs.Requeues.{moved_by, taken_by}
use Rattle.core_queues.proofs.Places.{same_line}
use Rattle.core_queues.specs.Wants.{taken_in_line, wants_of}
use Rattle.core_queues.proofs.Halves.{requeued_lines}
use Rattle.parking_lot_core.specs.Sections.{waiting_in}
use Rattle.parking_lot_core.proofs.sections.Section.requeue.Goals as goal

pub returns-clause-first : goal.returns-clause-first
returns-clause-first c = let here = same_line (waiting_in c.turn_to.new.self) (waiting_in c.args.self.now)
    c.args.from c.turn_to.ensures.lines in
    c.move_waiters-first.ensures.first ∙ ap (taken_by c.args.op) here

pub returns-clause-wants : goal.returns-clause-wants
returns-clause-wants c = let here = same_line (waiting_in c.turn_to.new.self) (waiting_in c.args.self.now)
    c.args.from c.turn_to.ensures.lines in
    c.move_waiters-first.ensures.wants ∙ ap (λ l. wants_of (taken_in_line c.args.op l)) here

pub returns-clause-moved : goal.returns-clause-moved
returns-clause-moved c = let here = same_line (waiting_in c.turn_to.new.self) (waiting_in c.args.self.now)
    c.args.from c.turn_to.ensures.lines in (
      c.move_waiters-first.ensures.moved.0 ∙ ap (λ l. length (moved_by c.args.op l)) here,
      c.move_waiters-first.ensures.moved.1,
    )

pub returns-clause-lines : goal.returns-clause-lines
returns-clause-lines c = c.move_waiters-first.ensures.lines ∙ requeued_lines c.args.op c.args.from c.args.to
    (waiting_in c.turn_to.new.self) (waiting_in c.args.self.now) c.turn_to.ensures.lines
