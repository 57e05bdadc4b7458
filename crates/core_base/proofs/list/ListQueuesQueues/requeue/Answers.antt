use Rattle.std.proofs.Common.{refl, rules}
use Rattle.core_base.specs.declared.requeues.Requeue.TheVariants.{One, All, TakeOneMoveRest}
use Rattle.core_base.proofs.Moves.{line_without_first, take_then_all}
use Rattle.core_base.proofs.Seats.{first_seated, moved_seated, seated_requeued}
use Rattle.core_base.proofs.list.ListQueuesQueues.requeue.Goals as goal

pub invariant_of-self : goal.invariant_of-self
invariant_of-self c = rw (c.move_first-moved.ensures.capacity, c.move_first-moved.ensures.waiting)
    (c.self.invariant.0, seated_requeued One _ _ _ _ c.self.invariant.1)

pub invariant_of-self-in-All : goal.invariant_of-self-in-All
invariant_of-self-in-All c = rw (c.move_all.ensures.capacity, c.move_all.ensures.waiting) (
  c.self.invariant.0,
  seated_requeued All _ _ _ _ c.self.invariant.1,
)

pub invariant_of-self-in-TakeOneMoveRest : goal.invariant_of-self-in-TakeOneMoveRest
invariant_of-self-in-TakeOneMoveRest c =
    let moved = take_then_all c.args.from c.args.to c.self.inside.waiters.items in
    rw (
      c.move_all-in-TakeOneMoveRest.ensures.capacity,
      c.take_under-first.ensures.capacity,
      c.move_all-in-TakeOneMoveRest.ensures.waiting,
      c.take_under-first.ensures.waiting,
      moved,
    )
    (c.self.invariant.0, seated_requeued TakeOneMoveRest _ _ _ _ c.self.invariant.1)

pub returns-in-TakeOneMoveRest-clause-seated : goal.returns-in-TakeOneMoveRest-clause-seated
returns-in-TakeOneMoveRest-clause-seated c =
    rw (← c.self.view_is) (first_seated _ _ _ _ c.self.invariant.1 c.take_under-first.ensures.first)

pub returns-in-One-clause-number : goal.returns-in-One-clause-number
returns-in-One-clause-number c = rw (c.in-One.is, ← c.self.view_is) (moved_seated One c.args.from
    c.self.inside.capacity c.self.inside.waiters.items _ c.self.invariant.1 (search rules))

pub returns-in-All-clause-number : goal.returns-in-All-clause-number
returns-in-All-clause-number c = rw (c.in-All.is, ← c.self.view_is) (moved_seated All c.args.from
    c.self.inside.capacity c.self.inside.waiters.items _ c.self.invariant.1 c.move_all.ensures.number)

pub returns-in-TakeOneMoveRest-clause-number : goal.returns-in-TakeOneMoveRest-clause-number
returns-in-TakeOneMoveRest-clause-number c =
    let left = line_without_first c.args.from c.self.inside.waiters.items in
    rw (c.in-TakeOneMoveRest.is, ← c.self.view_is) (moved_seated TakeOneMoveRest c.args.from
    c.self.inside.capacity c.self.inside.waiters.items _ c.self.invariant.1
    (rw (c.move_all-in-TakeOneMoveRest.ensures.number, c.take_under-first.ensures.waiting, left) refl))

pub returns-in-TakeOneMoveRest-clause-lines : goal.returns-in-TakeOneMoveRest-clause-lines
returns-in-TakeOneMoveRest-clause-lines c =
    let moved = take_then_all c.args.from c.args.to c.self.inside.waiters.items in
    rw (
      c.in-TakeOneMoveRest.is,
      ← c.self.view_is,
      c.move_all-in-TakeOneMoveRest.ensures.waiting,
      c.take_under-first.ensures.waiting,
      moved,
    ) refl
