-- The wants of the waiters of a line.
use Rattle.std.specs.Prelude.{List, [], map, take}
use Rattle.core_base.specs.declared.requeues.Requeue.{Requeue}
use Rattle.core_base.specs.declared.requeues.Requeue.TheVariants.{TakeOneMoveRest}
use Rattle.core_base.specs.declared.wants.Waiter.{Waiter}
use Rattle.core_base.specs.declared.wants.Want.{Want}

abbrev pub wants_of : List Waiter → List Want
wants_of waiters = map (λ (x : Waiter). x.want) waiters

-- the waiters of a line that a requeue takes
abbrev pub taken_in_line : Requeue → List Waiter → List Waiter
taken_in_line TakeOneMoveRest line = take 1 line
taken_in_line _ line = []
