-- The waiters that a requeue takes, moves and leaves.
use Rattle.std.specs.Prelude.{ℕ, List, Option, None, ◌++◌, map, take, drop}
use Rattle.core_base.specs.Lines.{waiter, line, without_first, without_key, first_of}
use Rattle.core_base.specs.declared.requeues.Requeue.{Requeue}
use Rattle.core_base.specs.declared.requeues.Requeue.TheVariants.{One, All, TakeOneMoveRest}
use Rattle.core_base.specs.declared.wants.Waiter.{Waiter}
use Rattle.core_base.specs.declared.wants.Want.TheVariants.{Exclusive}

-- the waiters taken of a line
abbrev pub taken_by : Requeue → List Waiter → Option ℕ
taken_by TakeOneMoveRest line = first_of line
taken_by _ line = None

-- the waiters of a line that are moved
abbrev pub moved_by : Requeue → List Waiter → List Waiter
moved_by One line = take 1 line
moved_by All line = line
moved_by TakeOneMoveRest line = drop 1 line

-- the list without those that are taken or moved of the line of a key
abbrev pub left_by : Requeue → ℕ → List Waiter → List Waiter
left_by One key waiters = without_first key waiters
left_by _ key waiters = without_key key waiters

-- waiters, after their move to a key
abbrev pub moved_to : ℕ → List Waiter → List Waiter
moved_to key waiters = map (λ (x : Waiter). waiter key x.thread Exclusive) waiters

-- threads that stand under a key and want to own alone
abbrev pub standing : ℕ → List ℕ → List Waiter
standing key threads = map (λ (thread : ℕ). waiter key thread Exclusive) threads

-- the list after a requeue: a thread that was moved stands after the last of another key, and wants to own
-- alone
abbrev pub requeued : Requeue → ℕ → ℕ → List Waiter → List Waiter
requeued op from to waiters =
    left_by op from waiters ++ moved_to to (moved_by op (line from waiters))
