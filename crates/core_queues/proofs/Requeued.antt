-- A requeue, one waiter after another, by the lines alone.
use Rattle.std.proofs.Common.{ℕ, ◌≡◌, ◌≢◌, ◌+◌, ◌≤◌, List, [], ◌∷◌, length, drop, take, refl, sym, ap, ◌∙◌}
use Rattle.std.proofs.Common.{arith}
use Rattle.core_base.specs.declared.wants.Waiter.{Waiter}
use Rattle.core_base.specs.declared.requeues.Requeue.{Requeue}
use Rattle.core_base.specs.declared.requeues.Requeue.TheVariants.{One, All, TakeOneMoveRest}
use Rattle.core_base.specs.Lines.{line, lines, without_first}
use Rattle.core_base.specs.Requeues.{moved_by, requeued}
use Rattle.core_base.proofs.Moves.{line_without_first, one_then_all, one_fewer, none_moves, take_then_all}
use Rattle.core_queues.proofs.Places.{same_line, all_moved}

pub one_less : (from to : ℕ) (old new : List Waiter) → from ≢ to → lines new
    ≡ lines (requeued One from to old) → 1 ≡ length (moved_by One (line from old)) → length (line from new)
    + 1 ≡ length (line from old)
one_less from to old new differ is one =
    omega (arith, ap length (same_line new (requeued One from to old) from is), one_fewer from to old differ)

pub still_all : (from to : ℕ) (old new : List Waiter) → from ≢ to → lines new
    ≡ lines (requeued One from to old) → lines (requeued All from to new) ≡ lines (requeued All from to old)
still_all from to old new differ is = all_moved from to new (requeued One from to old) is
    ∙ ap lines (one_then_all from to old differ)

pub all_done : (from to : ℕ) (old new : List Waiter) → lines new ≡ lines (requeued One from to old)
    → 0 ≡ length (moved_by One (line from old)) → lines new ≡ lines (requeued All from to old)
all_done from to old new is none = is ∙ ap lines (none_moves from to old (sym none))

pub none_left : (l : List Waiter) → 0 ≡ length (take 1 l) → length l ≡ 0
none_left [] none = refl
none_left (x ∷ xs) none = absurd (omega arith)

pub no_more_moved : (op : Requeue) (l : List Waiter) → length (moved_by op l) ≤ length l
no_more_moved One [] = omega arith
no_more_moved One (x ∷ xs) = omega arith
no_more_moved All l = omega arith
no_more_moved TakeOneMoveRest [] = omega arith
no_more_moved TakeOneMoveRest (x ∷ xs) = omega arith

-- the first was taken, and the rest is moved
pub rest_moved : (from to : ℕ) (old mid new : List Waiter) → lines mid ≡ lines (without_first from old)
    → lines new ≡ lines (requeued All from to mid) → lines new ≡ lines (requeued TakeOneMoveRest from to old)
rest_moved from to old mid new taken moved = moved ∙ all_moved from to mid (without_first from old) taken
    ∙ ap lines (take_then_all from to old)

pub rest_number : (from : ℕ) (old mid : List Waiter) → lines mid ≡ lines (without_first from old)
    → length (line from mid) ≡ length (drop 1 (line from old))
rest_number from old mid taken = ap length (same_line mid (without_first from old) from taken
    ∙ line_without_first from old)
