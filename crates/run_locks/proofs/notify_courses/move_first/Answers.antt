use Rattle.std.proofs.Common.{◌≡◌, Bool, true, false, refl, ap, rules}
use Rattle.steps_base.specs.declared.acts.Reply.TheVariants.{Requeued, Took}
use Rattle.steps_condvar.specs.CondvarSteps.{moved_one}
use Rattle.steps_condvar.specs.declared.notify.NotifyAt.TheVariants as notify
use Rattle.run_locks.specs.CondvarCourses.{notify_at}
use Rattle.run_base.proofs.Coming.{begins, comes, may_do, moves, named, takes_first}
use Rattle.run_locks.proofs.CondvarGoing.{one_moved, one_taken}
use Rattle.run_locks.proofs.notify_courses.move_first.Goals as goal

pub turn_requeue-none_left-requires : goal.turn_requeue-none_left-requires
turn_requeue-none_left-requires g c = let pair = c.args.pair in let at = notify_at pair.condvar pair.mutex
    false in
    let owned : c.args.locked ≡ true = search rules in
    let here = begins ⊥ c.args.lot.now pair.words (at (notify.Move c.args.locked)) c.args.token.now
    c.args.section c.requires in
    let there = named here (ap (λ (b : Bool). at (notify.Move b)) owned) in
    may_do there (moves c.main_key-from.ensures c.main_key-to.ensures)

pub clear_and_leave-requires : goal.clear_and_leave-requires
clear_and_leave-requires g c = let pair = c.args.pair in let at = notify_at pair.condvar pair.mutex false in
    let owned : c.args.locked ≡ true = search rules in
    let here = begins ⊥ c.args.lot.now pair.words (at (notify.Move c.args.locked)) c.args.token.now
    c.args.section c.requires in
    let there = named here (ap (λ (b : Bool). at (notify.Move b)) owned) in
    let none = c.turn_requeue-none_left.result.1 in
    let moved = comes there (Requeued c.turn_requeue-none_left.result.0 none) c.args.token.now
    c.turn_requeue-none_left.new.section
    c.turn_requeue-none_left.ensures.done (moves c.main_key-from.ensures c.main_key-to.ensures)
    (at (moved_one false none))
    (refl, one_moved pair.condvar pair.mutex c.turn_requeue-none_left.result.0 none) in
    moved.at

pub returns-then-locked : goal.returns-then-locked
returns-then-locked g c = let pair = c.args.pair in let at = notify_at pair.condvar pair.mutex false in
    let owned : c.args.locked ≡ true = search rules in
    let here = begins ⊥ c.args.lot.now pair.words (at (notify.Move c.args.locked)) c.args.token.now
    c.args.section c.requires in
    let there = named here (ap (λ (b : Bool). at (notify.Move b)) owned) in
    let none = c.turn_requeue-none_left.result.1 in
    let moved = comes there (Requeued c.turn_requeue-none_left.result.0 none) c.args.token.now
    c.turn_requeue-none_left.new.section
    c.turn_requeue-none_left.ensures.done (moves c.main_key-from.ensures c.main_key-to.ensures)
    (at (moved_one false none))
    (refl, one_moved pair.condvar pair.mutex c.turn_requeue-none_left.result.0 none) in
    moved.ends c.clear_and_leave.result c.clear_and_leave.new.token c.clear_and_leave.ensures

pub turn_take_first-any-requires : goal.turn_take_first-any-requires
turn_take_first-any-requires g c = let pair = c.args.pair in let at = notify_at pair.condvar pair.mutex false
    in
    let owned : c.args.locked ≡ false = search rules in
    let here = begins ⊥ c.args.lot.now pair.words (at (notify.Move c.args.locked)) c.args.token.now
    c.args.section c.requires in
    let there = named here (ap (λ (b : Bool). at (notify.Move b)) owned) in
    may_do there (takes_first c.main_key-from.ensures)

pub clear_and_leave-requires-2 : goal.clear_and_leave-requires-2
clear_and_leave-requires-2 g c = let pair = c.args.pair in let at = notify_at pair.condvar pair.mutex false in
    let owned : c.args.locked ≡ false = search rules in
    let here = begins ⊥ c.args.lot.now pair.words (at (notify.Move c.args.locked)) c.args.token.now
    c.args.section c.requires in
    let there = named here (ap (λ (b : Bool). at (notify.Move b)) owned) in
    let any = c.turn_take_first-any.result.0 in let none = c.turn_take_first-any.result.1 in
    let took = comes there (Took any none) c.args.token.now c.turn_take_first-any.new.section
    c.turn_take_first-any.ensures.done (takes_first c.main_key-from.ensures) (at (moved_one any none))
    (refl, one_taken pair.condvar pair.mutex any none) in
    took.at

pub returns : goal.returns
returns g c = let pair = c.args.pair in let at = notify_at pair.condvar pair.mutex false in
    let owned : c.args.locked ≡ false = search rules in
    let here = begins ⊥ c.args.lot.now pair.words (at (notify.Move c.args.locked)) c.args.token.now
    c.args.section c.requires in
    let there = named here (ap (λ (b : Bool). at (notify.Move b)) owned) in
    let any = c.turn_take_first-any.result.0 in let none = c.turn_take_first-any.result.1 in
    let took = comes there (Took any none) c.args.token.now c.turn_take_first-any.new.section
    c.turn_take_first-any.ensures.done (takes_first c.main_key-from.ensures) (at (moved_one any none))
    (refl, one_taken pair.condvar pair.mutex any none) in
    took.ends c.clear_and_leave-2.result c.clear_and_leave-2.new.token c.clear_and_leave-2.ensures
