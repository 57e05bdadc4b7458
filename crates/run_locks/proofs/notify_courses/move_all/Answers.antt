use Rattle.std.proofs.Common.{nat_lt, ◌≡◌, Bool, true, false, refl, ap, rules}
use Rattle.steps_base.specs.declared.acts.Reply.TheVariants.{Requeued, Value}
use Rattle.steps_condvar.specs.declared.notify.NotifyAt.TheVariants as notify
use Rattle.run_locks.specs.CondvarCourses.{notify_at}
use Rattle.run_base.proofs.Coming.{begins, comes, may_do, moves, named}
use Rattle.run_locks.proofs.CondvarGoing.{rest_moved}
use Rattle.run_locks.proofs.notify_courses.move_all.Goals as goal

pub turn_requeue-number-requires : goal.turn_requeue-number-requires
turn_requeue-number-requires g c = let pair = c.args.pair in let at = notify_at pair.condvar pair.mutex true
    in
    let owned : c.args.locked ≡ true = search rules in
    let here = begins ⊥ c.args.lot.now pair.words (at (notify.Move c.args.locked)) c.args.token.now
    c.args.section c.requires in
    let there = named here (ap (λ (b : Bool). at (notify.Move b)) owned) in
    may_do there (moves c.main_key-from.ensures c.main_key-to.ensures)

pub leave_both-requires : goal.leave_both-requires
leave_both-requires g c = let pair = c.args.pair in let at = notify_at pair.condvar pair.mutex true in
    let owned : c.args.locked ≡ true = search rules in
    let here = begins ⊥ c.args.lot.now pair.words (at (notify.Move c.args.locked)) c.args.token.now
    c.args.section c.requires in
    let there = named here (ap (λ (b : Bool). at (notify.Move b)) owned) in
    let number = c.turn_requeue-number.result.0 in let none = c.turn_requeue-number.result.1 in
    let moved = comes there (Requeued number none) c.args.token.now c.turn_requeue-number.new.section
    c.turn_requeue-number.ensures.done (moves c.main_key-from.ensures c.main_key-to.ensures)
    (at (notify.Leave false number)) (refl, refl) in
    moved.at

pub returns-then-locked : goal.returns-then-locked
returns-then-locked g c = let pair = c.args.pair in let at = notify_at pair.condvar pair.mutex true in
    let owned : c.args.locked ≡ true = search rules in
    let here = begins ⊥ c.args.lot.now pair.words (at (notify.Move c.args.locked)) c.args.token.now
    c.args.section c.requires in
    let there = named here (ap (λ (b : Bool). at (notify.Move b)) owned) in
    let number = c.turn_requeue-number.result.0 in let none = c.turn_requeue-number.result.1 in
    let moved = comes there (Requeued number none) c.args.token.now c.turn_requeue-number.new.section
    c.turn_requeue-number.ensures.done (moves c.main_key-from.ensures c.main_key-to.ensures)
    (at (notify.Leave false number)) (refl, refl) in
    moved.ends c.leave_both.result c.leave_both.new.token c.leave_both.ensures

pub turn_requeue-number-requires-2 : goal.turn_requeue-number-requires-2
turn_requeue-number-requires-2 g c = let pair = c.args.pair in let at = notify_at pair.condvar pair.mutex true
    in
    let owned : c.args.locked ≡ false = search rules in
    let here = begins ⊥ c.args.lot.now pair.words (at (notify.Move c.args.locked)) c.args.token.now
    c.args.section c.requires in
    let there = named here (ap (λ (b : Bool). at (notify.Move b)) owned) in
    may_do there (moves c.main_key-from.ensures c.main_key-to.ensures)

pub turn_word-requires : goal.turn_word-requires
turn_word-requires g c = let pair = c.args.pair in let at = notify_at pair.condvar pair.mutex true in
    let owned : c.args.locked ≡ false = search rules in
    let here = begins ⊥ c.args.lot.now pair.words (at (notify.Move c.args.locked)) c.args.token.now
    c.args.section c.requires in
    let there = named here (ap (λ (b : Bool). at (notify.Move b)) owned) in
    let many : nat_lt 1 c.turn_requeue-number-2.result.0 ≡ true = search rules in
    let number = c.turn_requeue-number-2.result.0 in let none = c.turn_requeue-number-2.result.1 in
    let moved = comes there (Requeued number none) c.args.token.now c.turn_requeue-number-2.new.section
    c.turn_requeue-number-2.ensures.done (moves c.main_key-from.ensures c.main_key-to.ensures)
    (at (notify.MarkMoved number)) (rest_moved pair.condvar pair.mutex number none true many) in
    may_do moved refl

pub leave_both-requires-then-number-gt1 : goal.leave_both-requires-then-number-gt1
leave_both-requires-then-number-gt1 g c = let pair = c.args.pair in let at =
    notify_at pair.condvar pair.mutex true in
    let owned : c.args.locked ≡ false = search rules in
    let here = begins ⊥ c.args.lot.now pair.words (at (notify.Move c.args.locked)) c.args.token.now
    c.args.section c.requires in
    let there = named here (ap (λ (b : Bool). at (notify.Move b)) owned) in
    let many : nat_lt 1 c.turn_requeue-number-2.result.0 ≡ true = search rules in
    let number = c.turn_requeue-number-2.result.0 in let none = c.turn_requeue-number-2.result.1 in
    let moved = comes there (Requeued number none) c.args.token.now c.turn_requeue-number-2.new.section
    c.turn_requeue-number-2.ensures.done (moves c.main_key-from.ensures c.main_key-to.ensures)
    (at (notify.MarkMoved number)) (rest_moved pair.condvar pair.mutex number none true many) in
    let marked = comes moved (Value c.turn_word.result) c.turn_word.new.token
    c.turn_requeue-number-2.new.section
    c.turn_word.ensures refl (at (notify.Leave true number)) (refl, refl) in
    marked.at

pub returns-then-number-gt1 : goal.returns-then-number-gt1
returns-then-number-gt1 g c = let pair = c.args.pair in let at = notify_at pair.condvar pair.mutex true in
    let owned : c.args.locked ≡ false = search rules in
    let here = begins ⊥ c.args.lot.now pair.words (at (notify.Move c.args.locked)) c.args.token.now
    c.args.section c.requires in
    let there = named here (ap (λ (b : Bool). at (notify.Move b)) owned) in
    let many : nat_lt 1 c.turn_requeue-number-2.result.0 ≡ true = search rules in
    let number = c.turn_requeue-number-2.result.0 in let none = c.turn_requeue-number-2.result.1 in
    let moved = comes there (Requeued number none) c.args.token.now c.turn_requeue-number-2.new.section
    c.turn_requeue-number-2.ensures.done (moves c.main_key-from.ensures c.main_key-to.ensures)
    (at (notify.MarkMoved number)) (rest_moved pair.condvar pair.mutex number none true many) in
    let marked = comes moved (Value c.turn_word.result) c.turn_word.new.token
    c.turn_requeue-number-2.new.section
    c.turn_word.ensures refl (at (notify.Leave true number)) (refl, refl) in
    marked.ends c.leave_both-then-number-gt1.result c.leave_both-then-number-gt1.new.token
    c.leave_both-then-number-gt1.ensures

pub leave_both-requires-2 : goal.leave_both-requires-2
leave_both-requires-2 g c = let pair = c.args.pair in let at = notify_at pair.condvar pair.mutex true in
    let owned : c.args.locked ≡ false = search rules in
    let here = begins ⊥ c.args.lot.now pair.words (at (notify.Move c.args.locked)) c.args.token.now
    c.args.section c.requires in
    let there = named here (ap (λ (b : Bool). at (notify.Move b)) owned) in
    let many : nat_lt 1 c.turn_requeue-number-2.result.0 ≡ false = search rules in
    let number = c.turn_requeue-number-2.result.0 in let none = c.turn_requeue-number-2.result.1 in
    let moved = comes there (Requeued number none) c.args.token.now c.turn_requeue-number-2.new.section
    c.turn_requeue-number-2.ensures.done (moves c.main_key-from.ensures c.main_key-to.ensures)
    (at (notify.Leave true number)) (rest_moved pair.condvar pair.mutex number none false many) in
    moved.at

pub returns : goal.returns
returns g c = let pair = c.args.pair in let at = notify_at pair.condvar pair.mutex true in
    let owned : c.args.locked ≡ false = search rules in
    let here = begins ⊥ c.args.lot.now pair.words (at (notify.Move c.args.locked)) c.args.token.now
    c.args.section c.requires in
    let there = named here (ap (λ (b : Bool). at (notify.Move b)) owned) in
    let many : nat_lt 1 c.turn_requeue-number-2.result.0 ≡ false = search rules in
    let number = c.turn_requeue-number-2.result.0 in let none = c.turn_requeue-number-2.result.1 in
    let moved = comes there (Requeued number none) c.args.token.now c.turn_requeue-number-2.new.section
    c.turn_requeue-number-2.ensures.done (moves c.main_key-from.ensures c.main_key-to.ensures)
    (at (notify.Leave true number)) (rest_moved pair.condvar pair.mutex number none false many) in
    moved.ends c.leave_both-2.result c.leave_both-2.new.token c.leave_both-2.ensures
