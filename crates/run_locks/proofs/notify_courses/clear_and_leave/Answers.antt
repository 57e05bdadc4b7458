use Rattle.std.proofs.Common.{◌≡◌, Bool, true, false, refl, ap, rules}
use Rattle.steps_base.specs.declared.acts.Reply.TheVariants.{Value}
use Rattle.steps_condvar.specs.CondvarSteps.{moved_one}
use Rattle.steps_condvar.specs.declared.notify.NotifyAt.TheVariants as notify
use Rattle.run_locks.specs.CondvarCourses.{notify_at}
use Rattle.run_base.proofs.Coming.{begins, comes, may_do, named}
use Rattle.run_locks.proofs.notify_courses.clear_and_leave.Goals as goal

pub turn_word-requires : goal.turn_word-requires
turn_word-requires g c = let pair = c.args.pair in let at = notify_at pair.condvar pair.mutex false in
    let none : c.args.none_left ≡ true = search rules in
    let here = begins ⊥ c.args.lot.now pair.words (at (moved_one c.args.any c.args.none_left))
    c.args.token.now c.args.section c.requires in
    may_do (named here (ap (λ (b : Bool). at (moved_one c.args.any b)) none)) refl

pub leave_both-requires : goal.leave_both-requires
leave_both-requires g c = let pair = c.args.pair in let at = notify_at pair.condvar pair.mutex false in
    let none : c.args.none_left ≡ true = search rules in
    let here = begins ⊥ c.args.lot.now pair.words (at (moved_one c.args.any c.args.none_left))
    c.args.token.now c.args.section c.requires in
    let clears = named here (ap (λ (b : Bool). at (moved_one c.args.any b)) none) in
    (comes clears (Value c.turn_word.result) c.turn_word.new.token c.args.section c.turn_word.ensures refl
    (at (notify.Leave c.args.any 1)) (refl, refl)).at

pub returns-then-none_left : goal.returns-then-none_left
returns-then-none_left g c = let pair = c.args.pair in let at = notify_at pair.condvar pair.mutex false in
    let none : c.args.none_left ≡ true = search rules in
    let here = begins ⊥ c.args.lot.now pair.words (at (moved_one c.args.any c.args.none_left))
    c.args.token.now c.args.section c.requires in
    let clears = named here (ap (λ (b : Bool). at (moved_one c.args.any b)) none) in
    let cleared = comes clears (Value c.turn_word.result) c.turn_word.new.token c.args.section
    c.turn_word.ensures refl (at (notify.Leave c.args.any 1)) (refl, refl) in
    cleared.ends c.leave_both.result c.leave_both.new.token c.leave_both.ensures

pub leave_both-requires-2 : goal.leave_both-requires-2
leave_both-requires-2 g c = let pair = c.args.pair in let at = notify_at pair.condvar pair.mutex false in
    let some : c.args.none_left ≡ false = search rules in
    let here = begins ⊥ c.args.lot.now pair.words (at (moved_one c.args.any c.args.none_left))
    c.args.token.now c.args.section c.requires in
    (named here (ap (λ (b : Bool). at (moved_one c.args.any b)) some)).at

pub returns : goal.returns
returns g c = let pair = c.args.pair in let at = notify_at pair.condvar pair.mutex false in
    let some : c.args.none_left ≡ false = search rules in
    let here = begins ⊥ c.args.lot.now pair.words (at (moved_one c.args.any c.args.none_left))
    c.args.token.now c.args.section c.requires in
    (named here (ap (λ (b : Bool). at (moved_one c.args.any b)) some)).ends c.leave_both-2.result
    c.leave_both-2.new.token c.leave_both-2.ensures
