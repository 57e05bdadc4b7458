use Rattle.std.proofs.Common.{◌≡◌, Bool, true, false, refl, ap, rules}
use Rattle.core_clocks.specs.Clocks.{TimeIsUp}
use Rattle.steps_base.specs.declared.acts.Reply.TheVariants.{Value}
use Rattle.steps_rwlock.specs.declared.release.WakeAt.TheVariants as waking
use Rattle.run_base.proofs.Coming.{begins, comes, may_do, named}
use Rattle.run_locks.specs.WakeCourses.{left_on, wakes_at}
use Rattle.run_locks.proofs.wake_courses.clear_and_wake.Goals as goal

pub turn_word-requires : goal.turn_word-requires
turn_word-requires g c =
    let at = wakes_at c.args.lock c.args.admission c.args.purpose in
    let up = TimeIsUp g.C.Clock.tells c.args.limit in
    let lot = c.args.lot.now in let words = c.args.words in
    let here = begins up lot words (at (left_on c.args.any c.args.none_left)) c.args.token.now c.args.section
    c.requires in
    let none : c.args.none_left ≡ true = search rules in
    let there = named here (ap (λ (b : Bool). wakes_at c.args.lock c.args.admission c.args.purpose
    (left_on c.args.any b)) none) in
    may_do there refl

pub leave_and_wake-requires : goal.leave_and_wake-requires
leave_and_wake-requires g c =
    let at = wakes_at c.args.lock c.args.admission c.args.purpose in
    let up = TimeIsUp g.C.Clock.tells c.args.limit in
    let lot = c.args.lot.now in let words = c.args.words in
    let here = begins up lot words (at (left_on c.args.any c.args.none_left)) c.args.token.now c.args.section
    c.requires in
    let none : c.args.none_left ≡ true = search rules in
    let there = named here (ap (λ (b : Bool). wakes_at c.args.lock c.args.admission c.args.purpose
    (left_on c.args.any b)) none) in
    let cleared = comes there (Value c.turn_word.result) c.turn_word.new.token c.args.section
    c.turn_word.ensures refl (at (waking.Leave c.args.any)) (refl, refl) in
    cleared.at

pub returns-then-none_left : goal.returns-then-none_left
returns-then-none_left g c =
    let at = wakes_at c.args.lock c.args.admission c.args.purpose in
    let up = TimeIsUp g.C.Clock.tells c.args.limit in
    let lot = c.args.lot.now in let words = c.args.words in
    let here = begins up lot words (at (left_on c.args.any c.args.none_left)) c.args.token.now c.args.section
    c.requires in
    let none : c.args.none_left ≡ true = search rules in
    let there = named here (ap (λ (b : Bool). wakes_at c.args.lock c.args.admission c.args.purpose
    (left_on c.args.any b)) none) in
    let cleared = comes there (Value c.turn_word.result) c.turn_word.new.token c.args.section
    c.turn_word.ensures refl (at (waking.Leave c.args.any)) (refl, refl) in
    cleared.ends c.leave_and_wake.result c.leave_and_wake.new.token c.leave_and_wake.ensures

pub leave_and_wake-requires-2 : goal.leave_and_wake-requires-2
leave_and_wake-requires-2 g c =
    let at = wakes_at c.args.lock c.args.admission c.args.purpose in
    let up = TimeIsUp g.C.Clock.tells c.args.limit in
    let lot = c.args.lot.now in let words = c.args.words in
    let here = begins up lot words (at (left_on c.args.any c.args.none_left)) c.args.token.now c.args.section
    c.requires in
    let some : c.args.none_left ≡ false = search rules in
    let there = named here (ap (λ (b : Bool). wakes_at c.args.lock c.args.admission c.args.purpose
    (left_on c.args.any b)) some) in
    there.at

pub returns : goal.returns
returns g c =
    let at = wakes_at c.args.lock c.args.admission c.args.purpose in
    let up = TimeIsUp g.C.Clock.tells c.args.limit in
    let lot = c.args.lot.now in let words = c.args.words in
    let here = begins up lot words (at (left_on c.args.any c.args.none_left)) c.args.token.now c.args.section
    c.requires in
    let some : c.args.none_left ≡ false = search rules in
    let there = named here (ap (λ (b : Bool). wakes_at c.args.lock c.args.admission c.args.purpose
    (left_on c.args.any b)) some) in
    there.ends c.leave_and_wake-2.result c.leave_and_wake-2.new.token c.leave_and_wake-2.ensures
