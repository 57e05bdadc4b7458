use Rattle.std.proofs.Common.{Bool, None, refl, sym, ap}
use Rattle.core_clocks.specs.Clocks.{TimeIsUp}
use Rattle.steps_base.specs.Acts.{any_picked}
use Rattle.steps_base.specs.declared.acts.Reply.TheVariants.{Done, Picked}
use Rattle.steps_rwlock.specs.declared.release.WakeAt.TheVariants as waking
use Rattle.run_base.proofs.Coming.{begins, comes, enters_one, may_do, named, takes_wanted}
use Rattle.run_locks.specs.WakeCourses.{left_on, wakes_at}
use Rattle.run_locks.proofs.WakeGoing.{took_picked}
use Rattle.run_locks.proofs.wake_courses.wake_through.Goals as goal

pub turn_enter-requires : goal.turn_enter-requires
turn_enter-requires g c =
    let at = wakes_at c.args.lock c.args.admission c.args.purpose in
    let up = TimeIsUp g.C.Clock.tells c.args.limit in
    let lot = c.args.lot.now in let words = c.args.words in
    let here = begins up lot words (at waking.Enter) c.args.token.now None c.requires in
    may_do here (enters_one c.main_key-key.ensures)

pub turn_take_wanted-sharers-requires : goal.turn_take_wanted-sharers-requires
turn_take_wanted-sharers-requires g c =
    let at = wakes_at c.args.lock c.args.admission c.args.purpose in
    let up = TimeIsUp g.C.Clock.tells c.args.limit in
    let lot = c.args.lot.now in let words = c.args.words in
    let here = begins up lot words (at waking.Enter) c.args.token.now None c.requires in
    let entered = comes here Done c.turn_enter.new.token c.turn_enter.new.section c.turn_enter.ensures
    (enters_one c.main_key-key.ensures) (at waking.Take) (refl, refl) in
    let picks = takes_wanted c.main_key-key.ensures c.start-start.ensures in
    may_do entered picks

pub clear_and_wake-requires : goal.clear_and_wake-requires
clear_and_wake-requires g c =
    let at = wakes_at c.args.lock c.args.admission c.args.purpose in
    let up = TimeIsUp g.C.Clock.tells c.args.limit in
    let lot = c.args.lot.now in let words = c.args.words in
    let here = begins up lot words (at waking.Enter) c.args.token.now None c.requires in
    let entered = comes here Done c.turn_enter.new.token c.turn_enter.new.section c.turn_enter.ensures
    (enters_one c.main_key-key.ensures) (at waking.Take) (refl, refl) in
    let picks = takes_wanted c.main_key-key.ensures c.start-start.ensures in
    let sharers = c.turn_take_wanted-sharers.result.0 in
    let successor = c.turn_take_wanted-sharers.result.1 in let none = c.turn_take_wanted-sharers.result.2 in
    let took = comes entered (Picked sharers successor none) c.turn_enter.new.token
    c.turn_take_wanted-sharers.new.section c.turn_take_wanted-sharers.ensures.done picks
    (at (left_on (any_picked sharers successor) none))
    (took_picked c.args.lock c.args.admission c.args.purpose sharers successor none) in
    let there = named took (ap (λ (b : Bool). wakes_at c.args.lock c.args.admission c.args.purpose
    (left_on b c.turn_take_wanted-sharers.result.2)) (sym c.took_any-any.ensures)) in
    there.at

pub returns : goal.returns
returns g c =
    let at = wakes_at c.args.lock c.args.admission c.args.purpose in
    let up = TimeIsUp g.C.Clock.tells c.args.limit in
    let lot = c.args.lot.now in let words = c.args.words in
    let here = begins up lot words (at waking.Enter) c.args.token.now None c.requires in
    let entered = comes here Done c.turn_enter.new.token c.turn_enter.new.section c.turn_enter.ensures
    (enters_one c.main_key-key.ensures) (at waking.Take) (refl, refl) in
    let picks = takes_wanted c.main_key-key.ensures c.start-start.ensures in
    let sharers = c.turn_take_wanted-sharers.result.0 in
    let successor = c.turn_take_wanted-sharers.result.1 in let none = c.turn_take_wanted-sharers.result.2 in
    let took = comes entered (Picked sharers successor none) c.turn_enter.new.token
    c.turn_take_wanted-sharers.new.section c.turn_take_wanted-sharers.ensures.done picks
    (at (left_on (any_picked sharers successor) none))
    (took_picked c.args.lock c.args.admission c.args.purpose sharers successor none) in
    let there = named took (ap (λ (b : Bool). wakes_at c.args.lock c.args.admission c.args.purpose
    (left_on b c.turn_take_wanted-sharers.result.2)) (sym c.took_any-any.ensures)) in
    there.ends c.clear_and_wake.result c.clear_and_wake.new.token c.clear_and_wake.ensures
