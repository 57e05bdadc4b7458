use Rattle.std.proofs.Common.{◌≡◌, Bool, true, false, None, refl, sym, ap, ◌∙◌, rules, subst}
use Rattle.std.proofs.lemmas.Bool.{false≢true}
use Rattle.core_clocks.specs.Clocks.{TimeIsUp}
use Rattle.steps_base.specs.declared.acts.Reply.TheVariants.{Done, Took}
use Rattle.steps_mutex.specs.declared.hand_off.HandOffAt.TheVariants as hand_off
use Rattle.run_base.specs.Queued.{is_queued}
use Rattle.run_base.proofs.Coming.{begins, comes, enters_one, may_do, named, takes_first}
use Rattle.run_mutexes.specs.LockCourses.{IsOfMutex, hands_at}
use Rattle.run_mutexes.proofs.LockGoing.{takes_on}
use Rattle.run_mutexes.proofs.hand_off_courses.hand_over_through.Goals as goal

pub turn_enter-requires : goal.turn_enter-requires
turn_enter-requires g c =
    let at = hands_at c.args.mutex in
    let up = TimeIsUp g.C.Clock.tells c.args.limit in
    let lot = c.args.lot.now in let words = c.args.words in
    let here = begins up lot words (at hand_off.Enter) c.args.token.now None c.requires in
    may_do here (enters_one c.main_key-key.ensures)

pub turn_take_first-any-requires : goal.turn_take_first-any-requires
turn_take_first-any-requires g c =
    let at = hands_at c.args.mutex in
    let up = TimeIsUp g.C.Clock.tells c.args.limit in
    let lot = c.args.lot.now in let words = c.args.words in
    let here = begins up lot words (at hand_off.Enter) c.args.token.now None c.requires in
    let entered = comes here Done c.turn_enter.new.token c.turn_enter.new.section c.turn_enter.ensures
    (enters_one c.main_key-key.ensures) (at hand_off.Take) (refl, refl) in
    may_do entered (takes_first c.main_key-key.ensures)

pub give-requires : goal.give-requires
give-requires g c =
    let at = hands_at c.args.mutex in
    let up = TimeIsUp g.C.Clock.tells c.args.limit in
    let lot = c.args.lot.now in let words = c.args.words in
    let here = begins up lot words (at hand_off.Enter) c.args.token.now None c.requires in
    let entered = comes here Done c.turn_enter.new.token c.turn_enter.new.section c.turn_enter.ensures
    (enters_one c.main_key-key.ensures) (at hand_off.Take) (refl, refl) in
    let any = c.turn_take_first-any.result.0 in let none = c.turn_take_first-any.result.1 in
    let took = comes entered (Took any none) c.turn_enter.new.token c.turn_take_first-any.new.section
    c.turn_take_first-any.ensures.done (takes_first c.main_key-key.ensures) (at (hand_off.Store any none))
    (refl, takes_on c.args.mutex any none) in
    let some : c.turn_take_first-any.result.0 ≡ true = search rules in
    let there = named took (ap (λ (b : Bool). hands_at c.args.mutex
    (hand_off.Store b c.turn_take_first-any.result.1)) some) in
    there.at

pub returns-then-any : goal.returns-then-any
returns-then-any g c =
    let at = hands_at c.args.mutex in
    let up = TimeIsUp g.C.Clock.tells c.args.limit in
    let lot = c.args.lot.now in let words = c.args.words in
    let here = begins up lot words (at hand_off.Enter) c.args.token.now None c.requires in
    let entered = comes here Done c.turn_enter.new.token c.turn_enter.new.section c.turn_enter.ensures
    (enters_one c.main_key-key.ensures) (at hand_off.Take) (refl, refl) in
    let any = c.turn_take_first-any.result.0 in let none = c.turn_take_first-any.result.1 in
    let took = comes entered (Took any none) c.turn_enter.new.token c.turn_take_first-any.new.section
    c.turn_take_first-any.ensures.done (takes_first c.main_key-key.ensures) (at (hand_off.Store any none))
    (refl, takes_on c.args.mutex any none) in
    let some : c.turn_take_first-any.result.0 ≡ true = search rules in
    let there = named took (ap (λ (b : Bool). hands_at c.args.mutex
    (hand_off.Store b c.turn_take_first-any.result.1)) some) in
    there.ends c.give.result c.give.new.token c.give.ensures

pub finish_by_driver-requires-clause-at : goal.finish_by_driver-requires-clause-at
finish_by_driver-requires-clause-at g c =
    let at = hands_at c.args.mutex in
    let up = TimeIsUp g.C.Clock.tells c.args.limit in
    let lot = c.args.lot.now in let words = c.args.words in
    let here = begins up lot words (at hand_off.Enter) c.args.token.now None c.requires in
    let entered = comes here Done c.turn_enter.new.token c.turn_enter.new.section c.turn_enter.ensures
    (enters_one c.main_key-key.ensures) (at hand_off.Take) (refl, refl) in
    let any = c.turn_take_first-any.result.0 in let none = c.turn_take_first-any.result.1 in
    let took = comes entered (Took any none) c.turn_enter.new.token c.turn_take_first-any.new.section
    c.turn_take_first-any.ensures.done (takes_first c.main_key-key.ensures) (at (hand_off.Store any none))
    (refl, takes_on c.args.mutex any none) in
    let nobody : c.turn_take_first-any.result.0 ≡ false = search rules in
    let there = named took (ap (λ (b : Bool). hands_at c.args.mutex
    (hand_off.Store b c.turn_take_first-any.result.1)) nobody ∙ sym c.hands-place.ensures) in
    there.at

pub finish_by_driver-requires-clause-call : goal.finish_by_driver-requires-clause-call
finish_by_driver-requires-clause-call g c = subst IsOfMutex (sym c.hands-place.ensures) tt

pub finish_by_driver-requires-clause-queued : goal.finish_by_driver-requires-clause-queued
finish_by_driver-requires-clause-queued g c =
    λ queued. absurd (false≢true (ap is_queued (sym c.hands-place.ensures) ∙ queued))

pub returns : goal.returns
returns g c =
    let at = hands_at c.args.mutex in
    let up = TimeIsUp g.C.Clock.tells c.args.limit in
    let lot = c.args.lot.now in let words = c.args.words in
    let here = begins up lot words (at hand_off.Enter) c.args.token.now None c.requires in
    let entered = comes here Done c.turn_enter.new.token c.turn_enter.new.section c.turn_enter.ensures
    (enters_one c.main_key-key.ensures) (at hand_off.Take) (refl, refl) in
    let any = c.turn_take_first-any.result.0 in let none = c.turn_take_first-any.result.1 in
    let took = comes entered (Took any none) c.turn_enter.new.token c.turn_take_first-any.new.section
    c.turn_take_first-any.ensures.done (takes_first c.main_key-key.ensures) (at (hand_off.Store any none))
    (refl, takes_on c.args.mutex any none) in
    let nobody : c.turn_take_first-any.result.0 ≡ false = search rules in
    let there = named took (ap (λ (b : Bool). hands_at c.args.mutex
    (hand_off.Store b c.turn_take_first-any.result.1)) nobody ∙ sym c.hands-place.ensures) in
    there.ends c.finish_by_driver.result c.finish_by_driver.new.token c.finish_by_driver.ensures
