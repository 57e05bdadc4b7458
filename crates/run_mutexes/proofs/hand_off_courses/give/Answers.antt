use Rattle.std.proofs.Common.{ℕ, ◌≡◌, true, refl, sym, ap}
use Rattle.core_clocks.specs.Clocks.{TimeIsUp}
use Rattle.core_base.specs.declared.ops.Op.TheVariants.{Store}
use Rattle.spec_locks.specs.declared.outcomes.Answer.TheVariants.{Ok}
use Rattle.steps_base.specs.declared.acts.Act.TheVariants.{HandOver}
use Rattle.steps_base.specs.declared.acts.Reply.TheVariants.{Done, Value}
use Rattle.steps_mutex.specs.declared.hand_off.HandOffAt.TheVariants as hand_off
use Rattle.lot_steps.specs.Steps.{act_of}
use Rattle.run_base.proofs.Coming.{begins, comes, leaves_one, may_do, over, turn_outside}
use Rattle.run_mutexes.specs.LockCourses.{hands_at}
use Rattle.run_mutexes.proofs.hand_off_courses.give.Goals as goal

pub turn_hand_over-requires : goal.turn_hand_over-requires
turn_hand_over-requires g c =
    let at = hands_at c.args.mutex in
    let up = TimeIsUp g.C.Clock.tells c.args.limit in
    let lot = c.args.lot.now in let words = c.args.words in
    let here = begins up lot words (at (hand_off.Store true c.args.none_left)) c.args.token.now c.args.section
    c.requires in
    let is : act_of (hands_at c.args.mutex (hand_off.Store true c.args.none_left))
    ≡ HandOver c.args.mutex (Store c.owned.result)
    = ap (λ (v : ℕ). HandOver c.args.mutex (Store v)) (sym c.owned.ensures) in
    may_do here is

pub turn_leave-requires : goal.turn_leave-requires
turn_leave-requires g c =
    let at = hands_at c.args.mutex in
    let up = TimeIsUp g.C.Clock.tells c.args.limit in
    let lot = c.args.lot.now in let words = c.args.words in
    let here = begins up lot words (at (hand_off.Store true c.args.none_left)) c.args.token.now c.args.section
    c.requires in
    let is : act_of (hands_at c.args.mutex (hand_off.Store true c.args.none_left))
    ≡ HandOver c.args.mutex (Store c.owned.result)
    = ap (λ (v : ℕ). HandOver c.args.mutex (Store v)) (sym c.owned.ensures) in
    let stored = comes here (Value c.turn_hand_over.result) c.turn_hand_over.new.token
    c.turn_hand_over.new.section c.turn_hand_over.ensures is (at (hand_off.Leave true)) (refl, refl) in
    may_do stored (leaves_one c.main_key.ensures refl)

pub end-requires : goal.end-requires
end-requires g c =
    let at = hands_at c.args.mutex in
    let up = TimeIsUp g.C.Clock.tells c.args.limit in
    let lot = c.args.lot.now in let words = c.args.words in
    let here = begins up lot words (at (hand_off.Store true c.args.none_left)) c.args.token.now c.args.section
    c.requires in
    let is : act_of (hands_at c.args.mutex (hand_off.Store true c.args.none_left))
    ≡ HandOver c.args.mutex (Store c.owned.result)
    = ap (λ (v : ℕ). HandOver c.args.mutex (Store v)) (sym c.owned.ensures) in
    let stored = comes here (Value c.turn_hand_over.result) c.turn_hand_over.new.token
    c.turn_hand_over.new.section c.turn_hand_over.ensures is (at (hand_off.Leave true)) (refl, refl) in
    turn_outside up lot words (at (hand_off.Leave true)) Done c.turn_hand_over.new.token
    c.turn_leave.new.token
    c.turn_hand_over.new.section c.turn_leave.new.section Ok stored.at
    (c.turn_leave.ensures (at (hand_off.Leave true)) stored.at (leaves_one c.main_key.ensures refl)) refl

pub returns : goal.returns
returns g c =
    let at = hands_at c.args.mutex in
    let up = TimeIsUp g.C.Clock.tells c.args.limit in
    let lot = c.args.lot.now in let words = c.args.words in
    let here = begins up lot words (at (hand_off.Store true c.args.none_left)) c.args.token.now c.args.section
    c.requires in
    let is : act_of (hands_at c.args.mutex (hand_off.Store true c.args.none_left))
    ≡ HandOver c.args.mutex (Store c.owned.result)
    = ap (λ (v : ℕ). HandOver c.args.mutex (Store v)) (sym c.owned.ensures) in
    let stored = comes here (Value c.turn_hand_over.result) c.turn_hand_over.new.token
    c.turn_hand_over.new.section c.turn_hand_over.ensures is (at (hand_off.Leave true)) (refl, refl) in
    over stored Done c.turn_leave.new.token c.turn_leave.new.section c.turn_leave.ensures
    (leaves_one c.main_key.ensures refl) Ok refl
