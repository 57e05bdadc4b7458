use Rattle.std.proofs.Common.{Some, refl, sym, ap}
use Rattle.core_clocks.specs.Clocks.{TimeIsUp}
use Rattle.steps_base.specs.declared.acts.Reply.TheVariants.{Done}
use Rattle.steps_rwlock.specs.RwLockSteps.{ends_with}
use Rattle.steps_rwlock.specs.declared.release.WakeAt.TheVariants as waking
use Rattle.run_base.proofs.Coming.{begins, leaves_one, may_do, over, turn_outside}
use Rattle.run_locks.specs.WakeCourses.{wakes_at}
use Rattle.run_locks.proofs.wake_courses.leave_and_wake.Goals as goal

pub turn_leave-requires : goal.turn_leave-requires
turn_leave-requires g c =
    let at = wakes_at c.args.lock c.args._admission c.args.purpose in
    let up = TimeIsUp g.C.Clock.tells c.args.limit in
    let lot = c.args.lot.now in let words = c.args.words in
    let here = begins up lot words (at (waking.Leave c.args.any)) c.args.token.now c.args.section c.requires
    in
    let is = leaves_one c.main_key.ensures c.taken-wakes.ensures in
    may_do here is

pub end-requires : goal.end-requires
end-requires g c =
    let at = wakes_at c.args.lock c.args._admission c.args.purpose in
    let up = TimeIsUp g.C.Clock.tells c.args.limit in
    let lot = c.args.lot.now in let words = c.args.words in
    let here = begins up lot words (at (waking.Leave c.args.any)) c.args.token.now c.args.section c.requires
    in
    let is = leaves_one c.main_key.ensures c.taken-wakes.ensures in
    turn_outside up lot words (at (waking.Leave c.args.any)) Done c.args.token.now c.turn_leave.new.token
    c.args.section c.turn_leave.new.section (ends_with c.args.purpose) c.requires
    (c.turn_leave.ensures (at (waking.Leave c.args.any)) c.requires is) refl

pub returns : goal.returns
returns g c =
    let at = wakes_at c.args.lock c.args._admission c.args.purpose in
    let up = TimeIsUp g.C.Clock.tells c.args.limit in
    let lot = c.args.lot.now in let words = c.args.words in
    let here = begins up lot words (at (waking.Leave c.args.any)) c.args.token.now c.args.section c.requires
    in
    let is = leaves_one c.main_key.ensures c.taken-wakes.ensures in
    over here Done c.turn_leave.new.token c.turn_leave.new.section c.turn_leave.ensures is
    c.answer_after.result (ap Some (sym c.answer_after.ensures))
