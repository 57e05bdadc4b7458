use Rattle.std.proofs.Common.{Some, refl, sym, ap}
use Rattle.steps_base.specs.declared.acts.Reply.TheVariants.{Done}
use Rattle.steps_condvar.specs.CondvarSteps.{notified}
use Rattle.steps_condvar.specs.declared.notify.NotifyAt.TheVariants as notify
use Rattle.run_locks.specs.CondvarCourses.{notify_at}
use Rattle.run_base.proofs.Coming.{begins, leaves_both, over}
use Rattle.run_base.proofs.Coming.{turn_outside}
use Rattle.run_locks.proofs.notify_courses.leave_both.Goals as goal

pub turn_leave-requires : goal.turn_leave-requires
turn_leave-requires g c = let pair = c.args.pair in (
  notify_at pair.condvar pair.mutex c.args.all (notify.Leave c.args.any c.args.number),
  c.requires,
  leaves_both c.main_key.ensures c.main_key-2.ensures c.taken-wakes.ensures,
)

pub end-requires : goal.end-requires
end-requires g c = let pair = c.args.pair in let here = notify_at pair.condvar pair.mutex c.args.all
    (notify.Leave c.args.any c.args.number) in
    let left = c.turn_leave.ensures here c.requires (leaves_both c.main_key.ensures c.main_key-2.ensures
    c.taken-wakes.ensures) in
    turn_outside ⊥ c.args.lot.now pair.words here Done c.args.token.now c.turn_leave.new.token c.args.section
    c.turn_leave.new.section
    (notified c.args.all c.args.number) c.requires left refl

pub returns : goal.returns
returns g c = let pair = c.args.pair in let here = notify_at pair.condvar pair.mutex c.args.all
    (notify.Leave c.args.any c.args.number) in
    over (begins ⊥ c.args.lot.now pair.words here c.args.token.now c.args.section c.requires)
    Done c.turn_leave.new.token c.turn_leave.new.section c.turn_leave.ensures
    (leaves_both c.main_key.ensures c.main_key-2.ensures c.taken-wakes.ensures) c.notified_so.result
    (ap Some (sym c.notified_so.ensures))
