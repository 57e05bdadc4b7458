use Rattle.std.proofs.Common.{◌≡◌, Bool, true, false, sym, subst, rules}
use Rattle.steps_condvar.specs.declared.notify.NotifyAt.TheVariants as notify
use Rattle.run_base.specs.Turns.{HasEnded}
use Rattle.run_locks.specs.CondvarCourses.{notify_at}
use Rattle.run_locks.proofs.notify_courses.move_some.Goals as goal

pub returns-then-all : goal.returns-then-all
returns-then-all g c = let pair = c.args.pair in let all : c.args.all ≡ true = search rules in
    subst (λ (b : Bool). HasEnded ⊥ c.args.lot.now pair.words (notify_at pair.condvar pair.mutex b
    (notify.Move c.args.locked)) c.move_all.result
    c.args.token.now c.args.section c.move_all.new.token) (sym all) c.move_all.ensures

pub returns : goal.returns
returns g c = let pair = c.args.pair in let one : c.args.all ≡ false = search rules in
    subst (λ (b : Bool). HasEnded ⊥ c.args.lot.now pair.words (notify_at pair.condvar pair.mutex b
    (notify.Move c.args.locked)) c.move_first.result
    c.args.token.now c.args.section c.move_first.new.token) (sym one) c.move_first.ensures
