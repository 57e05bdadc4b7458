use Rattle.std.proofs.Common.{ℕ, ◌≡◌, Some, refl, sym, ap, subst}
use Rattle.core_clocks.specs.Clocks.{TimeIsUp}
use Rattle.steps_base.specs.declared.acts.Reply.TheVariants.{Value}
use Rattle.steps_mutex.specs.declared.lock.LockAt.TheVariants as lock
use Rattle.lot_steps.specs.Steps.{next_act}
use Rattle.run_base.specs.Fitting.{answer_of}
use Rattle.run_locks.specs.CondvarCourses.{locks_at, wait_at}
use Rattle.run_base.proofs.Coming.{begins, comes, over}
use Rattle.run_locks.proofs.CondvarGoing.{locks_on}
use Rattle.run_locks.proofs.wait_courses.lock_again.Goals as goal

pub returns-then-seen-eq0 : goal.returns-then-seen-eq0
returns-then-seen-eq0 g c = let pair = c.args.pair in let at = wait_at pair.condvar pair.mutex c.args.timed in
    let here = begins (TimeIsUp g.C.Clock.tells c.args.limit) c.args.lot.now pair.words (at (locks_at lock.First))
    c.args.token.now c.args.section c.requires in
    over here (Value c.turn_word-seen.result) c.turn_word-seen.new.token c.args.section
    c.turn_word-seen.ensures refl c.notified_answer.result
    (subst (λ (n : ℕ). answer_of (next_act (at (locks_at lock.First)) (Value n))
    ≡ Some c.notified_answer.result) (sym c.if-seen-eq0.true) (ap Some (sym c.notified_answer.ensures)))

pub lock_seen-requires : goal.lock_seen-requires
lock_seen-requires g c = let pair = c.args.pair in let at = wait_at pair.condvar pair.mutex c.args.timed in
    let here = begins (TimeIsUp g.C.Clock.tells c.args.limit) c.args.lot.now pair.words (at (locks_at lock.First))
    c.args.token.now c.args.section c.requires in
    let looked = comes here (Value c.turn_word-seen.result) c.turn_word-seen.new.token c.args.section
    c.turn_word-seen.ensures refl (at (locks_at lock.Load))
    (locks_on pair.condvar pair.mutex c.args.timed c.turn_word-seen.result c.if-seen-eq0.false) in
    looked.at

pub returns : goal.returns
returns g c = let pair = c.args.pair in let at = wait_at pair.condvar pair.mutex c.args.timed in
    let here = begins (TimeIsUp g.C.Clock.tells c.args.limit) c.args.lot.now pair.words (at (locks_at lock.First))
    c.args.token.now c.args.section c.requires in
    let looked = comes here (Value c.turn_word-seen.result) c.turn_word-seen.new.token c.args.section
    c.turn_word-seen.ensures refl (at (locks_at lock.Load))
    (locks_on pair.condvar pair.mutex c.args.timed c.turn_word-seen.result c.if-seen-eq0.false) in
    looked.ends c.lock_seen.result c.lock_seen.new.token c.lock_seen.ensures
