use Rattle.std.proofs.Common.{ℕ, None, refl, subst, sym}
use Rattle.steps_condvar.specs.declared.notify.NotifyAt.TheVariants as notify
use Rattle.run_base.specs.Courses.{Courses, trail_of}
use Rattle.run_base.specs.Telling.{owns_of}
use Rattle.run_base.specs.Turns.{HasEnded, IsAtPlace}
use Rattle.run_locks.specs.CondvarCalls.{notify_slow}
use Rattle.run_locks.specs.CondvarCourses.{notify_at}
use Rattle.run_locks.specs.declared.condvar_courses.Pair.{Pair}
use Rattle.run_locks.proofs.CondvarCalling.{at_both, both_of, words_beside}
use Rattle.run_locks.proofs.condvar_calls.notify_shown.Goals as goal

pub notify_through-requires : goal.notify_through-requires
notify_through-requires g c = let own = c.requires.own in
    subst (λ (pair : Pair). IsAtPlace ⊥ c.args.lot.now pair.words (notify_at pair.condvar pair.mutex
    c.args.all notify.Enter) c.args.token.now None) (sym c.pair_of.ensures) (
      own.0.0,
      both_of c.args.lot.now.words c.args.condvar c.args.mutex own.1 own.0.1,
      tt,
      ((own.3, own.0.3), words_beside c.args.condvar c.args.mutex own.4 own.2 own.0.2),
      (owns_of c.args.token.now, (refl, refl)),
    )

pub returns-clause-own : goal.returns-clause-own
returns-clause-own g c = (subst (λ (pair : Pair). HasEnded ⊥ c.args.lot.now pair.words
    (notify_at pair.condvar pair.mutex c.args.all notify.Enter) c.notify_through.result c.args.token.now None
    c.notify_through.new.token) c.pair_of.ensures c.notify_through.ensures).0

pub returns-clause-path : goal.returns-clause-path
returns-clause-path g c = let own = c.requires.own in
    let ended = (subst (λ (pair : Pair). HasEnded ⊥ c.args.lot.now pair.words
    (notify_at pair.condvar pair.mutex c.args.all notify.Enter) c.notify_through.result c.args.token.now
    None c.notify_through.new.token) c.pair_of.ensures c.notify_through.ensures) in
    subst (λ (at : ℕ → ℕ). Courses at c.args.token.now.number (notify_slow c.args.condvar.number
    c.args.mutex.number c.args.all) (trail_of c.args.token.now None) (trail_of c.notify_through.new.token
    None) c.notify_through.result) (at_both c.args.condvar c.args.mutex own.4 own.2 own.0.2) ended.2

pub returns-clause-over : goal.returns-clause-over
returns-clause-over g c = (subst (λ (pair : Pair). HasEnded ⊥ c.args.lot.now pair.words
    (notify_at pair.condvar pair.mutex c.args.all notify.Enter) c.notify_through.result c.args.token.now None
    c.notify_through.new.token) c.pair_of.ensures c.notify_through.ensures).1 (owns_of c.args.token.now)
    (refl, refl)
