use Rattle.std.proofs.Common.{ℕ, None, subst}
use Rattle.lot_steps.specs.declared.places.Place.TheVariants.{RwLock}
use Rattle.run_base.specs.Courses.{Courses, trail_of}
use Rattle.run_base.specs.Words.{single_word, at_in}
use Rattle.run_locks.proofs.RwLockCalling.{rwlock_alone}
use Rattle.run_locks.proofs.rwlock_fair_calls.finish_by_driver.Goals as goal

pub returns-clause-path : goal.returns-clause-path
returns-clause-path g c = subst (λ (at : ℕ → ℕ). Courses at c.args.token.now.number
    (RwLock c.args.word.now.number c.args.admission.now c.args.at.now) (trail_of c.args.token.now None)
    (trail_of c.run_out.new.token None) c.run_out.result) (rwlock_alone c.args.word.now c.requires.own.2)
    (subst (λ (n : ℕ). Courses (at_in (single_word c.args.word.now)) c.args.token.now.number
    (RwLock n c.args.admission.now c.args.at.now) (trail_of c.args.token.now None)
    (trail_of c.run_out.new.token None) c.run_out.result) c.number.ensures c.run_out.ensures.path)
