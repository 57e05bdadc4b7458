use Rattle.std.proofs.Common.{ℕ, ◌≡◌, None, refl, sym, ap, ◌∙◌, rules, subst}
use Rattle.std.proofs.lemmas.Bool.{false≢true}
use Rattle.core_clocks.specs.Clocks.{TimeIsUp}
use Rattle.steps_base.specs.declared.acts.Reply.TheVariants.{Value}
use Rattle.steps_mutex.specs.MutexSteps.{is_locked}
use Rattle.steps_mutex.specs.declared.lock.LockAt.TheVariants as lock
use Rattle.run_base.specs.Queued.{is_queued}
use Rattle.run_base.proofs.Coming.{begins, comes, may_do, named}
use Rattle.run_mutexes.specs.LockCourses.{IsOfMutex, locks_at}
use Rattle.run_mutexes.proofs.LockGoing.{looks_on}
use Rattle.run_mutexes.proofs.lock_courses.lock_course.Goals as goal

pub turn_word-seen-requires : goal.turn_word-seen-requires
turn_word-seen-requires g c = may_do (begins (TimeIsUp g.C.Clock.tells c.args.limit) c.args.lot.now c.args.words
    (locks_at c.args.mutex c.args.entry lock.Load) c.args.token.now None c.requires) refl

pub park-requires : goal.park-requires
park-requires g c =
    let at = locks_at c.args.mutex c.args.entry in
    let up = TimeIsUp g.C.Clock.tells c.args.limit in
    let lot = c.args.lot.now in let words = c.args.words in let seen = c.turn_word-seen.result in
    let here = begins up lot words (at lock.Load) c.args.token.now None c.requires in
    let looked = comes here (Value seen) c.turn_word-seen.new.token None c.turn_word-seen.ensures refl
    (at (lock.Decide seen)) (refl, looks_on c.args.mutex c.args.entry seen (is_locked seen) refl) in
    let three : c.turn_word-seen.result ≡ 3 = search rules in
    let there = named looked (ap (λ (k : ℕ). locks_at c.args.mutex c.args.entry (lock.Decide k)) three) in
    there.at

pub returns-then-seen : goal.returns-then-seen
returns-then-seen g c =
    let at = locks_at c.args.mutex c.args.entry in
    let up = TimeIsUp g.C.Clock.tells c.args.limit in
    let lot = c.args.lot.now in let words = c.args.words in let seen = c.turn_word-seen.result in
    let here = begins up lot words (at lock.Load) c.args.token.now None c.requires in
    let looked = comes here (Value seen) c.turn_word-seen.new.token None c.turn_word-seen.ensures refl
    (at (lock.Decide seen)) (refl, looks_on c.args.mutex c.args.entry seen (is_locked seen) refl) in
    let three : c.turn_word-seen.result ≡ 3 = search rules in
    let there = named looked (ap (λ (k : ℕ). locks_at c.args.mutex c.args.entry (lock.Decide k)) three) in
    there.ends c.park.result c.park.new.token c.park.ensures

pub finish_by_driver-requires-clause-at : goal.finish_by_driver-requires-clause-at
finish_by_driver-requires-clause-at g c =
    let at = locks_at c.args.mutex c.args.entry in
    let up = TimeIsUp g.C.Clock.tells c.args.limit in
    let lot = c.args.lot.now in let words = c.args.words in let seen = c.turn_word-seen.result in
    let here = begins up lot words (at lock.Load) c.args.token.now None c.requires in
    let looked = comes here (Value seen) c.turn_word-seen.new.token None c.turn_word-seen.ensures refl
    (at (lock.Decide seen)) (refl, looks_on c.args.mutex c.args.entry seen (is_locked seen) refl) in
    let there = named looked (sym c.locks-place.ensures) in
    there.at

pub finish_by_driver-requires-clause-call : goal.finish_by_driver-requires-clause-call
finish_by_driver-requires-clause-call g c = subst IsOfMutex (sym c.locks-place.ensures) tt

pub finish_by_driver-requires-clause-queued : goal.finish_by_driver-requires-clause-queued
finish_by_driver-requires-clause-queued g c =
    λ queued. absurd (false≢true (ap is_queued (sym c.locks-place.ensures) ∙ queued))

pub returns : goal.returns
returns g c =
    let at = locks_at c.args.mutex c.args.entry in
    let up = TimeIsUp g.C.Clock.tells c.args.limit in
    let lot = c.args.lot.now in let words = c.args.words in let seen = c.turn_word-seen.result in
    let here = begins up lot words (at lock.Load) c.args.token.now None c.requires in
    let looked = comes here (Value seen) c.turn_word-seen.new.token None c.turn_word-seen.ensures refl
    (at (lock.Decide seen)) (refl, looks_on c.args.mutex c.args.entry seen (is_locked seen) refl) in
    let there = named looked (sym c.locks-place.ensures) in
    there.ends c.finish_by_driver.result c.finish_by_driver.new.token c.finish_by_driver.ensures
