use Rattle.std.proofs.Common.{◌≡◌, ◌≢◌, ◌+◌, Some, refl, sym, ap, ◌∙◌, rules}
use Rattle.core_clocks.specs.Clocks.{TimeIsUp}
use Rattle.core_base.specs.declared.ops.Op.TheVariants.{Exchange}
use Rattle.steps_base.specs.declared.acts.Act.TheVariants.{Word}
use Rattle.steps_base.specs.declared.acts.Reply.TheVariants.{Value}
use Rattle.steps_mutex.specs.MutexSteps.{is_locked}
use Rattle.steps_mutex.specs.declared.lock.LockAt.TheVariants as lock
use Rattle.lot_steps.specs.Steps.{act_of, next_place}
use Rattle.lot_steps.specs.declared.places.Place.{Place}
use Rattle.run_locks.specs.CondvarCourses.{locks_at, wait_at}
use Rattle.run_base.proofs.Coming.{begins, comes, may_do, named, over}
use Rattle.run_locks.proofs.CondvarGoing.{decides_again, takes_free}
use Rattle.std.proofs.lemmas.Bool.{false≢true}
use Rattle.run_base.specs.Queued.{is_queued}
use Rattle.run_base.proofs.Unqueued.{after_condvar}
use Rattle.steps_condvar.specs.declared.places.CondvarPlace.TheVariants.{Wait}
use Rattle.run_locks.proofs.wait_courses.lock_free.Goals as goal

pub turn_word-found-requires : goal.turn_word-found-requires
turn_word-found-requires g c = let pair = c.args.pair in let at = wait_at pair.condvar pair.mutex c.args.timed
    in
    let p = at (locks_at (lock.Decide c.args.seen)) in
    let is : act_of p ≡ Word pair.mutex (Exchange c.args.seen (c.args.seen + 1)) = rw c.requires.free refl in
    let here = begins (TimeIsUp g.C.Clock.tells c.args.limit) c.args.lot.now pair.words p c.args.token.now
    c.args.section c.requires.at in
    may_do here is

pub returns-then-found-seen : goal.returns-then-found-seen
returns-then-found-seen g c = let pair = c.args.pair in let at = wait_at pair.condvar pair.mutex c.args.timed
    in
    let p = at (locks_at (lock.Decide c.args.seen)) in
    let is : act_of p ≡ Word pair.mutex (Exchange c.args.seen (c.args.seen + 1)) = rw c.requires.free refl in
    let here = begins (TimeIsUp g.C.Clock.tells c.args.limit) c.args.lot.now pair.words p c.args.token.now
    c.args.section c.requires.at in
    let same : c.turn_word-found.result ≡ c.args.seen = search rules in
    over here (Value c.turn_word-found.result) c.turn_word-found.new.token c.args.section
    c.turn_word-found.ensures is c.notified_answer.result
    (takes_free pair.condvar pair.mutex c.args.timed c.args.seen c.turn_word-found.result c.requires.free same
    ∙ ap Some (sym c.notified_answer.ensures))

pub finish_by_driver-requires-clause-at : goal.finish_by_driver-requires-clause-at
finish_by_driver-requires-clause-at g c = let pair = c.args.pair in let at = wait_at pair.condvar pair.mutex c.args.timed
    in
    let p = at (locks_at (lock.Decide c.args.seen)) in
    let is : act_of p ≡ Word pair.mutex (Exchange c.args.seen (c.args.seen + 1)) = rw c.requires.free refl in
    let here = begins (TimeIsUp g.C.Clock.tells c.args.limit) c.args.lot.now pair.words p c.args.token.now
    c.args.section c.requires.at in
    let found = c.turn_word-found.result in let changed : c.turn_word-found.result ≢ c.args.seen =
    search rules in
    let missed = comes here (Value found) c.turn_word-found.new.token c.args.section c.turn_word-found.ensures
    is (next_place p (Value found)) (
      refl,
      decides_again pair.condvar pair.mutex c.args.timed c.args.seen found (is_locked found) changed
          refl,
    ) in
    let there = named missed (sym (c.next_place-next.ensures ∙ ap (λ (q : Place). next_place q (Value found))
    (c.waits-place.ensures ∙ ap at c.locks.ensures))) in
    there.at

pub returns : goal.returns
returns g c = let pair = c.args.pair in let at = wait_at pair.condvar pair.mutex c.args.timed in
    let p = at (locks_at (lock.Decide c.args.seen)) in
    let is : act_of p ≡ Word pair.mutex (Exchange c.args.seen (c.args.seen + 1)) = rw c.requires.free refl in
    let here = begins (TimeIsUp g.C.Clock.tells c.args.limit) c.args.lot.now pair.words p c.args.token.now
    c.args.section c.requires.at in
    let found = c.turn_word-found.result in let changed : c.turn_word-found.result ≢ c.args.seen =
    search rules in
    let missed = comes here (Value found) c.turn_word-found.new.token c.args.section c.turn_word-found.ensures
    is (next_place p (Value found)) (
      refl,
      decides_again pair.condvar pair.mutex c.args.timed c.args.seen found (is_locked found) changed
          refl,
    ) in
    let there = named missed (sym (c.next_place-next.ensures ∙ ap (λ (q : Place). next_place q (Value found))
    (c.waits-place.ensures ∙ ap at c.locks.ensures))) in
    there.ends c.finish_by_driver.result c.finish_by_driver.new.token c.finish_by_driver.ensures

pub finish_by_driver-requires-clause-queued : goal.finish_by_driver-requires-clause-queued
finish_by_driver-requires-clause-queued g c = let pair = c.args.pair in let at = wait_at pair.condvar pair.mutex
    c.args.timed in let found = c.turn_word-found.result in
    let next = c.next_place-next.ensures ∙ ap (λ (q : Place). next_place q (Value c.turn_word-found.result))
    (c.waits-place.ensures ∙ ap (wait_at c.args.pair.condvar c.args.pair.mutex c.args.timed)
    c.locks.ensures) in
    let calm = after_condvar pair.condvar (Wait pair.mutex c.args.timed (locks_at (lock.Decide c.args.seen)))
    found tt refl in
    λ queued. absurd (false≢true (sym calm ∙ ap is_queued (sym next) ∙ queued))
