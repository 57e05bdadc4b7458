use Rattle.std.proofs.Common.{◌≡◌, true, None, refl, sym, ap, ◌∙◌, subst, rules}
use Rattle.core_clocks.specs.Clocks.{TimeIsUp}
use Rattle.core_base.specs.declared.notes.Note.TheVariants.{Normal}
use Rattle.steps_base.specs.declared.acts.Reply.TheVariants.{Woken}
use Rattle.steps_condvar.specs.declared.wait.WaiterFate.TheVariants.{Listed}
use Rattle.steps_condvar.specs.declared.wait.WaitAt.TheVariants as wait
use Rattle.steps_mutex.specs.declared.lock.LockAt.TheVariants as lock
use Rattle.lot_steps.specs.Steps.{next_act, next_place}
use Rattle.lot_steps.specs.declared.places.Place.{Place}
use Rattle.run_base.specs.Fitting.{answer_of}
use Rattle.run_base.specs.Turns.{HasTurned}
use Rattle.run_locks.specs.CondvarCourses.{IsOfCondvar, locks_at, wait_at}
use Rattle.run_base.proofs.Coming.{begins, named, turns_to}
use Rattle.run_locks.proofs.CondvarGoing.{sleeps_on}
use Rattle.run_base.specs.Queued.{is_queued}
use Rattle.run_locks.proofs.wait_courses.fall_asleep.Goals as goal

pub lock_again-requires : goal.lock_again-requires
lock_again-requires g c = let pair = c.args.pair in let at = wait_at pair.condvar pair.mutex c.args.timed
    in let up = TimeIsUp g.C.Clock.tells c.args.limit in
    let here = begins up c.args.lot.now pair.words (at (wait.Asleep Listed)) c.args.token.now c.args.section
    c.requires.at in
    let turned = subst (λ (p : Place). HasTurned up c.args.lot.now pair.words p c.turn_sleep-reply.result
    c.args.token.now c.args.section
    c.turn_sleep-reply.new.token c.turn_sleep-reply.new.section) c.waits-place.ensures
    c.turn_sleep-reply.ensures.turned in
    let woken : c.turn_sleep-reply.result ≡ Woken Normal = search rules in
    let on : (next_place (at (wait.Asleep Listed)) c.turn_sleep-reply.result ≡ at (locks_at lock.First))
    × (answer_of (next_act (at (wait.Asleep Listed)) c.turn_sleep-reply.result) ≡ None) =
    rw woken (refl, refl) in
    let awake = turns_to here c.turn_sleep-reply.result c.turn_sleep-reply.new.token
    c.turn_sleep-reply.new.section turned (at (locks_at lock.First)) on in
    awake.at

pub returns-then-matches : goal.returns-then-matches
returns-then-matches g c = let pair = c.args.pair in let at = wait_at pair.condvar pair.mutex c.args.timed
    in let up = TimeIsUp g.C.Clock.tells c.args.limit in
    let here = begins up c.args.lot.now pair.words (at (wait.Asleep Listed)) c.args.token.now c.args.section
    c.requires.at in
    let turned = subst (λ (p : Place). HasTurned up c.args.lot.now pair.words p c.turn_sleep-reply.result
    c.args.token.now c.args.section
    c.turn_sleep-reply.new.token c.turn_sleep-reply.new.section) c.waits-place.ensures
    c.turn_sleep-reply.ensures.turned in
    let woken : c.turn_sleep-reply.result ≡ Woken Normal = search rules in
    let on : (next_place (at (wait.Asleep Listed)) c.turn_sleep-reply.result ≡ at (locks_at lock.First))
    × (answer_of (next_act (at (wait.Asleep Listed)) c.turn_sleep-reply.result) ≡ None) =
    rw woken (refl, refl) in
    let awake = turns_to here c.turn_sleep-reply.result c.turn_sleep-reply.new.token
    c.turn_sleep-reply.new.section turned (at (locks_at lock.First)) on in
    awake.ends c.lock_again.result c.lock_again.new.token c.lock_again.ensures

pub finish_by_driver-requires-clause-at : goal.finish_by_driver-requires-clause-at
finish_by_driver-requires-clause-at g c = let pair = c.args.pair in let at = wait_at pair.condvar pair.mutex c.args.timed
    in let up = TimeIsUp g.C.Clock.tells c.args.limit in
    let here = begins up c.args.lot.now pair.words (at (wait.Asleep Listed)) c.args.token.now c.args.section
    c.requires.at in
    let turned = subst (λ (p : Place). HasTurned up c.args.lot.now pair.words p c.turn_sleep-reply.result
    c.args.token.now c.args.section
    c.turn_sleep-reply.new.token c.turn_sleep-reply.new.section) c.waits-place.ensures
    c.turn_sleep-reply.ensures.turned in
    let awake = turns_to here c.turn_sleep-reply.result c.turn_sleep-reply.new.token
    c.turn_sleep-reply.new.section turned
    (next_place (at (wait.Asleep Listed)) c.turn_sleep-reply.result) (
      refl,
      sleeps_on pair.condvar pair.mutex c.args.timed c.turn_sleep-reply.result,
    ) in
    let there = named awake (sym (c.next_place-next.ensures
    ∙ ap (λ (p : Place). next_place p c.turn_sleep-reply.result) c.waits-place.ensures)) in
    there.at

pub finish_by_driver-requires-clause-call : goal.finish_by_driver-requires-clause-call
finish_by_driver-requires-clause-call g c =
    subst IsOfCondvar (sym (c.next_place-next.ensures
    ∙ ap (λ (p : Place). next_place p c.turn_sleep-reply.result) c.waits-place.ensures)) tt

pub returns : goal.returns
returns g c = let pair = c.args.pair in let at = wait_at pair.condvar pair.mutex c.args.timed in let up =
    TimeIsUp g.C.Clock.tells c.args.limit in
    let here = begins up c.args.lot.now pair.words (at (wait.Asleep Listed)) c.args.token.now c.args.section
    c.requires.at in
    let turned = subst (λ (p : Place). HasTurned up c.args.lot.now pair.words p c.turn_sleep-reply.result
    c.args.token.now c.args.section
    c.turn_sleep-reply.new.token c.turn_sleep-reply.new.section) c.waits-place.ensures
    c.turn_sleep-reply.ensures.turned in
    let awake = turns_to here c.turn_sleep-reply.result c.turn_sleep-reply.new.token
    c.turn_sleep-reply.new.section turned
    (next_place (at (wait.Asleep Listed)) c.turn_sleep-reply.result) (
      refl,
      sleeps_on pair.condvar pair.mutex c.args.timed c.turn_sleep-reply.result,
    ) in
    let there = named awake (sym (c.next_place-next.ensures
    ∙ ap (λ (p : Place). next_place p c.turn_sleep-reply.result) c.waits-place.ensures)) in
    there.ends c.finish_by_driver.result c.finish_by_driver.new.token c.finish_by_driver.ensures

pub turn_sleep-reply-requires-clause-queued : goal.turn_sleep-reply-requires-clause-queued
turn_sleep-reply-requires-clause-queued g c = c.requires.queued

pub finish_by_driver-requires-clause-queued : goal.finish_by_driver-requires-clause-queued
finish_by_driver-requires-clause-queued g c = λ queued. c.turn_sleep-reply.ensures.queued
    (subst (λ (p : Place). is_queued p ≡ true) c.next_place-next.ensures queued)
