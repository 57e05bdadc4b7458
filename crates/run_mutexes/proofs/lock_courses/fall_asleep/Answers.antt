use Rattle.std.proofs.Common.{◌≡◌, true, None, Some, refl, sym, ap, ◌∙◌, subst, rules}
use Rattle.core_clocks.specs.Clocks.{TimeIsUp}
use Rattle.core_base.specs.declared.notes.Note.TheVariants.{HandOff}
use Rattle.steps_base.specs.declared.acts.Reply.TheVariants.{Done, Woken}
use Rattle.steps_mutex.specs.MutexSteps.{entered}
use Rattle.steps_mutex.specs.declared.lock.LockAt.TheVariants as lock
use Rattle.lot_steps.specs.Steps.{next_act, next_place}
use Rattle.lot_steps.specs.declared.places.Place.{Place}
use Rattle.run_base.specs.Fitting.{answer_of}
use Rattle.run_base.specs.Queued.{is_queued}
use Rattle.run_base.specs.Turns.{HasTurned}
use Rattle.run_base.proofs.Coming.{begins, named, turn_outside, turns_to}
use Rattle.run_base.proofs.TurnsOn.{accepts, turn_ends}
use Rattle.run_mutexes.specs.LockCourses.{IsOfMutex, locks_at}
use Rattle.run_mutexes.proofs.LockGoing.{sleeps_on, stays_of}
use Rattle.run_mutexes.proofs.lock_courses.fall_asleep.Goals as goal

pub turn_sleep-reply-requires-clause-at : goal.turn_sleep-reply-requires-clause-at
turn_sleep-reply-requires-clause-at g c = let up = TimeIsUp g.C.Clock.tells c.args.limit in
    (named (begins up c.args.lot.now c.args.words (locks_at c.args.mutex c.args.entry lock.Asleep)
    c.args.token.now c.args.section c.requires.at) (sym c.locks-place.ensures)).at

pub turn_sleep-reply-requires-clause-queued : goal.turn_sleep-reply-requires-clause-queued
turn_sleep-reply-requires-clause-queued g c = c.requires.queued

pub end-requires : goal.end-requires
end-requires g c =
    let at = locks_at c.args.mutex c.args.entry in
    let up = TimeIsUp g.C.Clock.tells c.args.limit in
    let lot = c.args.lot.now in let words = c.args.words in let reply = c.turn_sleep-reply.result in
    let new = c.turn_sleep-reply.new.token in let now = c.turn_sleep-reply.new.section in
    let here = begins up lot words (at lock.Asleep) c.args.token.now c.args.section c.requires.at in
    let turned = subst (λ (p : Place). HasTurned up c.args.lot.now c.args.words p c.turn_sleep-reply.result
    c.args.token.now c.args.section c.turn_sleep-reply.new.token c.turn_sleep-reply.new.section)
    c.locks-place.ensures c.turn_sleep-reply.ensures.turned in
    let woken : c.turn_sleep-reply.result ≡ Woken HandOff = search rules in
    let on : (next_place (locks_at c.args.mutex c.args.entry lock.Asleep) c.turn_sleep-reply.result
    ≡ locks_at c.args.mutex c.args.entry lock.Accept) × (answer_of (next_act
    (locks_at c.args.mutex c.args.entry lock.Asleep) c.turn_sleep-reply.result) ≡ None)
    = rw woken (refl, refl) in
    let awake = turns_to here reply new now turned (at lock.Accept) on in
    turn_outside up lot words (at lock.Accept) Done new new now now (entered c.args.entry) awake.at
    (accepts up lot words (at lock.Accept) new now refl awake.at) refl

pub returns-then-matches : goal.returns-then-matches
returns-then-matches g c =
    let at = locks_at c.args.mutex c.args.entry in
    let up = TimeIsUp g.C.Clock.tells c.args.limit in
    let lot = c.args.lot.now in let words = c.args.words in let reply = c.turn_sleep-reply.result in
    let new = c.turn_sleep-reply.new.token in let now = c.turn_sleep-reply.new.section in
    let here = begins up lot words (at lock.Asleep) c.args.token.now c.args.section c.requires.at in
    let turned = subst (λ (p : Place). HasTurned up c.args.lot.now c.args.words p c.turn_sleep-reply.result
    c.args.token.now c.args.section c.turn_sleep-reply.new.token c.turn_sleep-reply.new.section)
    c.locks-place.ensures c.turn_sleep-reply.ensures.turned in
    let woken : c.turn_sleep-reply.result ≡ Woken HandOff = search rules in
    let on : (next_place (locks_at c.args.mutex c.args.entry lock.Asleep) c.turn_sleep-reply.result
    ≡ locks_at c.args.mutex c.args.entry lock.Accept) × (answer_of (next_act
    (locks_at c.args.mutex c.args.entry lock.Asleep) c.turn_sleep-reply.result) ≡ None)
    = rw woken (refl, refl) in
    let awake = turns_to here reply new now turned (at lock.Accept) on in
    awake.ends c.entered.result new (turn_ends up lot words (at lock.Accept) Done new new now now
    (accepts up lot words (at lock.Accept) new now refl awake.at) awake.at c.entered.result
    (ap Some (sym c.entered.ensures)))

pub finish_by_driver-requires-clause-at : goal.finish_by_driver-requires-clause-at
finish_by_driver-requires-clause-at g c =
    let at = locks_at c.args.mutex c.args.entry in
    let up = TimeIsUp g.C.Clock.tells c.args.limit in
    let lot = c.args.lot.now in let words = c.args.words in let reply = c.turn_sleep-reply.result in
    let new = c.turn_sleep-reply.new.token in let now = c.turn_sleep-reply.new.section in
    let here = begins up lot words (at lock.Asleep) c.args.token.now c.args.section c.requires.at in
    let turned = subst (λ (p : Place). HasTurned up c.args.lot.now c.args.words p c.turn_sleep-reply.result
    c.args.token.now c.args.section c.turn_sleep-reply.new.token c.turn_sleep-reply.new.section)
    c.locks-place.ensures c.turn_sleep-reply.ensures.turned in
    let awake = turns_to here reply new now turned (next_place (at lock.Asleep) reply)
    (refl, sleeps_on c.args.mutex c.args.entry reply) in
    let there = named awake (sym (c.next_place-next.ensures
    ∙ ap (λ (p : Place). next_place p c.turn_sleep-reply.result) c.locks-place.ensures)) in
    there.at

pub finish_by_driver-requires-clause-call : goal.finish_by_driver-requires-clause-call
finish_by_driver-requires-clause-call g c = subst IsOfMutex (sym (c.next_place-next.ensures
    ∙ ap (λ (p : Place). next_place p c.turn_sleep-reply.result) c.locks-place.ensures))
    (stays_of c.args.mutex c.args.entry c.turn_sleep-reply.result)

pub finish_by_driver-requires-clause-queued : goal.finish_by_driver-requires-clause-queued
finish_by_driver-requires-clause-queued g c = λ queued. c.turn_sleep-reply.ensures.queued
    (subst (λ (p : Place). is_queued p ≡ true) c.next_place-next.ensures queued)

pub returns : goal.returns
returns g c =
    let at = locks_at c.args.mutex c.args.entry in
    let up = TimeIsUp g.C.Clock.tells c.args.limit in
    let lot = c.args.lot.now in let words = c.args.words in let reply = c.turn_sleep-reply.result in
    let new = c.turn_sleep-reply.new.token in let now = c.turn_sleep-reply.new.section in
    let here = begins up lot words (at lock.Asleep) c.args.token.now c.args.section c.requires.at in
    let turned = subst (λ (p : Place). HasTurned up c.args.lot.now c.args.words p c.turn_sleep-reply.result
    c.args.token.now c.args.section c.turn_sleep-reply.new.token c.turn_sleep-reply.new.section)
    c.locks-place.ensures c.turn_sleep-reply.ensures.turned in
    let awake = turns_to here reply new now turned (next_place (at lock.Asleep) reply)
    (refl, sleeps_on c.args.mutex c.args.entry reply) in
    let there = named awake (sym (c.next_place-next.ensures
    ∙ ap (λ (p : Place). next_place p c.turn_sleep-reply.result) c.locks-place.ensures)) in
    there.ends c.finish_by_driver.result c.finish_by_driver.new.token c.finish_by_driver.ensures
