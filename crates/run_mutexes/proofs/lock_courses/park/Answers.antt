use Rattle.std.proofs.Common.{◌≡◌, true, false, None, refl, sym, ap, ◌∙◌, rules, subst, ℕ}
use Rattle.std.proofs.lemmas.Bool.{false≢true}
use Rattle.core_clocks.specs.Clocks.{TimeIsUp}
use Rattle.steps_base.specs.declared.acts.Reply.TheVariants.{Done, Parked}
use Rattle.steps_mutex.specs.declared.lock.LockAt.TheVariants as lock
use Rattle.lot_steps.specs.Steps.{next_act, next_place}
use Rattle.run_base.specs.Fitting.{answer_of}
use Rattle.run_base.specs.Queued.{HasPlace, is_queued}
use Rattle.run_base.proofs.Coming.{begins, comes, enters_one, leaves_one, may_do, named}
use Rattle.run_mutexes.specs.LockCourses.{IsOfMutex, locks_at}
use Rattle.run_mutexes.proofs.LockGoing.{parks_at}
use Rattle.run_mutexes.proofs.lock_courses.park.Goals as goal

pub turn_enter-requires : goal.turn_enter-requires
turn_enter-requires g c =
    let at = locks_at c.args.mutex c.args.entry in
    let up = TimeIsUp g.C.Clock.tells c.args.limit in
    let lot = c.args.lot.now in let words = c.args.words in
    let here = begins up lot words (at (lock.Decide 3)) c.args.token.now None c.requires in
    may_do here (enters_one c.main_key-key.ensures)

pub turn_park-parked-requires : goal.turn_park-parked-requires
turn_park-parked-requires g c =
    let at = locks_at c.args.mutex c.args.entry in
    let up = TimeIsUp g.C.Clock.tells c.args.limit in
    let lot = c.args.lot.now in let words = c.args.words in
    let here = begins up lot words (at (lock.Decide 3)) c.args.token.now None c.requires in
    let entered = comes here Done c.turn_enter.new.token c.turn_enter.new.section c.turn_enter.ensures
    (enters_one c.main_key-key.ensures) (at lock.Check) (refl, refl) in
    may_do entered (parks_at c.args.mutex c.main_key-key.ensures)

pub turn_leave-requires : goal.turn_leave-requires
turn_leave-requires g c =
    let at = locks_at c.args.mutex c.args.entry in
    let up = TimeIsUp g.C.Clock.tells c.args.limit in
    let lot = c.args.lot.now in let words = c.args.words in
    let here = begins up lot words (at (lock.Decide 3)) c.args.token.now None c.requires in
    let entered = comes here Done c.turn_enter.new.token c.turn_enter.new.section c.turn_enter.ensures
    (enters_one c.main_key-key.ensures) (at lock.Check) (refl, refl) in
    let parked = c.turn_park-parked.result in
    let stood = comes entered (Parked parked) c.turn_park-parked.new.token c.turn_park-parked.new.section
    c.turn_park-parked.ensures.done (parks_at c.args.mutex c.main_key-key.ensures) (at (lock.Leave parked))
    (refl, refl) in
    may_do stood (leaves_one c.main_key-key.ensures refl)

pub fall_asleep-requires-clause-at : goal.fall_asleep-requires-clause-at
fall_asleep-requires-clause-at g c =
    let at = locks_at c.args.mutex c.args.entry in
    let up = TimeIsUp g.C.Clock.tells c.args.limit in
    let lot = c.args.lot.now in let words = c.args.words in
    let here = begins up lot words (at (lock.Decide 3)) c.args.token.now None c.requires in
    let entered = comes here Done c.turn_enter.new.token c.turn_enter.new.section c.turn_enter.ensures
    (enters_one c.main_key-key.ensures) (at lock.Check) (refl, refl) in
    let parked = c.turn_park-parked.result in
    let stood = comes entered (Parked parked) c.turn_park-parked.new.token c.turn_park-parked.new.section
    c.turn_park-parked.ensures.done (parks_at c.args.mutex c.main_key-key.ensures) (at (lock.Leave parked))
    (refl, refl) in
    let stands : c.turn_park-parked.result ≡ true = search rules in
    let on : (next_place (locks_at c.args.mutex c.args.entry (lock.Leave c.turn_park-parked.result)) Done
    ≡ locks_at c.args.mutex c.args.entry lock.Asleep) × (answer_of (next_act
    (locks_at c.args.mutex c.args.entry (lock.Leave c.turn_park-parked.result)) Done) ≡ None)
    = rw stands (refl, refl) in
    let left = comes stood Done c.turn_leave.new.token c.turn_leave.new.section c.turn_leave.ensures
    (leaves_one c.main_key-key.ensures refl) (at lock.Asleep) on in
    left.at

pub fall_asleep-requires-clause-queued : goal.fall_asleep-requires-clause-queued
fall_asleep-requires-clause-queued g c =
    let at = locks_at c.args.mutex c.args.entry in
    let up = TimeIsUp g.C.Clock.tells c.args.limit in
    let lot = c.args.lot.now in let words = c.args.words in
    let here = begins up lot words (at (lock.Decide 3)) c.args.token.now None c.requires in
    let entered = comes here Done c.turn_enter.new.token c.turn_enter.new.section c.turn_enter.ensures
    (enters_one c.main_key-key.ensures) (at lock.Check) (refl, refl) in
    let parked = c.turn_park-parked.result in
    let stood = comes entered (Parked parked) c.turn_park-parked.new.token c.turn_park-parked.new.section
    c.turn_park-parked.ensures.done (parks_at c.args.mutex c.main_key-key.ensures) (at (lock.Leave parked))
    (refl, refl) in
    let stands : c.turn_park-parked.result ≡ true = search rules in
    let on : (next_place (locks_at c.args.mutex c.args.entry (lock.Leave c.turn_park-parked.result)) Done
    ≡ locks_at c.args.mutex c.args.entry lock.Asleep) × (answer_of (next_act
    (locks_at c.args.mutex c.args.entry (lock.Leave c.turn_park-parked.result)) Done) ≡ None)
    = rw stands (refl, refl) in
    let left = comes stood Done c.turn_leave.new.token c.turn_leave.new.section c.turn_leave.ensures
    (leaves_one c.main_key-key.ensures refl) (at lock.Asleep) on in
    subst (λ (k : ℕ). HasPlace c.args.lot.now k c.turn_park-parked.new.queue) (entered.same ∙ sym left.same)
    (c.turn_park-parked.ensures.place stands)

pub returns-then-parked : goal.returns-then-parked
returns-then-parked g c =
    let at = locks_at c.args.mutex c.args.entry in
    let up = TimeIsUp g.C.Clock.tells c.args.limit in
    let lot = c.args.lot.now in let words = c.args.words in
    let here = begins up lot words (at (lock.Decide 3)) c.args.token.now None c.requires in
    let entered = comes here Done c.turn_enter.new.token c.turn_enter.new.section c.turn_enter.ensures
    (enters_one c.main_key-key.ensures) (at lock.Check) (refl, refl) in
    let parked = c.turn_park-parked.result in
    let stood = comes entered (Parked parked) c.turn_park-parked.new.token c.turn_park-parked.new.section
    c.turn_park-parked.ensures.done (parks_at c.args.mutex c.main_key-key.ensures) (at (lock.Leave parked))
    (refl, refl) in
    let stands : c.turn_park-parked.result ≡ true = search rules in
    let on : (next_place (locks_at c.args.mutex c.args.entry (lock.Leave c.turn_park-parked.result)) Done
    ≡ locks_at c.args.mutex c.args.entry lock.Asleep) × (answer_of (next_act
    (locks_at c.args.mutex c.args.entry (lock.Leave c.turn_park-parked.result)) Done) ≡ None)
    = rw stands (refl, refl) in
    let left = comes stood Done c.turn_leave.new.token c.turn_leave.new.section c.turn_leave.ensures
    (leaves_one c.main_key-key.ensures refl) (at lock.Asleep) on in
    left.ends c.fall_asleep.result c.fall_asleep.new.token c.fall_asleep.ensures

pub finish_by_driver-requires-clause-at : goal.finish_by_driver-requires-clause-at
finish_by_driver-requires-clause-at g c =
    let at = locks_at c.args.mutex c.args.entry in
    let up = TimeIsUp g.C.Clock.tells c.args.limit in
    let lot = c.args.lot.now in let words = c.args.words in
    let here = begins up lot words (at (lock.Decide 3)) c.args.token.now None c.requires in
    let entered = comes here Done c.turn_enter.new.token c.turn_enter.new.section c.turn_enter.ensures
    (enters_one c.main_key-key.ensures) (at lock.Check) (refl, refl) in
    let parked = c.turn_park-parked.result in
    let stood = comes entered (Parked parked) c.turn_park-parked.new.token c.turn_park-parked.new.section
    c.turn_park-parked.ensures.done (parks_at c.args.mutex c.main_key-key.ensures) (at (lock.Leave parked))
    (refl, refl) in
    let gone : c.turn_park-parked.result ≡ false = search rules in
    let on : (next_place (locks_at c.args.mutex c.args.entry (lock.Leave c.turn_park-parked.result)) Done
    ≡ locks_at c.args.mutex c.args.entry lock.Load) × (answer_of (next_act
    (locks_at c.args.mutex c.args.entry (lock.Leave c.turn_park-parked.result)) Done) ≡ None)
    = rw gone (refl, refl) in
    let left = comes stood Done c.turn_leave.new.token c.turn_leave.new.section c.turn_leave.ensures
    (leaves_one c.main_key-key.ensures refl) (at lock.Load) on in
    (named left (sym c.locks-place.ensures)).at

pub finish_by_driver-requires-clause-call : goal.finish_by_driver-requires-clause-call
finish_by_driver-requires-clause-call g c = subst IsOfMutex (sym c.locks-place.ensures) tt

pub finish_by_driver-requires-clause-queued : goal.finish_by_driver-requires-clause-queued
finish_by_driver-requires-clause-queued g c =
    λ queued. absurd (false≢true (ap is_queued (sym c.locks-place.ensures) ∙ queued))

pub returns : goal.returns
returns g c =
    let at = locks_at c.args.mutex c.args.entry in
    let up = TimeIsUp g.C.Clock.tells c.args.limit in
    let lot = c.args.lot.now in let words = c.args.words in
    let here = begins up lot words (at (lock.Decide 3)) c.args.token.now None c.requires in
    let entered = comes here Done c.turn_enter.new.token c.turn_enter.new.section c.turn_enter.ensures
    (enters_one c.main_key-key.ensures) (at lock.Check) (refl, refl) in
    let parked = c.turn_park-parked.result in
    let stood = comes entered (Parked parked) c.turn_park-parked.new.token c.turn_park-parked.new.section
    c.turn_park-parked.ensures.done (parks_at c.args.mutex c.main_key-key.ensures) (at (lock.Leave parked))
    (refl, refl) in
    let gone : c.turn_park-parked.result ≡ false = search rules in
    let on : (next_place (locks_at c.args.mutex c.args.entry (lock.Leave c.turn_park-parked.result)) Done
    ≡ locks_at c.args.mutex c.args.entry lock.Load) × (answer_of (next_act
    (locks_at c.args.mutex c.args.entry (lock.Leave c.turn_park-parked.result)) Done) ≡ None)
    = rw gone (refl, refl) in
    let left = comes stood Done c.turn_leave.new.token c.turn_leave.new.section c.turn_leave.ensures
    (leaves_one c.main_key-key.ensures refl) (at lock.Load) on in
    (named left (sym c.locks-place.ensures)).ends c.finish_by_driver.result c.finish_by_driver.new.token c.finish_by_driver.ensures
