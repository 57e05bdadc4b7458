use Rattle.std.proofs.Common.{◌≡◌, ◌≢◌, true, false, refl, sym, ap, ◌∙◌, rules}
use Rattle.steps_base.specs.declared.acts.Reply.TheVariants.{Value}
use Rattle.steps_condvar.specs.declared.notify.NotifyAt.TheVariants as notify
use Rattle.steps_mutex.specs.MutexSteps.{is_locked}
use Rattle.lot_steps.specs.Steps.{next_place}
use Rattle.lot_steps.specs.declared.places.Place.{Place}
use Rattle.run_locks.specs.CondvarCourses.{notify_at}
use Rattle.run_base.proofs.Coming.{begins, comes, may_do, named}
use Rattle.run_locks.proofs.CondvarGoing.{marks_on, set_again, set_on}
use Rattle.std.proofs.lemmas.Bool.{false≢true}
use Rattle.run_base.specs.Queued.{is_queued}
use Rattle.run_base.proofs.Unqueued.{after_condvar}
use Rattle.steps_condvar.specs.declared.places.CondvarPlace.TheVariants.{Notify}
use Rattle.run_locks.proofs.notify_courses.mark_and_move.Goals as goal

pub move_some-requires : goal.move_some-requires
move_some-requires g c = let pair = c.args.pair in let at = notify_at pair.condvar pair.mutex c.args.all
    in let seen = c.turn_word-seen.result in
    let owned : is_locked c.turn_word-seen.result ≡ false = search rules in
    let here = begins ⊥ c.args.lot.now pair.words (at notify.Mark) c.args.token.now c.args.section c.requires
    in
    let looked = comes here (Value seen) c.turn_word-seen.new.token c.args.section c.turn_word-seen.ensures
    refl (at (notify.Move false))
    (marks_on pair.condvar pair.mutex c.args.all seen false owned) in
    looked.at

pub returns-then-not-is_locked : goal.returns-then-not-is_locked
returns-then-not-is_locked g c = let pair = c.args.pair in let at = notify_at pair.condvar pair.mutex
    c.args.all in let seen = c.turn_word-seen.result in
    let owned : is_locked c.turn_word-seen.result ≡ false = search rules in
    let here = begins ⊥ c.args.lot.now pair.words (at notify.Mark) c.args.token.now c.args.section c.requires
    in
    let looked = comes here (Value seen) c.turn_word-seen.new.token c.args.section c.turn_word-seen.ensures
    refl (at (notify.Move false))
    (marks_on pair.condvar pair.mutex c.args.all seen false owned) in
    looked.ends c.move_some.result c.move_some.new.token c.move_some.ensures

pub turn_word-found-requires : goal.turn_word-found-requires
turn_word-found-requires g c = let pair = c.args.pair in let at = notify_at pair.condvar pair.mutex c.args.all
    in let seen = c.turn_word-seen.result in
    let owned : is_locked c.turn_word-seen.result ≡ true = search rules in
    let here = begins ⊥ c.args.lot.now pair.words (at notify.Mark) c.args.token.now c.args.section c.requires
    in
    let looked = comes here (Value seen) c.turn_word-seen.new.token c.args.section c.turn_word-seen.ensures
    refl (at (notify.Set seen))
    (marks_on pair.condvar pair.mutex c.args.all seen true owned) in
    may_do looked refl

pub move_some-requires-then-found-seen : goal.move_some-requires-then-found-seen
move_some-requires-then-found-seen g c = let pair = c.args.pair in let at =
    notify_at pair.condvar pair.mutex c.args.all in let seen = c.turn_word-seen.result in
    let owned : is_locked c.turn_word-seen.result ≡ true = search rules in
    let here = begins ⊥ c.args.lot.now pair.words (at notify.Mark) c.args.token.now c.args.section c.requires
    in
    let looked = comes here (Value seen) c.turn_word-seen.new.token c.args.section c.turn_word-seen.ensures
    refl (at (notify.Set seen))
    (marks_on pair.condvar pair.mutex c.args.all seen true owned) in
    let same : c.turn_word-found.result ≡ c.turn_word-seen.result = search rules in
    let set = comes looked (Value c.turn_word-found.result) c.turn_word-found.new.token c.args.section
    c.turn_word-found.ensures refl (at (notify.Move true))
    (set_on pair.condvar pair.mutex c.args.all seen c.turn_word-found.result same) in
    set.at

pub returns-then-found-seen : goal.returns-then-found-seen
returns-then-found-seen g c = let pair = c.args.pair in let at = notify_at pair.condvar pair.mutex c.args.all
    in let seen = c.turn_word-seen.result in
    let owned : is_locked c.turn_word-seen.result ≡ true = search rules in
    let here = begins ⊥ c.args.lot.now pair.words (at notify.Mark) c.args.token.now c.args.section c.requires
    in
    let looked = comes here (Value seen) c.turn_word-seen.new.token c.args.section c.turn_word-seen.ensures
    refl (at (notify.Set seen))
    (marks_on pair.condvar pair.mutex c.args.all seen true owned) in
    let same : c.turn_word-found.result ≡ c.turn_word-seen.result = search rules in
    let set = comes looked (Value c.turn_word-found.result) c.turn_word-found.new.token c.args.section
    c.turn_word-found.ensures refl (at (notify.Move true))
    (set_on pair.condvar pair.mutex c.args.all seen c.turn_word-found.result same) in
    set.ends c.move_some-then-found-seen.result c.move_some-then-found-seen.new.token
    c.move_some-then-found-seen.ensures

pub finish_by_driver-requires-clause-at : goal.finish_by_driver-requires-clause-at
finish_by_driver-requires-clause-at g c = let pair = c.args.pair in let at = notify_at pair.condvar pair.mutex c.args.all
    in let seen = c.turn_word-seen.result in
    let owned : is_locked c.turn_word-seen.result ≡ true = search rules in
    let here = begins ⊥ c.args.lot.now pair.words (at notify.Mark) c.args.token.now c.args.section c.requires
    in
    let looked = comes here (Value seen) c.turn_word-seen.new.token c.args.section c.turn_word-seen.ensures
    refl (at (notify.Set seen))
    (marks_on pair.condvar pair.mutex c.args.all seen true owned) in
    let found = c.turn_word-found.result in let changed : c.turn_word-found.result ≢ c.turn_word-seen.result =
    search rules in
    let missed = comes looked (Value found) c.turn_word-found.new.token c.args.section
    c.turn_word-found.ensures refl (next_place (at (notify.Set seen)) (Value found))
    (refl, set_again pair.condvar pair.mutex c.args.all seen found (is_locked found) changed refl) in
    let there = named missed (sym (c.next_place-next.ensures ∙ ap (λ (p : Place). next_place p (Value found))
    c.notifies-place.ensures)) in
    there.at

pub returns : goal.returns
returns g c = let pair = c.args.pair in let at = notify_at pair.condvar pair.mutex c.args.all in let seen =
    c.turn_word-seen.result in
    let owned : is_locked c.turn_word-seen.result ≡ true = search rules in
    let here = begins ⊥ c.args.lot.now pair.words (at notify.Mark) c.args.token.now c.args.section c.requires
    in
    let looked = comes here (Value seen) c.turn_word-seen.new.token c.args.section c.turn_word-seen.ensures
    refl (at (notify.Set seen))
    (marks_on pair.condvar pair.mutex c.args.all seen true owned) in
    let found = c.turn_word-found.result in let changed : c.turn_word-found.result ≢ c.turn_word-seen.result =
    search rules in
    let missed = comes looked (Value found) c.turn_word-found.new.token c.args.section
    c.turn_word-found.ensures refl (next_place (at (notify.Set seen)) (Value found))
    (refl, set_again pair.condvar pair.mutex c.args.all seen found (is_locked found) changed refl) in
    let there = named missed (sym (c.next_place-next.ensures ∙ ap (λ (p : Place). next_place p (Value found))
    c.notifies-place.ensures)) in
    there.ends c.finish_by_driver.result c.finish_by_driver.new.token c.finish_by_driver.ensures

pub finish_by_driver-requires-clause-queued : goal.finish_by_driver-requires-clause-queued
finish_by_driver-requires-clause-queued g c = let pair = c.args.pair in let found = c.turn_word-found.result in
    let next = c.next_place-next.ensures ∙ ap (λ (q : Place). next_place q (Value c.turn_word-found.result))
    c.notifies-place.ensures in
    let calm = after_condvar pair.condvar (Notify c.args.all pair.mutex (notify.Set c.turn_word-seen.result))
    found tt refl in
    λ queued. absurd (false≢true (sym calm ∙ ap is_queued (sym next) ∙ queued))
