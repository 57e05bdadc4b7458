use Rattle.std.proofs.Common.{ℕ, ◌≡◌, true, false, None, refl, sym, ap, ◌∙◌, rules}
use Rattle.core_clocks.specs.Clocks.{TimeIsUp}
use Rattle.core_base.specs.declared.ops.Op.TheVariants.{Exchange}
use Rattle.core_base.specs.declared.wants.Want.TheVariants.{Wait}
use Rattle.steps_base.specs.declared.acts.Act.TheVariants.{Stand, Word}
use Rattle.steps_base.specs.declared.acts.Reply.TheVariants.{Done, Value}
use Rattle.steps_condvar.specs.declared.wait.WaitAt.TheVariants as wait
use Rattle.steps_mutex.specs.declared.unlock.UnlockAt.TheVariants as unlock
use Rattle.run_locks.specs.CondvarCourses.{releases_at, wait_at}
use Rattle.run_base.proofs.Coming.{begins, comes, enters_one, leaves_one, may_do, named}
use Rattle.run_locks.proofs.CondvarGoing.{keyed, shows_on}
use Rattle.std.proofs.lemmas.Bool.{false≢true}
use Rattle.run_base.specs.Queued.{is_queued}
use Rattle.run_locks.proofs.wait_courses.wait_course.Goals as goal

pub main_key-key-requires : goal.main_key-key-requires
main_key-key-requires g c = keyed c.args.pair.condvar c.requires.3.0.0

pub turn_enter-requires : goal.turn_enter-requires
turn_enter-requires g c = (
  wait_at c.args.pair.condvar c.args.pair.mutex c.args.timed wait.Enter,
  c.requires,
  enters_one c.main_key-key.ensures,
)

pub turn_word-seen-requires : goal.turn_word-seen-requires
turn_word-seen-requires g c = let pair = c.args.pair in let at = wait_at pair.condvar pair.mutex c.args.timed
    in let up = TimeIsUp g.C.Clock.tells c.args.limit in
    let entered = comes (begins up c.args.lot.now pair.words (at wait.Enter) c.args.token.now None c.requires)
    Done c.turn_enter.new.token c.turn_enter.new.section
    c.turn_enter.ensures (enters_one c.main_key-key.ensures) (at wait.Show) (refl, refl) in
    may_do entered (ap (λ (v : ℕ). Word pair.condvar (Exchange 0 v)) (sym c.shown.ensures))

pub finish_by_driver-requires-clause-at : goal.finish_by_driver-requires-clause-at
finish_by_driver-requires-clause-at g c = let pair = c.args.pair in let at = wait_at pair.condvar pair.mutex c.args.timed
    in let up = TimeIsUp g.C.Clock.tells c.args.limit in
    let entered = comes (begins up c.args.lot.now pair.words (at wait.Enter) c.args.token.now None c.requires)
    Done c.turn_enter.new.token c.turn_enter.new.section
    c.turn_enter.ensures (enters_one c.main_key-key.ensures) (at wait.Show) (refl, refl) in
    let other : c.may_show.result ≡ false = search rules in
    let shown = comes entered (Value c.turn_word-seen.result) c.turn_word-seen.new.token
    c.turn_enter.new.section c.turn_word-seen.ensures
    (ap (λ (v : ℕ). Word pair.condvar (Exchange 0 v)) (sym c.shown.ensures)) (at wait.Refuse)
    (shows_on pair.condvar pair.mutex c.args.timed c.turn_word-seen.result false (sym c.may_show.ensures
    ∙ other)) in
    (named shown (sym c.waits-place.ensures)).at

pub returns-then-not-may_show : goal.returns-then-not-may_show
returns-then-not-may_show g c = let pair = c.args.pair in let at = wait_at pair.condvar pair.mutex
    c.args.timed in let up = TimeIsUp g.C.Clock.tells c.args.limit in
    let entered = comes (begins up c.args.lot.now pair.words (at wait.Enter) c.args.token.now None c.requires)
    Done c.turn_enter.new.token c.turn_enter.new.section
    c.turn_enter.ensures (enters_one c.main_key-key.ensures) (at wait.Show) (refl, refl) in
    let other : c.may_show.result ≡ false = search rules in
    let shown = comes entered (Value c.turn_word-seen.result) c.turn_word-seen.new.token
    c.turn_enter.new.section c.turn_word-seen.ensures
    (ap (λ (v : ℕ). Word pair.condvar (Exchange 0 v)) (sym c.shown.ensures)) (at wait.Refuse)
    (shows_on pair.condvar pair.mutex c.args.timed c.turn_word-seen.result false (sym c.may_show.ensures
    ∙ other)) in
    (named shown (sym c.waits-place.ensures)).ends c.finish_by_driver.result c.finish_by_driver.new.token c.finish_by_driver.ensures

pub turn_stand-queue-requires : goal.turn_stand-queue-requires
turn_stand-queue-requires g c = let pair = c.args.pair in let at = wait_at pair.condvar pair.mutex
    c.args.timed in let up = TimeIsUp g.C.Clock.tells c.args.limit in
    let entered = comes (begins up c.args.lot.now pair.words (at wait.Enter) c.args.token.now None c.requires)
    Done c.turn_enter.new.token c.turn_enter.new.section
    c.turn_enter.ensures (enters_one c.main_key-key.ensures) (at wait.Show) (refl, refl) in
    let may : c.may_show.result ≡ true = search rules in
    let shown = comes entered (Value c.turn_word-seen.result) c.turn_word-seen.new.token
    c.turn_enter.new.section c.turn_word-seen.ensures
    (ap (λ (v : ℕ). Word pair.condvar (Exchange 0 v)) (sym c.shown.ensures)) (at wait.Stand)
    (shows_on pair.condvar pair.mutex c.args.timed c.turn_word-seen.result true (sym c.may_show.ensures
    ∙ may)) in
    may_do shown (ap (λ (k : ℕ). Stand k Wait) (sym c.main_key-key.ensures))

pub turn_leave-requires : goal.turn_leave-requires
turn_leave-requires g c = let pair = c.args.pair in let at = wait_at pair.condvar pair.mutex c.args.timed
    in let up = TimeIsUp g.C.Clock.tells c.args.limit in
    let entered = comes (begins up c.args.lot.now pair.words (at wait.Enter) c.args.token.now None c.requires)
    Done c.turn_enter.new.token c.turn_enter.new.section
    c.turn_enter.ensures (enters_one c.main_key-key.ensures) (at wait.Show) (refl, refl) in
    let may : c.may_show.result ≡ true = search rules in
    let shown = comes entered (Value c.turn_word-seen.result) c.turn_word-seen.new.token
    c.turn_enter.new.section c.turn_word-seen.ensures
    (ap (λ (v : ℕ). Word pair.condvar (Exchange 0 v)) (sym c.shown.ensures)) (at wait.Stand)
    (shows_on pair.condvar pair.mutex c.args.timed c.turn_word-seen.result true (sym c.may_show.ensures
    ∙ may)) in
    let stood = comes shown Done c.turn_word-seen.new.token c.turn_stand-queue.new.section
    c.turn_stand-queue.ensures.done
    (ap (λ (k : ℕ). Stand k Wait) (sym c.main_key-key.ensures)) (at wait.Leave) (refl, refl) in
    may_do stood (leaves_one c.main_key-key.ensures refl)

pub release-requires-clause-at : goal.release-requires-clause-at
release-requires-clause-at g c = let pair = c.args.pair in let at = wait_at pair.condvar pair.mutex
    c.args.timed in let up = TimeIsUp g.C.Clock.tells c.args.limit in
    let entered = comes (begins up c.args.lot.now pair.words (at wait.Enter) c.args.token.now None c.requires)
    Done c.turn_enter.new.token c.turn_enter.new.section
    c.turn_enter.ensures (enters_one c.main_key-key.ensures) (at wait.Show) (refl, refl) in
    let may : c.may_show.result ≡ true = search rules in
    let shown = comes entered (Value c.turn_word-seen.result) c.turn_word-seen.new.token
    c.turn_enter.new.section c.turn_word-seen.ensures
    (ap (λ (v : ℕ). Word pair.condvar (Exchange 0 v)) (sym c.shown.ensures)) (at wait.Stand)
    (shows_on pair.condvar pair.mutex c.args.timed c.turn_word-seen.result true (sym c.may_show.ensures
    ∙ may)) in
    let stood = comes shown Done c.turn_word-seen.new.token c.turn_stand-queue.new.section
    c.turn_stand-queue.ensures.done
    (ap (λ (k : ℕ). Stand k Wait) (sym c.main_key-key.ensures)) (at wait.Leave) (refl, refl) in
    let left = comes stood Done c.turn_leave.new.token c.turn_leave.new.section c.turn_leave.ensures
    (leaves_one c.main_key-key.ensures refl) (at (releases_at unlock.Subtract)) (refl, refl) in
    left.at

pub release-requires-clause-queued : goal.release-requires-clause-queued
release-requires-clause-queued g c = let pair = c.args.pair in let at = wait_at pair.condvar pair.mutex
    c.args.timed in let up = TimeIsUp g.C.Clock.tells c.args.limit in
    let entered = comes (begins up c.args.lot.now pair.words (at wait.Enter) c.args.token.now None c.requires)
    Done c.turn_enter.new.token c.turn_enter.new.section
    c.turn_enter.ensures (enters_one c.main_key-key.ensures) (at wait.Show) (refl, refl) in
    let may : c.may_show.result ≡ true = search rules in
    let shown = comes entered (Value c.turn_word-seen.result) c.turn_word-seen.new.token
    c.turn_enter.new.section c.turn_word-seen.ensures
    (ap (λ (v : ℕ). Word pair.condvar (Exchange 0 v)) (sym c.shown.ensures)) (at wait.Stand)
    (shows_on pair.condvar pair.mutex c.args.timed c.turn_word-seen.result true (sym c.may_show.ensures
    ∙ may)) in
    let stood = comes shown Done c.turn_word-seen.new.token c.turn_stand-queue.new.section
    c.turn_stand-queue.ensures.done
    (ap (λ (k : ℕ). Stand k Wait) (sym c.main_key-key.ensures)) (at wait.Leave) (refl, refl) in
    let left = comes stood Done c.turn_leave.new.token c.turn_leave.new.section c.turn_leave.ensures
    (leaves_one c.main_key-key.ensures refl) (at (releases_at unlock.Subtract)) (refl, refl) in
    let placed = c.turn_stand-queue.ensures.place in (placed.0, placed.1 ∙ stood.same ∙ sym left.same)

pub returns : goal.returns
returns g c = let pair = c.args.pair in let at = wait_at pair.condvar pair.mutex c.args.timed in let up =
    TimeIsUp g.C.Clock.tells c.args.limit in
    let entered = comes (begins up c.args.lot.now pair.words (at wait.Enter) c.args.token.now None c.requires)
    Done c.turn_enter.new.token c.turn_enter.new.section
    c.turn_enter.ensures (enters_one c.main_key-key.ensures) (at wait.Show) (refl, refl) in
    let may : c.may_show.result ≡ true = search rules in
    let shown = comes entered (Value c.turn_word-seen.result) c.turn_word-seen.new.token
    c.turn_enter.new.section c.turn_word-seen.ensures
    (ap (λ (v : ℕ). Word pair.condvar (Exchange 0 v)) (sym c.shown.ensures)) (at wait.Stand)
    (shows_on pair.condvar pair.mutex c.args.timed c.turn_word-seen.result true (sym c.may_show.ensures
    ∙ may)) in
    let stood = comes shown Done c.turn_word-seen.new.token c.turn_stand-queue.new.section
    c.turn_stand-queue.ensures.done
    (ap (λ (k : ℕ). Stand k Wait) (sym c.main_key-key.ensures)) (at wait.Leave) (refl, refl) in
    let left = comes stood Done c.turn_leave.new.token c.turn_leave.new.section c.turn_leave.ensures
    (leaves_one c.main_key-key.ensures refl) (at (releases_at unlock.Subtract)) (refl, refl) in
    left.ends c.release.result c.release.new.token c.release.ensures

pub finish_by_driver-requires-clause-queued : goal.finish_by_driver-requires-clause-queued
finish_by_driver-requires-clause-queued g c = λ queued. absurd (false≢true (ap is_queued (sym c.waits-place.ensures)
    ∙ queued))
