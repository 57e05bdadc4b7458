use Rattle.std.proofs.Common.{◌≡◌, Bool, true, false, None, refl, sym, ap, ◌∙◌, rules}
use Rattle.steps_base.specs.declared.acts.Reply.TheVariants.{Done, Value}
use Rattle.steps_condvar.specs.declared.notify.NotifyAt.TheVariants as notify
use Rattle.run_locks.specs.CondvarCourses.{notify_at}
use Rattle.run_base.proofs.Coming.{begins, comes, enters_both, may_do, named}
use Rattle.run_locks.proofs.CondvarGoing.{again_on, hides_on, keyed, looks_on}
use Rattle.run_locks.proofs.notify_courses.notify_through.Goals as goal

pub main_key-requires : goal.main_key-requires
main_key-requires g c = keyed c.args.pair.condvar c.requires.3.0.0

pub main_key-requires-2 : goal.main_key-requires-2
main_key-requires-2 g c = keyed c.args.pair.mutex c.requires.3.0.1

pub turn_enter-requires : goal.turn_enter-requires
turn_enter-requires g c = let pair = c.args.pair in (
  notify_at pair.condvar pair.mutex c.args.all notify.Enter,
  c.requires,
  enters_both c.main_key.ensures c.main_key-2.ensures,
)

pub turn_word-seen-requires : goal.turn_word-seen-requires
turn_word-seen-requires g c = let pair = c.args.pair in let at = notify_at pair.condvar pair.mutex c.args.all
    in let section = c.turn_enter.new.section in
    let entered = comes (begins ⊥ c.args.lot.now pair.words (at notify.Enter) c.args.token.now None
    c.requires) Done c.turn_enter.new.token section
    c.turn_enter.ensures (enters_both c.main_key.ensures c.main_key-2.ensures) (at notify.Again) (refl, refl)
    in
    may_do entered refl

pub leave_both-requires : goal.leave_both-requires
leave_both-requires g c = let pair = c.args.pair in let at = notify_at pair.condvar pair.mutex c.args.all
    in let section = c.turn_enter.new.section in
    let other : c.shows.result ≡ false = search rules in
    let entered = comes (begins ⊥ c.args.lot.now pair.words (at notify.Enter) c.args.token.now None
    c.requires) Done c.turn_enter.new.token section
    c.turn_enter.ensures (enters_both c.main_key.ensures c.main_key-2.ensures) (at notify.Again) (refl, refl)
    in
    let looked = comes entered (Value c.turn_word-seen.result) c.turn_word-seen.new.token section
    c.turn_word-seen.ensures refl (at (notify.Leave false 0))
    (again_on pair.condvar pair.mutex c.args.all c.turn_word-seen.result false (sym c.shows.ensures ∙ other))
    in
    looked.at

pub returns-then-not-shows : goal.returns-then-not-shows
returns-then-not-shows g c = let pair = c.args.pair in let at = notify_at pair.condvar pair.mutex c.args.all
    in let section = c.turn_enter.new.section in
    let other : c.shows.result ≡ false = search rules in
    let entered = comes (begins ⊥ c.args.lot.now pair.words (at notify.Enter) c.args.token.now None
    c.requires) Done c.turn_enter.new.token section
    c.turn_enter.ensures (enters_both c.main_key.ensures c.main_key-2.ensures) (at notify.Again) (refl, refl)
    in
    let looked = comes entered (Value c.turn_word-seen.result) c.turn_word-seen.new.token section
    c.turn_word-seen.ensures refl (at (notify.Leave false 0))
    (again_on pair.condvar pair.mutex c.args.all c.turn_word-seen.result false (sym c.shows.ensures ∙ other))
    in
    looked.ends c.leave_both.result c.leave_both.new.token c.leave_both.ensures

pub turn_word-requires : goal.turn_word-requires
turn_word-requires g c = let pair = c.args.pair in let at = notify_at pair.condvar pair.mutex c.args.all
    in let section = c.turn_enter.new.section in
    let it : c.shows.result ≡ true = search rules in
    let of_all : c.args.all ≡ true = search rules in
    let entered = comes (begins ⊥ c.args.lot.now pair.words (at notify.Enter) c.args.token.now None
    c.requires) Done c.turn_enter.new.token section
    c.turn_enter.ensures (enters_both c.main_key.ensures c.main_key-2.ensures) (at notify.Again) (refl, refl)
    in
    let looked = comes entered (Value c.turn_word-seen.result) c.turn_word-seen.new.token section
    c.turn_word-seen.ensures refl (at notify.Hide)
    (hides_on pair.condvar pair.mutex c.args.all c.turn_word-seen.result of_all (sym c.shows.ensures ∙ it)) in
    may_do looked refl

pub mark_and_move-requires : goal.mark_and_move-requires
mark_and_move-requires g c = let pair = c.args.pair in let at = notify_at pair.condvar pair.mutex c.args.all
    in let section = c.turn_enter.new.section in
    let it : c.shows.result ≡ true = search rules in
    let of_all : c.args.all ≡ true = search rules in
    let entered = comes (begins ⊥ c.args.lot.now pair.words (at notify.Enter) c.args.token.now None
    c.requires) Done c.turn_enter.new.token section
    c.turn_enter.ensures (enters_both c.main_key.ensures c.main_key-2.ensures) (at notify.Again) (refl, refl)
    in
    let looked = comes entered (Value c.turn_word-seen.result) c.turn_word-seen.new.token section
    c.turn_word-seen.ensures refl (at notify.Hide)
    (hides_on pair.condvar pair.mutex c.args.all c.turn_word-seen.result of_all (sym c.shows.ensures ∙ it)) in
    let hidden = comes looked (Value c.turn_word.result) c.turn_word.new.token section c.turn_word.ensures
    refl (at notify.Mark) (refl, refl) in
    let marks = named hidden (ap (λ (b : Bool). notify_at pair.condvar pair.mutex b notify.Mark) of_all) in
    marks.at

pub returns-then-all : goal.returns-then-all
returns-then-all g c = let pair = c.args.pair in let at = notify_at pair.condvar pair.mutex c.args.all
    in let section = c.turn_enter.new.section in
    let it : c.shows.result ≡ true = search rules in
    let of_all : c.args.all ≡ true = search rules in
    let entered = comes (begins ⊥ c.args.lot.now pair.words (at notify.Enter) c.args.token.now None
    c.requires) Done c.turn_enter.new.token section
    c.turn_enter.ensures (enters_both c.main_key.ensures c.main_key-2.ensures) (at notify.Again) (refl, refl)
    in
    let looked = comes entered (Value c.turn_word-seen.result) c.turn_word-seen.new.token section
    c.turn_word-seen.ensures refl (at notify.Hide)
    (hides_on pair.condvar pair.mutex c.args.all c.turn_word-seen.result of_all (sym c.shows.ensures ∙ it)) in
    let hidden = comes looked (Value c.turn_word.result) c.turn_word.new.token section c.turn_word.ensures
    refl (at notify.Mark) (refl, refl) in
    let marks = named hidden (ap (λ (b : Bool). notify_at pair.condvar pair.mutex b notify.Mark) of_all) in
    marks.ends c.mark_and_move.result c.mark_and_move.new.token c.mark_and_move.ensures

pub mark_and_move-requires-2 : goal.mark_and_move-requires-2
mark_and_move-requires-2 g c = let pair = c.args.pair in let at = notify_at pair.condvar pair.mutex c.args.all
    in let section = c.turn_enter.new.section in
    let it : c.shows.result ≡ true = search rules in
    let of_one : c.args.all ≡ false = search rules in
    let entered = comes (begins ⊥ c.args.lot.now pair.words (at notify.Enter) c.args.token.now None
    c.requires) Done c.turn_enter.new.token section
    c.turn_enter.ensures (enters_both c.main_key.ensures c.main_key-2.ensures) (at notify.Again) (refl, refl)
    in
    let looked = comes entered (Value c.turn_word-seen.result) c.turn_word-seen.new.token section
    c.turn_word-seen.ensures refl (at notify.Mark)
    (looks_on pair.condvar pair.mutex c.args.all c.turn_word-seen.result of_one (sym c.shows.ensures ∙ it)) in
    let marks = named looked (ap (λ (b : Bool). notify_at pair.condvar pair.mutex b notify.Mark) of_one) in
    marks.at

pub returns : goal.returns
returns g c = let pair = c.args.pair in let at = notify_at pair.condvar pair.mutex c.args.all in let section =
    c.turn_enter.new.section in
    let it : c.shows.result ≡ true = search rules in
    let of_one : c.args.all ≡ false = search rules in
    let entered = comes (begins ⊥ c.args.lot.now pair.words (at notify.Enter) c.args.token.now None
    c.requires) Done c.turn_enter.new.token section
    c.turn_enter.ensures (enters_both c.main_key.ensures c.main_key-2.ensures) (at notify.Again) (refl, refl)
    in
    let looked = comes entered (Value c.turn_word-seen.result) c.turn_word-seen.new.token section
    c.turn_word-seen.ensures refl (at notify.Mark)
    (looks_on pair.condvar pair.mutex c.args.all c.turn_word-seen.result of_one (sym c.shows.ensures ∙ it)) in
    let marks = named looked (ap (λ (b : Bool). notify_at pair.condvar pair.mutex b notify.Mark) of_one) in
    marks.ends c.mark_and_move-2.result c.mark_and_move-2.new.token c.mark_and_move-2.ensures
