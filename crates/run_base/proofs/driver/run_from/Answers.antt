use Rattle.std.proofs.Common.{ℕ, ◌≡◌, ◌∙◌, true, None, Some, Option, List, sym, refl, ap, subst, rules}
use Rattle.core_clocks.specs.Clocks.{TimeIsUp}
use Rattle.spec_locks.specs.declared.outcomes.Answer.{Answer}
use Rattle.lot_steps.specs.Steps.{act_of, next_place, next_act}
use Rattle.lot_steps.specs.declared.places.Place.{Place}
use Rattle.core_words.specs.declared.owners.Ownership.{Ownership}
use Rattle.parking_lot_core.specs.Tokens.{view_of, last_of}
use Rattle.run_base.specs.Fitting.{CallPurpose, Fits, ReachedBy, IsOver, AreWordsFor, answer_of, call_purpose}
use Rattle.run_base.specs.Paths.{closure_of}
use Rattle.run_base.specs.Queued.{is_queued}
use Rattle.run_base.specs.Stages.{stage_of, section_view}
use Rattle.run_base.specs.Words.{kind_in, at_in}
use Rattle.run_base.specs.Courses.{ComesBy, Courses, HasRecorded, Trail, trail_of}
use Rattle.run_base.proofs.Courses.{arrives, begins, begins_from, goes_on}
use Rattle.run_base.proofs.Tellings.{outside_trail}
use Rattle.run_base.proofs.Ending.{closed, closes_outside, end_of, ended, outside}
use Rattle.run_base.proofs.Leading.{places_lead, fits_from, words_from}
use Rattle.run_base.proofs.Queued.{queued_from}
use Rattle.run_base.proofs.Turning.{does_next, shows_keys, words_on}
use Rattle.run_base.proofs.driver.run_from.Goals as goal

pub loop-init : goal.loop-init
loop-init g c = record {
  turns = (tt, tt);
  own = search rules;
  path = begins (at_in c.args.words) c.args.token.now.number c.args.start (trail_of c.args.token.now
      c.args.inside);
  queued = c.requires.queued;
  words = c.requires.words;
  fits = λ base fits. fits;
  act = c.act-act.ensures;
  aim = refl;
}

pub loop-preserved : goal.loop-preserved
loop-preserved g c = let p = c.loop.place in let t = c.turn-reply in let reply = t.result in let new =
    t.new.token in
    let before = c.loop.invariant in let next = c.advance_in_place-act.ensures.place in let from =
    c.go_from-act.ensures.place in
    let none : answer_of (next_act c.loop.place c.turn-reply.result) ≡ None = search rules in
    let reached : (base : List Ownership) → Fits (TimeIsUp g.C.Clock.tells c.args.limit) base c.args.start
    (stage_of c.args.token.now c.args.inside) → ReachedBy (TimeIsUp g.C.Clock.tells c.args.limit) base
    (call_purpose c.loop.place) (next_place c.loop.place c.turn-reply.result) None
    (stage_of c.turn-reply.new.token c.turn-reply.new.section)
    = λ (base : List Ownership) fits. subst (λ (o : Option Answer). ReachedBy
    (TimeIsUp g.C.Clock.tells c.args.limit) base (call_purpose c.loop.place)
    (next_place c.loop.place c.turn-reply.result) o (stage_of c.turn-reply.new.token
    c.turn-reply.new.section)) none (t.ensures.reached base (before.fits base fits)) in
    let words_then = subst (λ (q : Place). AreWordsFor q (kind_in c.args.words) (at_in c.args.words))
    (sym next) (words_on p reply (kind_in c.args.words) (at_in c.args.words) before.words) in
    let goes_from : (base : List Ownership) → Fits (TimeIsUp g.C.Clock.tells c.args.limit) base c.args.start
    (stage_of c.args.token.now c.args.inside) → Fits (TimeIsUp g.C.Clock.tells c.args.limit) base
    c.go_from-act.new.place (stage_of c.turn-reply.new.token c.turn-reply.new.section)
    × (call_purpose c.go_from-act.new.place ≡ call_purpose c.advance_in_place-act.new.self)
    = λ (base : List Ownership) fits. fits_from (TimeIsUp g.C.Clock.tells c.args.limit) (kind_in c.args.words)
    (at_in c.args.words) base c.advance_in_place-act.new.self c.go_from-act.new.place
    (stage_of new t.new.section) from words_then
    (subst (λ (q : Place). Fits (TimeIsUp g.C.Clock.tells c.args.limit) base q
    (stage_of c.turn-reply.new.token c.turn-reply.new.section)) (sym next) (reached base fits).0) in
    let me = c.args.token.now.number in
    let gone = subst (λ (n : ℕ). HasRecorded (at_in c.args.words) n c.loop.place c.turn-reply.result
    (trail_of c.loop.token c.loop.section) (trail_of c.turn-reply.new.token c.turn-reply.new.section))
    before.own.0.1 t.ensures.recorded in record {
      turns = (tt, tt);
      own = ((t.ensures.own.0.0, t.ensures.own.0.1 ∙ before.own.0.1), t.ensures.own.1);
      path = begins_from (at_in c.args.words) me c.args.start c.advance_in_place-act.new.self
          c.go_from-act.new.place (trail_of c.args.token.now c.args.inside) (trail_of new t.new.section)
          (goes_on (at_in c.args.words) me c.args.start p c.advance_in_place-act.new.self
          (trail_of c.args.token.now c.args.inside) (trail_of c.loop.token c.loop.section)
          (trail_of new t.new.section) reply gone.0 before.path gone.1 gone.2 next) from;
      queued = λ queued. t.ensures.queued (subst (λ (q : Place). is_queued q ≡ true) next
          (queued_from c.advance_in_place-act.new.self c.go_from-act.new.place from queued));
      words = words_from (kind_in c.args.words) (at_in c.args.words) c.advance_in_place-act.new.self
          c.go_from-act.new.place from words_then;
      fits = λ (base : List Ownership) fits. (goes_from base fits).0;
      act = c.go_from-act.ensures.act;
      aim = (goes_from c.requires.start.0 c.requires.start.1).1 ∙ ap call_purpose next
          ∙ (reached c.requires.start.0 c.requires.start.1).1 ∙ before.aim;
    }

pub returns-in-Some-answer_of-clause-path : goal.returns-in-Some-answer_of-clause-path
returns-in-Some-answer_of-clause-path g c = let p = c.loop.place in let t = c.turn-reply in let new =
    t.new.token in let answer = c.in-Some-answer_of.answer in let before = c.loop.invariant in let start =
    c.requires.start in let me = c.args.token.now.number in
    let is : answer_of (next_act c.loop.place c.turn-reply.result) ≡ Some c.in-Some-answer_of.answer =
    search rules in
    let over = subst (λ (o : Option Answer). ReachedBy (TimeIsUp g.C.Clock.tells c.args.limit) c.requires.start.0
    (call_purpose c.loop.place) (next_place c.loop.place c.turn-reply.result) o
    (stage_of c.turn-reply.new.token c.turn-reply.new.section)) is (t.ensures.reached start.0
    (before.fits start.0 start.1)) in
    let none = outside (TimeIsUp g.C.Clock.tells c.args.limit) start.0 (view_of new).owns (call_purpose p) answer
    (section_view t.new.section) (last_of new) (view_of new).steps over in
    let gone = subst (λ (n : ℕ). HasRecorded (at_in c.args.words) n c.loop.place c.turn-reply.result
    (trail_of c.loop.token c.loop.section) (trail_of c.turn-reply.new.token c.turn-reply.new.section))
    before.own.0.1 t.ensures.recorded in
    subst (λ (x : Trail). Courses (at_in c.args.words) c.args.token.now.number c.args.start
    (trail_of c.args.token.now c.args.inside) x c.in-Some-answer_of.answer) (outside_trail new t.new.section
    none)
    (arrives (at_in c.args.words) me c.args.start p (trail_of c.args.token.now c.args.inside)
    (trail_of c.loop.token c.loop.section) (trail_of new t.new.section) t.result gone.0 answer
    before.path gone.1 gone.2 (end_of (next_act p t.result) answer is))

pub returns-in-Some-closure_of-clause-path : goal.returns-in-Some-closure_of-clause-path
returns-in-Some-closure_of-clause-path g c = let start = c.requires.start in let p = c.loop.place
    in let words = c.args.words in let st = stage_of c.loop.token c.loop.section in
    let is : closure_of (act_of c.loop.place) ≡ Some c.in-Some-closure_of.state =
    sym (ap closure_of c.loop.invariant.act) ∙ sym c.closure_of.ensures ∙ c.in-Some-closure_of.is in
    let none = closes_outside (kind_in words) (at_in words) st (act_of p) c.in-Some-closure_of.state is
    (places_lead (TimeIsUp g.C.Clock.tells c.args.limit) (kind_in words) (at_in words) start.0 p st
    c.loop.invariant.words (c.loop.invariant.fits start.0 start.1)).0 in
    subst (λ (x : Trail). ComesBy (at_in c.args.words) c.args.token.now.number c.args.start
    (trail_of c.args.token.now c.args.inside) x c.loop.place)
    (outside_trail c.loop.token c.loop.section none) c.loop.invariant.path

pub returns-in-Some-answer_of-clause-stopped : goal.returns-in-Some-answer_of-clause-stopped
returns-in-Some-answer_of-clause-stopped g c = let p = c.loop.place in let t = c.turn-reply in let new =
    t.new.token in let before = c.loop.invariant in let answer = c.in-Some-answer_of.answer in
    let is : answer_of (next_act c.loop.place c.turn-reply.result) ≡ Some c.in-Some-answer_of.answer =
    search rules in
    λ (base : List Ownership) fits. let over =
    subst (λ (o : Option Answer). ReachedBy (TimeIsUp g.C.Clock.tells c.args.limit) base
    (call_purpose c.loop.place) (next_place c.loop.place c.turn-reply.result) o
    (stage_of c.turn-reply.new.token c.turn-reply.new.section)) is (t.ensures.reached base
    (before.fits base fits)) in
    subst (λ (aim : CallPurpose). IsOver (TimeIsUp g.C.Clock.tells c.args.limit) base aim
    c.in-Some-answer_of.answer (stage_of c.turn-reply.new.token None)) before.aim
    (ended (TimeIsUp g.C.Clock.tells c.args.limit) base (view_of new).owns (call_purpose p) answer
    (section_view t.new.section) (last_of new) (view_of new).steps over)

pub end-requires-in-Some-answer_of : goal.end-requires-in-Some-answer_of
end-requires-in-Some-answer_of g c = let start = c.requires.start in let p = c.loop.place in let t =
    c.turn-reply in let new = t.new.token in let answer = c.in-Some-answer_of.answer in
    let is : answer_of (next_act c.loop.place c.turn-reply.result) ≡ Some c.in-Some-answer_of.answer =
    search rules in
    let over = subst (λ (o : Option Answer). ReachedBy (TimeIsUp g.C.Clock.tells c.args.limit) c.requires.start.0
    (call_purpose c.loop.place) (next_place c.loop.place c.turn-reply.result) o
    (stage_of c.turn-reply.new.token c.turn-reply.new.section)) is (t.ensures.reached start.0
    (c.loop.invariant.fits start.0 start.1)) in
    outside (TimeIsUp g.C.Clock.tells c.args.limit) start.0 (view_of new).owns (call_purpose p) answer
    (section_view t.new.section) (last_of new) (view_of new).steps over

pub end-requires : goal.end-requires
end-requires g c = let start = c.requires.start in let p = c.loop.place in let words = c.args.words
    in let st = stage_of c.loop.token c.loop.section in
    let is : closure_of (act_of c.loop.place) ≡ Some c.in-Some-closure_of.state =
    sym (ap closure_of c.loop.invariant.act) ∙ sym c.closure_of.ensures ∙ c.in-Some-closure_of.is in
    closes_outside (kind_in words) (at_in words) st (act_of p) c.in-Some-closure_of.state is
    (places_lead (TimeIsUp g.C.Clock.tells c.args.limit) (kind_in words) (at_in words) start.0 p st
    c.loop.invariant.words (c.loop.invariant.fits start.0 start.1)).0

pub returns-in-Some-closure_of-clause-stopped : goal.returns-in-Some-closure_of-clause-stopped
returns-in-Some-closure_of-clause-stopped g c = let p = c.loop.place in let words = c.args.words
    in let before = c.loop.invariant in let token = c.loop.token in let st =
    stage_of c.loop.token c.loop.section in
    let is : closure_of (act_of c.loop.place) ≡ Some c.in-Some-closure_of.state =
    sym (ap closure_of c.loop.invariant.act) ∙ sym c.closure_of.ensures ∙ c.in-Some-closure_of.is in
    λ (base : List Ownership) fits. let needs =
    (places_lead (TimeIsUp g.C.Clock.tells c.args.limit) (kind_in words) (at_in words) base p st before.words
    (before.fits base fits)).0 in
    closed (TimeIsUp g.C.Clock.tells c.args.limit) base (view_of token).owns (call_purpose c.args.start) p
    c.in-Some-closure_of.state (section_view c.loop.section) (last_of token) (view_of token).steps is
    (closes_outside (kind_in words) (at_in words) st (act_of p) c.in-Some-closure_of.state is needs)
    (before.fits base fits) before.aim

pub advance_in_place-act-requires-clause-shown : goal.advance_in_place-act-requires-clause-shown
advance_in_place-act-requires-clause-shown g c = shows_keys c.loop.place c.turn-reply.result
    (kind_in c.args.words) (at_in c.args.words) c.loop.invariant.words

pub go_from-act-requires-clause-words : goal.go_from-act-requires-clause-words
go_from-act-requires-clause-words g c =
    subst (λ (q : Place). AreWordsFor q (kind_in c.args.words) (at_in c.args.words))
    (sym c.advance_in_place-act.ensures.place)
    (words_on c.loop.place c.turn-reply.result (kind_in c.args.words) (at_in c.args.words)
    c.loop.invariant.words)

pub go_from-act-requires-clause-act : goal.go_from-act-requires-clause-act
go_from-act-requires-clause-act g c =
    let none : answer_of (next_act c.loop.place c.turn-reply.result) ≡ None = search rules in
    c.advance_in_place-act.ensures.act ∙ does_next c.loop.place c.turn-reply.result none
    ∙ sym (ap act_of c.advance_in_place-act.ensures.place)
