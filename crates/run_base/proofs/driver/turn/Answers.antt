use Rattle.std.proofs.Common.{ℕ, ◌≡◌, true, List, sym, refl, subst}
use Rattle.core_clocks.specs.Clocks.{TimeIsUp}
use Rattle.lot_steps.specs.Steps.{act_of, next_place}
use Rattle.steps_base.specs.declared.acts.Act.{Act}
use Rattle.core_words.specs.declared.owners.Ownership.{Ownership}
use Rattle.parking_lot_core.specs.Tokens.{view_of}
use Rattle.run_base.specs.Fitting.{sleeper_at}
use Rattle.run_base.specs.Queued.{HasPlace, KeepsPlace, is_queued, needs_place}
use Rattle.run_base.specs.Stages.{ActNeeds, Became, Adds, stage_of}
use Rattle.run_base.specs.Words.{kind_in, at_in}
use Rattle.run_base.proofs.Leading.{places_lead}
use Rattle.run_base.proofs.Queued.{keeps_on, needs_queue, queued_on, stays_queued}
use Rattle.run_base.specs.Courses.{TellsIn}
use Rattle.run_base.specs.Telling.{TellsQueues}
use Rattle.run_base.proofs.Tellings.{gone, has_done}
use Rattle.run_base.proofs.Turning.{told}
use Rattle.run_base.proofs.driver.turn.Goals as goal

pub perform-requires-clause-needs : goal.perform-requires-clause-needs
perform-requires-clause-needs g c = let words = c.args.words in let st = stage_of c.args.token.now
    c.args.section.now in let fits = c.requires.fits in
    subst (ActNeeds (kind_in c.args.words) (at_in c.args.words)
    (stage_of c.args.token.now c.args.section.now)) (sym c.requires.act)
    (places_lead (TimeIsUp g.C.Clock.tells c.args.limit) (kind_in words) (at_in words) fits.0 c.args.place st
    c.requires.words fits.1).0

pub returns-clause-recorded : goal.returns-clause-recorded
returns-clause-recorded g c = let words = c.args.words in let n = c.args.token.now.number in
    let p = c.args.place in let st = stage_of c.args.token.now c.args.section.now in
    let fits = c.requires.fits in
    let old = (view_of c.args.token.now).steps in let new = (view_of c.perform.new.token).steps in
    let adds = subst (λ (a : Act). Adds (at_in c.args.words) a c.perform.result
    (view_of c.args.token.now).steps (view_of c.perform.new.token).steps) c.requires.act
    c.perform.ensures.adds in
    let became = subst (λ (a : Act). Became (TimeIsUp g.C.Clock.tells c.args.limit) (kind_in c.args.words)
    (at_in c.args.words) (sleeper_at c.args.place) (stage_of c.args.token.now c.args.section.now) a
    c.perform.result (stage_of c.perform.new.token c.perform.new.section)) c.requires.act
    c.perform.ensures.became in
    let queues = subst (λ (a : Act). TellsQueues a c.perform.result c.args.token.now.number c.args.section.now
    c.perform.new.section) c.requires.act c.perform.ensures.queues in
    let tells = subst (λ (a : Act). TellsIn c.args.token.now.number a c.perform.result c.args.token.now
    c.args.section.now c.perform.new.token c.perform.new.section) c.requires.act c.perform.ensures.told in
    let needs = (places_lead (TimeIsUp g.C.Clock.tells c.args.limit) (kind_in words) (at_in words)
    fits.0 p st c.requires.words fits.1).0 in
    gone n c.args.token.now c.perform.new.token c.args.section.now c.perform.new.section (at_in words) p
    c.perform.result
    (told (TimeIsUp g.C.Clock.tells c.args.limit) (at_in words) (kind_in words) c.args.place (act_of c.args.place)
    refl c.requires.no_closure st (stage_of c.perform.new.token c.perform.new.section) c.perform.result old
    new became adds)
    (has_done n c.args.token.now c.perform.new.token c.args.section.now c.perform.new.section
    (TimeIsUp g.C.Clock.tells c.args.limit) (kind_in words) (at_in words) (sleeper_at p) (act_of p)
    c.perform.result needs became adds queues tells)
    (stays_queued (TimeIsUp g.C.Clock.tells c.args.limit) (kind_in words) (at_in words) fits.0 c.args.place
    st (stage_of c.perform.new.token c.perform.new.section) c.perform.result fits.1 became)

pub returns-clause-reached : goal.returns-clause-reached
returns-clause-reached g c = let words = c.args.words in let st = stage_of c.args.token.now c.args.section.now
    in
    let became = subst (λ (a : Act). Became (TimeIsUp g.C.Clock.tells c.args.limit) (kind_in c.args.words)
    (at_in c.args.words) (sleeper_at c.args.place) (stage_of c.args.token.now c.args.section.now) a
    c.perform.result (stage_of c.perform.new.token c.perform.new.section)) c.requires.act
    c.perform.ensures.became in
    λ (base : List Ownership) fits. (places_lead (TimeIsUp g.C.Clock.tells c.args.limit) (kind_in words)
    (at_in words) base c.args.place st c.requires.words fits).2 c.perform.result
    (stage_of c.perform.new.token c.perform.new.section) became

pub perform-requires-clause-queued : goal.perform-requires-clause-queued
perform-requires-clause-queued g c = let fits = c.requires.fits in λ needs. c.requires.queued
    (needs_queue (TimeIsUp g.C.Clock.tells c.args.limit) fits.0 c.args.place (stage_of c.args.token.now
    c.args.section.now) fits.1 (subst (λ (a : Act). needs_place a ≡ true) c.requires.act needs))

pub returns-clause-queued : goal.returns-clause-queued
returns-clause-queued g c = let p = c.args.place in let words = c.args.words in let reply = c.perform.result
    in let n = c.args.token.now.number in
    let became = subst (λ (a : Act). Became (TimeIsUp g.C.Clock.tells c.args.limit) (kind_in c.args.words)
    (at_in c.args.words) (sleeper_at c.args.place) (stage_of c.args.token.now c.args.section.now) a
    c.perform.result (stage_of c.perform.new.token c.perform.new.section)) c.requires.act
    c.perform.ensures.became in
    let keeps = subst (λ (a : Act). KeepsPlace c.args.lot.now c.args.token.now.number a c.perform.result
    c.args.queue.now c.perform.new.queue) c.requires.act c.perform.ensures.place in
    let goes = queued_on (TimeIsUp g.C.Clock.tells c.args.limit) (kind_in words) (at_in words) c.requires.fits.0
    (stage_of c.args.token.now c.args.section.now) (stage_of c.perform.new.token c.perform.new.section)
    reply p c.requires.fits.1 became in
    λ queued. subst (λ (k : ℕ). HasPlace c.args.lot.now k c.perform.new.queue) (sym c.perform.ensures.own.0.1)
    (keeps_on c.args.lot.now n (act_of p) reply c.args.queue.now c.perform.new.queue (is_queued p)
    (is_queued (next_place p reply)) goes keeps c.requires.queued queued)
