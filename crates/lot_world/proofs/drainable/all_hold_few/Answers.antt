use Rattle.std.proofs.Common.{sym, ap, ◌∙◌}
use Rattle.lot_world.specs.Drainable.{rights_held, holds_few}
use Rattle.lot_world.proofs.DrainLemmas.{more_hold_few, one_holds_more}
use Rattle.lot_machine.specs.Machine.{place_at}
use Rattle.lot_world.proofs.drainable.all_hold_few.Goals as goal

pub returns-then-not-holds_few : goal.returns-then-not-holds_few
returns-then-not-holds_few g c =
    let w = c.args.machine.now in
    let t = c.loop-thread.thread in
    let few = sym (c.holds_few.ensures ∙ ap (λ p. holds_few p (rights_held c.held.result)) c.place.ensures
    ∙ ap (holds_few (place_at w t)) c.held.ensures) ∙ c.if-not-holds_few.true in
    one_holds_more w _ t (rw c.threads-thread-end.ensures.number at c.loop-thread-test.true) few
    ∙ c.loop-thread.invariant

pub loop-thread-preserved : goal.loop-thread-preserved
loop-thread-preserved g c =
    let w = c.args.machine.now in
    let t = c.loop-thread.thread in
    let few = sym (c.holds_few.ensures ∙ ap (λ p. holds_few p (rights_held c.held.result)) c.place.ensures
    ∙ ap (holds_few (place_at w t)) c.held.ensures) ∙ c.if-not-holds_few.false in
    more_hold_few w _ t (rw c.threads-thread-end.ensures.number at c.loop-thread-test.true) few
    ∙ c.loop-thread.invariant
