use Rattle.lot_laws.specs.SitesOf.{IsWorld}
use Rattle.lot_alone.proofs.EndsOrSleeps.{ends_alone, ends_or_barred, rests_alone, rests_or_barred, tries_alone}
use Rattle.lot_laws.proofs.promises.WorldRuns.{solo_runs}
use Rattle.lot_laws.proofs.promises.Headline.{solo_holds}
use Rattle.lot_world.proofs.world.World.solo.Goals as goal

pub returns-clause-run : goal.returns-clause-run
returns-clause-run g c =
    let before : IsWorld c.self.inside.machine = c.self.invariant in
    rw (c.step_alone.ensures.outcome, c.step_alone.ensures.state, ← c.self.view_is)
    (solo_runs c.self.inside.machine c.args.thread before)

pub returns-clause-rests : goal.returns-clause-rests
returns-clause-rests g c =
    let before : IsWorld c.self.inside.machine = c.self.invariant in
    rw (c.step_alone.ensures.outcome, ← c.self.view_is) (rests_alone c.self.inside.machine c.args.thread
    before.well_formed before.inductive before.counted before.condvars before.settled)

pub returns-clause-ends : goal.returns-clause-ends
returns-clause-ends g c =
    let before : IsWorld c.self.inside.machine = c.self.invariant in
    rw (c.step_alone.ensures.outcome, c.step_alone.ensures.state, ← c.self.view_is)
    (ends_alone c.self.inside.machine c.args.thread before.well_formed before.inductive before.counted
    before.condvars before.settled)

pub returns-clause-rests_or_barred : goal.returns-clause-rests_or_barred
returns-clause-rests_or_barred g c =
    let before : IsWorld c.self.inside.machine = c.self.invariant in
    rw (c.step_alone.ensures.outcome, c.step_alone.ensures.state, ← c.self.view_is)
    (rests_or_barred c.self.inside.machine c.args.thread before.well_formed before.inductive before.counted
    before.condvars before.settled)

pub returns-clause-ends_or_barred : goal.returns-clause-ends_or_barred
returns-clause-ends_or_barred g c =
    let before : IsWorld c.self.inside.machine = c.self.invariant in
    rw (c.step_alone.ensures.outcome, c.step_alone.ensures.state, ← c.self.view_is)
    (ends_or_barred c.self.inside.machine c.args.thread before.well_formed before.inductive before.counted
    before.condvars before.settled)

pub returns-clause-tries : goal.returns-clause-tries
returns-clause-tries g c =
    let before : IsWorld c.self.inside.machine = c.self.invariant in
    rw (c.step_alone.ensures.outcome, c.step_alone.ensures.state, ← c.self.view_is)
    (tries_alone c.self.inside.machine c.args.thread before.well_formed before.inductive before.counted
    before.condvars before.settled)

pub returns-clause-stays : goal.returns-clause-stays
returns-clause-stays g c =
    let before : IsWorld c.self.inside.machine = c.self.invariant in
    rw (c.step_alone.ensures.state, ← c.self.view_is) (solo_holds _ c.self.inside.machine c.args.thread
    _ before)
