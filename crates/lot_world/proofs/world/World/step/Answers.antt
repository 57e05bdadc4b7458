use Rattle.lot_laws.specs.SitesOf.{IsWorld}
use Rattle.lot_machine.proofs.Shape.{after_size}
use Rattle.lot_laws.proofs.machine.OneChange.{one_thing, touches}
use Rattle.lot_laws.proofs.promises.Fair.{is_fair}
use Rattle.spec_locks.proofs.NobodyWakes.{nobody_wakes}
use Rattle.lot_laws.proofs.promises.OwingStays.{owes_since}
use Rattle.std.proofs.Common.{[], ◌∷◌, refl}
use Rattle.lot_machine.specs.Machine.{after}
use Rattle.lot_laws.proofs.promises.Headline.{holds_after, step_behaves, step_guaranteed}
use Rattle.lot_laws.proofs.promises.WorldRuns.{of_step, step_is, world_after, world_step}
use Rattle.spec_locks.proofs.UserLaws.{readers_stay_out, rereaders_pass, upgrades_hold, downgrades_hold}
use Rattle.lot_world.proofs.world.World.step.Goals as goal

pub invariant_of-self : goal.invariant_of-self
invariant_of-self g c =
    rw c.turn.ensures.state (world_after c.self.inside.machine c.args.step c.self.invariant)

pub returns-clause-refines : goal.returns-clause-refines
returns-clause-refines g c =
    let before : IsWorld c.self.inside.machine = c.self.invariant in
    rw (c.turn.ensures.outcome, c.turn.ensures.state, ← c.self.view_is) (step_is c.self.inside.machine
    c.args.step before)

pub returns-clause-one_thing : goal.returns-clause-one_thing
returns-clause-one_thing g c =
    let before : IsWorld c.self.inside.machine = c.self.invariant in
    rw (c.turn.ensures.state, ← c.self.view_is) (one_thing c.self.inside.machine c.args.step before.inductive)

pub returns-clause-kept : goal.returns-clause-kept
returns-clause-kept g c =
    let before : IsWorld c.self.inside.machine = c.self.invariant in
    rw c.turn.ensures.state ((world_step c.self.inside.machine c.args.step before).kept)

pub returns-clause-same_size : goal.returns-clause-same_size
returns-clause-same_size g c = rw (c.turn.ensures.state, ← c.self.view_is)
    (after_size c.self.inside.machine c.args.step)

pub returns-clause-fair : goal.returns-clause-fair
returns-clause-fair g c =
    let before : IsWorld c.self.inside.machine = c.self.invariant in
    rw (c.turn.ensures.state, ← c.self.view_is) (is_fair c.self.inside.machine c.args.step before.well_formed
    before.inductive before.counted before.condvars)

pub returns-clause-touches : goal.returns-clause-touches
returns-clause-touches g c = rw (c.turn.ensures.state, ← c.self.view_is) (touches c.self.inside.machine
    c.args.step)

pub returns-clause-owing : goal.returns-clause-owing
returns-clause-owing g c =
    let before : IsWorld c.self.inside.machine = c.self.invariant in
    rw (c.turn.ensures.outcome, c.turn.ensures.state, ← c.self.view_is) (owes_since c.self.inside.machine
    c.args.step before.well_formed before.inductive before.counted before.condvars)

pub returns-clause-readers_stay_out : goal.returns-clause-readers_stay_out
returns-clause-readers_stay_out g c =
    let before : IsWorld c.self.inside.machine = c.self.invariant in
    rw (c.turn.ensures.state, ← c.self.view_is) (of_step readers_stay_out c.self.inside.machine c.args.step
    before)

pub returns-clause-rereaders_pass : goal.returns-clause-rereaders_pass
returns-clause-rereaders_pass g c =
    let before : IsWorld c.self.inside.machine = c.self.invariant in
    rw (c.turn.ensures.state, ← c.self.view_is) (of_step rereaders_pass c.self.inside.machine c.args.step
    before)

pub returns-clause-upgrades_let_nobody_write : goal.returns-clause-upgrades_let_nobody_write
returns-clause-upgrades_let_nobody_write g c =
    let before : IsWorld c.self.inside.machine = c.self.invariant in
    rw (c.turn.ensures.state, ← c.self.view_is) (of_step upgrades_hold c.self.inside.machine c.args.step
    before)

pub returns-clause-downgrades_own : goal.returns-clause-downgrades_own
returns-clause-downgrades_own g c =
    let before : IsWorld c.self.inside.machine = c.self.invariant in
    rw (c.turn.ensures.state, ← c.self.view_is) (of_step downgrades_hold c.self.inside.machine c.args.step
    before)

pub returns-clause-nobody_wakes_by_itself : goal.returns-clause-nobody_wakes_by_itself
returns-clause-nobody_wakes_by_itself g c =
    let before : IsWorld c.self.inside.machine = c.self.invariant in
    rw (c.turn.ensures.state, ← c.self.view_is) (of_step nobody_wakes c.self.inside.machine c.args.step
    before)

pub returns-clause-headline : goal.returns-clause-headline
returns-clause-headline g c =
    let before : IsWorld c.self.inside.machine = c.self.invariant in
    rw (c.turn.ensures.outcome, c.turn.ensures.state, ← c.self.view_is) (step_behaves c.self.inside.machine
    c.args.step before)

pub returns-clause-filled : goal.returns-clause-filled
returns-clause-filled g c =
    let before : IsWorld c.self.inside.machine = c.self.invariant in
    rw (c.turn.ensures.state, ← c.self.view_is) ((world_step c.self.inside.machine c.args.step before).filled)

pub returns-clause-tries : goal.returns-clause-tries
returns-clause-tries g c goes =
    let before : IsWorld c.self.inside.machine = c.self.invariant in
    rw (c.turn.ensures.outcome, ← c.self.view_is) ((world_step c.self.inside.machine c.args.step before).tries
    goes)

pub returns-clause-sleepers : goal.returns-clause-sleepers
returns-clause-sleepers g c =
    let before : IsWorld c.self.inside.machine = c.self.invariant in
    rw (c.turn.ensures.state, ← c.self.view_is)
    ((world_step c.self.inside.machine c.args.step before).sleepers)

pub returns-clause-stays : goal.returns-clause-stays
returns-clause-stays g c =
    let before : IsWorld c.self.inside.machine = c.self.invariant in
    rw c.turn.ensures.state (holds_after (c.args.step ∷ []) c.self.inside.machine
    (after c.self.inside.machine c.args.step) before refl)

pub returns-clause-holds : goal.returns-clause-holds
returns-clause-holds g c =
    let before : IsWorld c.self.inside.machine = c.self.invariant in
    rw (c.turn.ensures.outcome, c.turn.ensures.state, ← c.self.view_is) (step_guaranteed c.self.inside.machine
    c.args.step before)

pub returns-clause-looks_no_more : goal.returns-clause-looks_no_more
returns-clause-looks_no_more g c goes =
    let before : IsWorld c.self.inside.machine = c.self.invariant in
    rw (c.turn.ensures.state, ← c.self.view_is)
    ((world_step c.self.inside.machine c.args.step before).looks_no_more goes)
