use Rattle.std.proofs.Common.{length, sym, ap, subst, ◌∙◌}
use Rattle.std.proofs.lemmas.Result.{IfOk-weaker}
use Rattle.lot_laws.specs.SitesOf.{IsWorld}
use Rattle.lot_machine.specs.Fits.{IsWellFormed}
use Rattle.lot_machine.specs.Machine.{State}
use Rattle.lot_world.specs.Drains.{IsDrain}
use Rattle.lot_world.specs.Schedules.{schedule_of}
use Rattle.lot_world.proofs.ScheduleEnds.{schedules_drain}
use Rattle.lot_world.proofs.StandsOnce.{stand_once}
use Rattle.lot_world.proofs.world.World.drain.Goals as goal

pub copy-requires-clause-once : goal.copy-requires-clause-once
copy-requires-clause-once g c = stand_once c.self.inside.machine c.self.invariant

pub copy-requires-clause-below : goal.copy-requires-clause-below
copy-requires-clause-below g c = c.self.invariant.well_formed.waiting

pub schedule-requires-clause-well_formed : goal.schedule-requires-clause-well_formed
schedule-requires-clause-well_formed g c = subst IsWellFormed (sym c.in_ok-copy.ensures.ok)
    c.self.invariant.well_formed

pub schedule-requires-clause-one : goal.schedule-requires-clause-one
schedule-requires-clause-one g c = ap (λ (w : State). length w.locks) (c.in_ok-copy.ensures.ok
    ∙ c.self.view_is) ∙ c.requires.lock.one

pub returns-clause-ok : goal.returns-clause-ok
returns-clause-ok g c =
    let w = c.args.self.now in
    let drains = schedules_drain w (subst IsWorld c.self.view_is c.self.invariant) c.requires in
    IfOk-weaker c.schedule.result _ _ (λ steps is. subst (IsDrain w)
    (sym (is ∙ ap schedule_of (c.in_ok-copy.ensures.ok ∙ c.self.view_is))) drains) c.schedule.ensures.ok

pub returns-clause-schedule : goal.returns-clause-schedule
returns-clause-schedule g c =
    IfOk-weaker c.schedule.result _ _ (λ steps is. is ∙ ap schedule_of (c.in_ok-copy.ensures.ok
    ∙ c.self.view_is)) c.schedule.ensures.ok
