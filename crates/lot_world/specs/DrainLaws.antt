-- The schedule of a world, and its end.
use Rattle.lot_machine.specs.Machine.{State}
use Rattle.lot_laws.specs.SitesOf.{IsWorld}
use Rattle.lot_world.specs.Drains.{IsDrain, IsDrainable}
use Rattle.lot_world.specs.Schedules.{schedule_of}

-- the schedule drains each world that may be drained
abbrev pub SchedulesDrain : Type 0
SchedulesDrain = (w : State) → IsWorld w → IsDrainable w → IsDrain w (schedule_of w)
