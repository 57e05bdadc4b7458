-- The world in which a program starts.
use Rattle.std.proofs.Common.{length, refl}
use Rattle.lot_machine.specs.Machine.{opening}
use Rattle.lot_laws.specs.SitesOf.{IsWorld}
use Rattle.lot_scene.proofs.Openings as scene
use Rattle.lot_program.specs.Programs.{IsFit, threads_of}
use Rattle.lot_program.specs.declared.program.Program.{Program}
use Rattle.lot_program.specs.Rows.{Fits}
use Rattle.lot_program.specs.States.{program_start}

pub opening_world : (p : Program) → IsFit p → IsWorld (opening p.kinds.items (threads_of p))
opening_world p fit = scene.opening_world p.kinds.items (threads_of p) (length p.variables.items) (record {
  some = fit.some;
  few = fit.few;
  few_locks = fit.few_locks;
  few_variables = fit.few_variables;
  kinds_fit = fit.kinds;
})

pub opening_fits : (p : Program) → IsFit p → Fits p (program_start p)
opening_fits p fit = record {
  world = opening_world p fit;
  shape = record { threads = refl; locks = refl; locals = refl; variables = refl };
}
