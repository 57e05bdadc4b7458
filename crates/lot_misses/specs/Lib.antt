pub use Rattle.lot_steps.specs.Steps
pub use Rattle.lot_machine.specs.Machine
pub mod Looks
