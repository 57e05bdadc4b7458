pub use Rattle.core_base.specs.Words
pub use Rattle.core_base.specs.Lines
pub use Rattle.spec_locks.specs.Calls
pub use Rattle.spec_locks.specs.Kinds
pub use Rattle.lot_steps.specs.Steps
pub use Rattle.lot_machine.specs.Machine
pub mod Rests
