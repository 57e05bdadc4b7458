pub use Rattle.core_base.specs.Words
pub use Rattle.core_base.specs.Lines
pub use Rattle.spec_locks.specs.Calls
pub use Rattle.spec_locks.specs.Kinds
pub mod Steps
