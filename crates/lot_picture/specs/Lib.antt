pub mod Cells
pub mod Effects
pub mod Dues
