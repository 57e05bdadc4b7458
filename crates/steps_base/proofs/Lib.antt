pub mod RowCheck
pub mod Moving
pub mod Deeds
