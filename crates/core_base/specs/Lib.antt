pub mod Words
pub mod Keys
pub mod Lines
pub mod Picks
pub mod Requeues
pub mod Laws
