pub mod OnceCalling
pub mod Knowing
pub mod SemaphoreCalling
