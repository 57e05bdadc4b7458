pub mod OnceWords
pub mod OnceFit
pub mod OnceTells
pub mod OnceActs
pub mod OnceRowCheck
