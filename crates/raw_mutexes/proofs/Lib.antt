pub mod CondvarAnswers
pub mod InTurn
