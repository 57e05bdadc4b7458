pub mod CondvarFit
pub mod NotifierFit
pub mod WaiterFit
pub mod WaitTells
pub mod NotifyTells
pub mod CondvarActs
