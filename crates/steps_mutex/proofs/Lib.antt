pub mod MutexWords
pub mod MutexFit
pub mod MutexCode
pub mod HandOffRights
pub mod MutexCalls
pub mod MutexTells
pub mod MutexRowCheck
