pub mod Entries
pub mod EntryLaws
pub mod Slots
