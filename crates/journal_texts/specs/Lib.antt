pub mod JournalTexts
pub mod Moments
pub mod Outcomes
pub mod Reading
