pub mod Parts
pub mod Numbers
pub mod Counts
pub mod Decisions
