pub mod States
pub mod Timelines
pub mod Legal
pub mod Honest
pub mod Worlds
pub mod Undisturbed
pub mod Examples
pub mod LongExample
