pub mod Holdings
pub mod Waiting
pub mod OneByOne
pub mod Values
pub mod Statistics
