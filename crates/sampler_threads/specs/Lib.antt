pub mod Samples
pub mod Deeds
pub mod Rings
pub mod Slots
pub mod Orders
pub mod Samplings
pub mod Executors
