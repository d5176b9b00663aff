pub mod Requests
pub mod Slots
pub mod Runs
pub mod Samplers
pub mod Bounds
