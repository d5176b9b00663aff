pub mod Words
pub mod Faults
pub mod Inputs
pub mod Seats
pub mod Progress
pub mod Outputs
pub mod Runs
