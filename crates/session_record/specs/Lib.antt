pub mod Records
pub mod Faults
pub mod Reading
pub mod Steps
pub mod Finding
pub mod Writing
pub mod Written
