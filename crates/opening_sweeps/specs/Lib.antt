pub mod Requests
pub mod Courses
pub mod Groups
pub mod Sweeps
