pub mod Trimming
pub mod Lines
pub mod Showing
pub mod Packets
pub mod Encoding
