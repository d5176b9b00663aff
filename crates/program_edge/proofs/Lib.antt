pub mod FaultLemmas
pub mod InputLemmas
pub mod ReaderLemmas
pub mod TailoringLemmas
