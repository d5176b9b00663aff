pub mod Appending
pub mod ValueLemmas
