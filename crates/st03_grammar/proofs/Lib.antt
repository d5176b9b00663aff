pub mod KeyLemmas
pub mod SpellingLemmas
pub mod Repeats
pub mod Fitting
pub mod Places
pub mod TakenFields
pub mod TakenBodies
pub mod Apart
