pub mod SplitLemmas
pub mod ToldLemmas
pub mod FindLemmas
pub mod AmongLemmas
pub mod MarkLemmas
pub mod GrowLemmas
pub mod HeldLemmas
pub mod PlaceLemmas
