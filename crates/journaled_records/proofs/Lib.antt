pub mod StepLemmas
pub mod SingleLemmas
pub mod FrontLemmas
pub mod RecordLemmas
pub mod AgreeLemmas
pub mod LaterLemmas
pub mod ReplayLemmas
pub mod ToldLemmas
