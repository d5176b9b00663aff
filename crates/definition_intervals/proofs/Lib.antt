mod Rows
mod RecordRows
mod WorldRows
pub mod EqualityLemmas
pub mod ChoiceLemmas
pub mod NamedLemmas
pub mod StateLemmas
pub mod KnownFacts
pub mod CandidateLemmas
pub mod ContainmentLemmas
pub mod SetLemmas
pub mod ReachLemmas
pub mod CommonLemmas
pub mod NewestLemmas
pub mod AgreementLemmas
pub mod KeptLemmas
pub mod GatherLemmas
pub mod VerdictLemmas
pub mod BasisLemmas
pub mod HeldLemmas
pub mod FormedDecisions
pub mod WorldContainment
pub mod SoundLemmas
pub mod NamesLemmas
pub mod GrowthLemmas
pub mod PersistLemmas
pub mod WorldPersists
pub mod RecordLemmas
pub mod KnownWorlds
pub mod WorldGrowth
pub mod WorldDecisions
pub mod ValueLemmas
pub mod FoundLemmas
pub mod FoundSteps
pub mod FindLemmas
