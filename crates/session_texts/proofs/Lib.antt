mod TextRows
pub mod EntryLemmas
pub mod BlockLemmas
pub mod KeptFacts
pub mod CountFacts
pub mod NamingLemmas
pub mod TruthLemmas
pub mod ProblemLemmas
pub mod LaterFacts
pub mod FollowLemmas
pub mod SettledLemmas
pub mod ExampleText
pub mod FeedLemmas
pub mod LineLemmas
