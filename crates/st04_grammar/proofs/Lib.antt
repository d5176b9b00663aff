pub mod SpellingLemmas
pub mod ListLemmas
pub mod WritingLemmas
