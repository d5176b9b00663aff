pub mod SpellingLemmas
pub mod ListLemmas
