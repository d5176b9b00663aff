pub mod SameLemmas
pub mod KeptLemmas
pub mod TouchLemmas
