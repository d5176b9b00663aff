pub mod CutLemmas
pub mod ToComeLemmas
pub mod TrimLemmas
pub mod ShowLemmas
pub mod EncodeLemmas
pub mod WholeLemmas
