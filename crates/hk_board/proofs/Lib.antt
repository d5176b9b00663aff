pub mod TextLemmas
pub mod StepLemmas
pub mod EndLemmas
pub mod OuterLemmas
pub mod SlotLemmas
pub mod LoopLemmas
