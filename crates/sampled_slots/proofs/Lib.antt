pub mod ParamLemmas
pub mod ReadingLemmas
pub mod SeatLemmas
pub mod SumLemmas
pub mod CountLemmas
pub mod OrderLemmas
pub mod UnfiledLemmas
pub mod BetweenLemmas
