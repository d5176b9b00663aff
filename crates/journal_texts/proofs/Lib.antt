pub mod ActsAgain
pub mod PacketsAgain
pub mod RangeLemmas
pub mod MomentsAgain
mod TextRows
