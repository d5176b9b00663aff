mod Rows
pub mod Membership
pub mod FieldLemmas
pub mod Numbers
pub mod Finds
pub mod Sizes
pub mod KeyedLemmas
pub mod BuiltinFit
pub mod ListedLemmas
pub mod FileLemmas
pub mod RoomLemmas
pub mod RowLemmas
