pub mod CauseLemmas
pub mod WrittenLemmas
pub mod ToldLemmas
pub mod ReadingLemmas
pub mod FollowingLemmas
pub mod RoomLemmas
pub mod StartLemmas
pub mod LawLemmas
