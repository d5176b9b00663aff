pub mod OwnWorlds
pub mod Agreeing
pub mod Replays
