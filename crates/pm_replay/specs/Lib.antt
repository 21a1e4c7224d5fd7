pub mod Replay
pub mod Replayed
pub mod Safe
pub mod Within
pub mod Plays
