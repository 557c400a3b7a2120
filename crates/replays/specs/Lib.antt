pub mod Answers
pub mod Replays
pub mod Runs
