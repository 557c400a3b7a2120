pub mod Plans
pub mod Counts
pub mod Spots
