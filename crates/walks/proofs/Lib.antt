pub mod Laws
pub mod Numbers
pub mod Runs
pub mod Sixes
pub mod Sizes
pub mod Steps
