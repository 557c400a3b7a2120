pub mod Pages
pub mod Offsets
