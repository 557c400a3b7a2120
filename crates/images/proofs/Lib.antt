pub mod Laid
pub mod Laws
pub mod Overlay
pub mod Parts
