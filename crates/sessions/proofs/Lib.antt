pub mod Lines
pub mod Laws
pub mod Script
pub mod Loop
