pub mod Laws
pub mod Life
pub mod Table
