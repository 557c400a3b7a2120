pub mod Calls
pub mod Board
pub mod Book
pub mod Decided
pub mod Among
pub mod Orders
pub mod Examples
