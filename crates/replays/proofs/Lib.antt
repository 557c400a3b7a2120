pub mod Ahead
pub mod Answered
pub mod Items
pub mod Made
pub mod Output
pub mod Room
pub mod Running
pub mod Turns
