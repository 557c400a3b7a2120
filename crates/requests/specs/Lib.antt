pub mod Numbers
pub mod Legal
