-- The definitions that the contracts of `bench` cite.
pub mod Calls
