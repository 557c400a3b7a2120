-- The definitions that the contracts of `bench_walks` cite.
pub mod Whole
