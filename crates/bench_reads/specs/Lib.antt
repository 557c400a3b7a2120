-- The definitions that the contracts of `bench_reads` cite.
pub mod Parts
