-- The laws that the proofs of `bench_reads` cite.
pub mod Laws
