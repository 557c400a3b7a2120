-- The laws that the proofs of `bench_walks` cite.
pub mod Laws
