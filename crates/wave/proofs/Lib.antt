-- Proofs of the program wave.
pub mod Written
