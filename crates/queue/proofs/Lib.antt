-- The proofs of this crate's functions stand in a folder for each; what they share is here.
pub mod StoreLaws
pub mod ClosedForms
pub mod ChunkSums
