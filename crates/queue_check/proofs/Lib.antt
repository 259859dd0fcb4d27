-- Laws that several proofs of the crate share.
pub mod Tallies
pub mod Loads
pub mod Zeros
pub mod QueueParts
pub mod Walks
