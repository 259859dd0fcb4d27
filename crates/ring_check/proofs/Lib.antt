-- Laws that several proofs of the crate share.
pub mod RingWalks
