-- Laws that several proofs of the crate share.
pub mod Nodes
pub mod Judged
pub mod Offsets
pub mod TableLaws
