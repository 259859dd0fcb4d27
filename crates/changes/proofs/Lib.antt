-- The proofs of this crate's functions stand in a folder for each; ChangeLaws.antt is what they share.
pub mod ChangeLaws
