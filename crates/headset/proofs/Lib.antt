-- The proofs of this crate's functions stand in a folder for each. What they share: WordBits.antt, the bits of one word; Sets.antt, the words.
pub mod WordBits
pub mod Sets
