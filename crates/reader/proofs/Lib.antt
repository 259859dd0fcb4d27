-- Laws that several proofs share.
pub mod ReadDigits
pub mod Fields
pub mod Gather
pub mod Letters
