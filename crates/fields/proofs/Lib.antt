-- What a proof of this crate cites beside the laws of `sheet`.
pub mod Digits
pub mod Pages
