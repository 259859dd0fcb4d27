-- What the definitions of the rules are written with, and its laws. Nothing here speaks of networks. Assumes nothing.
pub mod Tests
pub mod Sums
pub mod Joins
pub mod Rearrangement
pub mod Different
pub mod Digits
pub mod Numbers
pub mod Parts
pub mod Bits
