-- The laws of the definitions in specs/.
pub mod Tests
pub mod Bools
pub mod Sums
pub mod Joins
pub mod Rearrangement
pub mod Different
pub mod Digits
pub mod Numbers
pub mod Parts
pub mod Bits
