-- The laws of the definitions in specs/.
pub mod Examples
pub mod Cuts
pub mod Fields
pub mod Numerals
pub mod Lengths
pub mod Puts
