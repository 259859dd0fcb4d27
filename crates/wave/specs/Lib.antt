-- Specifications of the program wave.
pub mod Streams
