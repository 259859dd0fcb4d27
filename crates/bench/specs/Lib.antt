-- Specifications of the bench program.
pub mod Streams
