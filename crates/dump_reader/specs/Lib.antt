-- What the inner functions of the reader of a dump answer.
pub mod Parsing
