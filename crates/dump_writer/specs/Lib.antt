-- What the inner functions of the writer of a dump answer.
pub mod Writing
