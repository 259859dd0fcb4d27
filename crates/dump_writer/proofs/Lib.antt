-- What the proofs of the writer of a dump cite beside the laws of `waveform`.
pub mod Loops
pub mod Node
