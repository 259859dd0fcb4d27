-- Laws that several proofs share: lines, runs of values, the names of a header, and steps.
pub mod Lines
pub mod Runs
pub mod Headers
pub mod Steps
