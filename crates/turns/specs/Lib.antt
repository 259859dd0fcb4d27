-- How a Drain goes: one turn after the other, with a set of the heads that may have a permitted move.
pub mod Turns
pub mod Turned
