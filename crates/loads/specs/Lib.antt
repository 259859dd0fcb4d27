-- What a table of loads holds, and its laws.
pub mod Loads
