-- What `open` answers.
pub mod Opened
