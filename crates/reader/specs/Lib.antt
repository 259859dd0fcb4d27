-- What the functions of the reader answer.
pub mod Reading
