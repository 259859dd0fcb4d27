-- What the library for C writes to the words `out` that a caller lends for an answer.
pub mod Outs
pub mod OutLaws
