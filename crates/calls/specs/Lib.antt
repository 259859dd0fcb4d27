-- What the calls answer and leave, test by test.
pub mod Returns
pub mod Place
