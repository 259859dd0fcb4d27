-- A set of heads of queues in words, what the functions of the crate leave there or find, and laws for their callers.
pub mod Set
pub mod SetLaws
