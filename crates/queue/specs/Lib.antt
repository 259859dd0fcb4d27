-- What the contracts of the crate ask of a queue's words, and of the words of a network around it, and their laws, which the crates above cite too.
pub mod Queue
pub mod QueueLaws
pub mod QueueOf
pub mod HeldWords
