-- What the contracts of the crate cite beside the definitions of the crates network and packet_check, and the laws of a tally.
pub mod QueueTally
pub mod TallyLaws
