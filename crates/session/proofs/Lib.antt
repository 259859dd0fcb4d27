-- Proofs of the session.
pub mod ReadLaws
pub mod Listing
pub mod ComingLaws
pub mod RunningLaws
