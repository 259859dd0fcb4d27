-- Proofs of the replay.
pub mod Rows
pub mod ReplayLaws
pub mod Whole
pub mod Others
pub mod FillsLaws
pub mod StepsLaws
pub mod Dumps
pub mod Answered
