-- The dump of a run as definitions (R400 to R422): the bytes of a step, what the reader makes of bytes, the calls. The laws of each stand in the file beside
-- it; Theorem.antt has R421 and R422.
pub mod Dump
pub mod Reading
pub mod Calls
pub mod StepAnswers
pub mod DumpLaws
pub mod Lengths
pub mod StartLaws
pub mod ReadingLaws
pub mod Theorem
pub mod Exact
pub mod ChangesLaws
pub mod TheoremLaws
pub mod Examples
