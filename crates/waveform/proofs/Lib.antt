-- The laws of the definitions in specs/.
pub mod StepAnswers
pub mod DumpLaws
pub mod Lengths
pub mod StartLaws
pub mod ReadingLaws
pub mod Theorem
pub mod Exact
pub mod ChangesLaws
pub mod CallsLaws
pub mod TheoremLaws
pub mod Examples
