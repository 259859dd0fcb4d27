-- The bench program as definitions: what a command does and prints, and what a whole sheet prints (Session.antt); what each read of a sheet does and
-- prints, with the theorems `sheet-right` and `lines-right` (Reads.antt); what a read still brings, command by command (Coming.antt, ComingLaws.antt).
-- Listing.antt computes the worked example; Running.antt has facts that the code's contracts and proofs name besides, RunningLaws.antt their laws.
pub mod Session
pub mod Reads
pub mod Listing
pub mod Coming
pub mod ComingLaws
pub mod Running
