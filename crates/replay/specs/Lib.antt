-- A sheet replayed as a dump (R423, R424): Replay.antt has the definitions, ReplayLaws.antt that a D replayed move by move is the D, Whole.antt that on a
-- page for the largest network no step is lost, FillsLaws.antt that list and page tell what the words do. Steps.antt has what is left of a read, step by step,
-- StepsLaws.antt its laws, Dumps.antt the theorem on all reads together, `dump-right`. Rows.antt has dumps that were worked out by hand.
pub mod Replay
pub mod Rows
pub mod ReplayLaws
pub mod Whole
pub mod FillsLaws
pub mod Steps
pub mod StepsLaws
pub mod Dumps
