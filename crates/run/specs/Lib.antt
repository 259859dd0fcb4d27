-- Demand 3, proved: Theorem.antt has the theorem, Corollaries.antt what follows from it in a line or two. It is built from what a permitted move does
-- to each queue (AfterLaws.antt of the crate network), and in order: that it keeps the rings' free slots, that its packet fits where it comes to, that it
-- keeps the check, that one is always permitted while anything is held, and what a Drain does. Reached.antt shows that the words which demand 3 starts
-- from are there: Make and Offer lead to them. Together.antt has that moves which are apart may come in any order.
pub mod Queues
pub mod Rings
pub mod Hop
pub mod Step
pub mod NewHeads
pub mod Alive
pub mod DrainMoves
pub mod Theorem
pub mod Stops
pub mod Reached
pub mod Corollaries
pub mod FirstMoves
pub mod InLists
pub mod Together
