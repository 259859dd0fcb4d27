-- The set of heads that goes along with a Drain.
pub mod ReadyHeads
