-- How the turns of a Drain add up.
pub mod SoFar
