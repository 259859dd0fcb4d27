-- What the contracts of the crate cite beside the definitions of the crate network.
pub mod RingLines
