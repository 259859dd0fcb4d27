-- What the contracts of the crate cite beside the definitions of the crate network, and the laws of the limits.
pub mod PacketLimits
pub mod LimitLaws
pub mod Tables
