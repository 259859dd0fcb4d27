-- What the contracts of this crate cite besides the definitions of `network`, and its laws.
pub mod Geometry
pub mod GeometryLaws
