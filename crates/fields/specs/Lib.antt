-- What the functions of this crate promise of a page.
pub mod Puts
