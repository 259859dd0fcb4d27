-- How the programs end where a stream failed.
pub mod Ends
