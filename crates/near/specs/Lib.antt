-- What a table with an entry for each direction of each node holds, and its laws.
pub mod Table
