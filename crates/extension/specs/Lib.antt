-- The sets of a policy's records in the work slice, the order in which they are made, and the tables beside them.
pub mod Sets
pub mod Depths
pub mod Columns
