-- The definitions of what load fills the sums with and of what an update recomputes.
pub mod Recompute
pub mod Asked
