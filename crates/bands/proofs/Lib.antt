-- The laws of the bands, and the examples.
pub mod Bands
pub mod Reached
pub mod States
pub mod Grow
pub mod Examples
