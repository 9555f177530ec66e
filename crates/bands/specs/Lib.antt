-- The definitions that the contracts of `bands` cite, in the order of document 01's section "Stale bands and calls"; and the words of its laws.
pub mod Band
pub mod State
pub mod Reach
pub mod Grow
pub mod Within
