-- The definitions that the calls' promises cite.
pub mod Sizes
pub mod Calls
