-- The definitions that the C interface's promises cite.
pub mod Flat
