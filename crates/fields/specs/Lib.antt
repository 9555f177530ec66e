-- The definitions that the contracts of `fields` cite, in the order of document 01's section "The network file".
pub mod Faults
pub mod Bytes
pub mod Shape
pub mod Stored
pub mod Asked
