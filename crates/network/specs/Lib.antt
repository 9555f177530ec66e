-- The definitions that the contracts of `network` cite, in the order of document 01's section "The network file".
pub mod Network
pub mod Head
pub mod Decode
pub mod Replace
pub mod Taken
pub mod Asked
pub mod Answer
