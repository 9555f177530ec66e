-- The definitions that the contracts of `records` cite, in the order of document 01's section "The network file".
pub mod Mark
pub mod Frame
pub mod Weighing
pub mod Conv
pub mod Full
pub mod Add
pub mod Layer
pub mod Reader
pub mod Asked
pub mod Answer
