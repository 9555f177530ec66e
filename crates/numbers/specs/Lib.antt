-- The definitions that the contracts of `numbers` cite, in the order of document 01's section "The numbers".
pub mod Limits
pub mod Total
pub mod Rescale
pub mod Finish
pub mod Addition
pub mod Asked
