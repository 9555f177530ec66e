-- The definitions that the contracts of `layers` cite: what each kind of layer makes, and the sums of its weights.
pub mod Outputs
pub mod Conv
pub mod Full
pub mod Add
pub mod Row
pub mod Sums
pub mod Asked
