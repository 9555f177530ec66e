-- What every call keeps, over any layers that keep the laws of the model.
pub mod Kept
pub mod Chain
pub mod Grown
pub mod Area
pub mod Calls
