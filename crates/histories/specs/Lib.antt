-- What is recomputed and what every call keeps, over any layers. No promise of a call rests on it.
pub mod Model
pub mod Kept
pub mod Chain
pub mod Area
pub mod Calls
