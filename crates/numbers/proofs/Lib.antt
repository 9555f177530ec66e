-- Laws that belong to no one function.
pub mod Added
pub mod Finished
pub mod Rescaled
pub mod Shifted
pub mod Totals
pub mod Whole
