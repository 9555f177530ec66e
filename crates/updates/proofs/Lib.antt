-- Laws that belong to no one function.
pub mod Areas
pub mod Counts
pub mod Fairs
pub mod Fills
pub mod Ready
pub mod Turns
