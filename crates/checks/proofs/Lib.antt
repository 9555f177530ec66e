-- Laws that belong to no one function.
pub mod Links
pub mod Pairs
pub mod Passed
pub mod Rows
pub mod Sums
