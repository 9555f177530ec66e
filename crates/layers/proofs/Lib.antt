-- Laws that belong to no one function.
pub mod Convs
pub mod Direct
pub mod Filled
pub mod Lengths
pub mod Local
pub mod Rows
pub mod Totals
pub mod Weights
