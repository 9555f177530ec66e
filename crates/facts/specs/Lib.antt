-- What is proved of the calls: the definitions that the statements use, then the statements themselves.
pub mod Fresh
pub mod History
pub mod Demand1
pub mod Demand2
pub mod Demand3
pub mod Settled
pub mod Sizes
pub mod Interface
pub mod Table
pub mod Mornings
