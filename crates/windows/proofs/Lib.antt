-- Laws that belong to no one function, and the examples.
pub mod Examples
pub mod Steps
pub mod Windows
