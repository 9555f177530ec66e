-- Laws that belong to no one function, and examples.
pub mod Texts
pub mod Lines
pub mod Examples
