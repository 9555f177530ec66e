-- Laws that belong to no one function.
pub mod Biases
pub mod Shapes
pub mod Signed
pub mod Stores
pub mod Tests
pub mod Refusals
