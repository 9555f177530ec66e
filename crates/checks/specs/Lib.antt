-- The definitions of tests 4 to 8, and of what the bands need of a network.
pub mod Tensors
pub mod Tests
