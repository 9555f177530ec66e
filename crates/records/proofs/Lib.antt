-- Laws that belong to no one function.
pub mod Frames
pub mod Ranges
pub mod Answers
