-- Laws that belong to no one function.
pub mod Answers
pub mod Entered
pub mod Rooms
pub mod Sized
