-- Laws that belong to no one function, and the examples.
pub mod Bounds
pub mod Ends
pub mod Examples
pub mod Growth
pub mod Made
pub mod Marked
pub mod Places
pub mod Replaced
pub mod Layers
pub mod Taken
pub mod Rewritten
pub mod Kindred
pub mod Passing
pub mod Steps
pub mod Reread
