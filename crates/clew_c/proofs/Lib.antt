-- Laws that belong to no one function.
pub mod Flats
pub mod Told
