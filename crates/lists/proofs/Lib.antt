-- The laws of lists that are written a part at a time.
pub mod Choice
pub mod Pasted
pub mod Bytes
pub mod Laid
pub mod Made
pub mod Every
