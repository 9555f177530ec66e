-- What the listing program writes.
pub mod Listing
pub mod Text
