-- The words for lists that are written a part at a time, and for tests of all numbers below a bound.
pub mod Lists
pub mod Choice
pub mod Asked
