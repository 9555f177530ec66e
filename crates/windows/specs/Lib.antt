-- The definitions that the contracts of `windows` cite.
pub mod Window
pub mod Asked
