-- The laws of lists found before and of their copies, one concept to a file.
pub mod Copying
pub mod Entries
pub mod Halfway
pub mod Staying
pub mod Stores
pub mod Writing
