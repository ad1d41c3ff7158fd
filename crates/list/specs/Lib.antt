-- What the functions of the list crate promise.
pub mod Generating
pub mod Entry
