-- How answers are told.
pub mod Told
