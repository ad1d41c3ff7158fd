-- The laws of telling.
pub mod Telling
