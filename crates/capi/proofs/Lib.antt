-- The law of the exports: only one answer is allowed.
pub mod Unique
