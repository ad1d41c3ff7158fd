-- The meaning of whole texts, one concept to a file.
pub mod Reader
pub mod Outcome
pub mod Legal
pub mod Judged
pub mod Example
pub mod Room
pub mod Writer
pub mod Writing
pub mod Candidate
pub mod Function
