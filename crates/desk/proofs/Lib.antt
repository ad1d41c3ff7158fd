-- The theorems about the programs' answers, and the laws that the functions' proofs cite, one concept to a file.
pub mod Examples
pub mod Saying
pub mod Outcomes
pub mod Reading
pub mod Prepared
pub mod Listed
pub mod Checked
pub mod Bounds
pub mod Unique
