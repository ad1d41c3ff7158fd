-- What the two programs answer, for every input.
pub mod Said
pub mod Answer
pub mod Judged
pub mod Contract
pub mod Example
