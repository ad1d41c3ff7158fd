-- What the checker answers, and what its functions ask and promise.
pub mod Judging
pub mod Entry
pub mod Contract
