-- Words and tables, what the checker asks of them, and what the functions ask and promise.
pub mod Word
pub mod Faults
pub mod Contract
