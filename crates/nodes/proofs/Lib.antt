-- The laws of rows of records.
pub mod Copying
pub mod Rows
pub mod Fields
pub mod Refusals
pub mod Parts
pub mod Operations
pub mod Values
pub mod Verdicts
pub mod Generating
pub mod Readings
pub mod Unique
