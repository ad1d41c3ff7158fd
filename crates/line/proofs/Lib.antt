-- The laws of lines, fields, numbers and meanings, one concept to a file.
pub mod Decimal
pub mod Runs
pub mod Fields
pub mod Digits
pub mod Signs
pub mod Lines
pub mod Back
