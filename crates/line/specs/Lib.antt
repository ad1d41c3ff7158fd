-- The meaning of a text's bytes up to single lines, one concept to a file.
pub mod Bytes
pub mod Decimal
pub mod Meaning
pub mod Scan
