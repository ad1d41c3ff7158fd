-- The laws of words and tables, and of the checker's searches in them, one concept to a file.
pub mod Num
pub mod Tables
pub mod Least
pub mod Cubes
pub mod Halving
pub mod Halves
pub mod Loops
pub mod Flat
pub mod Placing
pub mod Finding
pub mod Adding
pub mod Answers
pub mod Turned
pub mod Spare
pub mod Searches
