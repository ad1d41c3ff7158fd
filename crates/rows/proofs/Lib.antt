-- The laws of naming rows, one concept to a file.
pub mod Cubes
pub mod Joining
pub mod Names
