-- The meaning of every word of document 01 that the contracts cite, one concept to a file.
pub mod Func
pub mod Point
pub mod Cube
pub mod Number
pub mod Rule
pub mod Nodes
pub mod Verdict
pub mod Demand
pub mod Rows
pub mod Marked
pub mod Three
pub mod Refusal
pub mod Occurs
