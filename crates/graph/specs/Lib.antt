-- The node table in document 01's words: records, the function of a number, the table's rule, and what the functions of
-- the crate promise.
pub mod Table
pub mod Sound
pub mod Chain
pub mod Operation
pub mod Built
pub mod Run
pub mod Entry
pub mod Lent
