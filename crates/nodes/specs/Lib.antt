pub mod Row
pub mod Operation
pub mod Value
pub mod Verdict
pub mod Generator
pub mod Reading
