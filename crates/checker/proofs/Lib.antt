-- The laws of the checker: tables filled from a root, the faults found by searches, the verdict, and the entry.
pub mod Filling
pub mod Finding
pub mod Deciding
pub mod Entering
