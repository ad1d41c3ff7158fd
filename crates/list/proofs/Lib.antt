-- The laws of the list crate, one concept to a file.
pub mod Listing
pub mod Asking
pub mod Remembering
pub mod Calls
pub mod Lists
pub mod Hit
pub mod Generated
pub mod Entering
pub mod Delivered
pub mod Accepted
