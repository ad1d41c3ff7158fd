-- Lists found before, and their copies in the list room.
pub mod Copy
pub mod Past
