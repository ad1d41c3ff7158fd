-- What has been named of a text's rows.
pub mod Naming
