-- What to read
pub mod Named
pub mod Listing
pub mod Header
