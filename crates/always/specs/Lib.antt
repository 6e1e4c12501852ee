-- What to read
pub mod Kept
pub mod Enclosed
