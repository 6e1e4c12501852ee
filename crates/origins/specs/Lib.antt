-- What to read
pub mod Places
pub mod Making
pub mod Made
pub mod Tags
pub mod Kept
pub mod Search
pub mod Parts
