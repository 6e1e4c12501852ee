-- What to read
pub mod Address
pub mod Command
-- Inner words
pub mod Limits
