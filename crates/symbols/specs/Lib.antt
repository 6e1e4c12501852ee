-- What to read
pub mod Symbols
pub mod Labels
pub mod Sources
-- Inner words
pub mod Places
pub mod Reads
