-- What to read
pub mod Keeping
-- Inner words
pub mod Kept
pub mod KeptLaws
