-- What to read
pub mod Shown
-- Laws
pub mod LengthLaws
-- Inner words
pub mod Widths
