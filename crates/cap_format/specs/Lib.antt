-- What to read
pub mod Word
-- Laws
pub mod WordLaws
-- Inner words
pub mod Halves
