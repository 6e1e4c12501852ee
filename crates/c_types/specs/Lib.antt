-- What to read
pub mod Halves
pub mod Words
