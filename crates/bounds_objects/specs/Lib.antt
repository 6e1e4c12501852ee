-- What to read
pub mod Bounds
pub mod Length
pub mod Word
pub mod Value
