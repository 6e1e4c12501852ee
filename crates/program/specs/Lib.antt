-- What to read
pub mod Debugging
pub mod Telling
pub mod Carrying
