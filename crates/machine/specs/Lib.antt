-- What to read
pub mod Run
pub mod Steps
pub mod Stretch
