pub mod Opening
pub mod Searching
pub mod Linking
pub mod Ways
pub mod Finding
