-- What to read
pub mod Reach
pub mod Opens
pub mod First
pub mod Ranges
pub mod Differs
-- Inner words
pub mod Questions
pub mod Merging
