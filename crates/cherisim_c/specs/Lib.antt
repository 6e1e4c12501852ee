-- What to read
pub mod Status
pub mod Made
pub mod Running
pub mod Stepping
pub mod Reaching
pub mod Questions
pub mod Refusals
pub mod Policies
pub mod Pasts
pub mod Links
-- Inner words
pub mod Handle
pub mod Walks
