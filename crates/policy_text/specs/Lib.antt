-- What to read
pub mod Policy
pub mod Sound
-- Inner words
pub mod Seen
pub mod FaultAt
