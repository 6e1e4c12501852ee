-- What to read
pub mod Reached
pub mod Links
pub mod Chain
pub mod Order
-- Laws
pub mod ChainLaws
-- Inner words
pub mod Search
pub mod Findings
