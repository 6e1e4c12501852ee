-- What to read
pub mod Memory
pub mod Planes
-- Laws
pub mod MemoryLaws
pub mod AccessLaws
pub mod ReadLaws
-- Inner words
pub mod Layout
pub mod Replaced
pub mod Tagged
