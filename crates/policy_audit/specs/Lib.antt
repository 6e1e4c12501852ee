-- What to read
pub mod Found
pub mod Lines
pub mod Told
pub mod Text
pub mod Object
pub mod Entries
-- Inner words
pub mod Look
pub mod Recalled
pub mod Watched
-- Laws
pub mod WatchedLaws
