-- What to read
pub mod Terms
pub mod Rule
pub mod Watch
pub mod Opened
pub mod Tests
pub mod Lending
pub mod Run
-- Inner words
pub mod Cover
pub mod Known
