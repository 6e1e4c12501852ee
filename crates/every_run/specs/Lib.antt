-- What to read
pub mod Opens
pub mod Known
-- Inner words
pub mod Stands
pub mod Lasting
pub mod Members
pub mod Handled
