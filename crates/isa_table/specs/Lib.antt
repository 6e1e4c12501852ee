-- Inner words
pub mod Decision
pub mod Inverse
