pub mod Blocks
pub mod TagBits
pub mod NextTag
