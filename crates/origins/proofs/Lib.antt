mod Parts
mod Values
pub mod Steps
pub mod Does
pub mod There
pub mod Stays
pub mod Lost
pub mod Last
pub mod Tagged
pub mod Rights
pub mod Kept
pub mod Becomes
pub mod Registers
pub mod Specials
pub mod Granules
pub mod Changes
