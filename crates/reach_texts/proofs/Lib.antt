pub mod Numbered
pub mod RangeLines
pub mod Refused
pub mod Seen
pub mod Specials
pub mod ThroughDoors
pub mod Writing
