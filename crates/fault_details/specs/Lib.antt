-- What to read
pub mod Reasons
pub mod Detail
pub mod SourceLines
