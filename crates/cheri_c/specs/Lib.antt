-- What to read
pub mod Insns
