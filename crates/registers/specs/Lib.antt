pub mod Registers
-- Inner words
pub mod KeptRegisters
pub mod Extents
