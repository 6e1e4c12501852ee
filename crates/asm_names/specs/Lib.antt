-- What to read
pub mod Mnemonic
pub mod Registers
pub mod SpecialNames
pub mod Slots
pub mod TrapNames
-- Laws
pub mod NameLaws
