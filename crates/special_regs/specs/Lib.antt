-- What to read
pub mod Csrs
pub mod Scrs
pub mod Traps
pub mod Mtvec
pub mod CsrValues
pub mod Numbered
pub mod Refusals
pub mod Writes
pub mod Interrupts
pub mod Sound
-- Laws
pub mod NumberedLaws
pub mod ListingLaws
pub mod SoundLaws
