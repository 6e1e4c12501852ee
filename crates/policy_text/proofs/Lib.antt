pub mod Cuts
pub mod Going
pub mod Kept
pub mod Faulty
pub mod Spoken
pub mod Sounds
