pub mod Places
pub mod Merging
pub mod Reaches
pub mod Meaning
pub mod Unsealing
pub mod Determined
pub mod Putting
pub mod Keeping
