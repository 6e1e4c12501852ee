pub mod Faults
pub mod Tags
pub mod Sound
pub mod Written
pub mod Granules
