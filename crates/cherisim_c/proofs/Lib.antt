mod Given
mod Losses
mod Sources
pub mod Buffers
pub mod RamBytes
pub mod Reaches
pub mod Runs
pub mod StepsWhile
pub mod Stopping
pub mod Values
