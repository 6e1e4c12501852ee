pub mod LeftTraps
pub mod WatchedSteps
pub mod Texts
pub mod Stops
pub mod TraceCuts
pub mod FirstSteps
pub mod Counting
