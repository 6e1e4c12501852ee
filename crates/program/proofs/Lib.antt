pub mod Carried
pub mod Debugged
pub mod Gap
