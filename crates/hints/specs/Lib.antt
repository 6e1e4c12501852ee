pub mod Files
pub mod Printable
