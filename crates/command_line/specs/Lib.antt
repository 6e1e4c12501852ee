-- What to read
pub mod CommandLine
