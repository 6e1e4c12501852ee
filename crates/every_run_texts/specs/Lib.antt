-- What to read
pub mod Text
