-- What to read
pub mod Text
pub mod Object
