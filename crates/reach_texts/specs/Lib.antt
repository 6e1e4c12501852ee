pub mod Text
pub mod Asked
pub mod Summary
pub mod Object
