-- What to read
pub mod Text
pub mod Number
pub mod Ranges
pub mod Operand
pub mod Words
pub mod Fills
pub mod Statement
pub mod Line
pub mod Parts
pub mod Forms
-- Inner words
pub mod Class
pub mod Seen
pub mod Bounded
pub mod SeenParts
