-- What to read
pub mod Integer
-- Laws
pub mod IntegerLaws
