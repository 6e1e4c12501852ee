-- What to read
pub mod Counter
pub mod Pair
pub mod Loan
pub mod Enclosure
