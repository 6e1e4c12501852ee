pub mod Counting
pub mod Confining
pub mod Ruled
pub mod Invoking
pub mod Lending
pub mod Enclosing
