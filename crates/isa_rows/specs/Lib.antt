-- What to read
pub mod Forms
pub mod Insn
pub mod Kind
pub mod Line
pub mod Operands
pub mod Decoded
pub mod Shape
-- Laws
pub mod InsnLaws
pub mod WordLaws
pub mod DecodedLaws
pub mod RowLaws
pub mod OperandLaws
-- Inner words
pub mod Name
pub mod Once
pub mod Transfers
