pub mod Lengths
pub mod NoRegister
pub mod StageTexts
pub mod FailedLine
pub mod AskedConditions
