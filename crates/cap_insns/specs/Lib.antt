-- What to read
pub mod CapabilityRows
-- Laws
pub mod RowLaws
pub mod MadeLaws
