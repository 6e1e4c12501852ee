-- What to read
pub mod Opening
pub mod Setting
-- Laws
pub mod OpeningLaws
pub mod OpeningStateLaws
