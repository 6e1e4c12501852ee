-- What to read
pub mod Schedule
pub mod Walk
pub mod Whole
pub mod Pace
pub mod Both
pub mod Output
-- Laws
pub mod BothLaws
pub mod OutputLaws
