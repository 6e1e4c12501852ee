-- What to read
pub mod Picture
pub mod BoundsText
pub mod LengthText
pub mod Letters
pub mod WordText
