-- What to read
pub mod Devices
pub mod Sound
-- Laws
pub mod SoundLaws
pub mod KeptLaws
-- Inner words
pub mod Held
pub mod Map
