-- What to read
pub mod Image
pub mod Grammar
pub mod Reads
-- Laws
pub mod ImageLaws
pub mod BeginningLaws
-- Inner words
pub mod Devices
