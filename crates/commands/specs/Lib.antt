-- What to read
pub mod Files
pub mod Assembling
pub mod Programs
pub mod Imaging
pub mod Bounding
pub mod Listing
pub mod Loading
pub mod Running
pub mod Watching
pub mod RunFaults
pub mod Auditing
pub mod Proving
pub mod Overwriting
pub mod FaultTexts
