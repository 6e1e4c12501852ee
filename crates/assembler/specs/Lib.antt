-- What to read
pub mod Places
pub mod Values
pub mod Bytes
pub mod Faults
pub mod Text
pub mod Standing
pub mod AtFault
pub mod Further
pub mod Placed
-- Laws
pub mod FaultLaws
-- Inner words
pub mod Labels
pub mod Worth
pub mod Blocks
pub mod Modest
pub mod Checks
pub mod Capabilities
pub mod Sound
pub mod Buildable
pub mod Left
pub mod Told
pub mod Assembly
pub mod Pieces
