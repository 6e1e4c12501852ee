-- What to read
pub mod Size
pub mod Bits
pub mod Fault
pub mod FirstFault
pub mod Ram
pub mod ObjectType
pub mod Registers
-- Laws
pub mod FaultLaws
pub mod FirstFaultLaws
