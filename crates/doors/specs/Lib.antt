-- What to read
pub mod Doors
pub mod Turn
pub mod Sets
pub mod Worlds
pub mod Lent
pub mod Closed
pub mod Roots
pub mod Through
pub mod ThroughOrder
-- Laws
pub mod PairLaws
pub mod SetLaws
pub mod DoorsLaws
pub mod RootsLaws
