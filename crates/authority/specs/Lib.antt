-- What to read
pub mod Reachable
pub mod Authority
pub mod Lent
pub mod Worlds
pub mod WorldLooks
pub mod Changes
pub mod Confined
-- Laws
pub mod GroundedLaws
pub mod HeldLaws
pub mod FrameLaws
pub mod EffectLaws
pub mod LeftLaws
pub mod RowLaws
pub mod StepLaws
pub mod LentLaws
pub mod SameBytesLaws
pub mod SameEffectLaws
pub mod AgreeLaws
pub mod TwoWorldsLaws
pub mod ChangesLaws
pub mod ConfinedLaws
-- Inner words
pub mod Grounded
pub mod Derives
