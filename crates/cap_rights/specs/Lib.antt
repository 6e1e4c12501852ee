-- What to read
pub mod Permission
pub mod Perms
pub mod ObjectType
pub mod Opened
pub mod Derivations
pub mod Within
pub mod Rights
pub mod Opens
-- Laws
pub mod OpenedLaws
pub mod FieldLaws
pub mod PermsLaws
pub mod DerivationLaws
pub mod RightsLaws
pub mod OpensLaws
pub mod DerivedLaws
-- Inner words
pub mod Derived
