-- What to read
pub mod Items
pub mod Places
-- Laws
pub mod ItemLaws
