-- What to read
pub mod Planes
-- Laws
pub mod PlanesLaws
