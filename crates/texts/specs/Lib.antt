-- What to read
pub mod Hex
pub mod Piece
-- Laws
pub mod HexLaws
