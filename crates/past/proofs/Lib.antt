pub mod OneByOne
pub mod InOrder
pub mod Seeks
pub mod InTurn
mod Rests
pub mod Beginnings
pub mod Anchors
mod Stay
