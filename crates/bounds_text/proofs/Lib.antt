pub mod SetBounds
