mod Labels
mod Offsets
mod Specials
