-- What to read
pub mod Replay
pub mod Position
pub mod Given
-- Inner words
pub mod Giving
pub mod Anchor
pub mod Seeking
