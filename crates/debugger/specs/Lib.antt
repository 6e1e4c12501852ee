-- What to read
pub mod SessionState
pub mod Stops
pub mod Stepping
pub mod LastStop
pub mod Reaching
pub mod Reply
pub mod Conversation
pub mod Answers
pub mod Talk
pub mod OnSchedule
-- Inner words
pub mod Marked
pub mod Lines
pub mod Standing
pub mod Heard
pub mod Keeping
