-- What to read
pub mod Trace
pub mod Verdict
pub mod Unhandled
pub mod Ending
pub mod Object
pub mod Stopping
pub mod Profile
-- Inner words
pub mod Lines
pub mod LineLaws
pub mod WatchedLaws
pub mod Watched
pub mod Stopped
pub mod StoppedLaws
pub mod Counts
pub mod CountLaws
