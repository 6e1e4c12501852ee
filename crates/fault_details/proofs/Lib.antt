pub mod SkippedLines
