mod LabelTexts
mod LaterLemmas
mod LineLemmas
mod SourceLemmas
pub mod PlaceLemmas
mod TableLemmas
