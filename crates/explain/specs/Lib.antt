-- What to read
pub mod TrapText
pub mod ValueText
pub mod EffectText
pub mod TraceLine
pub mod WordLine
pub mod Asked
pub mod WhyText
pub mod StepFields
pub mod WhyObjects
pub mod TraceObject
pub mod StandingText
-- Laws
pub mod AskedLaws
-- How long names are
pub mod LengthLaws
