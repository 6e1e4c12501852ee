pub mod Adding
pub mod Entering
pub mod Firsts
pub mod Lines
pub mod Looking
