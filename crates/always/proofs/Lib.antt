pub mod Runs
mod Entering
mod Looked
mod Held
mod Enclosing
