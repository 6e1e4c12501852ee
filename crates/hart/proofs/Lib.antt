pub mod Loading
mod Breakpoint
