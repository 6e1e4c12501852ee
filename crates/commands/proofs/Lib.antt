pub mod Filing
pub mod Flat
pub mod Typed
pub mod Policies
pub mod Sources
pub mod FirstRun
pub mod Failing
pub mod Shown
