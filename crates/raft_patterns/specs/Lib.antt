pub mod Patterns
pub mod Runs
