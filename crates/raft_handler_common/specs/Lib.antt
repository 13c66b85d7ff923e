pub mod Handlers
