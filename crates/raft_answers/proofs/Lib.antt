pub mod Stepping
pub mod Answered
pub mod True
