pub mod Classes
pub mod Stripped
pub mod Matching
