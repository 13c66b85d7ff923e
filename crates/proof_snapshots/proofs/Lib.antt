pub mod Sent
pub mod Agreed
