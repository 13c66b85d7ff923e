pub mod Line
pub mod Reading
pub mod Steps
pub mod Text
pub mod Written
