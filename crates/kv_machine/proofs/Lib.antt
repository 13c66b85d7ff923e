pub mod Tables
pub mod Histories
pub mod Spans
pub mod Sorting
pub mod Deleting
pub mod Pages
