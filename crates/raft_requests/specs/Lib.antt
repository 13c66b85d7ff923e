pub mod Names
pub mod Refusals
pub mod Words
pub mod Times
pub mod Options
pub mod ExpireOptions
pub mod ScanOptions
pub mod Requests
