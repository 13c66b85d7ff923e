pub mod Recorded
pub mod Servers
pub mod Follows
pub mod Laws
