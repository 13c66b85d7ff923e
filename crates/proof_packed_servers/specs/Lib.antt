pub mod Servers
pub mod Laws
pub mod Checkpoints
