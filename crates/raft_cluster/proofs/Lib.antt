mod Alike
mod Machines
mod Servers
mod Leaving
mod Order
mod Cores
mod Frames
mod Kept
mod Clients
mod Seen
mod Clusters
mod Recorded
pub mod Agree
