pub mod Disks
pub mod Servers
pub mod Outputs
pub mod Calls
pub mod Clients
pub mod Histories
pub mod Clusters
pub mod Laws
