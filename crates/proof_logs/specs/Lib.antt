pub mod proof_servers
pub mod Batches
pub mod BatchLaws
pub mod Logs
pub mod Laws
pub mod Files
pub mod FileLaws
