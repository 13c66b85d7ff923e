-- the specifications of proof_packed_servers, passed on
pub use Rattle.proof_packed_servers.specs.Servers
pub use Rattle.proof_packed_servers.specs.Laws
pub use Rattle.proof_packed_servers.specs.Checkpoints
