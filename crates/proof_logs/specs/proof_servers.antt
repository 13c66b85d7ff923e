-- the specifications of proof_servers, passed on
pub use Rattle.proof_servers.specs.Recorded
pub use Rattle.proof_servers.specs.Servers
pub use Rattle.proof_servers.specs.Follows
pub use Rattle.proof_servers.specs.Laws
