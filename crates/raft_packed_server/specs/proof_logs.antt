-- the specifications of proof_logs, passed on
pub use Rattle.proof_logs.specs.Batches
pub use Rattle.proof_logs.specs.BatchLaws
pub use Rattle.proof_logs.specs.Logs
pub use Rattle.proof_logs.specs.Laws
pub use Rattle.proof_logs.specs.Files
pub use Rattle.proof_logs.specs.FileLaws
