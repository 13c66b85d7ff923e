-- the specifications of proof_mirror, passed on
pub use Rattle.proof_mirror.specs.MirrorLaws
pub use Rattle.proof_mirror.specs.Ready
