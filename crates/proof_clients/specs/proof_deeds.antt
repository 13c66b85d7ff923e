-- the specifications of proof_deeds, passed on
pub use Rattle.proof_deeds.specs.BareStarts
pub use Rattle.proof_deeds.specs.Chains
pub use Rattle.proof_deeds.specs.ElectionDeeds
pub use Rattle.proof_deeds.specs.FollowerDeeds
pub use Rattle.proof_deeds.specs.Follows
pub use Rattle.proof_deeds.specs.Images
pub use Rattle.proof_deeds.specs.Knows
pub use Rattle.proof_deeds.specs.LeaderDeeds
pub use Rattle.proof_deeds.specs.Nets
pub use Rattle.proof_deeds.specs.OwnReads
pub use Rattle.proof_deeds.specs.SnapshotDeeds
pub use Rattle.proof_deeds.specs.Unrefused
pub use Rattle.proof_deeds.specs.WorldLaws
