-- the specifications of raft_frames, passed on
pub use Rattle.raft_frames.specs.Crc
pub use Rattle.raft_frames.specs.Format
