-- the specifications of raft_schedule, passed on
pub use Rattle.raft_schedule.specs.Line
pub use Rattle.raft_schedule.specs.Reading
pub use Rattle.raft_schedule.specs.Steps
pub use Rattle.raft_schedule.specs.Text
pub use Rattle.raft_schedule.specs.Written
pub use Rattle.raft_schedule.specs.declared
