pub use Rattle.raft_progress.proofs as raft_progress_proofs
pub mod Beside  -- learners besides the voters, along an equation
pub mod Elements  -- elements of lists
pub mod Numbered  -- a loop that gives entries their ids, one after another
pub mod Tables  -- what changes of a table leave of its rows
