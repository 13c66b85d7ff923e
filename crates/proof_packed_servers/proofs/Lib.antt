-- In reading order
pub mod Frame  -- a step does the same whatever was said before
pub mod Disks  -- what comes on disk
pub mod Steps  -- a step
pub mod Starts  -- a start on a disk
pub mod Clusters  -- so a whole run
pub mod Serving  -- and what each server does next
pub mod MayAct  -- by what packed servers may do
pub mod Unpacking  -- and each run of packed servers is one
pub mod Resting  -- whose nodes are at rest
pub mod Checkpoints  -- and a server goes on from a checkpoint
