-- In reading order
pub mod Frame  -- an event does the same whatever was recorded before
pub mod AtNode  -- an event of a world at one node
pub mod Disk  -- what a disk gives back
pub mod Included  -- what is included in records
pub mod HasEvents  -- what a server may do the world has an event for
pub mod Follow  -- servers follow a world
pub mod Told  -- so what has left them agrees, and their nodes are at rest
pub mod Order  -- what is executed later stands above
-- Worked runs
mod Rows  -- what leaves a server, and what a crash loses
