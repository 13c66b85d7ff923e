pub mod Choosing  -- which nodes can be elected, as the program decides it
pub mod Recoveries  -- what a way on is, and what a world lacks that has none
pub mod Simulated  -- what a simulation that recovers answers and writes
pub mod Starting  -- what a store gives to a bare start
pub mod Told  -- why nodes don't go on, as text
pub mod Ways  -- the ways on that the program tries
pub mod Tasks  -- what the words of a command line ask for
