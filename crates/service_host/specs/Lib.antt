pub mod Frames  -- outputs as bytes
pub mod Pieces  -- a new log's bytes in pieces
pub mod Inputs  -- inputs as numbers and bytes
pub mod Settings  -- what servers have in common, of the settings' bytes
pub mod Errors  -- refusals as numbers
pub mod Host  -- what a call does
