pub mod Along  -- what a world keeps, along the equations that its events ensure
pub mod Checked  -- a table of entries by index shows whether they agree
pub mod Grouped  -- entries by index, printed one after another, are a line for each index
pub mod Lines  -- what the lines of a report leave in a writer, one after another
pub mod Moved  -- what several reads or writes move, and how they fail
pub mod Safe  -- each run is safe
pub mod Simulations  -- why a schedule whose run is refused has no report, and what an answer says when nothing is known of the streams
pub mod Stepped  -- a run of steps is the run of their events
