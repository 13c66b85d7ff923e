pub mod Places  -- where a byte stands first
pub mod Pieces  -- what is read doesn't depend on the pieces in which it comes
pub mod Again  -- what is written is read
pub mod Loops  -- words that were read, before those that are left
pub mod Behind  -- what is left once something was read is the end of the bytes
