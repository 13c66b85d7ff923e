pub mod Lists  -- what is kept of a list of entries, as entries are added
pub mod Stores  -- what commands, builds and starts make of a packed store
