pub mod Lists  -- lists of items with consecutive indexes, and maps of them
pub mod Logged  -- what a change of a map leaves of the logs by leader
pub mod Memberships  -- the last membership of a list of entries, as entries are added one by one
pub mod Numbered  -- entries with their indexes: what is put, cut, passed and found
pub mod Ranges  -- the entries between two indexes
pub mod SameEntries  -- two entries are the same exactly if their test says so
pub mod Shown  -- what references to entries show
pub mod StoreExample  -- stores for the computed examples
pub mod StoreRows  -- computed examples of stores: what they keep of commands, and their whole logs
pub mod WholeLogs  -- the places of a whole log without gaps
