-- What is on a server's disk, and in the file beside it.
use Rattle.std.specs.Prelude.{ℕ, List, [], ◌++◌, Option, None, Some, take}
use Rattle.raft_cluster.specs.declared.machine.Handed.{Handed}
use Rattle.raft_cluster.specs.declared.machine.Machine.{Machine}

-- the bytes that were handed out for the log's end
abbrev pub bytes_of : Option Handed → List ℕ
bytes_of None = []
bytes_of (Some w) = w.bytes

-- those for the end of a new log
abbrev pub next_of : Option (List ℕ) → List ℕ
next_of None = []
next_of (Some bytes) = bytes

abbrev pub next_bytes_of : Option Handed → List ℕ
next_bytes_of None = []
next_bytes_of (Some w) = next_of w.next

module _ {S : Type 0} where
  -- the disk with those that were handed out
  abbrev pub flushed : Machine S → List ℕ
  flushed m = m.disk.items ++ bytes_of m.written

  -- the file of a new log with those for that
  abbrev pub flushed_beside : Machine S → List ℕ
  flushed_beside m = m.beside.items ++ next_bytes_of m.written

  -- the disk with so many of them
  abbrev pub torn : ℕ → Machine S → List ℕ
  torn count m = m.disk.items ++ take count (bytes_of m.written)
