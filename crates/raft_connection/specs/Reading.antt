-- Requests at the front of what was received.
use Rattle.std.specs.Prelude.{◌≡◌, ◌≤◌, ◌-◌, ℕ, drop, length, List, Ok, Err}
use Rattle.raft_resp.specs.Requests.{Found}
use Rattle.raft_resp.specs.declared.error.Stop.TheVariants as stop
use Rattle.raft_connection.specs.declared.reading.Front.{Front}
use Rattle.raft_connection.specs.declared.reading.Front.TheVariants.{Unfinished, Malformed, Request}

-- a front of bytes is what was found, and the bytes behind it are their last ones
abbrev pub Reads : List ℕ → Front → Found (List (List ℕ)) → Type 0
Reads bytes Unfinished found = found ≡ Err stop.Unfinished
Reads bytes (Malformed fault) found = found ≡ Err (stop.Malformed fault)
Reads bytes (Request words left) found = (left ≤ length bytes) × (found ≡ Ok (words, drop (length bytes - left) bytes))
