-- What a start reads of the whole log.
use Rattle.std.specs.Prelude.{ℕ, List, Option, None, Some, map}
use Rattle.std.specs.Borrow.{Bor}
use Rattle.raft_state.specs.declared.ids.LogId.{LogId}
use Rattle.raft_state.specs.declared.membership.Members.{Members}
use Rattle.raft_state.specs.declared.membership.StoredMembership.{StoredMembership}
use Rattle.raft_store.specs.declared.entry.Entry.{Entry}
use Rattle.raft_store.specs.Mirror.{none}

-- the entries that references show
abbrev pub entries_of : List (Bor Entry) → List Entry
entries_of log = map (λ e. e.now) log

-- a membership that was found, with the id of its entry; none if none was
abbrev pub stored_of : Option (LogId ℕ × Bor (Members ℕ (Unit {0}))) → StoredMembership ℕ (Unit {0})
stored_of None = none
stored_of (Some p) = record { log_id = Some p.0; membership = p.1.now }
