-- Logs by leader: a list of entries for each leader id.
use Rattle.std.specs.Prelude.{ℕ, ◌≡◌, ◌++◌, Bool, List, [], unwrap_or, if◌then◌else◌}
use Rattle.std.specs.BTreeMap.{is_at}
use Rattle.std.specs.Map.{lookup}
use Rattle.std.specs.Ordering.{nat_cmp}
use Rattle.raft_state.specs.declared.ids.LeaderId.{LeaderId}
use Rattle.raft_state.specs.Order.{leader_id_cmp}
use Rattle.raft_store.specs.declared.entry.Entry.{Entry}

-- two leader ids are the same
abbrev pub is_leader : LeaderId ℕ → LeaderId ℕ → Bool
is_leader d e = is_at (leader_id_cmp nat_cmp d) e

-- the log of a leader; where there is none, it is empty
abbrev pub log_of : List (LeaderId ℕ × List Entry) → LeaderId ℕ → List Entry
log_of logs d = unwrap_or (lookup (is_leader d) logs) []

-- the log of one leader has these entries more, and all others are as before
abbrev pub Adds : LeaderId ℕ → List Entry → List (LeaderId ℕ × List Entry) → List (LeaderId ℕ × List Entry) → Type 0
Adds d more old new = (e : LeaderId ℕ) → log_of new e ≡ (if is_leader d e then log_of old e ++ more else log_of old e)
