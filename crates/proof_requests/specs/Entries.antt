-- The entries of values that are proposed together.
use Rattle.std.specs.Prelude.{ℕ, ◌+◌, List, [], ◌∷◌}
use Rattle.raft_state.specs.declared.ids.LeaderId.{LeaderId}
use Rattle.raft_store.specs.declared.entry.Entry.{Entry}
use Rattle.raft_store.specs.declared.entry.Payload.TheVariants as payload
use Rattle.raft_store.specs.declared.entry.Value.{Value}

-- the entry of a value
abbrev pub value_at : LeaderId ℕ → ℕ → Value → Entry
value_at leader index v = record { log_id = record { leader_id = leader; index = index }; payload = payload.Value v }

-- those of values, from an index on
abbrev pub entries_at : LeaderId ℕ → ℕ → List Value → List Entry
entries_at leader index [] = []
entries_at leader index (v ∷ values) = value_at leader index v ∷ entries_at leader (index + 1) values
