-- The numbers that a leader must have left before it sends.
use Rattle.std.specs.Prelude.{◌≡◌, true, ℕ, ◌+◌, ◌^◌, ◌<◌, All}
use Rattle.std.specs.Ordering.{is_le}
use Rattle.std.specs.declared.cmp.Ordering.{Ordering}
use Rattle.raft_state.specs.Order.{last_id_cmp, next}
use Rattle.raft_state.specs.Log.{last}
use Rattle.raft_progress_entry.specs.declared.entry.ProgressEntry.{ProgressEntry}
use Rattle.raft_steps.specs.Invariants.{inflight_from}
use Rattle.raft_steps.specs.Parts.{Led}

-- this many more messages may be sent to a target
abbrev pub CanSend : {NID : Type 0} → ℕ → NID × ProgressEntry NID → Type 0
CanSend k row = (row.1.last_inflight_id + k < 2 ^ 64) × (next row.1.matching < 2 ^ 64)

-- this many more messages may be sent to each target
pub record MaySend {C NID N E D R S : Type 0} (k : ℕ) (l : Led C NID N E D R S) : Type 0 where
  pub rows : All (CanSend k) l.leader.progress.rows
  pub log : next (last l.core.state.ids) < 2 ^ 64

-- what is in flight to a target begins at or above its matching id
abbrev pub IsAhead : {NID : Type 0} → (NID → NID → Ordering) → ProgressEntry NID → Type 0
IsAhead cmp e = is_le (last_id_cmp cmp e.matching (inflight_from e.inflight e.matching)) ≡ true
