-- A candidate, as contracts see it.
use Rattle.std.specs.Prelude.{ℕ, Bool, List, Option}
use Rattle.raft_progress.specs.raft_state.declared.ids.LogId.{LogId}
use Rattle.raft_progress.specs.raft_state.declared.ids.Vote.{Vote}
use Rattle.raft_progress.specs.Table.{Table}

-- when it began, its vote, the last id of its log, what each voter has granted, and the learners
pub record Candidacy (NID QS : Type 0) : Type 0 where
  pub starting_time : ℕ
  pub vote : Vote NID
  pub last_log_id : Option (LogId NID)
  pub progress : Table NID Bool Bool QS
  pub learner_ids : List NID
