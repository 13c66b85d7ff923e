-- How an engine starts, and how its leader steps down.
use Rattle.std.specs.Prelude.{Bool, false, [], ◌∷◌, Option, if◌then◌else◌}
use Rattle.std.specs.Option.{option_or}
use Rattle.std.specs.Ordering.{is_le}
use Rattle.std.specs.declared.cmp.Ordering.{Ordering}
use Rattle.raft_state.specs.declared.config.RaftEntry
use Rattle.raft_state.specs.declared.state.RaftState.{RaftState}
use Rattle.raft_state.specs.declared.state.ServerState.{ServerState}
use Rattle.raft_state.specs.declared.state.ServerState.TheVariants.{Follower, Learner}
use Rattle.raft_state.specs.Log.{last}
use Rattle.raft_state.specs.Members.{is_voter}
use Rattle.raft_state.specs.Order.{last_id_cmp}
use Rattle.raft_state.specs.State.{is_leader}
use Rattle.raft_progress_entry.specs.raft_error.Number.{first_refusal}
use Rattle.raft_progress_entry.specs.raft_error.declared.error.EngineError.{EngineError}
use Rattle.raft_progress_entry.specs.raft_error.declared.error.EngineError.TheVariants.{IndexEnd}
use Rattle.raft_command.specs.declared.config.EngineConfig.{EngineConfig}
use Rattle.raft_steps.specs.Refusals.{refusals_of_spent, refusals_of_counter, refusals_of_lead, blank_is_at_end}
use Rattle.raft_steps.specs.Parts.{Led, Machine, with_state, on_core, on_leader}
use Rattle.raft_steps.specs.ReplicationHandler.{initiate_replication, update_local_progress}
use Rattle.raft_steps.specs.VoteHandler.{update_internal_server_state}

module _ {NID N : Type 0} (cmp : NID → NID → Ordering) (config : EngineConfig NID) where
  -- the role of a node that starts and does not lead
  abbrev pub started_role : RaftState NID N → ServerState
  started_role s = if is_voter cmp s.em.membership config.id then Follower else Learner

module _ {NID N : Type 0} (cmp : NID → NID → Ordering) where
  -- the effective membership is committed
  abbrev pub is_settled : RaftState NID N → Bool
  is_settled s = is_le (last_id_cmp cmp s.em.log_id s.committed)

module _ {C NID N E D R S : Type 0} (cmp : NID → NID → Ordering) (config : EngineConfig NID) where
  -- a starting leader, whose no-op entry is proposed by now, acknowledges its whole log, and replicates to the other nodes
  abbrev pub lead_on : Led C NID N E D R S → Led C NID N E D R S
  lead_on l = initiate_replication cmp config false (update_local_progress cmp config (last l.core.state.ids) l)

module _ {C NID N E D R S : Type 0} (cmp : NID → NID → Ordering) (entry : RaftEntry.Ghosts E NID N) (config : EngineConfig NID) where
  -- a node that was leader leads at once; any other follows or learns, and queues nothing
  unfoldable pub startup : Machine C NID N E D R S → Machine C NID N E D R S
  startup m =
      if is_leader cmp m.core.state config.id then on_leader (lead_on cmp config) (update_internal_server_state cmp entry config m)
      else on_core (λ c. with_state c (record c.state { role = started_role cmp config c.state })) m

  -- once the effective membership is committed, a leader that is no member follows
  unfoldable pub leader_step_down : Machine C NID N E D R S → Machine C NID N E D R S
  leader_step_down m = if is_settled cmp m.core.state then update_internal_server_state cmp entry config m else m

module _ {C NID N E D R S : Type 0} (cmp : NID → NID → Ordering) (config : EngineConfig NID) where
  -- a start: `Spent`, `CounterEnd`, and `IndexEnd` if the node leads and its no-op entry would get the greatest index
  abbrev pub refusals_of_startup : Machine C NID N E D R S → Option (EngineError NID N)
  refusals_of_startup m = option_or (refusals_of_counter m) (first_refusal ((blank_is_at_end cmp config m.core.state.vote m, IndexEnd) ∷ []))

  -- stepping down: `Spent`, and `IndexEnd` only if the effective membership is committed
  abbrev pub refusals_of_step_down : Machine C NID N E D R S → Option (EngineError NID N)
  refusals_of_step_down m = if is_settled cmp m.core.state then refusals_of_lead cmp config m else refusals_of_spent m
