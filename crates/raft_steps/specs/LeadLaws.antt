-- The laws of starts, stepping down and reads, for the step of each call, and of a leader's tables.
use Rattle.std.specs.Prelude.{◌≡◌, ◌⊎◌, ◌≤◌, true, false, List, [], None, Some, IfSome, is_some, map, drop}
use Rattle.std.specs.List.{AllByRecursion}
use Rattle.std.specs.Ordering.{is_le}
use Rattle.std.specs.declared.cmp.Ordering.{Ordering}
use Rattle.raft_state.specs.declared.config.RaftEntry
use Rattle.raft_state.specs.Log.{last}
use Rattle.raft_state.specs.Members.{contains, voter_ids, learner_ids}
use Rattle.raft_state.specs.declared.membership.Members.{Members}
use Rattle.raft_state.specs.Order.{last_id_cmp, next}
use Rattle.raft_state.specs.State.{is_leader}
use Rattle.raft_command.specs.declared.command.Command.{Command}
use Rattle.raft_command.specs.declared.command.Command.TheVariants as command
use Rattle.raft_command.specs.declared.config.EngineConfig.{EngineConfig}
use Rattle.raft_proposer.specs.raft_progress.Table.{Table, is_in, voter_rows}
use Rattle.raft_steps.specs.Invariants.{IsSound, IsSoundLed}
use Rattle.raft_steps.specs.Laws.{QueuesOnly}
use Rattle.raft_steps.specs.LeaderHandler.{read_log_id}
use Rattle.raft_steps.specs.Parts.{Core, Led, Machine, led_in}
use Rattle.raft_steps.specs.Starts.{is_settled, startup, leader_step_down}

module _ {C NID N E D R S : Type 0} where
  -- the entries that a command stores
  abbrev pub stored_by : Command C NID N E D R S → List E
  stored_by (command.AppendInputEntries vote entries) = entries
  stored_by _ = []

module _ {C NID N E D R S : Type 0} (entry : RaftEntry.Ghosts E NID N) where
  -- no entry is stored at an index that the log has
  abbrev pub StoresPast : Core C NID N E D R S → Core C NID N E D R S → Type 0
  StoresPast old new = QueuesOnly (λ x. AllByRecursion (λ e. next (last old.state.ids) ≤ (entry.id_of e).index) (stored_by x)) old new

module _ {NID N E : Type 0} (C D R S : Type 0) (cmp : NID → NID → Ordering) (entry : RaftEntry.Ghosts E NID N) where
  -- both calls do this to the core
  pub record StartCalls (Does : Core C NID N E D R S → Core C NID N E D R S → Type 0) : Type 0 where
    pub by_startup : (config : EngineConfig NID) (m : Machine C NID N E D R S) → Does m.core (startup cmp entry config m).core
    pub by_step_down : (config : EngineConfig NID) (m : Machine C NID N E D R S) → Does m.core (leader_step_down cmp entry config m).core

  -- a node that was leader leads at once, and gives no new entry an index of its log (Raft paper, section 5.3)
  pub record StartsLead : Type 0 where
    pub leads : (config : EngineConfig NID) (m : Machine C NID N E D R S) → is_leader cmp m.core.state config.id ≡ true → is_some (startup cmp entry config m).leader ≡ true
    pub stores_by_startup : (config : EngineConfig NID) (m : Machine C NID N E D R S) → StoresPast entry m.core (startup cmp entry config m).core
    pub stores_by_step_down : (config : EngineConfig NID) (m : Machine C NID N E D R S) → StoresPast entry m.core (leader_step_down cmp entry config m).core

  -- once its membership is committed, a leader that is no member steps down (Raft paper, section 6)
  abbrev pub StepsDown : Type 0
  StepsDown =
      (config : EngineConfig NID) (m : Machine C NID N E D R S) → is_settled cmp m.core.state ≡ true → contains cmp m.core.state.em.membership config.id ≡ false
      → (leader_step_down cmp entry config m).leader ≡ None

  -- a read waits for the committed id and the leader's own no-op entry, and for no more (Raft paper, section 8)
  pub record ReadsWait : Type 0 where
    pub committed : (l : Led C NID N E D R S) → is_le (last_id_cmp cmp l.core.state.committed (read_log_id cmp l)) ≡ true
    pub own : (l : Led C NID N E D R S) → is_le (last_id_cmp cmp (Some l.leader.noop_log_id) (read_log_id cmp l)) ≡ true
    pub no_more : (l : Led C NID N E D R S) → (read_log_id cmp l ≡ l.core.state.committed) ⊎ (read_log_id cmp l ≡ Some l.leader.noop_log_id)

module _ {NID N V P : Type 0} (cmp : NID → NID → Ordering) where
  -- a table is a membership's: its groups decide; its voters have the first rows, its learners the others, both
  -- ascending; each of its nodes has a row, and no other id has one
  pub record IsTableOf (m : Members NID N) (t : Table NID V P (List (List NID))) : Type 0 where
    pub groups : t.set ≡ m.groups
    pub voters : map (λ row. row.0) (voter_rows t) ≡ voter_ids cmp m
    pub learners : map (λ row. row.0) (drop t.voters t.rows) ≡ learner_ids cmp m
    pub nodes : (id : NID) → is_in cmp t id ≡ contains cmp m id

module _ {NID : Type 0} (C N E D R S : Type 0) (cmp : NID → NID → Ordering) where
  -- both tables of a leader are the effective membership's between any two calls (openraft's `rebuild_progresses`;
  -- Raft paper, section 6: a server uses the latest configuration in its log)
  pub record TablesFollow : Type 0 where
    pub progress : (config : EngineConfig NID) (l : Led C NID N E D R S) → IsSoundLed cmp config l → IsTableOf cmp l.core.state.em.membership l.leader.progress
    pub clock : (config : EngineConfig NID) (l : Led C NID N E D R S) → IsSoundLed cmp config l → IsTableOf cmp l.core.state.em.membership l.leader.clock_progress
    pub of_engine : (config : EngineConfig NID) (m : Machine C NID N E D R S) → IsSound cmp config m
        → IfSome (led_in m) (λ l. IsTableOf cmp l.core.state.em.membership l.leader.progress × IsTableOf cmp l.core.state.em.membership l.leader.clock_progress)
