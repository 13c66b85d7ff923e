-- The laws of engines and deeds, on a leader's calls: where a node stands and leads, and the call isn't refused, its
-- queue is carried on to what the engine knows after the call.
use Rattle.std.specs.Prelude.{ℕ, ◌≡◌, ◌≢◌, Result, Ok, Err, Bool, true, List, [], ◌∷◌, Option, None, Some, IfSome, length}
use Rattle.std.specs.List.{AllByRecursion}
use Rattle.std.specs.Ordering.{nat_cmp}
use Rattle.raft_node.specs.raft_state.declared.ids.LogId.{LogId}
use Rattle.raft_node.specs.raft_state.declared.ids.Vote.{Vote}
use Rattle.raft_node.specs.raft_state.declared.membership.Members.{Members}
use Rattle.raft_node.specs.raft_state.Fits.{fits}
use Rattle.raft_node.specs.raft_command.declared.config.EngineConfig.{EngineConfig}
use Rattle.raft_node.specs.raft_command.declared.replication.ReplicationResult.{ReplicationResult}
use Rattle.raft_node.specs.raft_command.declared.replication.RequestId.{RequestId}
use Rattle.raft_node.specs.raft_steps.Refusals.{refusals_of_propose}
use Rattle.raft_node.specs.raft_steps.Conditions.{MayPropose}
use Rattle.raft_node.specs.raft_steps.LeaderHandler.{leader_append_entries, read_log_id}
use Rattle.raft_node.specs.raft_steps.Parts.{leading, led_of}
use Rattle.raft_node.specs.raft_steps.Replies.{update_conflicting, update_matching, update_progress}
use Rattle.raft_node.specs.raft_steps.ReplyRefusals.{refusals_of_entry, refusals_of_acknowledged, refusals_of_result}
use Rattle.raft_node.specs.raft_steps.ReplicationHandler.{initiate_replication, update_local_progress}
use Rattle.raft_node.specs.raft_steps.Starts.{leader_step_down, refusals_of_step_down}
use Rattle.proof_agreement.specs.Deeds.{HasAccepted}
use Rattle.proof_agreement.specs.Machine.{Setup}
use Rattle.raft_node.specs.raft_store.declared.entry.Entry.{Entry}
use Rattle.raft_node.specs.raft_store.Entries.{entry_meaning, members_of}
use Rattle.raft_node.specs.raft_store.Types.{WorldStore, WorldMachine, WorldLeader}
use Rattle.raft_node.specs.declared.node.Turn.{Turn}
use Rattle.raft_node.specs.raft_calls.Feeds.{WorldLed}
use Rattle.proof_deeds.specs.Chains.{Carried}
use Rattle.proof_deeds.specs.Images.{Ideal, number, setup_of}
use Rattle.proof_deeds.specs.Knows.{CarriedIn, Stands, StaysAbove}

-- a node stands, and leads
pub record StandsLeading (first : Members ℕ (Unit {0})) (config : EngineConfig ℕ) (t : Turn) (u : WorldStore) (W : Ideal) (m : WorldMachine) (l : WorldLeader) : Type 0 where
  pub stands : Stands (setup_of first) t config u W m
  pub leader : m.leader ≡ Some l

-- its leader over its core
abbrev pub led_over : WorldMachine → WorldLeader → WorldLed
led_over m l = led_of l m.core.state m.core.output

-- what an answer acknowledges, its target has accepted of the leader; so of a reply, or the failure of a request
abbrev pub ResultIs : Ideal → ℕ → Vote ℕ → Result (Option (LogId ℕ)) (LogId ℕ) → Type 0
ResultIs W target v (Ok x) = IfSome x (λ y. HasAccepted W target (number v.leader_id) y.index)
ResultIs W target v (Err x) = Unit {0}

abbrev pub ReplyIs : Ideal → ℕ → Vote ℕ → Result (ReplicationResult ℕ) (Unit {0}) → Type 0
ReplyIs W target v (Ok answer) = ResultIs W target v answer.result
ReplyIs W target v (Err e) = Unit {0}

-- a read is answered by an id above all that leaders of smaller ids ever decide (Raft paper, section 8)
abbrev pub AnswersAbove : Setup Entry → WorldLed → Ideal → Type 0
AnswersAbove s l W = (x : LogId ℕ) × (read_log_id nat_cmp l ≡ Some x) × StaysAbove s W (number l.leader.vote.leader_id) x.index

-- leaders, of a first membership
pub record LeadersDone (first : Members ℕ (Unit {0})) : Type 0 where
  -- each other node is sent what comes next, with force a heartbeat where it is nothing
  pub by_initiate : (config : EngineConfig ℕ) (t : Turn) (u : WorldStore) (W : Ideal) (m : WorldMachine) (l : WorldLeader) (force : Bool) → StandsLeading first config t u W m l
      → CarriedIn (setup_of first) t u W (leading m (initiate_replication nat_cmp config force (led_over m l)))
  -- the leader's own log holds an id
  pub by_own_log : (config : EngineConfig ℕ) (t : Turn) (u : WorldStore) (W : Ideal) (m : WorldMachine) (l : WorldLeader) (x : Option (LogId ℕ)) → StandsLeading first config t u W m l
      → fits nat_cmp m.core.state.ids m.core.state.purged x ≡ true
      → CarriedIn (setup_of first) t u W (leading m (update_local_progress nat_cmp config x (led_over m l)))
  -- entries without memberships are appended and sent
  pub by_append : (config : EngineConfig ℕ) (t : Turn) (u : WorldStore) (W : Ideal) (m : WorldMachine) (l : WorldLeader) (es : List Entry) → StandsLeading first config t u W m l
      → AllByRecursion (λ (e : Entry). members_of e.payload ≡ None) es → MayPropose nat_cmp entry_meaning (led_over m l) es → refusals_of_propose (length es) (led_over m l) ≡ None
      → CarriedIn (setup_of first) t u W (leading m (leader_append_entries nat_cmp entry_meaning config es (led_over m l)))
  -- a membership is appended, takes effect, and is sent
  pub by_change : (config : EngineConfig ℕ) (t : Turn) (u : WorldStore) (W : Ideal) (m : WorldMachine) (l : WorldLeader) (e : Entry) (members : Members ℕ (Unit {0})) → StandsLeading first config t u W m l
      → members_of e.payload ≡ Some members
      → MayPropose nat_cmp entry_meaning (led_over m l) (e ∷ []) → refusals_of_propose 1 (led_over m l) ≡ None
      → CarriedIn (setup_of first) t u W (leading m (leader_append_entries nat_cmp entry_meaning config (e ∷ []) (led_over m l)))
  -- a target's log matches up to an id that it has accepted, and what a quorum has then acknowledged is committed
  pub by_matching : (config : EngineConfig ℕ) (t : Turn) (u : WorldStore) (W : Ideal) (m : WorldMachine) (l : WorldLeader) (target name : ℕ) (x : Option (LogId ℕ)) → StandsLeading first config t u W m l
      → refusals_of_entry nat_cmp target (λ e. refusals_of_acknowledged nat_cmp m.core.state e name x) l ≡ None → IfSome x (λ y. HasAccepted W target (number l.vote.leader_id) y.index)
      → CarriedIn (setup_of first) t u W (leading m (update_matching nat_cmp config target x (led_over m l)))
  -- a reply of another node is taken, the log is purged where it may be, and that node is sent what comes next
  pub by_progress : (config : EngineConfig ℕ) (t : Turn) (u : WorldStore) (W : Ideal) (m : WorldMachine) (l : WorldLeader) (target : ℕ) (id : RequestId) (reply : Result (ReplicationResult ℕ) (Unit {0})) → StandsLeading first config t u W m l
      → target ≢ t.id → refusals_of_entry nat_cmp target (λ e. refusals_of_result nat_cmp m.core.state e id reply) l ≡ None → ReplyIs W target l.vote reply
      → CarriedIn (setup_of first) t u W (leading m (update_progress nat_cmp config target id reply (led_over m l)))
  -- it conflicts with one
  pub by_conflicting : (config : EngineConfig ℕ) (t : Turn) (u : WorldStore) (W : Ideal) (m : WorldMachine) (l : WorldLeader) (target : ℕ) (name : Option ℕ) (x : LogId ℕ) → StandsLeading first config t u W m l
      → CarriedIn (setup_of first) t u W (leading m (update_conflicting nat_cmp target name x (led_over m l)))
  -- it answers a read; nothing changes
  pub by_read : (config : EngineConfig ℕ) (t : Turn) (u : WorldStore) (W : Ideal) (m : WorldMachine) (l : WorldLeader) → StandsLeading first config t u W m l
      → Carried (setup_of first) t m.core.state.vote.leader_id u W m.core.output.items (AnswersAbove (setup_of first) (led_over m l))
  -- it steps down where it is no member any more
  pub by_step_down : (config : EngineConfig ℕ) (t : Turn) (u : WorldStore) (W : Ideal) (m : WorldMachine) → Stands (setup_of first) t config u W m → refusals_of_step_down nat_cmp config m ≡ None → (m.leader ≡ None → m.candidate ≡ None)
      → CarriedIn (setup_of first) t u W (leader_step_down nat_cmp entry_meaning config m)
