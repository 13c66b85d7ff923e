-- The laws of engines and deeds, on snapshots, purges and starts: where a node stands, and the call isn't refused, its
-- queue is carried on to what the engine knows after the call.
use Rattle.std.specs.Prelude.{ℕ, ◌≡◌, ◌≢◌, ◌<◌, Bool, false, List, [], None}
use Rattle.std.specs.List.{AllByRecursion}
use Rattle.std.specs.Ordering.{nat_cmp}
use Rattle.raft_node.specs.raft_state.declared.membership.Members.{Members}
use Rattle.raft_node.specs.raft_command.declared.config.EngineConfig.{EngineConfig}
use Rattle.raft_node.specs.raft_command.declared.message.Token.{Token}
use Rattle.raft_node.specs.raft_steps.Refusals.{blank_is_at_end}
use Rattle.raft_node.specs.raft_steps.InstallRefusals.{refusals_of_install}
use Rattle.raft_node.specs.raft_steps.Installs.{handle_install_full_snapshot}
use Rattle.raft_node.specs.raft_steps.Parts.{idle, on_core}
use Rattle.raft_node.specs.raft_steps.SnapshotCalls.{finish_building_snapshot, handle_begin_receiving_snapshot, trigger_purge_log}
use Rattle.raft_node.specs.raft_steps.SnapshotHandler.{trigger_snapshot}
use Rattle.raft_node.specs.raft_steps.Starts.{startup}
use Rattle.raft_node.specs.raft_store.declared.entry.Entry.{Entry}
use Rattle.raft_node.specs.raft_store.Built.{keep_snapshot, meta_of}
use Rattle.raft_node.specs.raft_store.Entries.{entry_meaning}
use Rattle.raft_node.specs.raft_store.Types.{WorldMachine, WorldSnapshot, WorldStore}
use Rattle.proof_mirror.specs.Ready.{Ordered, Shaped}
use Rattle.raft_node.specs.raft_store.Restart.{restarted, started}
use Rattle.raft_node.specs.raft_calls.declared.message.Body.TheVariants as body
use Rattle.raft_node.specs.raft_calls.declared.message.Message.{Message}
use Rattle.raft_node.specs.raft_calls.declared.message.Origin.{Origin}
use Rattle.raft_node.specs.declared.node.Turn.{Turn}
use Rattle.proof_deeds.specs.Chains.{Does, IsQuiet, Reached, Unread}
use Rattle.proof_deeds.specs.Follows.{StoreIs}
use Rattle.proof_deeds.specs.Images.{Ideal, images, setup_of}
use Rattle.proof_deeds.specs.Knows.{CarriedIn, Delivered, Stands}

-- a store is taken up anew: a world that comes of this one, in which the node stands on what its start finds, and
-- starts
pub record TakenUp (first : Members ℕ (Unit {0})) (config : EngineConfig ℕ) (t : Turn) (saved : Bool) (u : WorldStore) (W : Ideal) : Type 0 where
  pub end : Ideal
  pub came : Does (setup_of first) W end
  pub quiet : IsQuiet W end
  -- other nodes' stores stay
  pub apart : (k : ℕ) → k ≢ t.id → end.store k ≡ W.store k
  -- there are no streams
  pub session : (end.store t.id).session.leader ≡ 0
  pub store : StoreIs (setup_of first) (restarted nat_cmp entry_meaning saved u) (end.store t.id)
  pub shaped : Shaped entry_meaning (restarted nat_cmp entry_meaning saved u)
  pub stands : Stands (setup_of first) t config (restarted nat_cmp entry_meaning saved u) end (idle (started nat_cmp entry_meaning saved u))
  -- what the start queues, where a leader's no-op entry wouldn't get the greatest index
  pub starts : blank_is_at_end nat_cmp config (started nat_cmp entry_meaning saved u).vote (let m : WorldMachine = idle (started nat_cmp entry_meaning saved u) in m) ≡ false
      → CarriedIn (setup_of first) t (restarted nat_cmp entry_meaning saved u) end (startup nat_cmp entry_meaning config (idle (started nat_cmp entry_meaning saved u)))

-- a node's store and engine change at once: in a world that comes of this one by the node's deeds, and in which its
-- streams are as before, the node stands with this store and this engine
pub record StandsOn (first : Members ℕ (Unit {0})) (config : EngineConfig ℕ) (t : Turn) (u : WorldStore) (W : Ideal) (m : WorldMachine) : Type 0 where
  pub end : Ideal
  pub came : Does (setup_of first) W end
  pub quiet : IsQuiet W end
  -- other nodes' stores stay
  pub apart : (k : ℕ) → k ≢ t.id → end.store k ≡ W.store k
  pub session : (end.store t.id).session ≡ (W.store t.id).session
  pub store : StoreIs (setup_of first) u (end.store t.id)
  pub shaped : Shaped entry_meaning u
  pub stands : Stands (setup_of first) t config u end m

-- snapshots, purges and starts, of a first membership
pub record SnapshotsDone (first : Members ℕ (Unit {0})) : Type 0 where
  -- a snapshot request is delivered: what contradicts it is cut, it is installed, the log is purged, and the reply says
  -- what is accepted
  pub by_install : (config : EngineConfig ℕ) (t : Turn) (u : WorldStore) (W : Ideal) (now : ℕ) (token : Token) (m : WorldMachine) (msg : Message) (o : Origin) (snapshot : WorldSnapshot) → Stands (setup_of first) t config u W m
      → AllByRecursion Unread m.core.output.items → Delivered (setup_of first) t W msg → msg.body ≡ body.SnapshotRequest o snapshot → refusals_of_install nat_cmp config o.session_id.vote snapshot.meta m ≡ None
      → CarriedIn (setup_of first) t u W (handle_install_full_snapshot nat_cmp entry_meaning config o.session_id.vote snapshot token now m)
  -- a snapshot is begun
  pub by_trigger : (config : EngineConfig ℕ) (t : Turn) (u : WorldStore) (W : Ideal) (m : WorldMachine) → Stands (setup_of first) t config u W m → CarriedIn (setup_of first) t u W (on_core trigger_snapshot m)
  -- the build of what was noted ends: the store keeps it, and the engine is told
  pub by_finish : (config : EngineConfig ℕ) (t : Turn) (u : WorldStore) (W : Ideal) (m : WorldMachine) → Stands (setup_of first) t config u W m → m.core.output.items ≡ [] → (es : List Entry) → (W.store t.id).noted ≡ images es
      → StandsOn first config t (keep_snapshot entry_meaning es u) W (finish_building_snapshot nat_cmp config (meta_of entry_meaning es) m)
  -- the log is purged up to an index
  pub by_purge : (config : EngineConfig ℕ) (t : Turn) (u : WorldStore) (W : Ideal) (i : ℕ) (m : WorldMachine) → Stands (setup_of first) t config u W m → CarriedIn (setup_of first) t u W (trigger_purge_log nat_cmp i m)
  -- a snapshot begins to come in
  pub by_receiving : (config : EngineConfig ℕ) (t : Turn) (u : WorldStore) (W : Ideal) (token : Token) (m : WorldMachine) → Stands (setup_of first) t config u W m → CarriedIn (setup_of first) t u W (handle_begin_receiving_snapshot token m)
  -- a stopped node starts on its store, whether or not its saved committed id counts
  pub by_start : (config : EngineConfig ℕ) (t : Turn) (saved : Bool) (u : WorldStore) (W : Ideal) → config.id ≡ t.id → t.id < 18446744073709551616 → StoreIs (setup_of first) u (W.store t.id) → Shaped entry_meaning u → Ordered nat_cmp entry_meaning u
      → Reached (setup_of first) W → TakenUp first config t saved u W
