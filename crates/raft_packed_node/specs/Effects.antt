-- A packed node's parts, as one value each, and what it may bring.
use Rattle.std.specs.Prelude.{ℕ, List, [], ◌++◌, Option, map, unwrap_or}
use Rattle.std.specs.Option.{option_to_list}
use Rattle.raft_state.specs.declared.ids.LogId.{LogId}
use Rattle.raft_command.specs.declared.replication.ReplicationSessionId.{ReplicationSessionId}
use Rattle.raft_store.specs.Types.{WorldCommand}
use Rattle.raft_node.specs.declared.node.Streams.{Streams}
use Rattle.raft_node.specs.declared.node.Turn.{Turn}
use Rattle.raft_node.specs.Execute.{heartbeat}
use Rattle.raft_calls.specs.Weights.{weight_at}
use Rattle.proof_packed.specs.Nodes.{PackedEffects, PackedNode, PackedRecords, PackedScene, PackedWork, of_no_entries, packed_to_each}
use Rattle.proof_packed.specs.Records.{packed_executed}
use Rattle.proof_packed.specs.Stores.{Application, Packed, PackedStore}

module _ {S : Type 0} where
  -- what commands change
  abbrev pub effects : PackedStore S → Streams → Option (Packed S) → PackedRecords S → PackedEffects S
  effects store streams noted records = record { store = store; streams = streams; noted = noted; records = records }

  -- a node, and what is recorded
  abbrev pub scene : PackedNode S → PackedRecords S → PackedScene S
  scene node records = record { node = node; records = records }

  -- nothing
  abbrev pub nothing_recorded : PackedRecords S
  nothing_recorded = record { bag = []; executed = []; installed = []; decided = []; established = []; answers = [] }

  -- how much is left to do at most
  abbrev pub weight : PackedWork S → ℕ
  weight w = weight_at w.engine

module _ {S : Type 0} (app : Application S) where
  -- the snapshot that is brought, or else that of no entries
  abbrev pub brought_by : Option (Packed S) → Packed S
  brought_by o = unwrap_or o (of_no_entries app)

  -- what is recorded of a leader's committed id: it is sent to each target, and decided
  abbrev pub replicated_committed : Turn → ReplicationSessionId ℕ → List ℕ → Option (LogId ℕ) → PackedRecords S → PackedRecords S
  replicated_committed t s targets committed w = record w {
    bag = w.bag ++ packed_to_each app t.id targets (heartbeat t s committed, of_no_entries app);
    decided = w.decided ++ map (λ x. record { leader_id = s.vote.leader_id; log_id = x; log = tt }) (option_to_list committed);
  }

  -- all commands of a node at work
  abbrev pub all_executed : Turn → Packed S → PackedWork S → List WorldCommand
  all_executed t brought w = packed_executed app t brought (weight w) w
