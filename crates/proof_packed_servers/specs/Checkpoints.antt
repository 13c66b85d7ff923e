-- Disks that are the same but for what no start reads; and servers that go on from a checkpoint, so that what their logs had before it can be
-- dropped (Raft paper, section 7).
use Rattle.std.specs.Prelude.{ℕ, ◌≡◌, List, [], Contains}
use Rattle.std.specs.List.{flat_map}
use Rattle.proof_packed.specs.raft_node.declared.given.Given.{Given}
use Rattle.proof_packed.specs.raft_node.WellFormed.{IsWellFormed}
use Rattle.proof_packed.specs.Stores.{Application, Packed}
use Rattle.raft_packed_wire.specs.declared.record.PackedRecord.{PackedRecord}
use Rattle.raft_packed_wire.specs.Checkpoints.{checkpoint}
use Rattle.raft_packed_wire.specs.Records.{packed_on_disk}
use Rattle.proof_packed_servers.specs.Servers.{PackedAction, PackedAllMayAct, PackedCluster, PackedDisk, PackedServer, PackedWaitingStep}
use Rattle.proof_packed_servers.specs.Servers.{packed_after_actions, packed_new_cluster, packed_new_disk, packed_with_records, packed_with_server}

module _ {S : Type 0} where
  -- the same servers, with these disks
  abbrev pub with_disks : (ℕ → PackedDisk S) → PackedCluster S → PackedCluster S
  with_disks disks c = record c { servers = λ id. record (c.servers id) { disk = disks id } }

  -- what waiting steps are to leave on disk
  abbrev pub packed_left_by : List (PackedWaitingStep S) → List (PackedRecord (Packed S))
  packed_left_by ws = flat_map (λ w. w.disk_records) ws

module _ {S : Type 0} (app : Application S) where
  -- two disks are the same but for the saved committed id, and what was applied
  pub record AreSameDisks (d e : PackedDisk S) : Type 0 where
    pub store : packed_on_disk app d.store ≡ packed_on_disk app e.store
    pub moment : d.moment ≡ e.moment

  -- so are two servers' of each id, which are the same otherwise; and the same has left them
  pub record AreAlike (c d : PackedCluster S) : Type 0 where
    pub disks : ℕ → PackedDisk S
    pub is : d ≡ with_disks disks c
    pub same : (id : ℕ) → AreSameDisks (c.servers id).disk (disks id)

  -- a server with a new log, which begins with a checkpoint of its node's store
  abbrev pub packed_checkpointed : PackedServer S → PackedServer S
  packed_checkpointed s = record s { disk = packed_with_records app (checkpoint s.reserved s.node.store) (packed_new_disk app) }

-- clusters that are alike stay so, whatever they do: so no client, and no other server, is told anything else
abbrev pub StayAlike : Type 0 → Type 0
StayAlike S =
    (app : Application S) (given : Given) (actions : List (PackedAction S)) (c d : PackedCluster S) → AreAlike app c d
    → AreAlike app (packed_after_actions app given actions c) (packed_after_actions app given actions d)

-- a server goes on from a checkpoint at any time, unless what its waiting steps leave is still to come on disk
abbrev pub GoOnFromCheckpoints : Type 0 → Type 0
GoOnFromCheckpoints S =
    (app : Application S) (given : Given) → IsWellFormed given → (actions : List (PackedAction S))
    → PackedAllMayAct app given actions (packed_new_cluster app given) → (id : ℕ) → Contains given.ids id
    → let c = packed_after_actions app given actions (packed_new_cluster app given) in
    packed_left_by (c.servers id).waiting ≡ [] → AreAlike app c (packed_with_server id (packed_checkpointed app (c.servers id)) c)
