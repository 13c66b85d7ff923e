-- Worlds of packed nodes. Each definition is that of `raft_node` which its name says after `packed_`.
use Rattle.std.specs.Prelude.{ℕ, ◌≡◌, ◌-◌, nat_eq, List, [], Option, None, Some, fold, map, position, slice_get, slice_set, if◌then◌else◌}
use Rattle.std.specs.Option.{option_map}
use Rattle.proof_deeds.specs.raft_schedule.declared.event.Event.{Event}
use Rattle.proof_deeds.specs.raft_schedule.declared.event.EventKind.{EventKind}
use Rattle.proof_deeds.specs.raft_schedule.declared.event.EventKind.TheVariants.{Deliver}
use Rattle.proof_deeds.specs.raft_schedule.declared.event.Outcome.{Outcome}
use Rattle.proof_deeds.specs.raft_schedule.declared.event.Outcome.TheVariants.{Skipped}
use Rattle.proof_deeds.specs.raft_schedule.declared.event.SkipReason.TheVariants.{NoMessage, NotRunning}
use Rattle.proof_deeds.specs.raft_node.declared.act.Act.{Act}
use Rattle.proof_deeds.specs.raft_node.declared.act.Act.TheVariants.{Take}
use Rattle.proof_deeds.specs.raft_node.declared.given.Given.{Given}
use Rattle.proof_deeds.specs.raft_node.Events.{aim_of}
use Rattle.proof_deeds.specs.raft_node.Net.{Net}
use Rattle.proof_deeds.specs.raft_node.Runs.{world_after}
use Rattle.proof_deeds.specs.raft_node.WellFormed.{IsWellFormed}
use Rattle.proof_packed.specs.Nodes.{PackedMessage, PackedNode, PackedRecords, PackedScene, of_no_entries, packed_new_node, packed_node, packed_played, packed_records}
use Rattle.proof_packed.specs.Stores.{Application, Packed}

-- packed nodes, all messages with what they bring, and the records
pub record PackedNet (S : Type 0) : Type 0 where
  pub nodes : List (PackedNode S)
  pub records : PackedRecords S

-- an event's node, what it does there, and what its message brings
pub record PackedAim (S : Type 0) : Type 0 where
  pub id : ℕ
  pub act : Act
  pub brought : Packed S

module _ {S : Type 0} where
  abbrev pub packed_message_at : List (PackedMessage S) → ℕ → Option (PackedMessage S)
  packed_message_at bag k = if nat_eq k 0 then None else slice_get bag (k - 1)

  abbrev pub packed_place_of : List (PackedNode S) → ℕ → Option ℕ
  packed_place_of nodes id = position (λ n. nat_eq n.id id) nodes

  abbrev pub packed_at_place : PackedNet S → ℕ → (PackedScene S → Outcome × PackedScene S) → Outcome × PackedNet S
  packed_at_place net i f =
      elim (slice_get net.nodes i) [
        | None ↦ (Skipped NotRunning, net)
        | Some n ↦ (let r = f (record { node = n; records = net.records }) in (r.0, record { nodes = slice_set net.nodes i r.1.node; records = r.1.records }))
      ]

  abbrev pub packed_at_node : PackedNet S → ℕ → (PackedScene S → Outcome × PackedScene S) → Outcome × PackedNet S
  packed_at_node net id f = elim (packed_place_of net.nodes id) [ None ↦ (Skipped NotRunning, net) | Some i ↦ packed_at_place net i f ]

module _ {S : Type 0} (app : Application S) where
  abbrev pub packed_net : {L : Type 0} → Net L → PackedNet S
  packed_net net = record { nodes = map (packed_node app) net.nodes; records = packed_records app net.records }

  -- only a delivered message brings anything
  abbrev pub packed_aim_of : List (PackedMessage S) → EventKind → Option (PackedAim S)
  packed_aim_of bag (Deliver k) = option_map (λ m. record { id = m.message.to; act = Take m.message; brought = m.brought }) (packed_message_at bag k)
  packed_aim_of bag kind = option_map (λ a. record { id = a.id; act = a.act; brought = of_no_entries app }) (aim_of [] kind)

  -- an event: its outcome, and the world after it
  unfoldable pub packed_happens : Given → Event → PackedNet S → Outcome × PackedNet S
  packed_happens given event net =
      elim (packed_aim_of net.records.bag event.kind) [
        | None ↦ (Skipped NoMessage, net)
        | Some a ↦ packed_at_node net a.id (packed_played app given a.act a.brought event)
      ]

  abbrev pub packed_empty : Given → PackedNet S
  packed_empty given = record {
    nodes = map (packed_new_node app given.settings) given.ids;
    records = record { bag = []; executed = []; installed = []; decided = []; established = []; answers = [] };
  }

  -- the world after a list of events
  abbrev pub packed_after : Given → List Event → PackedNet S
  packed_after given es = fold (λ net e. (packed_happens given e net).1) (packed_empty given) es

-- a run of packed nodes is the run of the world that they stand for, packed: after any events, in each world that can be made
abbrev pub PacksWorlds : Type 0 → Type 0
PacksWorlds S = (app : Application S) (given : Given) → IsWellFormed given → (es : List Event) → packed_net app (world_after given es) ≡ packed_after app given es
