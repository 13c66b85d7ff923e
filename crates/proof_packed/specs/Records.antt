-- What an event at a packed node leaves on disk: its commands without a snapshot's data, and what its message brought.
use Rattle.std.specs.Prelude.{ℕ, ◌≡◌, List, [], ◌∷◌, Option, None, Some, map}
use Rattle.std.specs.List.{AllByRecursion}
use Rattle.std.specs.Ordering.{nat_cmp}
use Rattle.std.proofs.Common.{suc, zero}
use Rattle.raft_node.specs.raft_store.declared.entry.Entry.{Entry}
use Rattle.raft_node.specs.raft_store.Entries.{entry_meaning}
use Rattle.raft_node.specs.raft_store.Store.{exec_all}
use Rattle.raft_node.specs.raft_store.Types.{WorldCommand, WorldStore}
use Rattle.raft_node.specs.raft_schedule.declared.event.Event.{Event}
use Rattle.raft_node.specs.declared.act.Act.{Act}
use Rattle.raft_node.specs.declared.given.Given.{Given}
use Rattle.raft_node.specs.declared.node.Turn.{Turn}
use Rattle.raft_node.specs.Commands.{commands_at, next_command_of}
use Rattle.raft_node.specs.Events.{Scene, moment_of, skip_reason, turn_of}
use Rattle.raft_node.specs.raft_calls.Weights.{weight_at}
use Rattle.proof_mirror.specs.Ready.{Shaped, Ordered}
use Rattle.proof_packed.specs.Laws.{HasEmptyQueue}
use Rattle.proof_packed_stores.specs.Laws.{Brings}
use Rattle.proof_packed.specs.Nodes.{PackedScene, PackedWork, bare_act, bare_command, brought_by_act, packed_called_at, packed_calls, packed_scene, packed_work_step, packed_work_of, without_store}
use Rattle.proof_packed_stores.specs.Stores.{Application, Packed, PackedStore, packed_exec, packed_store}

module _ {S : Type 0} (app : Application S) where
  -- commands in their order
  abbrev pub packed_exec_all : Packed S → PackedStore S → List WorldCommand → PackedStore S
  packed_exec_all brought t [] = t
  packed_exec_all brought t (c ∷ cs) = packed_exec_all brought (packed_exec app brought c t) cs

  -- the commands of a node at work, at most so many
  abbrev pub packed_executed : Turn → Packed S → ℕ → PackedWork S → List WorldCommand
  packed_executed t brought zero w = []
  packed_executed t brought (suc n) w = elim (next_command_of w.engine) [ None ↦ [] | Some c ↦ c ∷ packed_executed t brought n (packed_work_step app t brought w) ]

  -- the commands of an event at a packed node
  abbrev pub packed_commands_at : Given → Act → Packed S → Event → PackedScene S → List WorldCommand
  packed_commands_at given act brought event s =
      let now = packed_called_at app (moment_of event (without_store app s.node)) s in
      let w = packed_work_of app event.stop (packed_calls app given act now).1 in
      elim (skip_reason act (without_store app s.node)) [ Some reason ↦ [] | None ↦ packed_executed (turn_of act (without_store app now.node)) brought (weight_at w.engine) w ]

-- an event's commands at a packed node are the node's without data; if one installs a snapshot, it is what the message brought; and
-- replayed on a packed store, with that, they make of it what the node's make of its store
pub record PacksRecordsOf {S L : Type 0} (app : Application S) (keep : List Entry → L) (given : Given) (act : Act) (event : Event) (s : Scene L) : Type 0 where
  pub commands : map bare_command (commands_at keep given act event s) ≡ packed_commands_at app given (bare_act act) (brought_by_act app act) event (packed_scene app s)
  pub brings : AllByRecursion (Brings app (brought_by_act app act)) (commands_at keep given act event s)
  pub replays : (t : WorldStore) → packed_store app (exec_all entry_meaning (λ es. es) t (commands_at keep given act event s)) ≡ packed_exec_all app (brought_by_act app act) (packed_store app t) (map bare_command (commands_at keep given act event s))

abbrev pub PacksRecords : Type 0 → Type 0 → Type 0
PacksRecords S L =
    (app : Application S) (keep : List Entry → L) (given : Given) (act : Act) (event : Event) (s : Scene L)
    → HasEmptyQueue s.node → Shaped entry_meaning s.node.store → Ordered nat_cmp entry_meaning s.node.store → PacksRecordsOf app keep given act event s
