-- An event's commands are executed one at a time, in the order of its queue (openraft's `run_engine_commands`): what
-- each finds done of those before it.
use Rattle.std.specs.Prelude.{◌≡◌, ◌≢◌, ℕ, ◌+◌, ◌<◌, ◌≤◌, List, length, take, slice_get, Option, None, Some}
use Rattle.std.specs.Option.{option_map}
use Rattle.raft_command.specs.declared.command.Command.TheVariants.{Respond, StateMachine}
use Rattle.raft_command.specs.declared.command.Condition.{Condition}
use Rattle.raft_command.specs.declared.command.Condition.TheVariants.{StateMachineCommand}
use Rattle.raft_command.specs.declared.sm.Command as sm
use Rattle.raft_store.specs.declared.config.WorldConfig.{WorldConfig}
use Rattle.raft_store.specs.declared.entry.Entry.{Entry}
use Rattle.raft_store.specs.Entries.{entry_meaning}
use Rattle.raft_store.specs.Store.{exec_all}
use Rattle.raft_store.specs.Types.{WorldCommand, WorldStore}
use Rattle.raft_schedule.specs.declared.event.Event.{Event}
use Rattle.raft_node.specs.declared.given.Given.{Given}
use Rattle.raft_calls.specs.declared.message.Body.{Body}
use Rattle.raft_calls.specs.declared.message.Body.TheVariants.{VoteReply, AppendReply, SnapshotReply}
use Rattle.raft_calls.specs.declared.message.Message.{Message}
use Rattle.raft_node.specs.Commands.{commands_after}
use Rattle.raft_node.specs.Events.{aim_of}
use Rattle.raft_calls.specs.Engines.{WorldRespond}
use Rattle.raft_node.specs.Net.{Net, node_at}
use Rattle.raft_node.specs.Runs.{moment, world_after}

-- the id of the node of the event after the first k: none if there is no such event, or if it delivers a message that
-- was never sent
abbrev pub node_after : Given → List Event → ℕ → Option ℕ
node_after given es k =
    elim (slice_get es k) [ None ↦ None | Some e ↦ option_map (λ a. a.id) (aim_of (world_after given (take k es)).records.bag e.kind) ]

-- the store of the node with an id
abbrev pub store_of : Net (List Entry) → ℕ → Option WorldStore
store_of net id = option_map (λ n. n.store) (node_at net.nodes id)

-- after all of its commands an event is over: the world after it is that moment
abbrev pub EndsInTurn : Given → List Event → Type 0
EndsInTurn given es = (k : ℕ) → world_after given (take (k + 1) es) ≡ moment given es k (length (commands_after given es k))

-- After any number of an event's commands the store of its node is what these commands make of the store after the
-- event's calls, also where the node has stopped (Raft paper, figure 2: its persistent state); the store of each
-- other node is as before the event.
abbrev pub StoresInTurn : Given → List Event → Type 0
StoresInTurn given es =
    (k n id : ℕ)
    → (node_after given es k ≡ Some id
    → store_of (moment given es k n) id ≡ option_map (λ t. exec_all entry_meaning (λ es. es) t (take n (commands_after given es k))) (store_of (moment given es k 0) id))
    × (node_after given es k ≢ Some id → store_of (moment given es k n) id ≡ store_of (world_after given (take k es)) id)

-- a reply to a vote request, to an append request, or to a snapshot request
abbrev pub IsReply : Body → Type 0
IsReply (VoteReply _) = Unit {0}
IsReply (AppendReply _ _ _ _) = Unit {0}
IsReply (SnapshotReply _ _ _) = Unit {0}
IsReply _ = ⊥

-- message m is sent, as number i counted from 0, by a `Respond` of the event after the first k: at that command's turn,
-- when exactly the commands before it are done
pub record Responded (given : Given) (es : List Event) (k i : ℕ) (m : Message) : Type 0 where
  pub turn : ℕ
  pub when : Option (Condition ℕ)
  pub reply : WorldRespond
  pub command : slice_get (commands_after given es k) turn ≡ Some (Respond when reply)
  pub unsent : length (moment given es k turn).records.bag ≤ i
  pub sent : slice_get (moment given es k (turn + 1)).records.bag i ≡ Some m

-- each reply that an event sends is sent by a `Respond`, at its turn: so what stands before it in the queue is stored by
-- then (Raft paper, figure 2: persistent state is updated on stable storage before responding)
abbrev pub RepliesInTurn : Given → List Event → Type 0
RepliesInTurn given es =
    (k i : ℕ) (m : Message) → length (world_after given (take k es)).records.bag ≤ i → slice_get (world_after given (take (k + 1) es)).records.bag i ≡ Some m
    → IsReply m.body → Responded given es k i m

-- what a reply at place j of these commands waits for: that the state machine has executed a command which stands before
-- the reply
pub record AwaitsEarlier (commands : List WorldCommand) (j : ℕ) (condition : Condition ℕ) : Type 0 where
  pub place : ℕ
  pub before : place < j
  pub command : sm.Command WorldConfig ℕ (Unit {0}) Entry ℕ ℕ (List Entry)
  pub queued : slice_get commands place ≡ Some (StateMachine command)
  pub number : condition ≡ StateMachineCommand command.seq

-- whatever a reply waits for (openraft's `Condition`) is a command to the state machine that stands before it in its
-- event's queue: so it is executed when the reply's turn comes; no other condition is ever queued
abbrev pub WaitsInTurn : Given → List Event → Type 0
WaitsInTurn given es =
    (k j : ℕ) (condition : Condition ℕ) (reply : WorldRespond) → slice_get (commands_after given es k) j ≡ Some (Respond (Some condition) reply)
    → AwaitsEarlier (commands_after given es k) j condition
