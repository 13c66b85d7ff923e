-- Which messages no event has delivered, and which of them is the oldest.
use Rattle.std.specs.Prelude.{ℕ, ◌+◌, ◌==◌, ◌≡◌, ◌&&◌, Bool, true, false, not, List, [], ◌∷◌, Option, Some, None, if◌then◌else◌, get_or}
use Rattle.std.specs.List.{list_any}
use Rattle.raft_command.specs.declared.replication.RequestId.{RequestId}
use Rattle.raft_command.specs.declared.replication.RequestId.TheVariants.{HeartBeat}
use Rattle.raft_store.specs.declared.entry.Entry.{Entry}
use Rattle.raft_schedule.specs.declared.event.AppliedEvent.{AppliedEvent}
use Rattle.raft_schedule.specs.declared.event.EventKind.{EventKind}
use Rattle.raft_schedule.specs.declared.event.EventKind.TheVariants.{Deliver}
use Rattle.raft_schedule.specs.declared.event.Outcome.{Outcome}
use Rattle.raft_schedule.specs.declared.event.Outcome.TheVariants.{Skipped}
use Rattle.raft_schedule.specs.declared.event.SkipReason.TheVariants.{NoMessage}
use Rattle.raft_schedule.specs.declared.step.Link.{Link}
use Rattle.raft_schedule.specs.declared.step.MessageKind.{MessageKind}
use Rattle.raft_schedule.specs.declared.step.MessageKind.TheVariants as kind
use Rattle.raft_schedule.specs.Steps.{same_kind}
use Rattle.raft_calls.specs.declared.message.Body.{Body}
use Rattle.raft_calls.specs.declared.message.Body.TheVariants.{VoteRequest, VoteReply, AppendRequest, AppendReply, SnapshotRequest, SnapshotReply}
use Rattle.raft_calls.specs.declared.message.Message.{Message}
use Rattle.raft_node.specs.Runs.{History}

-- the message that an event delivered, whatever came of that; none if the message wasn't there
abbrev pub delivered_by : EventKind → Outcome → Option ℕ
delivered_by (Deliver k) (Skipped NoMessage) = None
delivered_by (Deliver k) outcome = Some k
delivered_by kind outcome = None

abbrev pub is_number : ℕ → Option ℕ → Bool
is_number k None = false
is_number k (Some j) = k == j

-- one of the events delivered message k
abbrev pub delivers : ℕ → AppliedEvent → Bool
delivers k p = is_number k (delivered_by p.event.kind p.outcome)

abbrev pub is_delivered : List AppliedEvent → ℕ → Bool
is_delivered past k = list_any (delivers k) past

-- an append request is a heartbeat, or carries entries
abbrev pub append_kind : RequestId → MessageKind
append_kind HeartBeat = kind.Heartbeat
append_kind _ = kind.Append

abbrev pub kind_of : Body → MessageKind
kind_of (VoteRequest request) = kind.VoteRequest
kind_of (VoteReply reply) = kind.VoteReply
kind_of (AppendRequest origin prev entries committed) = append_kind origin.request_id
kind_of (AppendReply origin reply prev upto) = kind.AppendReply
kind_of (SnapshotRequest origin snapshot) = kind.Snapshot
kind_of (SnapshotReply origin reply upto) = kind.SnapshotReply

-- a message goes from one node to another, and is of a kind; or any message
abbrev pub is_of : Option Link → Message → Bool
is_of None m = true
is_of (Some link) m = (m.from == link.from) && (m.to == link.to) && same_kind (kind_of m.body) link.kind

-- the number of the first of these messages, from number n on, that is asked for and isn't delivered
abbrev pub first_from : ℕ → (Message → Bool) → (ℕ → Bool) → List Message → Option ℕ
first_from n asked delivered [] = None
first_from n asked delivered (m ∷ ms) = if asked m && not (delivered n) then Some n else first_from (n + 1) asked delivered ms

-- the oldest message, of a link or of all, that no event has delivered
abbrev pub oldest : Option Link → History (List Entry) → Option ℕ
oldest link t = first_from 1 (is_of link) (is_delivered t.past) t.net.records.bag

-- at the place of its number a message has a mark that tells whether it was delivered, if it may have one
abbrev pub Marks : List Bool → List AppliedEvent → Type 0
Marks marks past = (k : ℕ) → get_or marks k false ≡ is_delivered past k
