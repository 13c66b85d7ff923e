-- The events of a leader: proposals, heartbeats, requests that fail, reads, and stepping down.
use Rattle.std.specs.Prelude.{ℕ, true, List, [], ◌∷◌, length, map, Option, None, Some, Err, if◌then◌else◌, is_some}
use Rattle.std.specs.Option.{option_map}
use Rattle.std.specs.Ordering.{is_eq, nat_cmp}
use Rattle.raft_state.specs.Order.{vote_cmp}
use Rattle.raft_progress_entry.specs.declared.entry.Inflight.{Inflight}
use Rattle.raft_progress_entry.specs.declared.entry.Inflight.TheVariants as inflight
use Rattle.raft_error.specs.Number.{number_of}
use Rattle.raft_progress.specs.Table.{get}
use Rattle.raft_command.specs.declared.replication.RequestId.{RequestId}
use Rattle.raft_command.specs.declared.replication.RequestId.TheVariants as request
use Rattle.raft_steps.specs.Engine.{default_log_id}
use Rattle.raft_steps.specs.LeaderHandler.{leader_append_entries, read_log_id}
use Rattle.raft_steps.specs.Parts.{led_of}
use Rattle.raft_steps.specs.Refusals.{refusals_of_counter_led, refusals_of_propose, refusals_of_spent}
use Rattle.raft_steps.specs.ReplicationHandler.{initiate_replication}
use Rattle.raft_steps.specs.Starts.{leader_step_down, refusals_of_step_down}
use Rattle.raft_store.specs.declared.entry.Entry.{Entry}
use Rattle.raft_store.specs.declared.entry.Payload.TheVariants as payload
use Rattle.raft_store.specs.declared.entry.Value.{Value}
use Rattle.raft_store.specs.Entries.{entry_meaning}
use Rattle.raft_store.specs.Types.{EngineView, WorldLeader}
use Rattle.raft_schedule.specs.declared.event.SkipReason.{SkipReason}
use Rattle.raft_schedule.specs.declared.event.SkipReason.TheVariants.{NotLeader, NotOwnVote, NothingInFlight}
use Rattle.raft_calls.specs.declared.lead.Answer.{Answer}
use Rattle.raft_calls.specs.Deliveries.{answered, led_call, progressed, unled_number, with_machine}

-- an entry with a value; the leader gives it its id
abbrev pub value_entry : Value → Entry
value_entry v = record { log_id = default_log_id 0; payload = payload.Value v }

-- the leader appends entries, and sends them to the other nodes (Raft paper, section 5.3)
abbrev pub entries_proposed : List Entry → EngineView → Option ℕ × EngineView
entries_proposed entries e = led_call (refusals_of_propose (length entries)) (leader_append_entries nat_cmp entry_meaning e.config entries) e

-- the same with one entry
abbrev pub entry_proposed : Entry → EngineView → Option ℕ × EngineView
entry_proposed entry e = entries_proposed (entry ∷ []) e

-- the same with values, in order; without any nothing is appended
abbrev pub proposed : List Value → EngineView → Option ℕ × EngineView
proposed values e = entries_proposed (map value_entry values) e

-- a leader whose vote isn't the node's vote any more proposes nothing
abbrev pub skip_propose : EngineView → Option SkipReason
skip_propose e =
    elim e.machine.leader [
      | None ↦ None
      | Some l ↦ (if is_eq (vote_cmp nat_cmp l.vote e.machine.core.state.vote) then None else Some NotOwnVote)
    ]

-- each other node to which nothing is in flight is sent what it lacks, or else a heartbeat (Raft paper, section 5.2)
abbrev pub heartbeats_sent : EngineView → Option ℕ × EngineView
heartbeats_sent e = led_call refusals_of_counter_led (initiate_replication nat_cmp e.config true) e

-- what is in flight from the leader to a target
abbrev pub inflight_to : ℕ → EngineView → Inflight ℕ
inflight_to target e =
    elim e.machine.leader [ None ↦ inflight.None | Some l ↦ elim (get nat_cmp l.progress target) [ None ↦ inflight.None | Some p ↦ p.inflight ] ]

-- the request by which it is sent
abbrev pub request_of : Inflight ℕ → RequestId
request_of inflight.None = request.HeartBeat
request_of (inflight.Logs id range) = request.AppendEntries id
request_of (inflight.Snapshot id last) = request.Snapshot id

-- the request in flight to a target fails, and the target is sent again what it lacks
abbrev pub failed : ℕ → EngineView → Option ℕ × EngineView
failed target e = progressed target (request_of (inflight_to target e)) (Err tt) e

-- where nothing is in flight, there is no request that could fail
abbrev pub skip_inflight : Inflight ℕ → Option SkipReason
skip_inflight inflight.None = Some NothingInFlight
skip_inflight _ = None

-- at a node that doesn't lead it isn't skipped: the call is refused
abbrev pub skip_fail : ℕ → EngineView → Option SkipReason
skip_fail target e = elim e.machine.leader [ None ↦ None | Some l ↦ skip_inflight (inflight_to target e) ]

-- a read is refused without a leader; it changes nothing
abbrev pub read_refusal : EngineView → Option ℕ
read_refusal e = elim e.machine.leader [ None ↦ Some (unled_number e) | Some l ↦ option_map number_of (refusals_of_spent e.machine) ]

abbrev pub read_asked : EngineView → Option ℕ × EngineView
read_asked e = (read_refusal e, e)

-- a leader's answer to a read: up to which id the node has to apply before it reads (Raft paper, section 8; openraft's
-- `get_read_log_id`)
abbrev pub answer_by : ℕ → WorldLeader → EngineView → Answer
answer_by id l e = record {
  node = id;
  leader_id = l.vote.leader_id;
  log_id = read_log_id nat_cmp (led_of l e.machine.core.state e.machine.core.output);
}

-- the answer, unless the read is refused
abbrev pub read_answer : ℕ → EngineView → Option Answer
read_answer id e = if is_some (read_refusal e) then None else option_map (λ l. answer_by id l e) e.machine.leader

-- a leader that is no longer a member follows, once the effective membership is committed (Raft paper, section 6;
-- openraft's `leader_step_down`)
abbrev pub stepped_down : EngineView → Option ℕ × EngineView
stepped_down e = answered (refusals_of_step_down nat_cmp e.config e.machine) e (with_machine e (leader_step_down nat_cmp entry_meaning e.config e.machine))

-- a node that doesn't lead can't step down
abbrev pub skip_step_down : EngineView → Option SkipReason
skip_step_down e = if is_some e.machine.leader then None else Some NotLeader
