-- The texts of messages and of replication data, over the text of a node id.
use Rattle.std.specs.Prelude.{ℕ, List, ◌++◌, codes, length, Option, None, Some, Ok, Err, if◌then◌else◌}
use Rattle.std.specs.Option.{option_map}
use Rattle.std.specs.Fmt.{decimal, ◌++?◌}
use Rattle.raft_progress_entry.specs.raft_state.declared.ids.Vote.{Vote}
use Rattle.raft_progress_entry.specs.raft_state.declared.ids.LogId.{LogId}
use Rattle.raft_progress_entry.specs.raft_state.declared.membership.SnapshotMeta.{SnapshotMeta}
use Rattle.raft_progress_entry.specs.raft_state.Texts.{vote_text, optional_id_text, meta_text}
use Rattle.raft_progress_entry.specs.Texts.{range_text}
use Rattle.raft_command.specs.declared.message.VoteRequest.{VoteRequest}
use Rattle.raft_command.specs.declared.message.VoteResponse.{VoteResponse}
use Rattle.raft_command.specs.declared.message.AppendEntriesResponse.{AppendEntriesResponse}
use Rattle.raft_command.specs.declared.message.AppendEntriesResponse.TheVariants as response
use Rattle.raft_command.specs.declared.message.InstallSnapshotRequest.{InstallSnapshotRequest}
use Rattle.raft_command.specs.declared.replication.RequestId.{RequestId}
use Rattle.raft_command.specs.declared.replication.RequestId.TheVariants as request
use Rattle.raft_command.specs.declared.replication.ReplicationSessionId.{ReplicationSessionId}
use Rattle.raft_command.specs.declared.replication.ReplicationResult.{ReplicationResult}
use Rattle.raft_command.specs.declared.replication.SnapshotCallback.{SnapshotCallback}
use Rattle.raft_command.specs.declared.replication.Data.{Data}
use Rattle.raft_command.specs.declared.replication.Data.TheVariants as sending
use Rattle.raft_command.specs.declared.replication.Replicate.{Replicate}
use Rattle.raft_command.specs.declared.replication.Replicate.TheVariants as asked

-- `HeartBeat`, `AppendEntries(7)`, `Snapshot(7)`
abbrev pub request_id_text : RequestId → List ℕ
request_id_text request.HeartBeat = codes "HeartBeat"
request_id_text (request.AppendEntries id) = codes "AppendEntries(" ++ decimal id ++ codes ")"
request_id_text (request.Snapshot id) = codes "Snapshot(" ++ decimal id ++ codes ")"

module _ {NID : Type 0} (node_text : NID → Option (List ℕ)) where
  abbrev pub vote_shown : Vote NID → Option (List ℕ)
  vote_shown vote = option_map (λ node. vote_text vote.leader_id.term node vote.committed) (node_text vote.leader_id.node_id)

  -- a log id's text, or `None`
  abbrev pub id_shown : Option (LogId NID) → Option (List ℕ)
  id_shown = optional_id_text node_text

  -- `Some("1-2-3")`, or `None`
  abbrev pub quoted_id : Option (LogId NID) → Option (List ℕ)
  quoted_id None = Some (codes "None")
  quoted_id (Some id) = Some (codes "Some(\"") ++? id_shown (Some id) ++? Some (codes "\")")

  -- `{vote:V, last_log:L}`
  abbrev pub vote_request_text : VoteRequest NID → Option (List ℕ)
  vote_request_text r = Some (codes "{vote:") ++? vote_shown r.vote ++? Some (codes ", last_log:") ++? id_shown r.last_log_id ++? Some (codes "}")

  -- `{V, last_log:Some("1-2-3")}`
  abbrev pub vote_response_text : VoteResponse NID → Option (List ℕ)
  vote_response_text r = Some (codes "{") ++? vote_shown r.vote ++? Some (codes ", last_log:") ++? quoted_id r.last_log_id ++? Some (codes "}")

  -- `Success`, `PartialSuccess(L)`, `Higher vote, V`, `Conflict`
  abbrev pub append_response_text : AppendEntriesResponse NID → Option (List ℕ)
  append_response_text response.Success = Some (codes "Success")
  append_response_text (response.PartialSuccess id) = Some (codes "PartialSuccess(") ++? id_shown id ++? Some (codes ")")
  append_response_text response.Conflict = Some (codes "Conflict")
  append_response_text (response.HigherVote vote) = Some (codes "Higher vote, ") ++? vote_shown vote

  -- `{vote:V}`, `SnapshotResponse{vote:V}`
  abbrev pub install_response_text : Vote NID → Option (List ℕ)
  install_response_text vote = Some (codes "{vote:") ++? vote_shown vote ++? Some (codes "}")

  abbrev pub snapshot_response_text : Vote NID → Option (List ℕ)
  snapshot_response_text vote = Some (codes "SnapshotResponse{vote:") ++? vote_shown vote ++? Some (codes "}")

  -- `V/L`
  abbrev pub session_text : ReplicationSessionId NID → Option (List ℕ)
  session_text s = vote_shown s.vote ++? Some (codes "/") ++? id_shown s.membership_log_id

  -- `{time:7, result:Match:1-2-3}`, `{time:7, result:Conflict:1-2-3}`
  abbrev pub replication_result_text : ReplicationResult NID → Option (List ℕ)
  replication_result_text r =
      Some (codes "{time:" ++ decimal r.sending_time)
      ++? elim r.result [ Ok id ↦ Some (codes ", result:Match:") ++? id_shown id | Err id ↦ Some (codes ", result:Conflict:") ++? id_shown (Some id) ]
      ++? Some (codes "}")

module _ {NID N : Type 0} (node_text : NID → Option (List ℕ)) where
  abbrev pub meta_shown : SnapshotMeta NID N → Option (List ℕ)
  meta_shown meta = meta_text meta.snapshot_id (id_shown node_text meta.last_log_id) (id_shown node_text meta.last_membership.log_id)

  -- `InstallSnapshotRequest { vote:V, meta:M, offset:0, len:8, done:true }`
  abbrev pub install_request_text : InstallSnapshotRequest NID N → Option (List ℕ)
  install_request_text r =
      Some (codes "InstallSnapshotRequest { vote:") ++? vote_shown node_text r.vote
      ++? Some (codes ", meta:") ++? meta_shown r.meta
      ++? Some (codes ", offset:") ++? Some (decimal r.offset)
      ++? Some (codes ", len:") ++? Some (decimal (length r.payload))
      ++? Some (codes ", done:") ++? Some (if r.done then codes "true" else codes "false") ++? Some (codes " }")

module _ {C NID N E D R S : Type 0} (node_text : NID → Option (List ℕ)) where
  -- `{time:7, meta:M}`
  abbrev pub callback_text : SnapshotCallback C NID N E D R S → Option (List ℕ)
  callback_text callback = Some (codes "{time:" ++ decimal callback.start_time ++ codes ", meta:") ++? meta_shown node_text callback.snapshot_meta ++? Some (codes "}")

  -- `Heartbeat`, `Logs{request_id: R, log_id_range: (L, L]}`, `Snapshot{request_id: R}`,
  -- `SnapshotCallback{request_id: R, callback: ..}`
  abbrev pub data_text : Data C NID N E D R S → Option (List ℕ)
  data_text sending.Heartbeat = Some (codes "Heartbeat")
  data_text (sending.Logs logs) =
      Some (codes "Logs{request_id: ") ++? Some (request_id_text logs.request_id) ++? Some (codes ", log_id_range: ") ++? range_text node_text logs.payload ++? Some (codes "}")
  data_text (sending.Snapshot snapshot) = Some (codes "Snapshot{request_id: " ++ request_id_text snapshot.request_id ++ codes "}")
  data_text (sending.SnapshotCallback sent) =
      Some (codes "SnapshotCallback{request_id: ") ++? Some (request_id_text sent.request_id) ++? Some (codes ", callback: ") ++? callback_text sent.payload ++? Some (codes "}")

  -- `Committed(L)`, `Heartbeat`, `Data(..)`
  abbrev pub replicate_text : Replicate C NID N E D R S → Option (List ℕ)
  replicate_text (asked.Committed id) = Some (codes "Committed(") ++? id_shown node_text id ++? Some (codes ")")
  replicate_text asked.Heartbeat = Some (codes "Heartbeat")
  replicate_text (asked.Data payload) = Some (codes "Data(") ++? data_text payload ++? Some (codes ")")
