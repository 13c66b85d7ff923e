-- How a leader handles the replies to what it sent.
use Rattle.std.specs.Prelude.{ℕ, false, Option, None, Some, Result, Ok, Err}
use Rattle.std.specs.declared.cmp.Ordering.{Ordering}
use Rattle.raft_state.specs.declared.ids.LogId.{LogId}
use Rattle.raft_progress_entry.specs.Entry.{next_send, sent, silenced, matched, conflicted}
use Rattle.raft_proposer.specs.raft_progress.Table.{get}
use Rattle.raft_progress_entry.specs.declared.entry.ProgressEntry.{ProgressEntry}
use Rattle.raft_command.specs.Queue.{queued}
use Rattle.raft_command.specs.Replication.{number_of}
use Rattle.raft_command.specs.declared.config.EngineConfig.{EngineConfig}
use Rattle.raft_command.specs.declared.replication.ReplicationResult.{ReplicationResult}
use Rattle.raft_command.specs.declared.replication.RequestId.{RequestId}
use Rattle.raft_proposer.specs.Leader.{with_clock}
use Rattle.raft_steps.specs.LogHandler.{try_purge_log}
use Rattle.raft_steps.specs.Parts.{Led, under}
use Rattle.raft_steps.specs.ReplicationHandler.{send_commands, with_entry, commit_granted}

module _ {C NID N E D R S : Type 0} (cmp : NID → NID → Ordering) where
  -- a change of a target's entry, if it is in the table
  abbrev pub on_entry : NID → (ProgressEntry NID → ProgressEntry NID) → Led C NID N E D R S → Led C NID N E D R S
  on_entry target f l = elim (get cmp l.leader.progress target) [ None ↦ l | Some e ↦ with_entry cmp l target (f e) ]

  -- a node's clock rises to the moment at which what it acknowledges was sent
  unfoldable pub update_leader_clock : NID → ℕ → Led C NID N E D R S → Led C NID N E D R S
  update_leader_clock target time l = record l { leader = with_clock cmp l.leader target time }

  -- a target's log conflicts with an id
  unfoldable pub update_conflicting : NID → Option ℕ → LogId NID → Led C NID N E D R S → Led C NID N E D R S
  update_conflicting target number x l = on_entry target (λ e. conflicted e number x.index) l

  -- the request in flight to a target has failed; a heartbeat is never in flight
  unfoldable pub update_failed_progress : NID → RequestId → Led C NID N E D R S → Led C NID N E D R S
  update_failed_progress target id l = elim (number_of id) [ None ↦ l | Some _ ↦ on_entry target silenced l ]

  -- the log is purged up to its target, unless the target is in flight
  unfoldable pub purge_unless_inflight : Led C NID N E D R S → Led C NID N E D R S
  purge_unless_inflight l = under (try_purge_log cmp l.leader.progress.rows) l

module _ {C NID N E D R S : Type 0} (cmp : NID → NID → Ordering) (config : EngineConfig NID) where
  -- a target's log matches up to x, and what a quorum then has acknowledged is committed
  unfoldable pub update_matching : NID → Option (LogId NID) → Led C NID N E D R S → Led C NID N E D R S
  update_matching target x l = commit_granted cmp config (on_entry cmp target (λ e. matched cmp e x) l)

  -- a target's log matches, if the request had a number, or conflicts
  abbrev pub take_answer : NID → RequestId → ReplicationResult NID → Led C NID N E D R S → Led C NID N E D R S
  take_answer target id answer l =
      elim answer.result [
        | Ok x ↦ elim (number_of id) [ None ↦ l | Some _ ↦ update_matching target x l ]
        | Err x ↦ update_conflicting cmp target (number_of id) x l
      ]

  -- a target has answered: its clock rises, and its log matches or conflicts
  unfoldable pub update_success_progress : NID → RequestId → ReplicationResult NID → Led C NID N E D R S → Led C NID N E D R S
  update_success_progress target id answer l = take_answer target id answer (update_leader_clock cmp target answer.sending_time l)

  -- a target is sent what it lacks next, if anything
  unfoldable pub send_next : NID → Led C NID N E D R S → Led C NID N E D R S
  send_next target l =
      elim (get cmp l.leader.progress target) [
        | None ↦ l
        | Some e ↦
            let r = next_send l.core.state config.max_payload_entries e in
            under (λ c. record c { output = queued c.output (send_commands false target r) }) (with_entry cmp l target (sent e r))
      ]

  -- a reply, or the failure of a request
  abbrev pub take_reply : {T : Type 0} → NID → RequestId → Result (ReplicationResult NID) T → Led C NID N E D R S → Led C NID N E D R S
  take_reply target id (Ok answer) l = update_success_progress target id answer l
  take_reply target id (Err _) l = update_failed_progress cmp target id l

  -- it is handled, the log purged unless its target is in flight, and the node sent what it lacks (Raft paper, 5.3)
  unfoldable pub update_progress : {T : Type 0} → NID → RequestId → Result (ReplicationResult NID) T → Led C NID N E D R S → Led C NID N E D R S
  update_progress target id result l = send_next target (purge_unless_inflight cmp (take_reply target id result l))
