-- What a leader sends to the other nodes, and what it commits.
use Rattle.std.specs.Prelude.{Bool, false, not, List, [], ◌∷◌, Option, None, Some, Result, Ok, Err, map, filter, flat_map, if◌then◌else◌}
use Rattle.std.specs.Ordering.{is_eq, is_ge, nat_cmp}
use Rattle.std.specs.Option.{option_cmp}
use Rattle.raft_proposer.specs.raft_progress.Table.{get, updated, upgraded}
use Rattle.raft_proposer.specs.raft_progress.Quorum.{is_quorum}
use Rattle.raft_progress_entry.specs.declared.entry.ProgressEntry.{ProgressEntry}
use Rattle.raft_state.specs.Members.{voter_ids, learner_ids}
use Rattle.raft_state.specs.State.{append_membership}
use Rattle.raft_progress_entry.specs.Entry.{empty, next_send, sent, silenced, matched}
use Rattle.raft_progress_entry.specs.declared.entry.Inflight.{Inflight}
use Rattle.raft_command.specs.declared.command.Command.TheVariants.{RebuildReplicationStreams, Replicate, ReplicateCommitted}
use Rattle.raft_steps.specs.Commit.{commit_by}
use Rattle.raft_proposer.specs.Leader.{granted_id}
use Rattle.std.specs.declared.cmp.Ordering.{Ordering}
use Rattle.raft_state.specs.declared.ids.LogId.{LogId}
use Rattle.raft_state.specs.declared.membership.StoredMembership.{StoredMembership}
use Rattle.raft_state.specs.declared.state.RaftState.{RaftState}
use Rattle.raft_state.specs.Order.{last_id_cmp, leader_id_cmp, next}
use Rattle.raft_state.specs.Log.{last}
use Rattle.raft_command.specs.declared.config.EngineConfig.{EngineConfig}
use Rattle.raft_command.specs.declared.command.Command.{Command}
use Rattle.raft_command.specs.Queue.{queued}
use Rattle.raft_steps.specs.Parts.{Core, Led, then_command, with_state, under}
use Rattle.raft_progress_entry.specs.declared.entry.Inflight.TheVariants as inflight

module _ {NID : Type 0} (cmp : NID → NID → Ordering) where
  -- this node's entry after its own log acknowledged x
  abbrev pub own_matched : Option (LogId NID) → ProgressEntry NID → ProgressEntry NID
  own_matched x e = matched cmp (record e { inflight = inflight.Logs 0 (record { prev = e.matching; last = x }) }) x

module _ {NID : Type 0} (cmp : NID → NID → Ordering) (config : EngineConfig NID) where
  -- the row is another node's
  abbrev pub is_other : NID × ProgressEntry NID → Bool
  is_other row = not (is_eq (cmp config.id row.0))

  -- another node's row, with nothing in flight
  abbrev pub silenced_row : NID × ProgressEntry NID → NID × ProgressEntry NID
  silenced_row row = if is_other row then (row.0, silenced row.1) else row

module _ {NID N : Type 0} (cmp : NID → NID → Ordering) (config : EngineConfig NID) where
  -- another node's row after it was sent what it lacks next
  abbrev pub sent_row : RaftState NID N → NID × ProgressEntry NID → NID × ProgressEntry NID
  sent_row s row = if is_other cmp config row then (row.0, sent row.1 (next_send s config.max_payload_entries row.1)) else row

module _ {C NID N E D R S : Type 0} where
  -- the command for what is sent to a target; with force also if that is nothing
  abbrev pub send_commands : Bool → NID → Result (Inflight NID) (Inflight NID) → List (Command C NID N E D R S)
  send_commands force target (Ok f) = Replicate target f ∷ []
  send_commands force target (Err inflight.None) = if force then Replicate target inflight.None ∷ [] else []
  send_commands force target (Err (inflight.Logs _ _)) = []
  send_commands force target (Err (inflight.Snapshot _ _)) = []

  -- the leader's table with other rows
  abbrev pub with_rows : Led C NID N E D R S → List (NID × ProgressEntry NID) → Led C NID N E D R S
  with_rows l rows = record l { leader = record l.leader { progress = record l.leader.progress { rows = rows } } }

module _ {C NID N E D R S : Type 0} (cmp : NID → NID → Ordering) where
  -- a target's entry is replaced
  abbrev pub with_entry : Led C NID N E D R S → NID → ProgressEntry NID → Led C NID N E D R S
  with_entry l id e = record l { leader = record l.leader { progress = updated cmp l.leader.progress id e } }

module _ {C NID N E D R S : Type 0} (cmp : NID → NID → Ordering) where
  -- the tables hold the effective membership's nodes: those that stay keep their values
  unfoldable pub rebuild_progresses : Led C NID N E D R S → Led C NID N E D R S
  rebuild_progresses l =
      let members = l.core.state.em.membership in
      let voters = voter_ids cmp members in
      let learners = learner_ids cmp members in
      record l {
        leader = record l.leader {
          progress = upgraded cmp (last_id_cmp cmp) (λ e. e.matching) l.leader.progress members.groups voters learners (empty (next (last l.core.state.ids)));
          clock_progress = upgraded cmp (option_cmp nat_cmp) (λ t. t) l.leader.clock_progress members.groups voters learners None;
        };
      }

module _ {C NID N E D R S : Type 0} (cmp : NID → NID → Ordering) (config : EngineConfig NID) where
  -- the commands that send another node what it lacks next
  abbrev pub sends_of : Bool → RaftState NID N → NID × ProgressEntry NID → List (Command C NID N E D R S)
  sends_of force s row = if is_other cmp config row then send_commands force row.0 (next_send s config.max_payload_entries row.1) else []

  -- nothing is in flight to the other nodes any more, and their streams are rebuilt
  unfoldable pub rebuild_replication_streams : Led C NID N E D R S → Led C NID N E D R S
  rebuild_replication_streams l =
      let rows = map (silenced_row cmp config) l.leader.progress.rows in
      under (λ c. then_command c (RebuildReplicationStreams (filter (is_other cmp config) rows))) (with_rows l rows)

  -- each other node to which nothing is in flight is sent what it lacks next; with force a heartbeat if it lacks nothing
  unfoldable pub initiate_replication : Bool → Led C NID N E D R S → Led C NID N E D R S
  initiate_replication force l =
      let rows = l.leader.progress.rows in
      let s = l.core.state in
      under (λ c. record c { output = queued c.output (flat_map (sends_of force s) rows) }) (with_rows l (map (sent_row cmp config s) rows))

  -- a membership takes effect: the tables hold its nodes, and the streams are rebuilt
  unfoldable pub append_membership_led : StoredMembership NID N → Led C NID N E D R S → Led C NID N E D R S
  append_membership_led m l =
      initiate_replication false (rebuild_replication_streams (rebuild_progresses cmp (under (λ c. with_state c (append_membership c.state m)) l)))

  -- what a quorum has acknowledged is committed, if it is this leader's (Raft paper, section 5.4.2)
  unfoldable pub try_commit_quorum_accepted : Option (LogId NID) → Core C NID N E D R S → Core C NID N E D R S
  try_commit_quorum_accepted None c = c
  try_commit_quorum_accepted (Some x) c =
      if is_eq (leader_id_cmp cmp x.leader_id c.state.vote.leader_id)
      then commit_by cmp config (ReplicateCommitted (Some x) ∷ []) (Some x) c
      else c

  -- what the table grants is committed
  abbrev pub commit_granted : Led C NID N E D R S → Led C NID N E D R S
  commit_granted l = under (try_commit_quorum_accepted (granted_id cmp (is_quorum cmp) l.leader)) l

  -- this node's own log acknowledges x
  unfoldable pub update_local_progress : Option (LogId NID) → Led C NID N E D R S → Led C NID N E D R S
  update_local_progress None l = l
  update_local_progress (Some x) l =
      elim (get cmp l.leader.progress config.id) [
        | None ↦ l
        | Some e ↦
            (if is_ge (last_id_cmp cmp e.matching (Some x)) then l
            else commit_granted (with_entry cmp l config.id (own_matched cmp (Some x) e)))
      ]
