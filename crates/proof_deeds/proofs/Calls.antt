-- The laws of single calls that the run of a world rests on, and engines within an event.
use Rattle.std.proofs.Common.{ℕ, ◌≡◌, ◌≢◌, Bool, true, false, List, [], ◌∷◌, length, map, Option, None, Some, Result}
use Rattle.std.specs.Ordering.{is_eq, nat_cmp}
use Rattle.raft_node.specs.raft_state.declared.ids.LogId.{LogId}
use Rattle.raft_node.specs.raft_state.declared.ids.Vote.{Vote}
use Rattle.raft_node.specs.raft_state.declared.membership.Members.{Members}
use Rattle.raft_node.specs.raft_state.declared.membership.SnapshotMeta.{SnapshotMeta}
use Rattle.raft_node.specs.raft_state.declared.state.RaftState.{RaftState}
use Rattle.raft_node.specs.raft_state.Fits.{fits}
use Rattle.raft_node.specs.raft_state.Order.{vote_cmp}
use Rattle.raft_node.specs.raft_state.State.{empty}
use Rattle.raft_node.specs.raft_command.declared.config.EngineConfig.{EngineConfig}
use Rattle.raft_node.specs.raft_command.declared.message.VoteRequest.{VoteRequest}
use Rattle.raft_node.specs.raft_command.declared.message.VoteResponse.{VoteResponse}
use Rattle.raft_node.specs.raft_command.declared.replication.ReplicationResult.{ReplicationResult}
use Rattle.raft_node.specs.raft_command.declared.replication.RequestId.{RequestId}
use Rattle.raft_node.specs.raft_steps.Refusals.{refusals_of_elect, refusals_of_initialize, refusals_of_propose, refusals_of_update_vote, refusals_of_vote_resp}
use Rattle.raft_node.specs.raft_steps.Conditions.{IsFollowing, MayPropose}
use Rattle.raft_node.specs.raft_steps.Engine.{as_uncommitted, elect, initialize, handle_vote_resp}
use Rattle.raft_node.specs.raft_steps.InstallRefusals.{refusals_of_install}
use Rattle.raft_node.specs.raft_steps.Installs.{handle_install_full_snapshot}
use Rattle.raft_node.specs.raft_steps.LeaderHandler.{leader_append_entries}
use Rattle.raft_node.specs.raft_steps.Parts.{idle, led_of, leading, on_core, then_command}
use Rattle.raft_node.specs.raft_steps.Replies.{update_progress}
use Rattle.raft_node.specs.raft_steps.ReplyRefusals.{refusals_of_entry, refusals_of_result}
use Rattle.raft_node.specs.raft_steps.ReplicationHandler.{initiate_replication, update_local_progress}
use Rattle.raft_node.specs.raft_steps.RequestRefusals.{refusals_of_append, refusals_of_commit, refusals_of_vote_req}
use Rattle.raft_node.specs.raft_steps.Requests.{handle_append_entries, handle_commit_entries, handle_vote_req, vote_req_answer}
use Rattle.raft_node.specs.raft_steps.SnapshotCalls.{finish_building_snapshot, trigger_purge_log}
use Rattle.raft_node.specs.raft_steps.SnapshotHandler.{trigger_snapshot}
use Rattle.raft_node.specs.raft_steps.Starts.{leader_step_down, refusals_of_startup, refusals_of_step_down, startup}
use Rattle.raft_node.specs.raft_steps.VoteHandler.{rejects_vote, update_vote}
use Rattle.raft_node.specs.raft_store.declared.entry.Value.{Value}
use Rattle.raft_node.specs.raft_store.declared.entry.Entry.{Entry}
use Rattle.raft_node.specs.raft_store.Entries.{entry_meaning, members_of}
use Rattle.raft_node.specs.raft_store.Restart.{restarted, started}
use Rattle.raft_node.specs.raft_store.Types.{WorldCandidate, WorldLeader, WorldMachine, WorldSnapshot, WorldStore}
use Rattle.proof_mirror.specs.Ready.{AppendFits}
use Rattle.raft_node.specs.raft_calls.declared.message.Body.TheVariants as body
use Rattle.raft_node.specs.raft_calls.declared.message.Message.{Message}
use Rattle.raft_node.specs.raft_calls.declared.message.Origin.{Origin}
use Rattle.raft_node.specs.declared.node.Turn.{Turn}
use Rattle.raft_node.specs.raft_calls.Deliveries.{reply_token, vote_reply}
use Rattle.raft_node.specs.raft_calls.Feeds.{own_grant}
use Rattle.raft_node.specs.raft_calls.LeaderCalls.{value_entry}
use Rattle.proof_agreement.specs.Stores as stores
use Rattle.raft_node.specs.raft_calls.Elections.{first_entry}
use Rattle.proof_deeds.specs.Chains.{Does}
use Rattle.proof_deeds.specs.Images.{Ideal, setup_of}
use Rattle.proof_deeds.specs.Follows.{VoteTold}
use Rattle.proof_deeds.specs.Knows.{CarriedIn, Delivered, Stands}
use Rattle.proof_deeds.specs.LeaderDeeds.{ReplyIs}
use Rattle.proof_deeds.proofs.PlainRefusals.{IsPlain}

abbrev pub WorldState : Type 0
WorldState = RaftState ℕ (Unit {0})

-- `Extra` is what else holds of an engine's state in the ideal world now
module _ (first : Members ℕ (Unit {0})) (Extra : Ideal → WorldState → Type 0) where
  -- The calls of events. An event's first call finds an empty queue. The first entry
  abbrev pub ByInitialize : Type 0
  ByInitialize =
      (t : Turn) (config : EngineConfig ℕ) (u : WorldStore) (W : Ideal) (m : WorldMachine) → Stands (setup_of first) t config u W m
      → m.core.output.items ≡ [] → m.leader ≡ None → refusals_of_initialize nat_cmp entry_meaning config 0 (first_entry first) m ≡ None
      → Extra W m.core.state → (let n : WorldMachine = initialize nat_cmp entry_meaning config 0 (first_entry first) t.moment m in CarriedIn (setup_of first) t u W n × Extra W n.core.state)

  -- an election
  abbrev pub ByElect : Type 0
  ByElect =
      (t : Turn) (config : EngineConfig ℕ) (u : WorldStore) (W : Ideal) (m : WorldMachine) → Stands (setup_of first) t config u W m
      → m.core.output.items ≡ [] → m.leader ≡ None → refusals_of_elect nat_cmp config m ≡ None
      → Extra W m.core.state → (let n : WorldMachine = elect nat_cmp entry_meaning config t.moment m in CarriedIn (setup_of first) t u W n × Extra W n.core.state)

  -- a vote request, and its answer
  abbrev pub ByVoteRequest : Type 0
  ByVoteRequest =
      (t : Turn) (config : EngineConfig ℕ) (u : WorldStore) (W : Ideal) (m : WorldMachine) → Stands (setup_of first) t config u W m
      → m.core.output.items ≡ [] → (msg : Message) (req : VoteRequest ℕ) → Delivered (setup_of first) t W msg → msg.body ≡ body.VoteRequest req → refusals_of_vote_req nat_cmp config req t.moment m ≡ None
      → Extra W m.core.state → (let n : WorldMachine = on_core (λ c. then_command c (vote_reply (vote_req_answer nat_cmp entry_meaning config req t.moment m))) (handle_vote_req nat_cmp entry_meaning config req t.moment m) in CarriedIn (setup_of first) t u W n × Extra W n.core.state)

  -- a reply to the candidate's request
  abbrev pub ByVoteReply : Type 0
  ByVoteReply =
      (t : Turn) (config : EngineConfig ℕ) (u : WorldStore) (W : Ideal) (m : WorldMachine) → Stands (setup_of first) t config u W m
      → m.core.output.items ≡ [] → (msg : Message) (resp : VoteResponse ℕ) → Delivered (setup_of first) t W msg → msg.body ≡ body.VoteReply resp → refusals_of_vote_resp nat_cmp config msg.from resp m ≡ None
      → Extra W m.core.state → (let n : WorldMachine = handle_vote_resp nat_cmp entry_meaning config msg.from resp t.moment m in CarriedIn (setup_of first) t u W n × Extra W n.core.state)

  -- a leader's entries, and the answer
  abbrev pub ByAppend : Type 0
  ByAppend =
      (t : Turn) (config : EngineConfig ℕ) (u : WorldStore) (W : Ideal) (m : WorldMachine) → Stands (setup_of first) t config u W m
      → m.core.output.items ≡ [] → (msg : Message) (o : Origin) (prev : Option (LogId ℕ)) (es : List Entry) (told : Option (LogId ℕ)) → Delivered (setup_of first) t W msg → msg.body ≡ body.AppendRequest o prev es told
      → refusals_of_append nat_cmp config o.session_id.vote prev (map (λ (e : Entry). e.log_id) es) m ≡ None
      → Extra W m.core.state → (let n : WorldMachine = handle_append_entries nat_cmp entry_meaning config o.session_id.vote prev es (Some reply_token) t.moment m in CarriedIn (setup_of first) t u W n × Extra W n.core.state)

  -- what a follower cuts leaves the committed membership
  abbrev pub FitsAppend : Type 0
  FitsAppend =
      (t : Turn) (config : EngineConfig ℕ) (u : WorldStore) (W : Ideal) (m : WorldMachine) → Stands (setup_of first) t config u W m
      → m.core.output.items ≡ [] → (msg : Message) (o : Origin) (prev : Option (LogId ℕ)) (es : List Entry) (told : Option (LogId ℕ)) → Delivered (setup_of first) t W msg → msg.body ≡ body.AppendRequest o prev es told
      → refusals_of_append nat_cmp config o.session_id.vote prev (map (λ (e : Entry). e.log_id) es) m ≡ None → rejects_vote nat_cmp m.core.state o.session_id.vote ≡ false
      → Extra W m.core.state → AppendFits nat_cmp entry_meaning (update_vote nat_cmp entry_meaning config o.session_id.vote t.moment m).core.state prev es

  -- the leader's committed id, behind the append in one turn: m is the engine after it
  abbrev pub ByCommit : Type 0
  ByCommit =
      (t : Turn) (config : EngineConfig ℕ) (u : WorldStore) (W : Ideal) (m : WorldMachine) → Stands (setup_of first) t config u W m
      → IsFollowing nat_cmp m → (msg : Message) (o : Origin) (prev : Option (LogId ℕ)) (es : List Entry) (told : Option (LogId ℕ)) → Delivered (setup_of first) t W msg → msg.body ≡ body.AppendRequest o prev es told
      → m.core.state.vote ≡ o.session_id.vote → refusals_of_commit nat_cmp told m ≡ None
      → Extra W m.core.state → (let n : WorldMachine = handle_commit_entries nat_cmp entry_meaning config told m in CarriedIn (setup_of first) t u W n × Extra W n.core.state)

  -- A leader's snapshot, and the reply to it
  abbrev pub ByInstall : Type 0
  ByInstall =
      (t : Turn) (config : EngineConfig ℕ) (u : WorldStore) (W : Ideal) (m : WorldMachine) → Stands (setup_of first) t config u W m
      → m.core.output.items ≡ [] → (msg : Message) (o : Origin) (snapshot : WorldSnapshot) → Delivered (setup_of first) t W msg → msg.body ≡ body.SnapshotRequest o snapshot → refusals_of_install nat_cmp config o.session_id.vote snapshot.meta m ≡ None
      → Extra W m.core.state → (let n : WorldMachine = handle_install_full_snapshot nat_cmp entry_meaning config o.session_id.vote snapshot reply_token t.moment m in CarriedIn (setup_of first) t u W n × Extra W n.core.state)

  -- it is never refused for what the node has
  abbrev pub PlainInstall : Type 0
  PlainInstall =
      (t : Turn) (config : EngineConfig ℕ) (u : WorldStore) (W : Ideal) (m : WorldMachine) → Stands (setup_of first) t config u W m
      → (msg : Message) (o : Origin) (snapshot : WorldSnapshot) → Delivered (setup_of first) t W msg → msg.body ≡ body.SnapshotRequest o snapshot
      → Extra W m.core.state → IsPlain (refusals_of_install nat_cmp config o.session_id.vote snapshot.meta m)

  -- A snapshot is to be built
  abbrev pub ByTrigger : Type 0
  ByTrigger =
      (t : Turn) (config : EngineConfig ℕ) (u : WorldStore) (W : Ideal) (m : WorldMachine) → Stands (setup_of first) t config u W m
      → Extra W m.core.state → (let n : WorldMachine = on_core trigger_snapshot m in CarriedIn (setup_of first) t u W n × Extra W n.core.state)

  -- the log is purged up to an index
  abbrev pub ByPurge : Type 0
  ByPurge =
      (t : Turn) (config : EngineConfig ℕ) (u : WorldStore) (W : Ideal) (m : WorldMachine) → Stands (setup_of first) t config u W m
      → (i : ℕ) → Extra W m.core.state → (let n : WorldMachine = trigger_purge_log nat_cmp i m in CarriedIn (setup_of first) t u W n × Extra W n.core.state)

  -- The calls of a leader. Values are proposed under the state's vote
  abbrev pub ByPropose : Type 0
  ByPropose =
      (t : Turn) (config : EngineConfig ℕ) (u : WorldStore) (W : Ideal) (m : WorldMachine) → Stands (setup_of first) t config u W m
      → (values : List Value) (l : WorldLeader) → m.leader ≡ Some l → is_eq (vote_cmp nat_cmp l.vote m.core.state.vote) ≡ true → refusals_of_propose (length (map value_entry values)) (led_of l m.core.state m.core.output) ≡ None
      → Extra W m.core.state → (let n : WorldMachine = leading m (leader_append_entries nat_cmp entry_meaning config (map value_entry values) (led_of l m.core.state m.core.output)) in CarriedIn (setup_of first) t u W n × Extra W n.core.state)

  -- A membership is proposed, where it may be
  abbrev pub ByMembership : Type 0
  ByMembership =
      (t : Turn) (config : EngineConfig ℕ) (u : WorldStore) (W : Ideal) (m : WorldMachine) → Stands (setup_of first) t config u W m
      → (e : Entry) (members : Members ℕ (Unit {0})) → members_of e.payload ≡ Some members → (l : WorldLeader) → m.leader ≡ Some l
      → MayPropose nat_cmp entry_meaning (led_of l m.core.state m.core.output) (e ∷ []) → refusals_of_propose 1 (led_of l m.core.state m.core.output) ≡ None
      → Extra W m.core.state → (let n : WorldMachine = leading m (leader_append_entries nat_cmp entry_meaning config (e ∷ []) (led_of l m.core.state m.core.output)) in CarriedIn (setup_of first) t u W n × Extra W n.core.state)

  -- a leader that is no member any more steps down
  abbrev pub ByStepDown : Type 0
  ByStepDown =
      (t : Turn) (config : EngineConfig ℕ) (u : WorldStore) (W : Ideal) (m : WorldMachine) → Stands (setup_of first) t config u W m
      → (l : WorldLeader) → m.leader ≡ Some l → refusals_of_step_down nat_cmp config m ≡ None
      → Extra W m.core.state → (let n : WorldMachine = leader_step_down nat_cmp entry_meaning config m in CarriedIn (setup_of first) t u W n × Extra W n.core.state)

  -- heartbeats
  abbrev pub ByHeartbeat : Type 0
  ByHeartbeat =
      (t : Turn) (config : EngineConfig ℕ) (u : WorldStore) (W : Ideal) (m : WorldMachine) → Stands (setup_of first) t config u W m
      → (l : WorldLeader) → m.leader ≡ Some l
      → Extra W m.core.state → (let n : WorldMachine = leading m (initiate_replication nat_cmp config true (led_of l m.core.state m.core.output)) in CarriedIn (setup_of first) t u W n × Extra W n.core.state)

  -- a reply of another node, or the failure of what it was sent
  abbrev pub ByProgress : Type 0
  ByProgress =
      (t : Turn) (config : EngineConfig ℕ) (u : WorldStore) (W : Ideal) (m : WorldMachine) → Stands (setup_of first) t config u W m
      → (l : WorldLeader) → m.leader ≡ Some l → (target : ℕ) (id : RequestId) (reply : Result (ReplicationResult ℕ) (Unit {0})) → target ≢ t.id
      → refusals_of_entry nat_cmp target (λ e. refusals_of_result nat_cmp m.core.state e id reply) l ≡ None → ReplyIs W target l.vote reply
      → Extra W m.core.state → (let n : WorldMachine = leading m (update_progress nat_cmp config target id reply (led_of l m.core.state m.core.output)) in CarriedIn (setup_of first) t u W n × Extra W n.core.state)

  -- a higher vote in a reply
  abbrev pub ByHigherVote : Type 0
  ByHigherVote =
      (t : Turn) (config : EngineConfig ℕ) (u : WorldStore) (W : Ideal) (m : WorldMachine) → Stands (setup_of first) t config u W m
      → m.core.output.items ≡ [] → (v : Vote ℕ) → VoteTold v W → refusals_of_update_vote nat_cmp config (as_uncommitted v) m ≡ None
      → Extra W m.core.state → (let n : WorldMachine = update_vote nat_cmp entry_meaning config (as_uncommitted v) t.moment m in CarriedIn (setup_of first) t u W n × Extra W n.core.state)

  -- The calls of feeds, with commands queued behind. The node's own grant, once its vote is stored
  abbrev pub ByOwnGrant : Type 0
  ByOwnGrant =
      (t : Turn) (config : EngineConfig ℕ) (u : WorldStore) (W : Ideal) (m : WorldMachine) → Stands (setup_of first) t config u W m
      → (v : Vote ℕ) (c : WorldCandidate) → m.candidate ≡ Some c → is_eq (vote_cmp nat_cmp c.vote v) ≡ true → refusals_of_vote_resp nat_cmp config config.id (own_grant v) m ≡ None
      → Extra W m.core.state → (let n : WorldMachine = handle_vote_resp nat_cmp entry_meaning config config.id (own_grant v) t.moment m in CarriedIn (setup_of first) t u W n × Extra W n.core.state)

  -- what the leader's own log holds, once entries under its vote are stored
  abbrev pub ByOwnLog : Type 0
  ByOwnLog =
      (t : Turn) (config : EngineConfig ℕ) (u : WorldStore) (W : Ideal) (m : WorldMachine) → Stands (setup_of first) t config u W m
      → (x : Option (LogId ℕ)) (l : WorldLeader) → m.leader ≡ Some l → fits nat_cmp m.core.state.ids m.core.state.purged x ≡ true
      → Extra W m.core.state → (let n : WorldMachine = leading m (update_local_progress nat_cmp config x (led_of l m.core.state m.core.output)) in CarriedIn (setup_of first) t u W n × Extra W n.core.state)

  -- An engine without leader and candidate starts
  abbrev pub ByStartup : Type 0
  ByStartup =
      (t : Turn) (config : EngineConfig ℕ) (u : WorldStore) (W : Ideal) (m : WorldMachine) → Stands (setup_of first) t config u W m
      → m.candidate ≡ None → refusals_of_startup nat_cmp config m ≡ None
      → Extra W m.core.state → (let n : WorldMachine = startup nat_cmp entry_meaning config m in CarriedIn (setup_of first) t u W n × Extra W n.core.state)

  -- what else holds of the state that a store gives to a start
  abbrev pub ExtraStarted : Type 0
  ExtraStarted =
      (t : Turn) (config : EngineConfig ℕ) (saved : Bool) (u : WorldStore) (W : Ideal)
      → Stands (setup_of first) t config (restarted nat_cmp entry_meaning saved u) W (idle (started nat_cmp entry_meaning saved u)) → Extra W (started nat_cmp entry_meaning saved u)

  -- all of these
  pub record CallLaws : Type 0 where
    pub by_initialize : ByInitialize
    pub by_elect : ByElect
    pub by_vote_request : ByVoteRequest
    pub by_vote_reply : ByVoteReply
    pub by_append : ByAppend
    pub fits_append : FitsAppend
    pub by_commit : ByCommit
    pub by_install : ByInstall
    pub plain_install : PlainInstall
    pub by_trigger : ByTrigger
    pub by_purge : ByPurge
    pub by_propose : ByPropose
    pub by_membership : ByMembership
    pub by_step_down : ByStepDown
    pub by_heartbeat : ByHeartbeat
    pub by_progress : ByProgress
    pub by_higher_vote : ByHigherVote
    pub by_own_grant : ByOwnGrant
    pub by_own_log : ByOwnLog
    pub by_startup : ByStartup
    -- what else holds goes on through deeds, holds once a snapshot is built, and holds of a started and of a new engine
    pub extra_on : (W V : Ideal) (st : WorldState) → Does (setup_of first) W V → Extra W st → Extra V st
    pub extra_finished : (W : Ideal) (config : EngineConfig ℕ) (meta : SnapshotMeta ℕ (Unit {0})) (m : WorldMachine) → Extra W m.core.state → Extra W (finish_building_snapshot nat_cmp config meta m).core.state
    pub extra_started : ExtraStarted
    pub extra_new : Extra (stores.empty (setup_of first)) (empty 0)
