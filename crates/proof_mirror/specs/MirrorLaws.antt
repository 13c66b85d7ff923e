-- The laws of stores and engines, for the step of each call: pending before, with the named conditions, gives pending
-- after. Where a call may append after other entries, the engine is sound, and the call isn't refused.
use Rattle.std.specs.Prelude.{◌≡◌, ◌≤◌, ℕ, Bool, true, false, List, ◌∷◌, Option, None, Some, IfSome, Result, length, map, take}
use Rattle.std.specs.declared.cmp.Ordering.{Ordering}
use Rattle.std.specs.Ordering.{is_eq}
use Rattle.raft_state.specs.declared.config.RaftEntry
use Rattle.raft_state.specs.declared.ids.LogId.{LogId}
use Rattle.raft_state.specs.declared.ids.Vote.{Vote}
use Rattle.raft_state.specs.declared.membership.SnapshotMeta.{SnapshotMeta}
use Rattle.raft_state.specs.declared.membership.StoredMembership.{StoredMembership}
use Rattle.raft_state.specs.declared.state.RaftState.{RaftState}
use Rattle.raft_state.specs.Fits.{fits}
use Rattle.raft_state.specs.Invariants.{IsSoundState}
use Rattle.raft_state.specs.Order.{next, vote_cmp}
use Rattle.raft_state.specs.State.{append_membership, empty, has_log_id, is_leader}
use Rattle.raft_progress_entry.specs.declared.entry.ProgressEntry.{ProgressEntry}
use Rattle.raft_command.specs.declared.command.Command.{Command}
use Rattle.raft_command.specs.declared.config.EngineConfig.{EngineConfig}
use Rattle.raft_command.specs.declared.message.Snapshot.{Snapshot}
use Rattle.raft_command.specs.declared.message.Token.{Token}
use Rattle.raft_command.specs.declared.message.VoteRequest.{VoteRequest}
use Rattle.raft_command.specs.declared.message.VoteResponse.{VoteResponse}
use Rattle.raft_command.specs.declared.replication.ReplicationResult.{ReplicationResult}
use Rattle.raft_command.specs.declared.replication.RequestId.{RequestId}
use Rattle.raft_steps.specs.Refusals.{blank_is_at_end, refusals_of_do_append, refusals_of_initialize, refusals_of_lead, refusals_of_propose, refusals_of_update_vote, refusals_of_vote_resp}
use Rattle.raft_steps.specs.Conditions.{MayAppend}
use Rattle.raft_steps.specs.InstallRefusals.{refusals_of_install, refusals_of_install_core}
use Rattle.raft_steps.specs.Engine.{elect, initialize, handle_vote_resp}
use Rattle.raft_progress_entry.specs.Entry.{refusals_of_conflicted}
use Rattle.raft_steps.specs.FollowingHandler.{memberships_in, holds_previous, do_append_entries, ensure_log_consecutive, commit_target, commit_entries}
use Rattle.raft_steps.specs.FollowingHandler as following
use Rattle.raft_steps.specs.Installs.{install_full_snapshot, handle_install_full_snapshot}
use Rattle.raft_steps.specs.Invariants.{IsSound, IsSoundLed}
use Rattle.raft_proposer.specs.Leader.{assigned}
use Rattle.raft_steps.specs.LeaderHandler.{leader_append_entries}
use Rattle.raft_steps.specs.LogHandler.{update_purge_upto, schedule_policy_based_purge, purge_log, try_purge_log}
use Rattle.raft_steps.specs.Parts.{Core, Led, Machine, with_state}
use Rattle.raft_steps.specs.ReplicationHandler.{rebuild_progresses, rebuild_replication_streams, initiate_replication, append_membership_led, try_commit_quorum_accepted, update_local_progress}
use Rattle.raft_steps.specs.Replies.{update_leader_clock, update_conflicting, update_matching, update_success_progress, update_progress}
use Rattle.raft_steps.specs.ReplyRefusals.{refusals_of_entry, refusals_of_acknowledged, refusals_of_answer, refusals_of_result}
use Rattle.raft_steps.specs.RequestRefusals.{refusals_of_append, refusals_of_append_core, refusals_of_follow, refusals_of_vote_req, is_missing}
use Rattle.raft_steps.specs.Requests.{handle_vote_req, follow, append_entries, handle_append_entries, handle_commit_entries}
use Rattle.raft_steps.specs.ServerStateHandler.{update_role}
use Rattle.raft_steps.specs.SnapshotCalls.{handle_begin_receiving_snapshot, purge_where_free, trigger_purge_log, finish_building_snapshot}
use Rattle.raft_steps.specs.SnapshotHandler.{trigger_snapshot, is_newer_snapshot, update_snapshot}
use Rattle.raft_steps.specs.Starts.{refusals_of_step_down, startup, leader_step_down}
use Rattle.raft_steps.specs.VoteHandler.{become_following, become_leader, rejects_vote, update_internal_server_state, update_vote}
use Rattle.raft_store.specs.Store.{Store, whole, exec, exec_all, no_store}
use Rattle.raft_store.specs.Mirror.{Tells}
use Rattle.proof_mirror.specs.Ready.{Shaped, Ordered, Fits, Ready, Marks, InStep, Awaits, Pending, PendingLed, PendingIn, KnowsLog, CommitFits, LeavesMembership, AppendFits, SnapshotTells}
use Rattle.raft_store.specs.Restart.{restarted, started}

module _ {NID N E S : Type 0} (C D R T : Type 0) (cmp : NID → NID → Ordering) (entry : RaftEntry.Ghosts E NID N) (entries_in : S → List E) where
  -- elections
  pub record ElectionsPend : Type 0 where
    pub by_update_role : (config : EngineConfig NID) (t : Store NID N E) (c : Core C NID N E D R S) → Pending cmp entry entries_in t c → Pending cmp entry entries_in t (update_role cmp config c)
    pub by_become_leader : (config : EngineConfig NID) (t : Store NID N E) (m : Machine C NID N E D R S) → PendingIn cmp entry entries_in t m → IsSound cmp config m → is_leader cmp m.core.state config.id ≡ true → refusals_of_lead cmp config m ≡ None
        → PendingIn cmp entry entries_in t (become_leader cmp entry config m)
    pub by_become_following : (config : EngineConfig NID) (t : Store NID N E) (m : Machine C NID N E D R S) → Pending cmp entry entries_in t m.core → PendingIn cmp entry entries_in t (become_following cmp config m)
    pub by_internal : (config : EngineConfig NID) (t : Store NID N E) (m : Machine C NID N E D R S) → PendingIn cmp entry entries_in t m → IsSound cmp config m → refusals_of_lead cmp config m ≡ None
        → PendingIn cmp entry entries_in t (update_internal_server_state cmp entry config m)
    pub by_update_vote : (config : EngineConfig NID) (t : Store NID N E) (v : Vote NID) (now : ℕ) (m : Machine C NID N E D R S) → PendingIn cmp entry entries_in t m → IsSound cmp config m → refusals_of_update_vote cmp config v m ≡ None
        → PendingIn cmp entry entries_in t (update_vote cmp entry config v now m)
    pub by_elect : (config : EngineConfig NID) (t : Store NID N E) (now : ℕ) (m : Machine C NID N E D R S) → PendingIn cmp entry entries_in t m → PendingIn cmp entry entries_in t (elect cmp entry config now m)
    pub by_handle_vote_req : (config : EngineConfig NID) (t : Store NID N E) (req : VoteRequest NID) (now : ℕ) (m : Machine C NID N E D R S) → PendingIn cmp entry entries_in t m → IsSound cmp config m → refusals_of_vote_req cmp config req now m ≡ None
        → PendingIn cmp entry entries_in t (handle_vote_req cmp entry config req now m)
    pub by_handle_vote_resp : (config : EngineConfig NID) (t : Store NID N E) (target : NID) (resp : VoteResponse NID) (now : ℕ) (m : Machine C NID N E D R S) → PendingIn cmp entry entries_in t m → IsSound cmp config m → refusals_of_vote_resp cmp config target resp m ≡ None
        → PendingIn cmp entry entries_in t (handle_vote_resp cmp entry config target resp now m)
    pub by_step_down : (config : EngineConfig NID) (t : Store NID N E) (m : Machine C NID N E D R S) → PendingIn cmp entry entries_in t m → IsSound cmp config m → refusals_of_step_down cmp config m ≡ None
        → PendingIn cmp entry entries_in t (leader_step_down cmp entry config m)

  -- a leader proposes at most one membership at a time, under the state's vote; commits are ids of the log; no reply is
  -- refused
  pub record LeadersPend : Type 0 where
    pub by_leader_append : (config : EngineConfig NID) (t : Store NID N E) (es : List E) (l : Led C NID N E D R S) → PendingLed cmp entry entries_in t l → IsSoundLed cmp config l
        → is_eq (vote_cmp cmp l.leader.vote l.core.state.vote) ≡ true → refusals_of_propose (length es) l ≡ None → length (memberships_in entry (assigned entry l.leader es)) ≤ 1 → PendingLed cmp entry entries_in t (leader_append_entries cmp entry config es l)
    pub by_append_membership : (config : EngineConfig NID) (t : Store NID N E) (m : StoredMembership NID N) (l : Led C NID N E D R S) → Pending cmp entry entries_in t (with_state l.core (append_membership l.core.state m)) → KnowsLog l.core.state.ids l.leader
        → PendingLed cmp entry entries_in t (append_membership_led cmp config m l)
    pub by_rebuild_progresses : (t : Store NID N E) (l : Led C NID N E D R S) → PendingLed cmp entry entries_in t l → PendingLed cmp entry entries_in t (rebuild_progresses cmp l)
    pub by_clock : (t : Store NID N E) (target : NID) (time : ℕ) (l : Led C NID N E D R S) → PendingLed cmp entry entries_in t l → PendingLed cmp entry entries_in t (update_leader_clock cmp target time l)
    pub by_rebuild : (config : EngineConfig NID) (t : Store NID N E) (l : Led C NID N E D R S) → PendingLed cmp entry entries_in t l → PendingLed cmp entry entries_in t (rebuild_replication_streams cmp config l)
    pub by_initiate : (config : EngineConfig NID) (t : Store NID N E) (force : Bool) (l : Led C NID N E D R S) → PendingLed cmp entry entries_in t l → PendingLed cmp entry entries_in t (initiate_replication cmp config force l)
    pub by_try_commit : (config : EngineConfig NID) (t : Store NID N E) (x : Option (LogId NID)) (c : Core C NID N E D R S) → Pending cmp entry entries_in t c → IfSome x (CommitFits cmp c.state) → Pending cmp entry entries_in t (try_commit_quorum_accepted cmp config x c)
    pub by_local_progress : (config : EngineConfig NID) (t : Store NID N E) (x : Option (LogId NID)) (l : Led C NID N E D R S) → Pending cmp entry entries_in t l.core → IsSoundLed cmp config l → fits cmp l.core.state.ids l.core.state.purged x ≡ true
        → PendingLed cmp entry entries_in t (update_local_progress cmp config x l)
    pub by_matching : (config : EngineConfig NID) (t : Store NID N E) (target : NID) (number : ℕ) (x : Option (LogId NID)) (l : Led C NID N E D R S) → Pending cmp entry entries_in t l.core
        → refusals_of_entry cmp target (λ e. refusals_of_acknowledged cmp l.core.state e number x) l.leader ≡ None → IsSoundLed cmp config l → PendingLed cmp entry entries_in t (update_matching cmp config target x l)
    pub by_conflicting : (config : EngineConfig NID) (t : Store NID N E) (target : NID) (number : Option ℕ) (x : LogId NID) (l : Led C NID N E D R S) → Pending cmp entry entries_in t l.core
        → refusals_of_entry {N = N} cmp target (λ e. refusals_of_conflicted e number x.index) l.leader ≡ None → IsSoundLed cmp config l → PendingLed cmp entry entries_in t (update_conflicting cmp target number x l)
    pub by_success : (config : EngineConfig NID) (t : Store NID N E) (target : NID) (id : RequestId) (answer : ReplicationResult NID) (l : Led C NID N E D R S) → Pending cmp entry entries_in t l.core
        → refusals_of_entry cmp target (λ e. refusals_of_answer cmp l.core.state e id answer) l.leader ≡ None → IsSoundLed cmp config l → PendingLed cmp entry entries_in t (update_success_progress cmp config target id answer l)
    pub by_progress : (config : EngineConfig NID) (t : Store NID N E) (target : NID) (id : RequestId) (reply : Result (ReplicationResult NID) T) (l : Led C NID N E D R S) → Pending cmp entry entries_in t l.core
        → refusals_of_entry cmp target (λ e. refusals_of_result cmp l.core.state e id reply) l.leader ≡ None → IsSoundLed cmp config l → PendingLed cmp entry entries_in t (update_progress cmp config target id reply l)

  -- a follower: a truncation leaves the committed membership, a commit ends at an id of the log, and a snapshot's meta
  -- describes its entries
  pub record FollowersPend : Type 0 where
    pub by_do_append : (config : EngineConfig NID) (t : Store NID N E) (es : List E) (c : Core C NID N E D R S) → Pending cmp entry entries_in t c → IsSoundState cmp c.state → MayAppend cmp entry c.state es
        → refusals_of_do_append entry es c ≡ None → Pending cmp entry entries_in t (do_append_entries cmp entry config es c)
    pub by_ensure_log_consecutive : (config : EngineConfig NID) (t : Store NID N E) (prev : Option (LogId NID)) (c : Core C NID N E D R S) → Pending cmp entry entries_in t c
        → IfSome prev (λ x. has_log_id cmp c.state x ≡ false → LeavesMembership c.state x.index) → Pending cmp entry entries_in t (ensure_log_consecutive cmp config prev c)
    pub by_following_append : (config : EngineConfig NID) (t : Store NID N E) (prev : Option (LogId NID)) (es : List E) (c : Core C NID N E D R S) → Pending cmp entry entries_in t c → IsSoundState cmp c.state → holds_previous cmp c.state prev ≡ true
        → refusals_of_append_core cmp prev (map entry.id_of es) c ≡ None → AppendFits cmp entry c.state prev es → Pending cmp entry entries_in t (following.append_entries cmp entry config prev es c)
    pub by_follow : (config : EngineConfig NID) (t : Store NID N E) (prev : Option (LogId NID)) (es : List E) (c : Core C NID N E D R S) → Pending cmp entry entries_in t c → IsSoundState cmp c.state
        → refusals_of_follow cmp c.state c.state.vote prev (map entry.id_of es) ≡ None → AppendFits cmp entry c.state prev es → Pending cmp entry entries_in t (follow cmp entry config prev es c)
    pub by_append_entries : (config : EngineConfig NID) (t : Store NID N E) (v : Vote NID) (prev : Option (LogId NID)) (es : List E) (now : ℕ) (m : Machine C NID N E D R S) → PendingIn cmp entry entries_in t m → IsSound cmp config m
        → refusals_of_append cmp config v prev (map entry.id_of es) m ≡ None → (rejects_vote cmp m.core.state v ≡ false → AppendFits cmp entry (update_vote cmp entry config v now m).core.state prev es) → PendingIn cmp entry entries_in t (append_entries cmp entry config v prev es now m)
    pub by_handle_append_entries : (config : EngineConfig NID) (t : Store NID N E) (v : Vote NID) (prev : Option (LogId NID)) (es : List E) (token : Option Token) (now : ℕ) (m : Machine C NID N E D R S) → PendingIn cmp entry entries_in t m → IsSound cmp config m
        → refusals_of_append cmp config v prev (map entry.id_of es) m ≡ None → (rejects_vote cmp m.core.state v ≡ false → AppendFits cmp entry (update_vote cmp entry config v now m).core.state prev es) → PendingIn cmp entry entries_in t (handle_append_entries cmp entry config v prev es token now m)
    pub by_commit_entries : (config : EngineConfig NID) (t : Store NID N E) (x : Option (LogId NID)) (c : Core C NID N E D R S) → Pending cmp entry entries_in t c → IfSome (commit_target cmp c.state x) (CommitFits cmp c.state) → Pending cmp entry entries_in t (commit_entries cmp config x c)
    pub by_handle_commit_entries : (config : EngineConfig NID) (t : Store NID N E) (x : Option (LogId NID)) (m : Machine C NID N E D R S) → PendingIn cmp entry entries_in t m → IfSome (commit_target cmp m.core.state x) (CommitFits cmp m.core.state)
        → PendingIn cmp entry entries_in t (handle_commit_entries cmp entry config x m)
    pub by_install : (config : EngineConfig NID) (t : Store NID N E) (snapshot : Snapshot C NID N E D R S) (c : Core C NID N E D R S) → Pending cmp entry entries_in t c → IsSoundState cmp c.state
        → refusals_of_install_core cmp snapshot.meta c ≡ None → SnapshotTells cmp entry snapshot.meta (entries_in snapshot.snapshot)
        → Pending cmp entry entries_in t (install_full_snapshot cmp config snapshot c)
    pub by_handle_install : (config : EngineConfig NID) (t : Store NID N E) (v : Vote NID) (snapshot : Snapshot C NID N E D R S) (token : Token) (now : ℕ) (m : Machine C NID N E D R S) → PendingIn cmp entry entries_in t m
        → IsSound cmp config m → refusals_of_install cmp config v snapshot.meta m ≡ None → SnapshotTells cmp entry snapshot.meta (entries_in snapshot.snapshot)
        → PendingIn cmp entry entries_in t (handle_install_full_snapshot cmp entry config v snapshot token now m)

  -- snapshots, purges and starts
  pub record SnapshotsPend : Type 0 where
    pub by_trigger_snapshot : (t : Store NID N E) (c : Core C NID N E D R S) → Pending cmp entry entries_in t c → Pending cmp entry entries_in t (trigger_snapshot c)
    pub by_purge_log : (t : Store NID N E) (c : Core C NID N E D R S) → Pending cmp entry entries_in t c → IsSoundState cmp c.state → Pending cmp entry entries_in t (purge_log cmp c)
    pub by_try_purge_log : (t : Store NID N E) (rows : List (NID × ProgressEntry NID)) (c : Core C NID N E D R S) → Pending cmp entry entries_in t c → IsSoundState cmp c.state → Pending cmp entry entries_in t (try_purge_log cmp rows c)
    pub by_purge_where_free : (config : EngineConfig NID) (t : Store NID N E) (m : Machine C NID N E D R S) → PendingIn cmp entry entries_in t m → IsSound cmp config m → PendingIn cmp entry entries_in t (purge_where_free cmp m)
    pub by_trigger_purge : (config : EngineConfig NID) (t : Store NID N E) (i : ℕ) (m : Machine C NID N E D R S) → PendingIn cmp entry entries_in t m → IsSound cmp config m → PendingIn cmp entry entries_in t (trigger_purge_log cmp i m)
    pub by_update_purge_upto : (t : Store NID N E) (x : Option (LogId NID)) (c : Core C NID N E D R S) → Pending cmp entry entries_in t c → Marks (record c.state { purge_to = x }) → Pending cmp entry entries_in t (update_purge_upto x c)
    pub by_schedule : (config : EngineConfig NID) (t : Store NID N E) (c : Core C NID N E D R S) → Pending cmp entry entries_in t c → Pending cmp entry entries_in t (schedule_policy_based_purge cmp config c)
    pub by_update_snapshot : (t : Store NID N E) (meta : SnapshotMeta NID N) (c : Core C NID N E D R S) → is_newer_snapshot cmp c.state meta ≡ true → Pending cmp entry entries_in t (with_state c (record c.state { snap = meta })) → Pending cmp entry entries_in t (update_snapshot cmp meta c)
    pub by_finish : (config : EngineConfig NID) (t : Store NID N E) (meta : SnapshotMeta NID N) (m : Machine C NID N E D R S) → is_newer_snapshot cmp m.core.state meta ≡ true
        → Pending cmp entry entries_in t (with_state m.core (record m.core.state { snap = meta })) → IsSound cmp config m
        → fits cmp m.core.state.ids m.core.state.purged meta.last_log_id ≡ true → PendingIn cmp entry entries_in t (finish_building_snapshot cmp config meta m)
    pub by_finish_older : (config : EngineConfig NID) (t : Store NID N E) (meta : SnapshotMeta NID N) (m : Machine C NID N E D R S) → is_newer_snapshot cmp m.core.state meta ≡ false → PendingIn cmp entry entries_in t m
        → PendingIn cmp entry entries_in t (finish_building_snapshot cmp config meta m)
    pub by_begin_receiving : (t : Store NID N E) (token : Token) (m : Machine C NID N E D R S) → PendingIn cmp entry entries_in t m → PendingIn cmp entry entries_in t (handle_begin_receiving_snapshot token m)
    pub by_initialize : (config : EngineConfig NID) (t : Store NID N E) (first : NID) (e : E) (now : ℕ) (m : Machine C NID N E D R S) → PendingIn cmp entry entries_in t m → m.leader ≡ None
        → refusals_of_initialize cmp entry config first e m ≡ None → PendingIn cmp entry entries_in t (initialize cmp entry config first e now m)
    pub by_startup : (config : EngineConfig NID) (t : Store NID N E) (m : Machine C NID N E D R S) → PendingIn cmp entry entries_in t m → IsSound cmp config m → blank_is_at_end cmp config m.core.state.vote m ≡ false
        → PendingIn cmp entry entries_in t (startup cmp entry config m)

  -- what happens to the store: a command is executed, a stop, a start, a new node, and a built snapshot; a started
  -- state meets what a new engine requires
  pub record StoresPend : Type 0 where
    pub by_command : (t : Store NID N E) (c : Command C NID N E D R S) (cs : List (Command C NID N E D R S)) (s : RaftState NID N) → Awaits cmp entry entries_in t (c ∷ cs) s
        → Fits cmp entry entries_in t c × Awaits cmp entry entries_in (exec entry entries_in c t) cs s
    pub order : (t : Store NID N E) (c : Command C NID N E D R S) → Shaped entry t → Ordered cmp entry t → Fits cmp entry entries_in t c → Ordered cmp entry (exec entry entries_in c t)
    pub at_stop : (t : Store NID N E) (cs : List (Command C NID N E D R S)) (j : ℕ) → Ready cmp entry entries_in t cs → Ordered cmp entry t
        → Shaped entry (exec_all entry entries_in t (take j cs)) × Ordered cmp entry (exec_all entry entries_in t (take j cs))
    pub at_start : (saved : Bool) (t : Store NID N E) → Shaped entry t → Ordered cmp entry t
        → InStep entry (restarted cmp entry saved t) (started cmp entry saved t) × Ordered cmp entry (restarted cmp entry saved t) × IsSoundState cmp (started cmp entry saved t)
    pub of_new : (first : NID) → InStep entry (no_store first) (empty first) × Ordered cmp entry (no_store {N = N} first)
    pub by_built : (t : Store NID N E) (s : RaftState NID N) (meta : SnapshotMeta NID N) (j : ℕ) → InStep entry t s → Ordered cmp entry t → IsSoundState cmp s → length t.snap ≤ j → j ≤ next s.committed
        → Tells entry meta (take j (whole t))
        → InStep entry (record t { meta = meta; snap = take j (whole t) }) (record s { snap = meta }) × Ordered cmp entry (record t { meta = meta; snap = take j (whole t) })

  -- which of these conditions a sound engine, and a call that isn't refused, meets
  pub record SoundMeets : Type 0 where
    pub leader : (config : EngineConfig NID) (m : Machine C NID N E D R S) → IsSound cmp config m → IfSome m.leader (KnowsLog m.core.state.ids)
    pub commit : (s : RaftState NID N) → IsSoundState cmp s → (x : LogId NID) → fits cmp s.ids s.purged (Some x) ≡ true → CommitFits cmp s x
    pub held : (s : RaftState NID N) → IsSoundState cmp s → (x : Option (LogId NID)) → is_missing cmp s x ≡ false → IfSome x (CommitFits cmp s)

module _ {NID N E : Type 0} (C D R S T : Type 0) (cmp : NID → NID → Ordering) (entry : RaftEntry.Ghosts E NID N) where
  -- all of these, whatever a snapshot's data
  pub record StoresMirror : Type 0 where
    pub elections : (entries_in : S → List E) → ElectionsPend C D R T cmp entry entries_in
    pub leaders : (entries_in : S → List E) → LeadersPend C D R T cmp entry entries_in
    pub followers : (entries_in : S → List E) → FollowersPend C D R T cmp entry entries_in
    pub snapshots : (entries_in : S → List E) → SnapshotsPend C D R T cmp entry entries_in
    pub stores : (entries_in : S → List E) → StoresPend C D R T cmp entry entries_in
    pub sound : (entries_in : S → List E) → SoundMeets C D R T cmp entry entries_in
