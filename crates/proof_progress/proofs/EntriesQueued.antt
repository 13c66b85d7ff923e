-- What the commands that calls queue have in common, if those of leading have it, and those that bring entries of a kind.
use Rattle.std.specs.Prelude.{List, None, Option, Result, Some, [], false, if◌then◌else◌, length, map, min, nat_lt, refl, ℕ, ◌+◌, ◌==◌, ◌∷◌, ◌≡◌}
use Rattle.std.specs.Ordering.{is_eq, is_gt, is_lt, nat_cmp}
use Rattle.proof_deeds.specs.raft_state.declared.ids.LogId.{LogId}
use Rattle.proof_deeds.specs.raft_state.declared.ids.Vote.{Vote}
use Rattle.proof_deeds.specs.raft_state.declared.membership.SnapshotMeta.{SnapshotMeta}
use Rattle.proof_deeds.specs.raft_state.Log.{at, last}
use Rattle.proof_deeds.specs.raft_state.Order.{last_id_cmp, leader_id_cmp, next, vote_cmp}
use Rattle.proof_deeds.specs.raft_state.State.{accept, by_last_leader, has_log_id, is_leader, is_leading, purge}
use Rattle.proof_deeds.specs.raft_progress_entry.declared.entry.ProgressEntry.{ProgressEntry}
use Rattle.proof_deeds.specs.raft_progress.Quorum.{is_quorum}
use Rattle.proof_deeds.specs.raft_command.declared.command.Command.TheVariants.{AppendInputEntries, DeleteConflictLog, PurgeLog, Respond, SaveVote, SendVote, StateMachine}
use Rattle.proof_deeds.specs.raft_command.declared.config.EngineConfig.{EngineConfig}
use Rattle.proof_deeds.specs.raft_command.declared.message.Token.{Token}
use Rattle.proof_deeds.specs.raft_command.declared.message.VoteRequest.{VoteRequest}
use Rattle.proof_deeds.specs.raft_command.declared.message.VoteResponse.{VoteResponse}
use Rattle.proof_deeds.specs.raft_command.declared.replication.ReplicationResult.{ReplicationResult}
use Rattle.proof_deeds.specs.raft_command.declared.replication.RequestId.{RequestId}
use Rattle.proof_deeds.specs.raft_command.Message.{append_response}
use Rattle.proof_deeds.specs.raft_command.Push.{ordered, with_command}
use Rattle.proof_deeds.specs.raft_proposer.Candidate.{candidate_of, grant_by, into_leader, is_granted}
use Rattle.proof_deeds.specs.raft_steps.Engine.{as_uncommitted, default_log_id, elect, handle_vote_resp, initialize, is_granted_to, lead_by_votes, may_establish, take_grant, take_rejection}
use Rattle.proof_deeds.specs.raft_steps.FollowingHandler.{commit_entries, commit_target, do_append_entries, ensure_log_consecutive, holds_previous, is_held, memberships_in, new_entries, truncate_for, with_entries}
use Rattle.proof_deeds.specs.raft_steps.Laws.{QueuesOnly, later}
use Rattle.proof_deeds.specs.raft_steps.LogHandler.{is_target_inflight, purge_log, schedule_policy_based_purge, try_purge_log, update_purge_upto}
use Rattle.proof_deeds.specs.raft_steps.Parts.{leading, on_core, then_command, with_state}
use Rattle.proof_deeds.specs.raft_steps.Refusals.{rows_in}
use Rattle.proof_deeds.specs.raft_steps.Replies.{purge_unless_inflight, take_reply, update_progress}
use Rattle.proof_deeds.specs.raft_steps.ReplicationHandler.{rebuild_replication_streams, update_local_progress}
use Rattle.proof_deeds.specs.raft_steps.Requests.{append_answer, append_entries, follow, handle_append_entries, handle_commit_entries, handle_vote_req, refuses_vote_req}
use Rattle.proof_deeds.specs.raft_steps.ServerStateHandler.{update_role}
use Rattle.proof_deeds.specs.raft_steps.SnapshotCalls.{built, finish_building_snapshot, trigger_purge_log}
use Rattle.proof_deeds.specs.raft_steps.SnapshotHandler.{is_newer_snapshot, trigger_snapshot, update_snapshot}
use Rattle.proof_deeds.specs.raft_steps.Starts.{is_settled, lead_on, leader_step_down, startup}
use Rattle.proof_deeds.specs.raft_steps.VoteHandler.{become_leader, begin_lead, lead_anew, rejects_vote, take_vote, update_internal_server_state, update_vote}
use Rattle.proof_deeds.proofs.raft_steps_proofs.Allowed.{AllowsLeading, commit_by_only, following_only, initiate_only, leader_append_only, local_only, only_here, only_of, only_then, rebuild_only, role_only, trigger_only, truncate_only}
use Rattle.proof_deeds.proofs.raft_steps_proofs.Kept.{either, either_option}
use Rattle.proof_deeds.proofs.raft_steps_proofs.LawsPurge.{reply_only, sends_only}
use Rattle.proof_deeds.specs.raft_store.declared.entry.Entry.{Entry}
use Rattle.proof_deeds.specs.raft_store.declared.entry.Payload.TheVariants.{Blank}
use Rattle.proof_deeds.specs.raft_store.declared.entry.Payload.TheVariants as payload
use Rattle.proof_deeds.specs.raft_store.declared.entry.Value.{Value}
use Rattle.proof_deeds.specs.raft_calls.declared.message.Body.{Body}
use Rattle.proof_deeds.specs.raft_calls.declared.message.Body.TheVariants as body
use Rattle.proof_deeds.specs.raft_store.Entries.{entry_meaning}
use Rattle.proof_deeds.specs.raft_store.Types.{WorldCandidate, WorldCommand, WorldLeader, WorldMachine, WorldPayload, WorldSnapshot}
use Rattle.proof_deeds.specs.raft_calls.Engines.{WorldRespond}
use Rattle.proof_deeds.specs.raft_calls.Feeds.{WorldLed}
use Rattle.proof_deeds.proofs.raft_calls_proofs.Falls.{WorldCore}
use Rattle.std.specs.List.{AllByRecursion, prefix_len}
use Rattle.proof_deeds.specs.raft_command.declared.command.Condition.{Condition}
use Rattle.proof_deeds.specs.raft_command.declared.sm.CommandPayload.TheVariants.{InstallFullSnapshot}
use Rattle.proof_deeds.specs.raft_steps.InstallLaws.{installing}
use Rattle.proof_deeds.specs.raft_steps.Installs.{handle_install_full_snapshot, has_other_at, held_upto, install_full_snapshot, install_upto, installs, replaces_log, truncate_contradicted, with_memberships_of}
use Rattle.proof_deeds.specs.raft_proposer.Leader.{leader_in}
use Rattle.proof_deeds.proofs.Stored.{each_drop}
use Rattle.proof_deeds.specs.raft_command.declared.respond.Respond.TheVariants as respond
use Rattle.proof_deeds.specs.raft_steps.FollowingHandler as following

-- a command brings entries of the kind, or none
abbrev pub BringsIn : (Entry → Type 0) → WorldPayload → Type 0
BringsIn K (InstallFullSnapshot s) = AllByRecursion K s.snapshot
BringsIn K _ = Unit {0}

abbrev pub Brings : (Entry → Type 0) → WorldCommand → Type 0
Brings K (AppendInputEntries v es) = AllByRecursion K es
Brings K (StateMachine c) = BringsIn K c.payload
Brings K _ = Unit {0}

-- no-op entries and values are of the kind
pub record IsCommon (K : Entry → Type 0) : Type 0 where
  pub blank : (x : LogId ℕ) → K (record { log_id = x; payload = Blank })
  pub value : (x : LogId ℕ) (v : Value) → K (record { log_id = x; payload = payload.Value v })

-- the entries of a message are of the kind
abbrev pub BodyOf : (Entry → Type 0) → Body → Type 0
BodyOf K (body.AppendRequest o prev es committed) = AllByRecursion K es
BodyOf K (body.SnapshotRequest o s) = AllByRecursion K s.snapshot
BodyOf K _ = Unit {0}

-- the commands of a node's own steps are so: of leading, requests for votes, replies and purges, and those that store entries of the
-- kind; a no-op entry is of the kind
pub record AllowsOwn (K : Entry → Type 0) (P : WorldCommand → Type 0) : Type 0 where
  pub leads : AllowsLeading P
  pub asks : (r : VoteRequest ℕ) → P (SendVote r)
  pub replies : (when : Option (Condition ℕ)) (r : WorldRespond) → P (Respond when r)
  pub purges : (x : LogId ℕ) → P (PurgeLog x)
  pub stores : (v : Vote ℕ) (es : List Entry) → AllByRecursion K es → P (AppendInputEntries v es)
  pub blank : (x : LogId ℕ) → K (entry_meaning.blank x)

-- and those of a leader's requests: the log is cut, and a snapshot installed
pub record AllowsRequests (K : Entry → Type 0) (P : WorldCommand → Type 0) : Type 0 where
  pub own : AllowsOwn K P
  pub cuts : (x : LogId ℕ) → P (DeleteConflictLog x)
  pub takes : (s : WorldSnapshot) (seq : ℕ) → AllByRecursion K s.snapshot → P (installing s seq)

-- so it is of the commands that bring entries of the kind
pub brings_leading : (K : Entry → Type 0) → AllowsLeading (Brings K)
brings_leading K = record {
  becomes = tt;
  quits = tt;
  saves = λ v. tt;
  rebuilds = λ targets. tt;
  replicates = λ target f. tt;
  tells = λ x. tt;
  commits = λ seq a b. tt;
  builds = λ seq. tt;
}

pub brings_all : (K : Entry → Type 0) → ((x : LogId ℕ) → K (entry_meaning.blank x)) → AllowsRequests K (Brings K)
brings_all K blank = record {
  own = record { leads = brings_leading K; asks = λ r. tt; replies = λ when r. tt; purges = λ x. tt; stores = λ v es k. k; blank = blank };
  cuts = λ x. tt;
  takes = λ s seq k. k;
}

module _ (P : WorldCommand → Type 0) where
  -- a step queues such commands alone
  abbrev pub Only : WorldCore → WorldCore → Type 0
  Only old new = QueuesOnly P old new

  abbrev pub OnlyIn : WorldMachine → WorldMachine → Type 0
  OnlyIn m q = QueuesOnly P m.core q.core

  abbrev pub here : (old new : WorldCore) → new.output.items ≡ old.output.items → Only old new
  here old new e = only_here P old new e

  -- a reply
  pub respond_only : (replies : (when : Option (Condition ℕ)) (r : WorldRespond) → P (Respond when r)) (when : Option (Condition ℕ)) (reply : WorldRespond) (c : WorldCore) → Only c (then_command c (Respond when reply))
  respond_only replies when reply c = only_of P (Respond when reply ∷ []) c _ refl (replies when reply, tt)

  -- purges, and the end of a snapshot's build
  module _ (config : EngineConfig ℕ) (purges : (x : LogId ℕ) → P (PurgeLog x)) where
    pub purge-only : (c : WorldCore) → Only c (purge_log nat_cmp c)
    unfolding purge_log
    purge-only c =
        either_option (Only c) c.state.purge_to c _ (here c c refl)
        (λ x. either (Only c) (is_gt (last_id_cmp nat_cmp (Some x) c.state.purged)) _ _
        (only_of P (PurgeLog x ∷ []) c (record { state = purge nat_cmp c.state x; output = with_command c.output (PurgeLog x) }) refl (purges x, tt)) (here c c refl))

    try_purge-only : (rows : List (ℕ × ProgressEntry ℕ)) (c : WorldCore) → Only c (try_purge_log nat_cmp rows c)
    unfolding try_purge_log
    try_purge-only rows c = either (Only c) (is_target_inflight nat_cmp rows c.state) c (purge_log nat_cmp c) (here c c refl) (purge-only c)

    pub unless-only : (l : WorldLed) → Only l.core (purge_unless_inflight nat_cmp l).core
    unfolding purge_unless_inflight
    unless-only l = try_purge-only l.leader.progress.rows l.core

    pub trigger_purge-only : (i : ℕ) (m : WorldMachine) → OnlyIn m (trigger_purge_log nat_cmp i m)
    unfolding trigger_purge_log
    trigger_purge-only i m =
        either_option (Only m.core) m.core.state.snap.last_log_id m.core _ (here m.core m.core refl)
        (λ x. either (Only m.core) (nat_lt i (next m.core.state.purge_to)) _ _ (here m.core m.core refl)
        (let targeted = update_purge_upto (at m.core.state.ids (min i x.index)) m.core in
        only_then P m.core targeted _ (here m.core targeted refl) (try_purge-only (rows_in m) targeted)))

    recorded-only : (meta : SnapshotMeta ℕ (Unit {0})) (c : WorldCore) → Only c (update_snapshot nat_cmp meta c)
    unfolding update_snapshot
    recorded-only meta c = either (Only c) (is_newer_snapshot nat_cmp c.state meta) _ _ (here c _ refl) (here c c refl)

    schedule-only : (c : WorldCore) → Only c (schedule_policy_based_purge nat_cmp config c)
    unfolding schedule_policy_based_purge
    schedule-only c = here c _ refl

    pub finish-only : (meta : SnapshotMeta ℕ (Unit {0})) (m : WorldMachine) → OnlyIn m (finish_building_snapshot nat_cmp config meta m)
    unfolding finish_building_snapshot
    finish-only meta m =
        let b = built m.core in
        let recorded = update_snapshot nat_cmp meta b in
        let scheduled = schedule_policy_based_purge nat_cmp config recorded in
        either (Only m.core) (is_newer_snapshot nat_cmp b.state meta) _ _
        (only_then P m.core b _ (here m.core b refl)
        (only_then P b recorded _ (recorded-only meta b) (only_then P recorded scheduled _ (schedule-only recorded) (try_purge-only (rows_in m) scheduled))))
        (here m.core b refl)

module _ (K : Entry → Type 0) (P : WorldCommand → Type 0) (allows : AllowsOwn K P) where
  open allows use {leads, asks, replies, purges, stores, blank}

  module _ (config : EngineConfig ℕ) where
    -- votes and elections
    lead_anew-only : (m : WorldMachine) → OnlyIn P m (lead_anew nat_cmp entry_meaning config m)
    unfolding lead_anew begin_lead
    lead_anew-only m =
        let begun : WorldLed = record { leader = leader_in nat_cmp m.core.state.vote m.core.state.em.membership (by_last_leader nat_cmp m.core.state.ids); core = update_role nat_cmp config m.core } in
        let led : WorldLed = rebuild_replication_streams nat_cmp config begun in
        let t : Only P m.core led.core = only_then P m.core begun.core led.core (role_only P nat_cmp config leads m.core) (rebuild_only P nat_cmp config leads begun) in
        either (λ (q : WorldLed). Only P m.core q.core) (is_lt (last_id_cmp nat_cmp begun.leader.last_log_id (Some begun.leader.noop_log_id))) _ _
        (only_then P m.core led.core _ t (leader_append_only P nat_cmp config leads entry_meaning (entry_meaning.blank begun.leader.noop_log_id ∷ []) led (stores _ _ (blank _, tt)))) t

    internal-only : (m : WorldMachine) → OnlyIn P m (update_internal_server_state nat_cmp entry_meaning config m)
    unfolding update_internal_server_state become_leader
    internal-only m =
        either (OnlyIn P m) (is_leader nat_cmp m.core.state config.id) _ _
        (either_option (OnlyIn P m) m.leader _ _ (lead_anew-only m) (λ l. either (OnlyIn P m) (is_eq (leader_id_cmp nat_cmp l.vote.leader_id m.core.state.vote.leader_id)) _ _ (role_only P nat_cmp config leads m.core) (lead_anew-only m)))
        (either (OnlyIn P m) (is_leading nat_cmp m.core.state config.id) _ _ (here P m.core m.core refl) (following_only P nat_cmp config leads m))

    pub update_vote-only : (v : Vote ℕ) (now : ℕ) (m : WorldMachine) → OnlyIn P m (update_vote nat_cmp entry_meaning config v now m)
    unfolding update_vote
    update_vote-only v now m =
        let taken : WorldMachine = on_core (take_vote nat_cmp config v now) m in
        let t : Only P m.core taken.core = either (Only P m.core) (is_gt (vote_cmp nat_cmp v m.core.state.vote)) _ _ (only_of P (SaveVote v ∷ []) m.core _ refl (leads.saves v, tt)) (here P m.core _ refl) in
        either (OnlyIn P m) (rejects_vote nat_cmp m.core.state v) _ _ (here P m.core m.core refl) (only_then P m.core taken.core _ t (internal-only taken))

    pub elect-only : (now : ℕ) (m : WorldMachine) → OnlyIn P m (elect nat_cmp entry_meaning config now m)
    unfolding elect
    elect-only now m =
        let s = m.core.state in
        let v : Vote ℕ = record { leader_id = record { term = s.vote.leader_id.term + 1; node_id = config.id }; committed = false } in
        let standing : WorldMachine = record m { candidate = Some (candidate_of nat_cmp now v (last s.ids) s.em.membership) } in
        let voted = update_vote nat_cmp entry_meaning config v now standing in
        let asked = then_command voted.core (SendVote (record { vote = v; last_log_id = last s.ids })) in
        only_then P m.core voted.core _ (update_vote-only v now standing)
        (only_then P voted.core asked _ (only_of P (SendVote (record { vote = v; last_log_id = last s.ids }) ∷ []) voted.core asked refl (asks _, tt)) (role_only P nat_cmp config leads asked))

    lead_by_votes-only : (c : WorldCandidate) (now : ℕ) (m : WorldMachine) → OnlyIn P m (lead_by_votes nat_cmp entry_meaning config c now m)
    unfolding lead_by_votes
    lead_by_votes-only c now m =
        let l : WorldLeader = into_leader nat_cmp c in
        let begun : WorldLed = record { leader = l; core = m.core } in
        let led = leading (record m { candidate = None }) (rebuild_replication_streams nat_cmp config begun) in
        let voted = update_vote nat_cmp entry_meaning config l.vote now led in
        either (OnlyIn P m) (may_establish nat_cmp m.core.state m.leader c) _ _
        (only_then P m.core led.core _ (rebuild_only P nat_cmp config leads begun)
        (only_then P led.core voted.core _ (update_vote-only l.vote now led)
        (either_option (OnlyIn P voted) voted.leader _ _ (here P voted.core voted.core refl)
        (λ k. leader_append_only P nat_cmp config leads entry_meaning (entry_meaning.blank l.noop_log_id ∷ []) (record { leader = k; core = voted.core }) (stores _ _ (blank _, tt))))))
        (here P m.core m.core refl)

    pub vote_resp-only : (target : ℕ) (resp : VoteResponse ℕ) (now : ℕ) (m : WorldMachine) → OnlyIn P m (handle_vote_resp nat_cmp entry_meaning config target resp now m)
    unfolding handle_vote_resp take_grant take_rejection
    vote_resp-only target resp now m =
        either_option (OnlyIn P m) m.candidate _ _ (here P m.core m.core refl)
        (λ c. either (OnlyIn P m) (is_granted_to nat_cmp resp c.vote) _ _
        (either (OnlyIn P m) (is_granted (is_quorum nat_cmp) (grant_by nat_cmp c target)) _ _ (lead_by_votes-only (grant_by nat_cmp c target) now m) (here P m.core m.core refl))
        (update_vote-only (as_uncommitted resp.vote) now m))

    pub vote_req-only : (req : VoteRequest ℕ) (now : ℕ) (m : WorldMachine) → OnlyIn P m (handle_vote_req nat_cmp entry_meaning config req now m)
    unfolding handle_vote_req
    vote_req-only req now m = either (OnlyIn P m) (refuses_vote_req nat_cmp config m.core.state req now) _ _ (here P m.core m.core refl) (update_vote-only req.vote now m)

    -- entries
    pub do_append-only : (es : List Entry) → AllByRecursion K es → (c : WorldCore) → Only P c (do_append_entries nat_cmp entry_meaning config es c)
    unfolding do_append_entries
    do_append-only es k c =
        let taken : WorldCore = with_state c (with_entries entry_meaning c.state es) in
        let t : Only P c taken = here P c taken refl in
        let settled : WorldCore = if length (memberships_in entry_meaning es) == 0 then taken else update_role nat_cmp config taken in
        let s : Only P c settled = either (Only P c) (length (memberships_in entry_meaning es) == 0) _ _ t (only_then P c taken (update_role nat_cmp config taken) t (role_only P nat_cmp config leads taken)) in
        either (Only P c) (length es == 0) _ _ (here P c c refl)
        (only_then P c settled (then_command settled (AppendInputEntries c.state.vote es)) s (only_of P (AppendInputEntries c.state.vote es ∷ []) settled _ refl (stores _ _ k, tt)))

    pub initialize-only : (first : ℕ) (e : Entry) → K (entry_meaning.with_id e (default_log_id first)) → (now : ℕ) (m : WorldMachine) → OnlyIn P m (initialize nat_cmp entry_meaning config first e now m)
    unfolding initialize
    initialize-only first e k now m =
        let taken = on_core (do_append_entries nat_cmp entry_meaning config (entry_meaning.with_id e (default_log_id first) ∷ [])) m in
        only_then P m.core taken.core _ (do_append-only (entry_meaning.with_id e (default_log_id first) ∷ []) (k, tt) m.core) (elect-only now taken)

    pub commit-only : (x : Option (LogId ℕ)) (m : WorldMachine) → OnlyIn P m (handle_commit_entries nat_cmp entry_meaning config x m)
    unfolding handle_commit_entries commit_entries
    commit-only x m = commit_by_only P nat_cmp config leads [] (commit_target nat_cmp m.core.state x) m.core tt

    pub trigger_snapshot-only : (c : WorldCore) → Only P c (trigger_snapshot c)
    trigger_snapshot-only c = trigger_only P leads c

    -- a leader's calls
    leads_on-only : (l : WorldLed) → Only P l.core (lead_on nat_cmp config l).core
    leads_on-only l =
        let told : WorldLed = update_local_progress nat_cmp config (last l.core.state.ids) l in
        only_then P l.core told.core _ (local_only P nat_cmp config leads (last l.core.state.ids) l) (initiate_only P nat_cmp config leads false told)

    pub progress-only : {T : Type 0} (target : ℕ) (id : RequestId) (reply : Result (ReplicationResult ℕ) T) (l : WorldLed) → Only P l.core (update_progress nat_cmp config target id reply l).core
    unfolding update_progress
    progress-only target id reply l =
        let taken = take_reply nat_cmp config target id reply l in
        let freed = purge_unless_inflight nat_cmp taken in
        only_then P l.core freed.core _
        (only_then P l.core taken.core freed.core (reply_only P nat_cmp config leads target id reply l) (unless-only P config purges taken))
        (sends_only P nat_cmp config leads target freed).0

    pub startup-only : (m : WorldMachine) → OnlyIn P m (startup nat_cmp entry_meaning config m)
    unfolding startup
    startup-only m =
        let led : WorldMachine = update_internal_server_state nat_cmp entry_meaning config m in
        either (OnlyIn P m) (is_leader nat_cmp m.core.state config.id) _ _
        (only_then P m.core led.core _ (internal-only m) (either_option (OnlyIn P led) led.leader _ _ (here P led.core led.core refl) (λ l. leads_on-only (record { leader = l; core = led.core }))))
        (here P m.core _ refl)

    pub step_down-only : (m : WorldMachine) → OnlyIn P m (leader_step_down nat_cmp entry_meaning config m)
    unfolding leader_step_down
    step_down-only m = either (OnlyIn P m) (is_settled nat_cmp m.core.state) _ _ (internal-only m) (here P m.core m.core refl)

module _ (K : Entry → Type 0) (P : WorldCommand → Type 0) (allows : AllowsRequests K P) where
  open allows use {cuts, takes, own.{leads, replies, purges}}

  module _ (config : EngineConfig ℕ) where
    -- a leader's entries
    truncate-only : (i : ℕ) (c : WorldCore) → Only P c (following.truncate_logs nat_cmp config i c)
    truncate-only i c = truncate_only P nat_cmp config leads i c (λ x e. cuts x)

    truncate_for-only : (es : List Entry) (c : WorldCore) → Only P c (truncate_for nat_cmp entry_meaning config es c)
    truncate_for-only [] c = here P c c refl
    truncate_for-only (e ∷ es) c = truncate-only (entry_meaning.id_of e).index c

    consecutive-only : (prev : Option (LogId ℕ)) (c : WorldCore) → Only P c (ensure_log_consecutive nat_cmp config prev c)
    unfolding ensure_log_consecutive
    consecutive-only None c = here P c c refl
    consecutive-only (Some x) c = either (Only P c) (has_log_id nat_cmp c.state x) _ _ (here P c c refl) (truncate-only x.index c)

    append-only : (prev : Option (LogId ℕ)) (es : List Entry) → AllByRecursion K es → (c : WorldCore) → Only P c (following.append_entries nat_cmp entry_meaning config prev es c)
    unfolding following.append_entries
    append-only prev es k c =
        let noted = with_state c (accept nat_cmp c.state (later nat_cmp prev (last (map entry_meaning.id_of es)))) in
        let new = new_entries nat_cmp entry_meaning c.state es in
        let cut = truncate_for nat_cmp entry_meaning config new noted in
        only_then P c noted _ (here P c noted refl) (only_then P noted cut _ (truncate_for-only new noted) (do_append-only K P allows.own config new (each_drop K (prefix_len (is_held nat_cmp entry_meaning c.state) es) es k) cut))

    follow-only : (prev : Option (LogId ℕ)) (es : List Entry) → AllByRecursion K es → (c : WorldCore) → Only P c (follow nat_cmp entry_meaning config prev es c)
    unfolding follow
    follow-only prev es k c = either (Only P c) (holds_previous nat_cmp c.state prev) _ _ (append-only prev es k c) (consecutive-only prev c)

    append_entries-only : (v : Vote ℕ) (prev : Option (LogId ℕ)) (es : List Entry) → AllByRecursion K es → (now : ℕ) (m : WorldMachine) → OnlyIn P m (append_entries nat_cmp entry_meaning config v prev es now m)
    unfolding append_entries
    append_entries-only v prev es k now m =
        let voted = update_vote nat_cmp entry_meaning config v now m in
        either (OnlyIn P m) (rejects_vote nat_cmp m.core.state v) _ _ (here P m.core m.core refl) (only_then P m.core voted.core _ (update_vote-only K P allows.own config v now m) (follow-only prev es k voted.core))

    pub handle_append-only : (v : Vote ℕ) (prev : Option (LogId ℕ)) (es : List Entry) → AllByRecursion K es → (token : Token) (now : ℕ) (m : WorldMachine) → OnlyIn P m (handle_append_entries nat_cmp entry_meaning config v prev es (Some token) now m)
    unfolding handle_append_entries
    handle_append-only v prev es k token now m =
        let done = append_entries nat_cmp entry_meaning config v prev es now m in
        only_then P m.core done.core _ (append_entries-only v prev es k now m)
        (respond_only P replies None (respond.AppendEntries (record { value = append_response (append_answer nat_cmp entry_meaning config v prev now m); token = token })) done.core)

  module _ (config : EngineConfig ℕ) (snapshot : WorldSnapshot) (keeps : AllByRecursion K snapshot.snapshot) where
    -- an install
    upto-only : (x : LogId ℕ) (c : WorldCore) → Only P c (install_upto nat_cmp config x snapshot c)
    unfolding install_upto
    upto-only x c =
        let begun : WorldCore = with_state c (record c.state { snap = snapshot.meta }) in
        let cut : WorldCore = truncate_contradicted nat_cmp config x begun in
        let held : WorldCore = with_state cut (with_memberships_of snapshot.meta.last_membership x (replaces_log nat_cmp c.state x) (held_upto nat_cmp x cut.state)) in
        let settled : WorldCore = update_role nat_cmp config held in
        let queuing : WorldCore = record settled { output = ordered settled.output (InstallFullSnapshot snapshot) } in
        let targeted : WorldCore = update_purge_upto (Some x) queuing in
        only_then P c begun _ (here P c begun refl)
        (only_then P begun cut _ (either (Only P begun) (has_other_at nat_cmp begun.state x) _ _ (truncate_only P nat_cmp config leads x.index begun (λ y e. cuts y)) (here P begun begun refl))
        (only_then P cut held _ (here P cut held refl)
        (only_then P held settled _ (role_only P nat_cmp config leads held)
        (only_then P settled queuing _ (only_of P (installing snapshot (settled.output.seq + 1) ∷ []) settled queuing refl (takes snapshot (settled.output.seq + 1) keeps, tt))
        (only_then P queuing targeted _ (here P queuing targeted refl) (purge-only P config purges targeted))))))

    install-only : (c : WorldCore) → Only P c (install_full_snapshot nat_cmp config snapshot c)
    unfolding install_full_snapshot
    install-only c =
        either_option (Only P c) snapshot.meta.last_log_id _ _ (here P c c refl)
        (λ x. either (Only P c) (installs nat_cmp c.state snapshot.meta) _ _ (upto-only x c) (here P c c refl))

    -- a leader's snapshot, and the reply to it
    pub handle_install-only : (v : Vote ℕ) (token : Token) (now : ℕ) (m : WorldMachine) → Only P m.core (handle_install_full_snapshot nat_cmp entry_meaning config v snapshot token now m).core
    unfolding handle_install_full_snapshot
    handle_install-only v token now m =
        let voted : WorldMachine = update_vote nat_cmp entry_meaning config v now m in
        let installed : WorldCore = install_full_snapshot nat_cmp config snapshot voted.core in
        either (λ (n : WorldMachine). Only P m.core n.core) (rejects_vote nat_cmp m.core.state v) _ _ (respond_only P replies _ _ m.core)
        (only_then P m.core installed _ (only_then P m.core voted.core installed (update_vote-only K P allows.own config v now m) (install-only voted.core)) (respond_only P replies _ _ installed))
