-- What all commands that a step queues have in common.
use Rattle.std.specs.Prelude.{◌≡◌, ℕ, ◌+◌, ◌==◌, Bool, true, false, not, List, [], ◌∷◌, ◌++◌, Option, None, Some, IfSome, Result, Ok, Err, refl, length, map, filter, filter_map, flat_map, if◌then◌else◌}
use Rattle.std.specs.List.{AllByRecursion}
use Rattle.std.proofs.Common.{ap, arith, sym, ◌∙◌, subst}
use Rattle.std.proofs.lemmas.Bool.Decides.{nat_tests}
use Rattle.std.specs.declared.cmp.Ordering.{Ordering}
use Rattle.std.specs.Ordering.{is_eq, is_ge, is_gt, is_lt}
use Rattle.raft_state.specs.declared.config.RaftEntry
use Rattle.raft_state.specs.declared.ids.LeaderId.{LeaderId}
use Rattle.raft_state.specs.declared.ids.LogId.{LogId}
use Rattle.raft_state.specs.declared.ids.Vote.{Vote}
use Rattle.raft_state.specs.declared.membership.StoredMembership.{StoredMembership}
use Rattle.raft_state.specs.declared.state.RaftState.{RaftState}
use Rattle.raft_state.specs.declared.state.ServerState.{ServerState}
use Rattle.raft_state.specs.declared.state.ServerState.TheVariants as role
use Rattle.raft_state.specs.Log.{at, last}
use Rattle.raft_state.specs.Order.{last_id_cmp, leader_id_cmp, vote_cmp, next}
use Rattle.raft_state.specs.Policy.{should_snapshot}
use Rattle.raft_state.specs.State.{append_membership, by_last_leader, commit, commits, is_leader, is_leading, server_state, truncate, undoes_membership}
use Rattle.raft_state.proofs.LogLists.{Has, each_append}
use Rattle.raft_progress_entry.specs.declared.entry.Inflight.{Inflight}
use Rattle.raft_progress_entry.specs.declared.entry.Inflight.TheVariants as inflight
use Rattle.raft_progress_entry.specs.declared.entry.ProgressEntry.{ProgressEntry}
use Rattle.raft_progress_entry.specs.Entry.{next_send}
use Rattle.raft_proposer.specs.raft_progress.Quorum.{is_quorum}
use Rattle.raft_proposer.specs.raft_progress.Table.{get}
use Rattle.raft_command.specs.declared.command.Command.{Command}
use Rattle.raft_command.specs.declared.command.Command.TheVariants as command
use Rattle.raft_command.specs.declared.config.EngineConfig.{EngineConfig}
use Rattle.raft_command.specs.declared.sm.CommandPayload.TheVariants.{BuildSnapshot}
use Rattle.raft_command.specs.Push.{with_command, committed_upto}
use Rattle.raft_command.specs.Queue.{queued}
use Rattle.raft_steps.specs.Commit.{commit_by}
use Rattle.raft_steps.specs.FollowingHandler.{truncate_logs}
use Rattle.raft_steps.specs.Laws.{QueuesOnly}
use Rattle.raft_proposer.specs.Leader.{assigned, granted_id, leader_in, numbered}
use Rattle.raft_steps.specs.LeaderHandler.{joined, last_proposed, leader_append_entries, proposed}
use Rattle.raft_steps.specs.Parts.{Core, Led, Machine, on_core, under, with_state}
use Rattle.raft_proposer.specs.Joint.{JointLeader}
use Rattle.raft_steps.specs.ReplicationHandler.{append_membership_led, initiate_replication, is_other, own_matched, rebuild_progresses, rebuild_replication_streams, send_commands, sends_of, silenced_row, try_commit_quorum_accepted, update_local_progress, with_entry}
use Rattle.raft_steps.specs.ServerStateHandler.{role_commands, update_role}
use Rattle.raft_steps.specs.SnapshotHandler.{snapshot_where_due, trigger_snapshot}
use Rattle.raft_steps.specs.Starts.{is_settled, lead_on, leader_step_down, startup}
use Rattle.raft_steps.specs.VoteHandler.{become_following, become_leader, begin_lead, lead_anew, rejects_vote, take_vote, update_internal_server_state, update_vote}
use Rattle.raft_steps.proofs.Ends.{by_last_leader_ends}
use Rattle.raft_steps.proofs.Kept.{either, either_option}
use Rattle.raft_steps.proofs.LawsQueue.{append_append, append_none}
use Rattle.raft_steps.proofs.Room.{find_has}

-- what stands behind what stands behind
pub both_behind : {X : Type 0} (a b c xs ys : List X) → b ≡ a ++ xs → c ≡ b ++ ys → c ≡ a ++ (xs ++ ys)
both_behind a b c xs ys h k = k ∙ ap (λ zs. zs ++ ys) h ∙ append_append a xs ys

-- where each gives nothing, all give nothing
pub none_given : {X Y : Type 0} (f : X → Option Y) (xs : List X) → AllByRecursion (λ x. f x ≡ None) xs → filter_map f xs ≡ []
none_given f [] h = refl
none_given f (x ∷ xs) h = rw h.0 (none_given f xs h.1)

module _ {C NID N E D R S : Type 0} (P : Command C NID N E D R S → Type 0) where
  -- the commands of roles, votes, replication and commits are so
  pub record AllowsLeading : Type 0 where
    pub becomes : P command.BecomeLeader
    pub quits : P command.QuitLeader
    pub saves : (v : Vote NID) → P (command.SaveVote v)
    pub rebuilds : (targets : List (NID × ProgressEntry NID)) → P (command.RebuildReplicationStreams targets)
    pub replicates : (target : NID) (f : Inflight NID) → P (command.Replicate target f)
    pub tells : (x : Option (LogId NID)) → P (command.ReplicateCommitted x)
    pub commits : (seq : ℕ) (a : Option (LogId NID)) (b : LogId NID) → P (command.Commit seq a b)
    pub builds : (seq : ℕ) → P (command.StateMachine (record { seq = seq; payload = BuildSnapshot }))

  abbrev Only : Core C NID N E D R S → Core C NID N E D R S → Type 0
  Only = QueuesOnly P

  -- nothing, some commands, and one after the other
  pub only_here : (old new : Core C NID N E D R S) → new.output.items ≡ old.output.items → Only old new
  only_here old new e = record { added = []; behind = e ∙ append_none old.output.items; each = tt }

  pub only_of : (xs : List (Command C NID N E D R S)) (old new : Core C NID N E D R S) → new.output.items ≡ old.output.items ++ xs → AllByRecursion P xs → Only old new
  only_of xs old new e h = record { added = xs; behind = e; each = h }

  pub only_then : (a b c : Core C NID N E D R S) → Only a b → Only b c → Only a c
  only_then a b c h k = record {
    added = h.added ++ k.added;
    behind = both_behind a.output.items b.output.items c.output.items h.added k.added h.behind k.behind;
    each = each_append P h.added k.added h.each k.each;
  }

  -- a snapshot that is asked for
  pub trigger_only : AllowsLeading → (c : Core C NID N E D R S) → Only c (trigger_snapshot c)
  unfolding trigger_snapshot
  trigger_only allows c =
      either (Only c) c.state.building _ _ (only_here c c refl)
      (only_of (command.StateMachine (record { seq = c.output.seq + 1; payload = BuildSnapshot }) ∷ []) c _ refl (allows.builds (c.output.seq + 1), tt))

  module _ (cmp : NID → NID → Ordering) (config : EngineConfig NID) (allows : AllowsLeading) where
    role_each : (a b : ServerState) → AllByRecursion P (role_commands a b)
    role_each role.Leader role.Leader = tt
    role_each role.Leader role.Candidate = (allows.quits, tt)
    role_each role.Leader role.Follower = (allows.quits, tt)
    role_each role.Leader role.Learner = (allows.quits, tt)
    role_each role.Candidate role.Leader = (allows.becomes, tt)
    role_each role.Candidate role.Candidate = tt
    role_each role.Candidate role.Follower = tt
    role_each role.Candidate role.Learner = tt
    role_each role.Follower role.Leader = (allows.becomes, tt)
    role_each role.Follower role.Candidate = tt
    role_each role.Follower role.Follower = tt
    role_each role.Follower role.Learner = tt
    role_each role.Learner role.Leader = (allows.becomes, tt)
    role_each role.Learner role.Candidate = tt
    role_each role.Learner role.Follower = tt
    role_each role.Learner role.Learner = tt

    pub role_only : (c : Core C NID N E D R S) → Only c (update_role cmp config c)
    unfolding update_role
    role_only c = only_of (role_commands c.state.role (server_state cmp c.state config.id)) c (update_role cmp config c) refl (role_each c.state.role (server_state cmp c.state config.id))

    pub following_only : (m : Machine C NID N E D R S) → Only m.core (become_following cmp config m).core
    unfolding become_following
    following_only m = role_only m.core

    -- what is sent
    pub send_each : (force : Bool) (target : NID) (r : Result (Inflight NID) (Inflight NID)) → AllByRecursion P (send_commands force target r)
    send_each force target (Ok f) = (allows.replicates target f, tt)
    send_each true target (Err inflight.None) = (allows.replicates target inflight.None, tt)
    send_each false target (Err inflight.None) = tt
    send_each force target (Err (inflight.Logs id range)) = tt
    send_each force target (Err (inflight.Snapshot id upto)) = tt

    sends_each : (force : Bool) (s : RaftState NID N) (rows : List (NID × ProgressEntry NID)) → AllByRecursion P (flat_map (sends_of cmp config force s) rows)
    sends_each force s [] = tt
    sends_each force s (r ∷ rs) =
        each_append P (sends_of cmp config force s r) (flat_map (sends_of cmp config force s) rs)
        (either (AllByRecursion P) (is_other cmp config r) _ _ (send_each force r.0 (next_send s config.max_payload_entries r.1)) tt) (sends_each force s rs)

    pub rebuild_only : (l : Led C NID N E D R S) → Only l.core (rebuild_replication_streams cmp config l).core
    unfolding rebuild_replication_streams
    rebuild_only l =
        let targets = filter (is_other cmp config) (map (silenced_row cmp config) l.leader.progress.rows) in
        only_of (command.RebuildReplicationStreams targets ∷ []) l.core (rebuild_replication_streams cmp config l).core refl (allows.rebuilds targets, tt)

    pub initiate_only : (force : Bool) (l : Led C NID N E D R S) → Only l.core (initiate_replication cmp config force l).core
    unfolding initiate_replication
    initiate_only force l =
        only_of (flat_map (sends_of cmp config force l.core.state) l.leader.progress.rows) l.core (initiate_replication cmp config force l).core refl (sends_each force l.core.state l.leader.progress.rows)

    pub join_only : (m : StoredMembership NID N) (l : Led C NID N E D R S) → Only l.core (append_membership_led cmp config m l).core
    unfolding append_membership_led rebuild_progresses
    join_only m l =
        let joined : Led C NID N E D R S = rebuild_progresses cmp (under (λ c. with_state c (append_membership c.state m)) l) in
        only_then l.core (rebuild_replication_streams cmp config joined).core _
        (only_then l.core joined.core _ (only_here l.core joined.core refl) (rebuild_only joined)) (initiate_only false (rebuild_replication_streams cmp config joined))

    -- a commit, behind other commands
    pub commit_by_only : (first : List (Command C NID N E D R S)) (x : Option (LogId NID)) (c : Core C NID N E D R S) → AllByRecursion P first → Only c (commit_by cmp config first x c)
    unfolding commit_by snapshot_where_due
    commit_by_only first None c h = only_here c c refl
    commit_by_only first (Some x) c h =
        let begun : Core C NID N E D R S = record { state = c.state; output = queued c.output first } in
        let after : Core C NID N E D R S = record { state = commit cmp c.state (Some x); output = committed_upto (queued c.output first) c.state.committed x } in
        let with_commit : Only begun after = only_of (command.Commit (c.output.seq + 1) c.state.committed x ∷ []) begun after refl (allows.commits (c.output.seq + 1) c.state.committed x, tt) in
        either (Only c) (commits cmp c.state (Some x)) _ _
        (only_then c begun (snapshot_where_due config after) (only_of first c begun refl h)
        (only_then begun after (snapshot_where_due config after) with_commit
        (either (Only after) (should_snapshot config.snapshot_policy after.state) _ _ (trigger_only allows after) (only_here after after refl))))
        (only_here c c refl)

    pub try_commit_only : (x : Option (LogId NID)) (c : Core C NID N E D R S) → Only c (try_commit_quorum_accepted cmp config x c)
    unfolding try_commit_quorum_accepted
    try_commit_only None c = only_here c c refl
    try_commit_only (Some x) c =
        either (Only c) (is_eq (leader_id_cmp cmp x.leader_id c.state.vote.leader_id)) _ _
        (commit_by_only (command.ReplicateCommitted (Some x) ∷ []) (Some x) c (allows.tells (Some x), tt)) (only_here c c refl)

    pub local_only : (x : Option (LogId NID)) (l : Led C NID N E D R S) → Only l.core (update_local_progress cmp config x l).core
    unfolding update_local_progress
    local_only None l = only_here l.core l.core refl
    local_only (Some x) l =
        let P = λ (q : Led C NID N E D R S). Only l.core q.core in
        either_option P (get cmp l.leader.progress config.id) _ _ (only_here l.core l.core refl)
        (λ e. either P (is_ge (last_id_cmp cmp e.matching (Some x))) _ _ (only_here l.core l.core refl)
        (try_commit_only (granted_id cmp (is_quorum cmp) (with_entry cmp l config.id (own_matched cmp (Some x) e)).leader) l.core))

    lead_on_only : (l : Led C NID N E D R S) → Only l.core (lead_on cmp config l).core
    lead_on_only l =
        let noted = update_local_progress cmp config (last l.core.state.ids) l in
        only_then l.core noted.core _ (local_only (last l.core.state.ids) l) (initiate_only false noted)

    -- a log that is cut
    pub truncate_only : (i : ℕ) (c : Core C NID N E D R S) → ((x : LogId NID) → x.index ≡ i → P (command.DeleteConflictLog x)) → Only c (truncate_logs cmp config i c)
    unfolding truncate_logs
    truncate_only i c deletes = go (at c.state.ids i) (find_has (λ x. x.index == i) c.state.ids) where
      cut : LogId NID → Core C NID N E D R S
      cut first = record { state = truncate c.state i; output = with_command c.output (command.DeleteConflictLog first) }

      same_index : (a : ℕ) → (a == i) ≡ true → a ≡ i
      same_index a e = grind (arith, nat_tests)

      go : (o : Option (LogId NID)) → IfSome o (λ y. ((y.index == i) ≡ true) × Has y c.state.ids)
          → Only c (elim o as (λ _. Core C NID N E D R S) [ None ↦ c | Some first ↦ (if not (undoes_membership c.state i) then cut first else update_role cmp config (cut first)) ])
      go None h = only_here c c refl
      go (Some first) h =
          let t : Only c (cut first) = only_of (command.DeleteConflictLog first ∷ []) c (cut first) refl (deletes first (same_index first.index h.0), tt) in
          either (Only c) (not (undoes_membership c.state i)) _ _ t (only_then c (cut first) (update_role cmp config (cut first)) t (role_only (cut first)))

    module _ (entry : RaftEntry.Ghosts E NID N) where
      pub leader_append_only : (es : List E) (l : Led C NID N E D R S) → P (command.AppendInputEntries l.leader.vote (assigned entry l.leader es)) → Only l.core (leader_append_entries cmp entry config es l).core
      unfolding leader_append_entries proposed
      leader_append_only es l h =
          let taken = proposed entry es l in
          let t : Only l.core taken.core = only_of (command.AppendInputEntries l.leader.vote (assigned entry l.leader es) ∷ []) l.core taken.core refl (h, tt) in
          let after = joined cmp config (last_proposed entry l.leader es) taken in
          let k : Only l.core after.core = either_option (λ (q : Led C NID N E D R S). Only l.core q.core) (last_proposed entry l.leader es) _ _ t
          (λ m. only_then l.core taken.core (append_membership_led cmp config m taken).core t (join_only m taken)) in
          either (λ (q : Led C NID N E D R S). Only l.core q.core) (length es == 0) _ _ (only_here l.core l.core refl)
          (only_then l.core after.core _ k (initiate_only false after))

      -- one entry more is stored, at an index n
      module _ (n : ℕ) (stores : (v : Vote NID) (leader : LeaderId NID) (e : E) → P (command.AppendInputEntries v (numbered entry leader n (e ∷ [])))) where
        lead_anew_only : (m : Machine C NID N E D R S) → next (last m.core.state.ids) ≡ n → Only m.core (lead_anew cmp entry config m).core
        unfolding lead_anew begin_lead rebuild_replication_streams
        lead_anew_only m e =
            let l : JointLeader C NID N E D R S = leader_in cmp m.core.state.vote m.core.state.em.membership (by_last_leader cmp m.core.state.ids) in
            let begun : Led C NID N E D R S = record { leader = l; core = update_role cmp config m.core } in
            let led = rebuild_replication_streams cmp config begun in
            let blank = entry.blank l.noop_log_id in
            let t = only_then m.core begun.core led.core (role_only m.core) (rebuild_only begun) in
            let stored : P (command.AppendInputEntries l.vote (numbered entry l.vote.leader_id (next l.last_log_id) (blank ∷ []))) =
            subst (λ k. P (command.AppendInputEntries l.vote (numbered entry l.vote.leader_id k (blank ∷ [])))) (sym (ap next (by_last_leader_ends cmp m.core.state.ids) ∙ e)) (stores l.vote l.vote.leader_id blank) in
            either (λ (q : Led C NID N E D R S). Only m.core q.core) (is_lt (last_id_cmp cmp l.last_log_id (Some l.noop_log_id))) _ _
            (only_then m.core led.core _ t (leader_append_only (blank ∷ []) led stored)) t

        pub become_leader_only : (m : Machine C NID N E D R S) → next (last m.core.state.ids) ≡ n → Only m.core (become_leader cmp entry config m).core
        unfolding become_leader
        become_leader_only m e =
            let P = λ (q : Machine C NID N E D R S). Only m.core q.core in
            either_option P m.leader _ _ (lead_anew_only m e)
            (λ l. either P (is_eq (leader_id_cmp cmp l.vote.leader_id m.core.state.vote.leader_id)) _ _ (role_only m.core) (lead_anew_only m e))

        pub internal_only : (m : Machine C NID N E D R S) → next (last m.core.state.ids) ≡ n → Only m.core (update_internal_server_state cmp entry config m).core
        unfolding update_internal_server_state
        internal_only m e =
            let P = λ (q : Machine C NID N E D R S). Only m.core q.core in
            either P (is_leader cmp m.core.state config.id) _ _ (become_leader_only m e)
            (either P (is_leading cmp m.core.state config.id) _ _ (only_here m.core m.core refl) (following_only m))

        pub update_vote_only : (v : Vote NID) (now : ℕ) (m : Machine C NID N E D R S) → next (last m.core.state.ids) ≡ n → Only m.core (update_vote cmp entry config v now m).core
        unfolding update_vote
        update_vote_only v now m e =
            let taken = on_core (take_vote cmp config v now) m in
            let t : Only m.core taken.core = either (Only m.core) (is_gt (vote_cmp cmp v m.core.state.vote)) _ _
            (only_of (command.SaveVote v ∷ []) m.core _ refl (allows.saves v, tt)) (only_here m.core _ refl) in
            let same : taken.core.state.ids ≡ m.core.state.ids = either (λ (c : Core C NID N E D R S). c.state.ids ≡ m.core.state.ids) (is_gt (vote_cmp cmp v m.core.state.vote)) _ _ refl refl in
            either (λ (q : Machine C NID N E D R S). Only m.core q.core) (rejects_vote cmp m.core.state v) _ _ (only_here m.core m.core refl)
            (only_then m.core taken.core _ t (internal_only taken (ap (λ ids. next (last ids)) same ∙ e)))

        pub startup_only : (m : Machine C NID N E D R S) → next (last m.core.state.ids) ≡ n → Only m.core (startup cmp entry config m).core
        unfolding startup
        startup_only m e =
            let led = update_internal_server_state cmp entry config m in
            either (λ (q : Machine C NID N E D R S). Only m.core q.core) (is_leader cmp m.core.state config.id) _ _
            (only_then m.core led.core _ (internal_only m e)
            (either_option (λ (q : Machine C NID N E D R S). Only led.core q.core) led.leader _ _ (only_here led.core led.core refl) (λ l. lead_on_only (record { leader = l; core = led.core }))))
            (only_here m.core _ refl)

        pub step_down_only : (m : Machine C NID N E D R S) → next (last m.core.state.ids) ≡ n → Only m.core (leader_step_down cmp entry config m).core
        unfolding leader_step_down
        step_down_only m e = either (λ (q : Machine C NID N E D R S). Only m.core q.core) (is_settled cmp m.core.state) _ _ (internal_only m e) (only_here m.core m.core refl)
