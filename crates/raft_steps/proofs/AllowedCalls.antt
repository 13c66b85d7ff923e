-- What all commands that an election or a request queues have in common.
use Rattle.std.specs.Prelude.{ℕ, ◌+◌, ◌==◌, false, List, [], ◌∷◌, Option, None, Some, refl, length, map, if◌then◌else◌}
use Rattle.std.specs.declared.cmp.Ordering.{Ordering}
use Rattle.raft_state.specs.declared.config.RaftEntry
use Rattle.raft_state.specs.declared.ids.LogId.{LogId}
use Rattle.raft_state.specs.declared.ids.Vote.{Vote}
use Rattle.raft_state.specs.Log.{last}
use Rattle.raft_state.specs.State.{accept, has_log_id}
use Rattle.raft_proposer.specs.raft_progress.Quorum.{is_quorum}
use Rattle.raft_command.specs.Message.{append_response}
use Rattle.raft_command.specs.declared.command.Command.{Command}
use Rattle.raft_command.specs.declared.command.Command.TheVariants as command
use Rattle.raft_command.specs.declared.config.EngineConfig.{EngineConfig}
use Rattle.raft_command.specs.declared.message.AppendEntriesResponse.{AppendEntriesResponse}
use Rattle.raft_command.specs.declared.message.Token.{Token}
use Rattle.raft_command.specs.declared.message.VoteRequest.{VoteRequest}
use Rattle.raft_command.specs.declared.message.VoteResponse.{VoteResponse}
use Rattle.raft_command.specs.declared.respond.Respond.{Respond}
use Rattle.raft_command.specs.declared.respond.Respond.TheVariants as respond
use Rattle.raft_command.specs.declared.sm.CommandPayload.TheVariants.{BeginReceivingSnapshot}
use Rattle.raft_proposer.specs.Candidate.{candidate_of, grant_by, into_leader, is_granted}
use Rattle.raft_proposer.specs.Joint.{JointCandidate, JointLeader}
use Rattle.raft_steps.specs.Engine.{as_uncommitted, default_log_id, elect, handle_vote_resp, initialize, is_granted_to, lead_by_votes, may_establish, take_grant, take_rejection}
use Rattle.raft_steps.specs.FollowingHandler.{commit_entries, commit_target, do_append_entries, ensure_log_consecutive, holds_previous, memberships_in, new_entries, truncate_for, truncate_logs, with_entries}
use Rattle.raft_steps.specs.FollowingHandler as following
use Rattle.raft_steps.specs.Laws.{QueuesOnly, later}
use Rattle.raft_steps.specs.Parts.{Core, Led, Machine, leading, on_core, then_command, with_state}
use Rattle.raft_steps.specs.ReplicationHandler.{rebuild_progresses, rebuild_replication_streams}
use Rattle.raft_steps.specs.Requests.{append_answer, append_entries, follow, handle_append_entries, handle_commit_entries, handle_vote_req, refuses_vote_req, replied}
use Rattle.raft_steps.specs.ServerStateHandler.{update_role}
use Rattle.raft_steps.specs.SnapshotCalls.{handle_begin_receiving_snapshot}
use Rattle.raft_steps.specs.VoteHandler.{rejects_vote, update_vote}
use Rattle.raft_steps.proofs.Allowed.{AllowsLeading, commit_by_only, leader_append_only, only_here, only_of, only_then, rebuild_only, role_only, truncate_only, update_vote_only}
use Rattle.raft_steps.proofs.Kept.{either, either_option}

module _ {C NID N E D R S : Type 0} (P : Command C NID N E D R S → Type 0) where
  -- the commands of elections are so
  pub record AllowsElections : Type 0 where
    pub leads : AllowsLeading P
    pub stores : (v : Vote NID) (es : List E) → P (command.AppendInputEntries v es)
    pub asks : (r : VoteRequest NID) → P (command.SendVote r)

  -- and those of requests
  pub record AllowsRequests : Type 0 where
    pub elects : AllowsElections
    pub cuts : (x : LogId NID) → P (command.DeleteConflictLog x)
    pub replies : (r : Respond C NID N E D R S) → P (command.Respond None r)

  abbrev OnlyBy : Machine C NID N E D R S → Machine C NID N E D R S → Type 0
  OnlyBy m n = QueuesOnly P m.core n.core

  pub begin_receiving_only : (token : Token) (m : Machine C NID N E D R S) → ((seq : ℕ) → P (command.StateMachine (record { seq = seq; payload = BeginReceivingSnapshot token }))) → OnlyBy m (handle_begin_receiving_snapshot token m)
  unfolding handle_begin_receiving_snapshot
  begin_receiving_only token m begins = only_of P (command.StateMachine (record { seq = m.core.output.seq + 1; payload = BeginReceivingSnapshot token }) ∷ []) m.core _ refl (begins (m.core.output.seq + 1), tt)

  pub rebuild_progresses_only : (cmp : NID → NID → Ordering) (l : Led C NID N E D R S) → QueuesOnly P l.core (rebuild_progresses cmp l).core
  unfolding rebuild_progresses
  rebuild_progresses_only cmp l = only_here P l.core l.core refl

  module _ (cmp : NID → NID → Ordering) (entry : RaftEntry.Ghosts E NID N) (config : EngineConfig NID) (allows : AllowsElections) where
    pub voted_only : (v : Vote NID) (now : ℕ) (m : Machine C NID N E D R S) → OnlyBy m (update_vote cmp entry config v now m)
    voted_only v now m = update_vote_only P cmp config allows.leads entry _ (λ vote leader e. allows.stores vote _) v now m refl

    pub do_append_only : (es : List E) (c : Core C NID N E D R S) → QueuesOnly P c (do_append_entries cmp entry config es c)
    unfolding do_append_entries
    do_append_only es c =
        let taken : Core C NID N E D R S = with_state c (with_entries entry c.state es) in
        let t : QueuesOnly P c taken = only_here P c taken refl in
        let settled : Core C NID N E D R S = if length (memberships_in entry es) == 0 then taken else update_role cmp config taken in
        let k : QueuesOnly P c settled = either (QueuesOnly P c) (length (memberships_in entry es) == 0) _ _ t (only_then P c taken (update_role cmp config taken) t (role_only P cmp config allows.leads taken)) in
        either (QueuesOnly P c) (length es == 0) _ _ (only_here P c c refl)
        (only_then P c settled (then_command settled (command.AppendInputEntries c.state.vote es)) k (only_of P (command.AppendInputEntries c.state.vote es ∷ []) settled _ refl (allows.stores c.state.vote es, tt)))

    pub elect_only : (now : ℕ) (m : Machine C NID N E D R S) → OnlyBy m (elect cmp entry config now m)
    unfolding elect
    elect_only now m =
        let s = m.core.state in
        let v : Vote NID = record { leader_id = record { term = s.vote.leader_id.term + 1; node_id = config.id }; committed = false } in
        let request : VoteRequest NID = record { vote = v; last_log_id = last s.ids } in
        let standing : Machine C NID N E D R S = record m { candidate = Some (candidate_of cmp now v (last s.ids) s.em.membership) } in
        let voted = update_vote cmp entry config v now standing in
        let asked = then_command voted.core (command.SendVote request) in
        only_then P m.core voted.core _ (voted_only v now standing)
        (only_then P voted.core asked _ (only_of P (command.SendVote request ∷ []) voted.core asked refl (allows.asks request, tt)) (role_only P cmp config allows.leads asked))

    lead_by_votes_only : (c : JointCandidate NID) (now : ℕ) (m : Machine C NID N E D R S) → OnlyBy m (lead_by_votes cmp entry config c now m)
    unfolding lead_by_votes
    lead_by_votes_only c now m =
        let l : JointLeader C NID N E D R S = into_leader cmp c in
        let begun : Led C NID N E D R S = record { leader = l; core = m.core } in
        let led = leading (record m { candidate = None }) (rebuild_replication_streams cmp config begun) in
        let voted = update_vote cmp entry config l.vote now led in
        either (OnlyBy m) (may_establish cmp m.core.state m.leader c) _ _
        (only_then P m.core led.core _ (rebuild_only P cmp config allows.leads begun)
        (only_then P led.core voted.core _ (voted_only l.vote now led)
        (either_option (OnlyBy voted) voted.leader _ _ (only_here P voted.core voted.core refl)
        (λ k. leader_append_only P cmp config allows.leads entry (entry.blank l.noop_log_id ∷ []) (record { leader = k; core = voted.core }) (allows.stores k.vote _)))))
        (only_here P m.core m.core refl)

    pub vote_resp_only : (target : NID) (resp : VoteResponse NID) (now : ℕ) (m : Machine C NID N E D R S) → OnlyBy m (handle_vote_resp cmp entry config target resp now m)
    unfolding handle_vote_resp take_grant take_rejection
    vote_resp_only target resp now m =
        either_option (OnlyBy m) m.candidate _ _ (only_here P m.core m.core refl)
        (λ c. either (OnlyBy m) (is_granted_to cmp resp c.vote) _ _
        (either (OnlyBy m) (is_granted (is_quorum cmp) (grant_by cmp c target)) _ _ (lead_by_votes_only (grant_by cmp c target) now m) (only_here P m.core m.core refl))
        (voted_only (as_uncommitted resp.vote) now m))

    pub initialize_only : (first : NID) (e : E) (now : ℕ) (m : Machine C NID N E D R S) → OnlyBy m (initialize cmp entry config first e now m)
    unfolding initialize
    initialize_only first e now m =
        let taken = on_core (do_append_entries cmp entry config (entry.with_id e (default_log_id first) ∷ [])) m in
        only_then P m.core taken.core _ (do_append_only (entry.with_id e (default_log_id first) ∷ []) m.core) (elect_only now taken)

    pub vote_req_only : (req : VoteRequest NID) (now : ℕ) (m : Machine C NID N E D R S) → OnlyBy m (handle_vote_req cmp entry config req now m)
    unfolding handle_vote_req
    vote_req_only req now m = either (OnlyBy m) (refuses_vote_req cmp config m.core.state req now) _ _ (only_here P m.core m.core refl) (voted_only req.vote now m)

    pub commit_entries_only : (x : Option (LogId NID)) (c : Core C NID N E D R S) → QueuesOnly P c (commit_entries cmp config x c)
    unfolding commit_entries
    commit_entries_only x c = commit_by_only P cmp config allows.leads [] (commit_target cmp c.state x) c tt

    pub handle_commit_only : (x : Option (LogId NID)) (m : Machine C NID N E D R S) → OnlyBy m (handle_commit_entries cmp entry config x m)
    unfolding handle_commit_entries
    handle_commit_only x m = commit_entries_only x m.core

  module _ (cmp : NID → NID → Ordering) (entry : RaftEntry.Ghosts E NID N) (config : EngineConfig NID) (allows : AllowsRequests) where
    cut_only : (i : ℕ) (c : Core C NID N E D R S) → QueuesOnly P c (truncate_logs cmp config i c)
    cut_only i c = truncate_only P cmp config allows.elects.leads i c (λ x e. allows.cuts x)

    pub consecutive_only : (prev : Option (LogId NID)) (c : Core C NID N E D R S) → QueuesOnly P c (ensure_log_consecutive cmp config prev c)
    unfolding ensure_log_consecutive
    consecutive_only None c = only_here P c c refl
    consecutive_only (Some x) c = either (QueuesOnly P c) (has_log_id cmp c.state x) _ _ (only_here P c c refl) (cut_only x.index c)

    cut_for_only : (es : List E) (c : Core C NID N E D R S) → QueuesOnly P c (truncate_for cmp entry config es c)
    cut_for_only [] c = only_here P c c refl
    cut_for_only (e ∷ es) c = cut_only (entry.id_of e).index c

    pub append_only : (prev : Option (LogId NID)) (es : List E) (c : Core C NID N E D R S) → QueuesOnly P c (following.append_entries cmp entry config prev es c)
    unfolding following.append_entries
    append_only prev es c =
        let noted = with_state c (accept cmp c.state (later cmp prev (last (map entry.id_of es)))) in
        let new = new_entries cmp entry c.state es in
        let cut = truncate_for cmp entry config new noted in
        only_then P c noted _ (only_here P c noted refl) (only_then P noted cut _ (cut_for_only new noted) (do_append_only cmp entry config allows.elects new cut))

    follow_only : (prev : Option (LogId NID)) (es : List E) (c : Core C NID N E D R S) → QueuesOnly P c (follow cmp entry config prev es c)
    unfolding follow
    follow_only prev es c = either (QueuesOnly P c) (holds_previous cmp c.state prev) _ _ (append_only prev es c) (consecutive_only prev c)

    pub append_entries_only : (v : Vote NID) (prev : Option (LogId NID)) (es : List E) (now : ℕ) (m : Machine C NID N E D R S) → OnlyBy m (append_entries cmp entry config v prev es now m)
    unfolding append_entries
    append_entries_only v prev es now m =
        let voted = update_vote cmp entry config v now m in
        either (OnlyBy m) (rejects_vote cmp m.core.state v) _ _ (only_here P m.core m.core refl)
        (only_then P m.core voted.core _ (voted_only cmp entry config allows.elects v now m) (follow_only prev es voted.core))

    reply_only : (token : Option Token) (response : AppendEntriesResponse NID) (c : Core C NID N E D R S) → QueuesOnly P c (record c { output = replied token response c.output })
    reply_only None response c = only_here P c c refl
    reply_only (Some t) response c =
        let r : Respond C NID N E D R S = respond.AppendEntries (record { value = response; token = t }) in only_of P (command.Respond None r ∷ []) c _ refl (allows.replies r, tt)

    pub handle_append_only : (v : Vote NID) (prev : Option (LogId NID)) (es : List E) (token : Option Token) (now : ℕ) (m : Machine C NID N E D R S) → OnlyBy m (handle_append_entries cmp entry config v prev es token now m)
    unfolding handle_append_entries
    handle_append_only v prev es token now m =
        let done = append_entries cmp entry config v prev es now m in
        only_then P m.core done.core _ (append_entries_only v prev es now m) (reply_only token (append_response (append_answer cmp entry config v prev now m)) done.core)
