-- What an engine's calls queue, but for an install: commands of a kind, if that has those of a leader, entries, requests for votes, replies
-- that wait for nothing, cuts and purges.
use Rattle.std.specs.Prelude.{◌≡◌, ℕ, ◌+◌, ◌==◌, map, false, min, nat_lt, List, [], ◌∷◌, length, Option, None, Some, Result, refl, if◌then◌else◌, Bool, true, Ok, Err}
use Rattle.std.specs.Ordering.{is_gt, nat_cmp, is_eq}
use Rattle.raft_state.specs.declared.ids.LogId.{LogId}
use Rattle.raft_state.specs.declared.ids.Vote.{Vote}
use Rattle.raft_state.specs.declared.membership.SnapshotMeta.{SnapshotMeta}
use Rattle.raft_state.specs.Log.{at, last}
use Rattle.raft_state.specs.Order.{last_id_cmp, next, vote_cmp}
use Rattle.raft_state.specs.State.{accept, has_log_id, purge}
use Rattle.raft_progress_entry.specs.declared.entry.ProgressEntry.{ProgressEntry}
use Rattle.raft_progress.specs.Quorum.{is_quorum}
use Rattle.raft_command.specs.declared.command.Command.TheVariants.{AppendInputEntries, DeleteConflictLog, PurgeLog, Respond, SendVote}
use Rattle.raft_command.specs.declared.config.EngineConfig.{EngineConfig}
use Rattle.raft_command.specs.declared.message.Token.{Token}
use Rattle.raft_command.specs.declared.message.VoteRequest.{VoteRequest}
use Rattle.raft_command.specs.declared.message.VoteResponse.{VoteResponse}
use Rattle.raft_command.specs.declared.replication.ReplicationResult.{ReplicationResult}
use Rattle.raft_command.specs.declared.replication.RequestId.{RequestId}
use Rattle.raft_command.specs.declared.respond.Respond.TheVariants as respond
use Rattle.raft_command.specs.Message.{append_response}
use Rattle.raft_command.specs.Push.{with_command}
use Rattle.raft_steps.specs.raft_proposer.Candidate.{candidate_of, grant_by, into_leader, is_granted}
use Rattle.raft_steps.specs.Engine.{as_uncommitted, default_log_id, elect, handle_vote_resp, initialize, is_granted_to, lead_by_votes, may_establish, take_grant, take_rejection}
use Rattle.raft_steps.specs.FollowingHandler.{commit_entries, commit_target, do_append_entries, ensure_log_consecutive, holds_previous, memberships_in, new_entries, truncate_for, with_entries}
use Rattle.raft_steps.specs.FollowingHandler as following
use Rattle.raft_steps.specs.Laws.{QueuesOnly, later}
use Rattle.raft_steps.specs.LogHandler.{is_target_inflight, purge_log, schedule_policy_based_purge, try_purge_log, update_purge_upto}
use Rattle.raft_steps.specs.Parts.{on_core, then_command, with_state, leading, led_of}
use Rattle.raft_steps.specs.Refusals.{rows_in, refusals_of_local_progress, refusals_of_vote_resp, refusals_of_elect, refusals_of_propose, refusals_of_update_vote}
use Rattle.raft_steps.specs.Replies.{purge_unless_inflight, take_reply, update_progress}
use Rattle.raft_steps.specs.ReplicationHandler.{rebuild_replication_streams, update_local_progress}
use Rattle.raft_steps.specs.Requests.{append_answer, append_entries, follow, handle_append_entries, handle_commit_entries, handle_vote_req, refuses_vote_req, vote_req_answer}
use Rattle.raft_steps.specs.ServerStateHandler.{update_role}
use Rattle.raft_steps.specs.SnapshotCalls.{built, finish_building_snapshot, trigger_purge_log}
use Rattle.raft_steps.specs.SnapshotHandler.{is_newer_snapshot, trigger_snapshot, update_snapshot}
use Rattle.raft_steps.specs.Starts.{leader_step_down, startup, refusals_of_startup}
use Rattle.raft_steps.specs.VoteHandler.{rejects_vote, update_vote}
use Rattle.raft_steps.proofs.Allowed.{AllowsLeading, commit_by_only, leader_append_only, only_here, only_of, only_then, rebuild_only, role_only, startup_only, step_down_only, trigger_only, truncate_only, update_vote_only, local_only}
use Rattle.raft_steps.proofs.Kept.{either, either_option}
use Rattle.raft_steps.proofs.LawsPurge.{reply_only, sends_only}
use Rattle.raft_store.specs.declared.entry.Entry.{Entry}
use Rattle.raft_store.specs.Entries.{entry_meaning}
use Rattle.raft_store.specs.Types.{WorldCandidate, WorldCommand, WorldLeader, WorldMachine, EngineView, WorldSnapshot}
use Rattle.raft_calls.specs.Engines.{WorldRespond}
use Rattle.raft_calls.specs.Feeds.{WorldLed, asks_itself, called, fed, grant_own, hold_own, own_grant}
use Rattle.raft_calls.proofs.Falls.{WorldCore}
use Rattle.raft_error.specs.declared.error.EngineError.{EngineError}
use Rattle.raft_calls.specs.declared.feed.Feed.{Feed}
use Rattle.raft_calls.specs.declared.feed.Feed.TheVariants.{Saved, Stored, Nothing}
use Rattle.std.specs.Result.{is_ok}
use Rattle.raft_error.specs.Number.{number_of}
use Rattle.raft_command.specs.declared.message.AppendEntriesResponse.{AppendEntriesResponse}
use Rattle.raft_command.specs.declared.message.AppendEntriesResponse.TheVariants.{Success, PartialSuccess, Conflict, HigherVote}
use Rattle.raft_steps.specs.LeaderHandler.{leader_append_entries}
use Rattle.raft_steps.specs.ReplyRefusals.{refusals_of_progress}
use Rattle.raft_steps.specs.RequestRefusals.{refusals_of_append, refusals_of_commit, refusals_of_vote_req}
use Rattle.raft_calls.specs.declared.message.Body.{Body}
use Rattle.raft_calls.specs.declared.message.Body.TheVariants as body
use Rattle.raft_calls.specs.declared.message.Origin.{Origin}
use Rattle.raft_calls.specs.Deliveries.{answered, appended, deliver, led_call, progressed, reply_token, take_append, take_append_reply, take_commit, take_conflict, take_higher_vote, take_result, unled_number, vote_replied, vote_requested, with_machine}
use Rattle.raft_calls.specs.Elections.{elected}
use Rattle.raft_calls.specs.LeaderCalls.{entries_proposed, entry_proposed}
use Rattle.raft_calls.specs.Starts.{begun_anew, resumed}
use Rattle.raft_calls.proofs.StartReady.{begun_one}

abbrev pub Answer : Type 0
Answer = Option ℕ × EngineView

-- what a call leaves of the core
abbrev pub core_in : Answer → WorldCore
core_in r = r.1.machine.core

-- commands of this kind are all that such calls queue
pub record AllowsCalls (P : WorldCommand → Type 0) : Type 0 where
  pub leading : AllowsLeading P
  pub appends : (v : Vote ℕ) (es : List Entry) → P (AppendInputEntries v es)
  pub asks : (req : VoteRequest ℕ) → P (SendVote req)
  pub replies : (reply : WorldRespond) → P (Respond None reply)
  pub cuts : (x : LogId ℕ) → P (DeleteConflictLog x)
  pub purges : (x : LogId ℕ) → P (PurgeLog x)

module _ (P : WorldCommand → Type 0) (allows : AllowsCalls P) where
  -- a step queues such commands alone
  abbrev Only : WorldCore → WorldCore → Type 0
  Only old new = QueuesOnly P old new

  here : (old new : WorldCore) → new.output.items ≡ old.output.items → Only old new
  here old new e = only_here P old new e

  -- a reply
  pub respond_only : (reply : WorldRespond) (c : WorldCore) → Only c (then_command c (Respond None reply))
  respond_only reply c = only_of P (Respond None reply ∷ []) c _ refl (allows.replies reply, tt)

  module _ (config : EngineConfig ℕ) where
    abbrev OnlyIn : WorldMachine → WorldMachine → Type 0
    OnlyIn m q = Only m.core q.core

    -- votes and elections
    pub update_vote-only : (v : Vote ℕ) (now : ℕ) (m : WorldMachine) → OnlyIn m (update_vote nat_cmp entry_meaning config v now m)
    update_vote-only v now m = update_vote_only P nat_cmp config allows.leading entry_meaning _ (λ vote leader e. allows.appends vote _) v now m refl

    pub elect-only : (now : ℕ) (m : WorldMachine) → OnlyIn m (elect nat_cmp entry_meaning config now m)
    unfolding elect
    elect-only now m =
        let s = m.core.state in
        let v : Vote ℕ = record { leader_id = record { term = s.vote.leader_id.term + 1; node_id = config.id }; committed = false } in
        let standing : WorldMachine = record m { candidate = Some (candidate_of nat_cmp now v (last s.ids) s.em.membership) } in
        let voted = update_vote nat_cmp entry_meaning config v now standing in
        let asked = then_command voted.core (SendVote (record { vote = v; last_log_id = last s.ids })) in
        only_then P m.core voted.core _ (update_vote-only v now standing)
        (only_then P voted.core asked _ (only_of P (SendVote (record { vote = v; last_log_id = last s.ids }) ∷ []) voted.core asked refl (allows.asks (record { vote = v; last_log_id = last s.ids }), tt)) (role_only P nat_cmp config allows.leading asked))

    lead_by_votes-only : (c : WorldCandidate) (now : ℕ) (m : WorldMachine) → OnlyIn m (lead_by_votes nat_cmp entry_meaning config c now m)
    unfolding lead_by_votes
    lead_by_votes-only c now m =
        let l : WorldLeader = into_leader nat_cmp c in
        let begun : WorldLed = record { leader = l; core = m.core } in
        let led = leading (record m { candidate = None }) (rebuild_replication_streams nat_cmp config begun) in
        let voted = update_vote nat_cmp entry_meaning config l.vote now led in
        either (OnlyIn m) (may_establish nat_cmp m.core.state m.leader c) _ _
        (only_then P m.core led.core _ (rebuild_only P nat_cmp config allows.leading begun)
        (only_then P led.core voted.core _ (update_vote-only l.vote now led)
        (either_option (OnlyIn voted) voted.leader _ _ (here voted.core voted.core refl)
        (λ k. leader_append_only P nat_cmp config allows.leading entry_meaning (entry_meaning.blank l.noop_log_id ∷ []) (record { leader = k; core = voted.core }) (allows.appends k.vote _)))))
        (here m.core m.core refl)

    pub vote_resp-only : (target : ℕ) (resp : VoteResponse ℕ) (now : ℕ) (m : WorldMachine) → OnlyIn m (handle_vote_resp nat_cmp entry_meaning config target resp now m)
    unfolding handle_vote_resp take_grant take_rejection
    vote_resp-only target resp now m =
        either_option (OnlyIn m) m.candidate _ _ (here m.core m.core refl)
        (λ c. either (OnlyIn m) (is_granted_to nat_cmp resp c.vote) _ _
        (either (OnlyIn m) (is_granted (is_quorum nat_cmp) (grant_by nat_cmp c target)) _ _ (lead_by_votes-only (grant_by nat_cmp c target) now m) (here m.core m.core refl))
        (update_vote-only (as_uncommitted resp.vote) now m))

    pub vote_req-only : (req : VoteRequest ℕ) (now : ℕ) (m : WorldMachine) → OnlyIn m (handle_vote_req nat_cmp entry_meaning config req now m)
    unfolding handle_vote_req
    vote_req-only req now m = either (OnlyIn m) (refuses_vote_req nat_cmp config m.core.state req now) _ _ (here m.core m.core refl) (update_vote-only req.vote now m)

    -- entries
    do_append-only : (es : List Entry) (c : WorldCore) → Only c (do_append_entries nat_cmp entry_meaning config es c)
    unfolding do_append_entries
    do_append-only es c =
        let taken : WorldCore = with_state c (with_entries entry_meaning c.state es) in
        let t : Only c taken = here c taken refl in
        let settled : WorldCore = if length (memberships_in entry_meaning es) == 0 then taken else update_role nat_cmp config taken in
        let k : Only c settled = either (Only c) (length (memberships_in entry_meaning es) == 0) _ _ t (only_then P c taken (update_role nat_cmp config taken) t (role_only P nat_cmp config allows.leading taken)) in
        either (Only c) (length es == 0) _ _ (here c c refl)
        (only_then P c settled (then_command settled (AppendInputEntries c.state.vote es)) k (only_of P (AppendInputEntries c.state.vote es ∷ []) settled _ refl (allows.appends c.state.vote es, tt)))

    pub initialize-only : (first : ℕ) (e : Entry) (now : ℕ) (m : WorldMachine) → OnlyIn m (initialize nat_cmp entry_meaning config first e now m)
    unfolding initialize
    initialize-only first e now m =
        let taken = on_core (do_append_entries nat_cmp entry_meaning config (entry_meaning.with_id e (default_log_id first) ∷ [])) m in
        only_then P m.core taken.core _ (do_append-only (entry_meaning.with_id e (default_log_id first) ∷ []) m.core) (elect-only now taken)

    truncate-only : (i : ℕ) (c : WorldCore) → Only c (following.truncate_logs nat_cmp config i c)
    truncate-only i c = truncate_only P nat_cmp config allows.leading i c (λ x e. allows.cuts x)

    truncate_for-only : (es : List Entry) (c : WorldCore) → Only c (truncate_for nat_cmp entry_meaning config es c)
    truncate_for-only [] c = here c c refl
    truncate_for-only (e ∷ es) c = truncate-only (entry_meaning.id_of e).index c

    consecutive-only : (prev : Option (LogId ℕ)) (c : WorldCore) → Only c (ensure_log_consecutive nat_cmp config prev c)
    unfolding ensure_log_consecutive
    consecutive-only None c = here c c refl
    consecutive-only (Some x) c = either (Only c) (has_log_id nat_cmp c.state x) _ _ (here c c refl) (truncate-only x.index c)

    append-only : (prev : Option (LogId ℕ)) (es : List Entry) (c : WorldCore) → Only c (following.append_entries nat_cmp entry_meaning config prev es c)
    unfolding following.append_entries
    append-only prev es c =
        let noted = with_state c (accept nat_cmp c.state (later nat_cmp prev (last (map entry_meaning.id_of es)))) in
        let new = new_entries nat_cmp entry_meaning c.state es in
        let cut = truncate_for nat_cmp entry_meaning config new noted in
        only_then P c noted _ (here c noted refl) (only_then P noted cut _ (truncate_for-only new noted) (do_append-only new cut))

    follow-only : (prev : Option (LogId ℕ)) (es : List Entry) (c : WorldCore) → Only c (follow nat_cmp entry_meaning config prev es c)
    unfolding follow
    follow-only prev es c = either (Only c) (holds_previous nat_cmp c.state prev) _ _ (append-only prev es c) (consecutive-only prev c)

    append_entries-only : (v : Vote ℕ) (prev : Option (LogId ℕ)) (es : List Entry) (now : ℕ) (m : WorldMachine) → OnlyIn m (append_entries nat_cmp entry_meaning config v prev es now m)
    unfolding append_entries
    append_entries-only v prev es now m =
        let voted = update_vote nat_cmp entry_meaning config v now m in
        either (OnlyIn m) (rejects_vote nat_cmp m.core.state v) _ _ (here m.core m.core refl) (only_then P m.core voted.core _ (update_vote-only v now m) (follow-only prev es voted.core))

    pub handle_append-only : (v : Vote ℕ) (prev : Option (LogId ℕ)) (es : List Entry) (token : Token) (now : ℕ) (m : WorldMachine) → OnlyIn m (handle_append_entries nat_cmp entry_meaning config v prev es (Some token) now m)
    unfolding handle_append_entries
    handle_append-only v prev es token now m =
        let done = append_entries nat_cmp entry_meaning config v prev es now m in
        only_then P m.core done.core _ (append_entries-only v prev es now m)
        (respond_only (respond.AppendEntries (record { value = append_response (append_answer nat_cmp entry_meaning config v prev now m); token = token })) done.core)

    pub commit-only : (x : Option (LogId ℕ)) (m : WorldMachine) → OnlyIn m (handle_commit_entries nat_cmp entry_meaning config x m)
    unfolding handle_commit_entries commit_entries
    commit-only x m = commit_by_only P nat_cmp config allows.leading [] (commit_target nat_cmp m.core.state x) m.core tt

    -- purges and snapshots
    pub purge-only : (c : WorldCore) → Only c (purge_log nat_cmp c)
    unfolding purge_log
    purge-only c =
        either_option (Only c) c.state.purge_to c _ (here c c refl)
        (λ x. either (Only c) (is_gt (last_id_cmp nat_cmp (Some x) c.state.purged)) _ _
        (only_of P (PurgeLog x ∷ []) c (record { state = purge nat_cmp c.state x; output = with_command c.output (PurgeLog x) }) refl (allows.purges x, tt)) (here c c refl))

    try_purge-only : (rows : List (ℕ × ProgressEntry ℕ)) (c : WorldCore) → Only c (try_purge_log nat_cmp rows c)
    unfolding try_purge_log
    try_purge-only rows c = either (Only c) (is_target_inflight nat_cmp rows c.state) c (purge_log nat_cmp c) (here c c refl) (purge-only c)

    unless-only : (l : WorldLed) → Only l.core (purge_unless_inflight nat_cmp l).core
    unfolding purge_unless_inflight
    unless-only l = try_purge-only l.leader.progress.rows l.core

    pub trigger_purge-only : (i : ℕ) (m : WorldMachine) → OnlyIn m (trigger_purge_log nat_cmp i m)
    unfolding trigger_purge_log
    trigger_purge-only i m =
        either_option (Only m.core) m.core.state.snap.last_log_id m.core _ (here m.core m.core refl)
        (λ x. either (Only m.core) (nat_lt i (next m.core.state.purge_to)) _ _ (here m.core m.core refl)
        (let targeted = update_purge_upto (at m.core.state.ids (min i x.index)) m.core in
        only_then P m.core targeted _ (here m.core targeted refl) (try_purge-only (rows_in m) targeted)))

    recorded-only : (meta : SnapshotMeta ℕ (Unit {0})) (c : WorldCore) → Only c (update_snapshot nat_cmp meta c)
    unfolding update_snapshot
    recorded-only meta c = either (Only c) (is_newer_snapshot nat_cmp c.state meta) _ _ (here c _ refl) (here c c refl)

    schedule-only : (c : WorldCore) → Only c (schedule_policy_based_purge nat_cmp config c)
    unfolding schedule_policy_based_purge
    schedule-only c = here c _ refl

    pub finish-only : (meta : SnapshotMeta ℕ (Unit {0})) (m : WorldMachine) → OnlyIn m (finish_building_snapshot nat_cmp config meta m)
    unfolding finish_building_snapshot
    finish-only meta m =
        let b = built m.core in
        let recorded = update_snapshot nat_cmp meta b in
        let scheduled = schedule_policy_based_purge nat_cmp config recorded in
        either (Only m.core) (is_newer_snapshot nat_cmp b.state meta) _ _
        (only_then P m.core b _ (here m.core b refl)
        (only_then P b recorded _ (recorded-only meta b) (only_then P recorded scheduled _ (schedule-only recorded) (try_purge-only (rows_in m) scheduled))))
        (here m.core b refl)

    pub trigger_snapshot-only : (c : WorldCore) → Only c (trigger_snapshot c)
    trigger_snapshot-only c = trigger_only P allows.leading c

    -- a leader's calls
    pub progress-only : {T : Type 0} (target : ℕ) (id : RequestId) (reply : Result (ReplicationResult ℕ) T) (l : WorldLed) → Only l.core (update_progress nat_cmp config target id reply l).core
    unfolding update_progress
    progress-only target id reply l =
        let taken = take_reply nat_cmp config target id reply l in
        let freed = purge_unless_inflight nat_cmp taken in
        only_then P l.core freed.core _
        (only_then P l.core taken.core freed.core (reply_only P nat_cmp config allows.leading target id reply l) (unless-only taken))
        (sends_only P nat_cmp config allows.leading target freed).0

    pub startup-only : (m : WorldMachine) → OnlyIn m (startup nat_cmp entry_meaning config m)
    startup-only m = startup_only P nat_cmp config allows.leading entry_meaning _ (λ vote leader e. allows.appends vote _) m refl

    pub step_down-only : (m : WorldMachine) → OnlyIn m (leader_step_down nat_cmp entry_meaning config m)
    step_down-only m = step_down_only P nat_cmp config allows.leading entry_meaning _ (λ vote leader e. allows.appends vote _) m refl

  -- what is fed back
  called_only : (o : Option (EngineError ℕ (Unit {0}))) (e : EngineView) (m : WorldMachine) → Only e.machine.core m.core → Only e.machine.core (called o e m).machine.core
  called_only None e m h = h
  called_only (Some r) e m h = here e.machine.core e.machine.core refl

  pub fed_only : (now : ℕ) (f : Feed) (e : EngineView) → Only e.machine.core (fed now f e).machine.core
  fed_only now (Saved v) e = go e.machine.candidate
    where
      own : (b : Bool) → Only e.machine.core (if b then grant_own now v e else e).machine.core
      own true =
          called_only (refusals_of_vote_resp nat_cmp e.config e.config.id (own_grant v) e.machine) e (handle_vote_resp nat_cmp entry_meaning e.config e.config.id (own_grant v) now e.machine)
          (vote_resp-only e.config e.config.id (own_grant v) now e.machine)
      own false = here e.machine.core e.machine.core refl

      go : (o : Option WorldCandidate) → Only e.machine.core (elim o as (λ _. EngineView) [ None ↦ e | Some c ↦ (if asks_itself v c e then grant_own now v e else e) ]).machine.core
      go None = here e.machine.core e.machine.core refl
      go (Some c) = own (asks_itself v c e)
  fed_only now (Stored v x) e = go e.machine.leader
    where
      own : (l : WorldLeader) (b : Bool) → Only e.machine.core (if b then hold_own x l e else e).machine.core
      own l true =
          let led : WorldLed = led_of l e.machine.core.state e.machine.core.output in
          called_only (refusals_of_local_progress nat_cmp e.config x led) e (leading e.machine (update_local_progress nat_cmp e.config x led)) (local_only P nat_cmp e.config allows.leading x led)
      own l false = here e.machine.core e.machine.core refl

      go : (o : Option WorldLeader) → Only e.machine.core (elim o as (λ _. EngineView) [ None ↦ e | Some l ↦ (if is_eq (vote_cmp nat_cmp l.vote v) then hold_own x l e else e) ]).machine.core
      go None = here e.machine.core e.machine.core refl
      go (Some l) = own l (is_eq (vote_cmp nat_cmp l.vote v))
  fed_only now Nothing e = here e.machine.core e.machine.core refl

  -- calls: what they answer, and the engine after them
  -- a call queues such commands alone
  abbrev pub Plain : EngineView → Answer → Type 0
  Plain e r = Only e.machine.core (core_in r)

  pub plain_self : (k : Option ℕ) (e : EngineView) → Plain e (k, e)
  plain_self k e = here e.machine.core e.machine.core refl

  answered_plain : (o : Option (EngineError ℕ (Unit {0}))) (old e after : EngineView) → Only old.machine.core e.machine.core → Only old.machine.core after.machine.core → Plain old (answered o e after)
  answered_plain None old e after h k = k
  answered_plain (Some r) old e after h k = h

  pub call_plain : (o : Option (EngineError ℕ (Unit {0}))) (e after : EngineView) → Only e.machine.core after.machine.core → Plain e (answered o e after)
  call_plain o e after h = answered_plain o e e after (here e.machine.core e.machine.core refl) h

  -- a leader's calls
  pub led_plain : (asks : WorldLed → Option (EngineError ℕ (Unit {0}))) (step : WorldLed → WorldLed) (e : EngineView) → ((l : WorldLed) → Only l.core (step l).core) → Plain e (led_call asks step e)
  led_plain asks step e h = go e.machine.leader
    where
      go : (o : Option WorldLeader) → Plain e
          (elim o as (λ _. Answer) [
            | None ↦ (Some (unled_number e), e)
            | Some l ↦
                (let led = led_of l e.machine.core.state e.machine.core.output in
                answered (asks led) e (with_machine e (leading e.machine (step led))))
          ])
      go None = plain_self (Some (unled_number e)) e
      go (Some l) =
          let led : WorldLed = led_of l e.machine.core.state e.machine.core.output in
          call_plain (asks led) e (with_machine e (leading e.machine (step led))) (h led)

  pub entries_plain : (entries : List Entry) (e : EngineView) → Plain e (entries_proposed entries e)
  entries_plain entries e =
      led_plain (refusals_of_propose (length entries)) (leader_append_entries nat_cmp entry_meaning e.config entries) e
      (λ l. leader_append_only P nat_cmp e.config allows.leading entry_meaning entries l (allows.appends l.leader.vote _))

  pub entry_plain : (entry : Entry) (e : EngineView) → Plain e (entry_proposed entry e)
  entry_plain entry e = entries_plain (entry ∷ []) e

  pub progressed_plain : (target : ℕ) (id : RequestId) (result : Result (ReplicationResult ℕ) (Unit {0})) (e : EngineView) → Plain e (progressed target id result e)
  progressed_plain target id result e = led_plain (refusals_of_progress nat_cmp e.config target id result) (update_progress nat_cmp e.config target id result) e (progress-only e.config target id result)

  higher_plain : (v : Vote ℕ) (now : ℕ) (e : EngineView) → Plain e (take_higher_vote v now e)
  higher_plain v now e =
      call_plain (refusals_of_update_vote nat_cmp e.config (as_uncommitted v) e.machine) e
      (with_machine e (update_vote nat_cmp entry_meaning e.config (as_uncommitted v) now e.machine)) (update_vote-only e.config (as_uncommitted v) now e.machine)

  -- requests and replies
  vote_plain : (req : VoteRequest ℕ) (now : ℕ) (e : EngineView) → Only e.machine.core (vote_requested req now e).machine.core
  vote_plain req now e =
      only_then P e.machine.core (handle_vote_req nat_cmp entry_meaning e.config req now e.machine).core _ (vote_req-only e.config req now e.machine)
      (respond_only (respond.Vote (record { value = vote_req_answer nat_cmp entry_meaning e.config req now e.machine; token = reply_token })) (handle_vote_req nat_cmp entry_meaning e.config req now e.machine).core)

  append_plain : (v : Vote ℕ) (prev : Option (LogId ℕ)) (es : List Entry) (committed : Option (LogId ℕ)) (now : ℕ) (e : EngineView) → Plain e (take_append v prev es committed now e)
  append_plain v prev es committed now e = go (refusals_of_append nat_cmp e.config v prev (map (λ x. x.log_id) es) e.machine)
    where
      new : EngineView
      new = appended v prev es now e

      done : Only e.machine.core new.machine.core
      done = handle_append-only e.config v prev es reply_token now e.machine

      go : (o : Option (EngineError ℕ (Unit {0}))) → Plain e
          (elim o as (λ _. Answer) [
            | Some r ↦ (Some (number_of r), e)
            | None ↦ (if is_ok (append_answer nat_cmp entry_meaning e.config v prev now e.machine) then take_commit committed new else (None, new))
          ])
      go (Some r) = plain_self (Some (number_of r)) e
      go None = by (is_ok (append_answer nat_cmp entry_meaning e.config v prev now e.machine))
        where
          by : (b : Bool) → Plain e (if b then take_commit committed new else (None, new))
          by true =
              answered_plain (refusals_of_commit nat_cmp committed new.machine) e new (with_machine new (handle_commit_entries nat_cmp entry_meaning new.config committed new.machine)) done
              (only_then P e.machine.core new.machine.core _ done (commit-only new.config committed new.machine))
          by false = done

  conflict_plain : (from : ℕ) (o : Origin) (prev : Option (LogId ℕ)) (e : EngineView) → Plain e (take_conflict from o prev e)
  conflict_plain from o None e = plain_self None e
  conflict_plain from o (Some x) e = progressed_plain from o.request_id (Ok (record { sending_time = o.sent_at; result = Err x })) e

  append_reply_plain : (from : ℕ) (o : Origin) (reply : AppendEntriesResponse ℕ) (prev upto : Option (LogId ℕ)) (now : ℕ) (e : EngineView) → Plain e (take_append_reply from o reply prev upto now e)
  append_reply_plain from o Success prev upto now e = progressed_plain from o.request_id (Ok (record { sending_time = o.sent_at; result = Ok upto })) e
  append_reply_plain from o (PartialSuccess x) prev upto now e = progressed_plain from o.request_id (Ok (record { sending_time = o.sent_at; result = Ok x })) e
  append_reply_plain from o Conflict prev upto now e = conflict_plain from o prev e
  append_reply_plain from o (HigherVote v) prev upto now e = higher_plain v now e

  -- a message, but for a snapshot
  pub deliver_plain : (from : ℕ) (b : Body) (now : ℕ) (e : EngineView) → ((o : Origin) (s : WorldSnapshot) → b ≡ body.SnapshotRequest o s → ⊥) → Plain e (deliver from b now e)
  deliver_plain from (body.VoteRequest req) now e h = call_plain (refusals_of_vote_req nat_cmp e.config req now e.machine) e (vote_requested req now e) (vote_plain req now e)
  deliver_plain from (body.VoteReply resp) now e h = call_plain (refusals_of_vote_resp nat_cmp e.config from resp e.machine) e (vote_replied from resp now e) (vote_resp-only e.config from resp now e.machine)
  deliver_plain from (body.AppendRequest o prev es committed) now e h = append_plain o.session_id.vote prev es committed now e
  deliver_plain from (body.AppendReply o reply prev upto) now e h = append_reply_plain from o reply prev upto now e
  deliver_plain from (body.SnapshotRequest o snapshot) now e h = absurd (h o snapshot refl)
  deliver_plain from (body.SnapshotReply o reply upto) now e h = go (is_gt (vote_cmp nat_cmp reply.vote o.session_id.vote))
    where
      go : (b : Bool) → Plain e (if b then take_higher_vote reply.vote now e else take_result from o (Ok upto) e)
      go true = higher_plain reply.vote now e
      go false = progressed_plain from o.request_id (Ok (record { sending_time = o.sent_at; result = Ok upto })) e

  -- an election, and a start
  pub elected_plain : (now : ℕ) (e : EngineView) → Plain e (elected now e)
  elected_plain now e = call_plain (refusals_of_elect nat_cmp e.config e.machine) e (with_machine e (elect nat_cmp entry_meaning e.config now e.machine)) (elect-only e.config now e.machine)

  pub resumed_plain : (e : EngineView) → Plain e (resumed e)
  resumed_plain e = call_plain (refusals_of_startup nat_cmp e.config e.machine) e (with_machine e (startup nat_cmp entry_meaning e.config e.machine)) (startup-only e.config e.machine)

  pub begun_plain : (now : ℕ) (e : EngineView) → Plain e (begun_anew now e)
  begun_plain now e = begun_one (Plain e) now e (λ _. elected_plain now e) (plain_self None e) (resumed_plain e)
