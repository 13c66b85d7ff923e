-- Where no learner stands, a candidate is a voter.
use Rattle.std.proofs.Common.{ℕ, ◌+◌, ◌≡◌, Bool, true, false, List, [], ◌∷◌, refl, sym, ◌∙◌, subst, Option, None, Some}
use Rattle.std.specs.Prelude.{Contains, Err, IfSome, Ok, Result, if◌then◌else◌, is_some, length, map}
use Rattle.std.specs.List.{AllByRecursion}
use Rattle.std.specs.Ordering.{is_eq, is_gt, nat_cmp}
use Rattle.std.specs.Option.{option_map}
use Rattle.std.specs.Result.{is_ok}
use Rattle.std.proofs.lemmas.List.Elements.{All-contains_itself, recursion_from_All}
use Rattle.proof_deeds.specs.raft_state.declared.ids.LogId.{LogId}
use Rattle.proof_deeds.specs.raft_state.declared.ids.Vote.{Vote}
use Rattle.proof_deeds.specs.raft_state.declared.membership.Members.{Members}
use Rattle.proof_deeds.specs.raft_state.Log.{last}
use Rattle.proof_deeds.specs.raft_state.Members.{is_voter, voter_ids}
use Rattle.proof_deeds.specs.raft_state.Order.{leader_id_cmp, vote_cmp}
use Rattle.proof_deeds.specs.raft_state.State.{is_leader, is_leading}
use Rattle.proof_deeds.specs.raft_progress.Quorum.{is_quorum}
use Rattle.proof_deeds.specs.raft_error.declared.error.EngineError.{EngineError}
use Rattle.proof_deeds.specs.raft_error.declared.error.EngineError.TheVariants.{NotInMembers}
use Rattle.proof_deeds.specs.raft_command.declared.config.EngineConfig.{EngineConfig}
use Rattle.proof_deeds.specs.raft_command.declared.message.AppendEntriesResponse.{AppendEntriesResponse}
use Rattle.proof_deeds.specs.raft_command.declared.message.AppendEntriesResponse.TheVariants.{Conflict, HigherVote, PartialSuccess, Success}
use Rattle.proof_deeds.specs.raft_command.declared.message.VoteRequest.{VoteRequest}
use Rattle.proof_deeds.specs.raft_command.declared.message.VoteResponse.{VoteResponse}
use Rattle.proof_deeds.specs.raft_command.declared.replication.ReplicationResult.{ReplicationResult}
use Rattle.proof_deeds.specs.raft_command.declared.replication.RequestId.{RequestId}
use Rattle.proof_deeds.specs.raft_command.declared.command.Command.TheVariants as command
use Rattle.proof_deeds.specs.raft_command.Queue.{popped}
use Rattle.proof_deeds.specs.raft_proposer.Candidate.{candidate_of, grant_by, into_leader, is_granted}
use Rattle.proof_deeds.specs.raft_steps.Engine.{as_uncommitted, default_log_id, elect, handle_vote_resp, initialize, is_granted_to, lead_by_votes, may_establish, take_grant, take_rejection}
use Rattle.proof_deeds.specs.raft_steps.FollowingHandler.{do_append_entries}
use Rattle.proof_deeds.specs.raft_steps.InstallRefusals.{refusals_of_install}
use Rattle.proof_deeds.specs.raft_steps.Installs.{handle_install_full_snapshot}
use Rattle.proof_deeds.specs.raft_steps.Invariants.{CandidateFits, CandidateIsCurrent, IsSound}
use Rattle.proof_deeds.specs.raft_steps.Parts.{leading, led_of, on_core}
use Rattle.proof_deeds.specs.raft_steps.Refusals.{refusals_of_counter_led, refusals_of_elect, refusals_of_initialize, refusals_of_local_progress, refusals_of_propose, refusals_of_spent, refusals_of_trigger_snapshot, refusals_of_update_vote, refusals_of_vote_resp}
use Rattle.proof_deeds.specs.raft_steps.LeaderHandler.{leader_append_entries}
use Rattle.proof_deeds.specs.raft_steps.Replies.{update_progress}
use Rattle.proof_deeds.specs.raft_steps.ReplyRefusals.{refusals_of_progress}
use Rattle.proof_deeds.specs.raft_steps.ReplicationHandler.{initiate_replication, rebuild_replication_streams}
use Rattle.proof_deeds.specs.raft_steps.RequestRefusals.{refusals_of_append, refusals_of_commit, refusals_of_vote_req}
use Rattle.proof_deeds.specs.raft_steps.Requests.{append_answer, append_entries, handle_append_entries, handle_commit_entries, handle_vote_req, refuses_vote_req}
use Rattle.proof_deeds.specs.raft_steps.SnapshotCalls.{finish_building_snapshot, trigger_purge_log}
use Rattle.proof_deeds.specs.raft_steps.Starts.{is_settled, leader_step_down, refusals_of_startup, refusals_of_step_down, startup}
use Rattle.proof_deeds.specs.raft_steps.ServerStateHandler.{update_role}
use Rattle.proof_deeds.specs.raft_steps.VoteHandler.{become_following, become_leader, lead_anew, rejects_vote, take_vote, update_internal_server_state, update_vote}
use Rattle.proof_deeds.proofs.raft_steps_proofs.Kept.{either, either_option}
use Rattle.proof_deeds.proofs.raft_steps_proofs.Unrefused.{neither}
use Rattle.proof_deeds.specs.raft_store.declared.entry.Entry.{Entry}
use Rattle.proof_deeds.specs.raft_store.Built.{meta_of}
use Rattle.proof_deeds.specs.raft_store.Entries.{entry_meaning}
use Rattle.proof_deeds.specs.raft_store.Types.{EngineView, WorldCandidate, WorldCommand, WorldLeader, WorldMachine, WorldSnapshot, WorldStore}
use Rattle.proof_deeds.specs.raft_schedule.declared.event.Event.{Event}
use Rattle.proof_deeds.specs.raft_schedule.declared.event.EventKind.{EventKind}
use Rattle.proof_deeds.specs.raft_schedule.declared.event.EventKind.TheVariants as kinds
use Rattle.proof_deeds.specs.raft_schedule.declared.event.SkipReason.{SkipReason}
use Rattle.proof_deeds.specs.raft_schedule.declared.event.SkipReason.TheVariants.{HasLeader, NotVoter}
use Rattle.proof_deeds.specs.raft_schedule.declared.event.Start.{Start}
use Rattle.proof_deeds.specs.raft_schedule.declared.event.Start.TheVariants as starts
use Rattle.proof_deeds.specs.raft_calls.declared.elections.Candidates.TheVariants.{AllMembers, Voters}
use Rattle.proof_deeds.specs.raft_calls.declared.message.Body.{Body}
use Rattle.proof_deeds.specs.raft_calls.declared.message.Body.TheVariants as body
use Rattle.proof_deeds.specs.raft_calls.declared.message.Message.{Message}
use Rattle.proof_deeds.specs.raft_calls.declared.message.Origin.{Origin}
use Rattle.proof_deeds.specs.raft_calls.Deliveries.{answered, appended, deliver, led_call, progressed, reply_token, take_append, take_append_reply, take_conflict, take_higher_vote, unled_number, with_machine}
use Rattle.proof_deeds.specs.raft_calls.Elections.{elected, first_entry, initialized}
use Rattle.proof_deeds.specs.raft_calls.Engines.{with_queue}
use Rattle.proof_deeds.specs.raft_calls.Feeds.{WorldLed, asks_itself, called, feed, last_sent, own_grant}
use Rattle.proof_deeds.specs.raft_calls.LeaderCalls.{failed, heartbeats_sent, inflight_to, proposed, read_asked, request_of, stepped_down, value_entry}
use Rattle.proof_deeds.specs.raft_calls.Memberships.{groups_in, learners_changed, members_with, membership_changed, membership_entry}
use Rattle.proof_deeds.specs.raft_calls.Snapshots.{purge_triggered, snapshot_triggered, told_built}
use Rattle.proof_deeds.specs.raft_calls.Starts.{begun_anew, resumed}
use Rattle.proof_deeds.proofs.raft_calls_proofs.StartReady.{begun_one}
use Rattle.proof_deeds.specs.raft_node.declared.act.Act.{Act}
use Rattle.proof_deeds.specs.raft_node.declared.act.Act.TheVariants.{ChangeLearners, ChangeMembership, Elect, Fail, FinishSnapshot, Initialize, Propose, Read, Restart, SendHeartbeat, StepDown, Stop, Take, TriggerPurge, TriggerSnapshot}
use Rattle.proof_deeds.specs.raft_node.declared.act.Aim.{Aim}
use Rattle.proof_deeds.specs.raft_node.declared.given.Given.{Given}
use Rattle.proof_deeds.specs.raft_node.Events.{aim_of, calls_at, message_at, on_engine, skip_reason}
use Rattle.proof_deeds.specs.raft_node.Net.{NodeView}
use Rattle.proof_deeds.specs.raft_node.Runs.{whole_logs, world_after}
use Rattle.proof_deeds.specs.raft_node.Snapshots.{finish_snapshot, kept_built}
use Rattle.proof_deeds.specs.raft_node.Starts.{engine_on, restart, unsaved}
use Rattle.proof_deeds.specs.raft_node.WellFormed.{IsWellFormed}
use Rattle.proof_deeds.specs.raft_node.Work.{Work, done_of, one_less, step_of, stopped, stops}
use Rattle.proof_deeds.specs.raft_node.Execute.{exec}
use Rattle.proof_deeds.proofs.raft_node_proofs.Ready.{node_after, runs_unskipped, skip_moved}
use Rattle.proof_deeds.specs.proof_agreement.Stores as stores
use Rattle.proof_deeds.specs.Images.{setup_of}
use Rattle.proof_deeds.specs.Nets.{EngineFollows, NodeFollows}
use Rattle.proof_deeds.proofs.AppendFitting.{Settled}
use Rattle.proof_deeds.proofs.Joined.{Followed}
use Rattle.proof_deeds.proofs.Nodes.{each_both}
use Rattle.proof_deeds.proofs.Promised.{one_of}
use Rattle.proof_deeds.proofs.Proved.{followed}
use Rattle.proof_progress.specs.Changes.{CandidateVotes, CandidatesVote, OnlyVotersStand}
use Rattle.proof_progress.specs.Choices.{is_among}
use Rattle.proof_progress.specs.Elections.{Listed, members}
use Rattle.proof_progress.proofs.Throughout.{AllHold, CallsKeep, CommandsKeep, run_holds}
use Rattle.proof_progress.proofs.Voters.{listed_voter}

-- What holds of an engine's candidate, if it holds of those that are made, and grants keep it

module _ (Q : WorldCandidate → Type 0) (grants : (c : WorldCandidate) (voter : ℕ) → Q c → Q (grant_by nat_cmp c voter)) where
  -- it holds of the candidate, if there is one
  abbrev Stands : WorldMachine → Type 0
  Stands m = IfSome m.candidate Q

  module _ (config : EngineConfig ℕ) where
    internal_stands : (m : WorldMachine) → Stands m → Stands (update_internal_server_state nat_cmp entry_meaning config m)
    unfolding update_internal_server_state become_leader lead_anew become_following
    internal_stands m h =
        either Stands (is_leader nat_cmp m.core.state config.id) _ _
        (either_option Stands m.leader _ _ h (λ l. either Stands (is_eq (leader_id_cmp nat_cmp l.vote.leader_id m.core.state.vote.leader_id)) _ _ h h))
        (either Stands (is_leading nat_cmp m.core.state config.id) _ _ h tt)

    vote_stands : (v : Vote ℕ) (now : ℕ) (m : WorldMachine) → Stands m → Stands (update_vote nat_cmp entry_meaning config v now m)
    unfolding update_vote
    vote_stands v now m h = either Stands (rejects_vote nat_cmp m.core.state v) _ _ h (internal_stands (on_core (take_vote nat_cmp config v now) m) h)

    elect_stands : (now : ℕ) (m : WorldMachine)
        → ((v : Vote ℕ) → Q (candidate_of nat_cmp now v (last m.core.state.ids) m.core.state.em.membership))
        → Stands (elect nat_cmp entry_meaning config now m)
    unfolding elect
    elect_stands now m q =
        let s = m.core.state in
        let v : Vote ℕ = record { leader_id = record { term = s.vote.leader_id.term + 1; node_id = config.id }; committed = false } in
        vote_stands v now (record m { candidate = Some (candidate_of nat_cmp now v (last s.ids) s.em.membership) }) (q v)

    lead_stands : (c : WorldCandidate) (now : ℕ) (m : WorldMachine) → Stands (lead_by_votes nat_cmp entry_meaning config c now m)
    unfolding lead_by_votes
    lead_stands c now m =
        let l : WorldLeader = into_leader nat_cmp c in
        let led : WorldMachine =
        leading (record m { candidate = None }) (rebuild_replication_streams nat_cmp config (record { leader = l; core = m.core })) in
        let voted : WorldMachine = update_vote nat_cmp entry_meaning config l.vote now led in
        let h : Stands voted = vote_stands l.vote now led tt in
        either Stands (may_establish nat_cmp m.core.state m.leader c) _ _ (either_option Stands voted.leader _ _ h (λ k. h)) tt

    vote_resp_stands : (target : ℕ) (resp : VoteResponse ℕ) (now : ℕ) (m : WorldMachine) → Stands m
        → Stands (handle_vote_resp nat_cmp entry_meaning config target resp now m)
    unfolding handle_vote_resp take_grant take_rejection
    vote_resp_stands target resp now m h = go m.candidate h
      where
        go : (o : Option WorldCandidate) → IfSome o Q → Stands
            (elim o as (λ _. WorldMachine) [
              | None ↦ m
              | Some c ↦ (if is_granted_to nat_cmp resp c.vote then (if is_granted (is_quorum nat_cmp) (grant_by nat_cmp c target) then lead_by_votes nat_cmp entry_meaning config (grant_by nat_cmp c target) now m else record m { candidate = Some (grant_by nat_cmp c target) })
                  else update_vote nat_cmp entry_meaning config (as_uncommitted resp.vote) now m)
            ])
        go None k = h
        go (Some c) k =
            either Stands (is_granted_to nat_cmp resp c.vote) _ _
            (either Stands (is_granted (is_quorum nat_cmp) (grant_by nat_cmp c target)) _ _ (lead_stands (grant_by nat_cmp c target) now m) (grants c target k))
            (vote_stands (as_uncommitted resp.vote) now m h)

    vote_req_stands : (req : VoteRequest ℕ) (now : ℕ) (m : WorldMachine) → Stands m → Stands (handle_vote_req nat_cmp entry_meaning config req now m)
    unfolding handle_vote_req
    vote_req_stands req now m h = either Stands (refuses_vote_req nat_cmp config m.core.state req now) _ _ h (vote_stands req.vote now m h)

    append_stands : (v : Vote ℕ) (prev : Option (LogId ℕ)) (es : List Entry) (now : ℕ) (m : WorldMachine) → Stands m
        → Stands (handle_append_entries nat_cmp entry_meaning config v prev es (Some reply_token) now m)
    unfolding handle_append_entries append_entries
    append_stands v prev es now m h = either Stands (rejects_vote nat_cmp m.core.state v) _ _ h (vote_stands v now m h)

    commit_stands : (x : Option (LogId ℕ)) (m : WorldMachine) → Stands m → Stands (handle_commit_entries nat_cmp entry_meaning config x m)
    unfolding handle_commit_entries
    commit_stands x m h = h

    install_stands : (v : Vote ℕ) (s : WorldSnapshot) (now : ℕ) (m : WorldMachine) → Stands m
        → Stands (handle_install_full_snapshot nat_cmp entry_meaning config v s reply_token now m)
    unfolding handle_install_full_snapshot
    install_stands v s now m h = either Stands (rejects_vote nat_cmp m.core.state v) _ _ h (vote_stands v now m h)

    purge_stands : (i : ℕ) (m : WorldMachine) → Stands m → Stands (trigger_purge_log nat_cmp i m)
    unfolding trigger_purge_log
    purge_stands i m h = h

    built_stands : (es : List Entry) (m : WorldMachine) → Stands m → Stands (finish_building_snapshot nat_cmp config (meta_of entry_meaning es) m)
    unfolding finish_building_snapshot
    built_stands es m h = h

    startup_stands : (m : WorldMachine) → Stands m → Stands (startup nat_cmp entry_meaning config m)
    unfolding startup
    startup_stands m h =
        let led : WorldMachine = update_internal_server_state nat_cmp entry_meaning config m in
        let k : Stands led = internal_stands m h in
        either Stands (is_leader nat_cmp m.core.state config.id) _ _ (either_option Stands led.leader _ _ k (λ l. k)) h

    step_down_stands : (m : WorldMachine) → Stands m → Stands (leader_step_down nat_cmp entry_meaning config m)
    unfolding leader_step_down
    step_down_stands m h = either Stands (is_settled nat_cmp m.core.state) _ _ (internal_stands m h) h

  -- Calls

  abbrev Answer : Type 0
  Answer = Option ℕ × EngineView

  abbrev machine_in : Answer → WorldMachine
  machine_in r = r.1.machine

  -- a call that keeps it
  abbrev Kept : EngineView → Answer → Type 0
  Kept e r = Stands e.machine → Stands (machine_in r)

  answered_kept : (o : Option (EngineError ℕ (Unit {0}))) (e after : EngineView) → (o ≡ None → Stands after.machine) → Stands e.machine
      → Stands (machine_in (answered o e after))
  answered_kept None e after k h = k refl
  answered_kept (Some r) e after k h = h

  led_kept : (asks : WorldLed → Option (EngineError ℕ (Unit {0}))) (step : WorldLed → WorldLed) (e : EngineView) → Kept e (led_call asks step e)
  led_kept asks step e h = go e.machine.leader
    where
      go : (o : Option WorldLeader) → Stands
          (machine_in (elim o as (λ _. Answer) [
            | None ↦ (Some (unled_number e), e)
            | Some l ↦
                (let led = led_of l e.machine.core.state e.machine.core.output in
                answered (asks led) e (with_machine e (leading e.machine (step led))))
          ]))
      go None = h
      go (Some l) =
          let led : WorldLed = led_of l e.machine.core.state e.machine.core.output in
          answered_kept (asks led) e (with_machine e (leading e.machine (step led))) (λ _. h) h

  progressed_kept : (target : ℕ) (id : RequestId) (result : Result (ReplicationResult ℕ) (Unit {0})) (e : EngineView)
      → Kept e (progressed target id result e)
  progressed_kept target id result e = led_kept (refusals_of_progress nat_cmp e.config target id result) (update_progress nat_cmp e.config target id result) e

  changed_kept : (groups : List (List ℕ)) (learners : List ℕ) (e : EngineView) → Kept e (membership_changed groups learners e)
  changed_kept groups learners e = led_kept (refusals_of_propose 1) (leader_append_entries nat_cmp entry_meaning e.config (membership_entry (members_with groups learners) ∷ [])) e

  higher_kept : (v : Vote ℕ) (now : ℕ) (e : EngineView) → Kept e (take_higher_vote v now e)
  higher_kept v now e h =
      answered_kept (refusals_of_update_vote nat_cmp e.config (as_uncommitted v) e.machine) e _ (λ _. vote_stands e.config (as_uncommitted v) now e.machine h) h

  append_kept : (v : Vote ℕ) (prev : Option (LogId ℕ)) (es : List Entry) (committed : Option (LogId ℕ)) (now : ℕ) (e : EngineView)
      → Kept e (take_append v prev es committed now e)
  append_kept v prev es committed now e h =
      either_option (λ (r : Answer). Stands (machine_in r)) (refusals_of_append nat_cmp e.config v prev (map (λ x. x.log_id) es) e.machine) _ _
      (either (λ (r : Answer). Stands (machine_in r)) (is_ok (append_answer nat_cmp entry_meaning e.config v prev now e.machine)) _ _
      (answered_kept (refusals_of_commit nat_cmp committed new.machine) new _ (λ _. commit_stands new.config committed new.machine done) done) done)
      (λ r. h)
    where
      new : EngineView
      new = appended v prev es now e

      done : Stands (appended v prev es now e).machine
      done = append_stands e.config v prev es now e.machine h

  conflict_kept : (from : ℕ) (o : Origin) (prev : Option (LogId ℕ)) (e : EngineView) → Kept e (take_conflict from o prev e)
  conflict_kept from o None e h = h
  conflict_kept from o (Some x) e h = progressed_kept from o.request_id (Ok (record { sending_time = o.sent_at; result = Err x })) e h

  append_reply_kept : (from : ℕ) (o : Origin) (reply : AppendEntriesResponse ℕ) (prev upto : Option (LogId ℕ)) (now : ℕ) (e : EngineView)
      → Kept e (take_append_reply from o reply prev upto now e)
  append_reply_kept from o Success prev upto now e h = progressed_kept from o.request_id (Ok (record { sending_time = o.sent_at; result = Ok upto })) e h
  append_reply_kept from o (PartialSuccess x) prev upto now e h = progressed_kept from o.request_id (Ok (record { sending_time = o.sent_at; result = Ok x })) e h
  append_reply_kept from o Conflict prev upto now e h = conflict_kept from o prev e h
  append_reply_kept from o (HigherVote v) prev upto now e h = higher_kept v now e h

  deliver_kept : (from : ℕ) (b : Body) (now : ℕ) (e : EngineView) → Kept e (deliver from b now e)
  deliver_kept from (body.VoteRequest req) now e h = answered_kept (refusals_of_vote_req nat_cmp e.config req now e.machine) e _ (λ _. vote_req_stands e.config req now e.machine h) h
  deliver_kept from (body.VoteReply resp) now e h = answered_kept (refusals_of_vote_resp nat_cmp e.config from resp e.machine) e _ (λ _. vote_resp_stands e.config from resp now e.machine h) h
  deliver_kept from (body.AppendRequest o prev es committed) now e h = append_kept o.session_id.vote prev es committed now e h
  deliver_kept from (body.AppendReply o reply prev upto) now e h = append_reply_kept from o reply prev upto now e h
  deliver_kept from (body.SnapshotRequest o s) now e h =
      answered_kept (refusals_of_install nat_cmp e.config o.session_id.vote s.meta e.machine) e _ (λ _. install_stands e.config o.session_id.vote s now e.machine h) h
  deliver_kept from (body.SnapshotReply o reply upto) now e h =
      either (λ (r : Answer). Stands (machine_in r)) (is_gt (vote_cmp nat_cmp reply.vote o.session_id.vote)) _ _
      (higher_kept reply.vote now e h) (progressed_kept from o.request_id (Ok (record { sending_time = o.sent_at; result = Ok upto })) e h)

  resumed_kept : (e : EngineView) → Kept e (resumed e)
  resumed_kept e h = answered_kept (refusals_of_startup nat_cmp e.config e.machine) e _ (λ _. startup_stands e.config e.machine h) h

  -- What is fed back

  called_kept : {E : Type 0} (o : Option E) (e : EngineView) (m : WorldMachine) → Stands m → Stands e.machine → Stands (called o e m).machine
  called_kept None e m k h = k
  called_kept (Some r) e m k h = h

  pub fed_kept : (now : ℕ) (c : WorldCommand) (e : EngineView) → Stands e.machine → Stands (feed now c e).machine
  fed_kept now (command.SaveVote v) e h =
      either_option (λ (x : EngineView). Stands x.machine) e.machine.candidate _ _ h
      (λ c. either (λ (x : EngineView). Stands x.machine) (asks_itself v c e) _ _
      (called_kept (refusals_of_vote_resp nat_cmp e.config e.config.id (own_grant v) e.machine) e _ (vote_resp_stands e.config e.config.id (own_grant v) now e.machine h) h) h)
  fed_kept now (command.AppendInputEntries v es) e h =
      either_option (λ (x : EngineView). Stands x.machine) e.machine.leader _ _ h
      (λ l. either (λ (x : EngineView). Stands x.machine) (is_eq (vote_cmp nat_cmp l.vote v)) _ _
      (called_kept (refusals_of_local_progress nat_cmp e.config (last_sent None es) (led_of l e.machine.core.state e.machine.core.output)) e _ h h) h)
  fed_kept now (command.DeleteConflictLog since) e h = h
  fed_kept now (command.PurgeLog upto) e h = h
  fed_kept now (command.Commit seq already upto) e h = h
  fed_kept now (command.StateMachine c) e h = h
  fed_kept now (command.SendVote req) e h = h
  fed_kept now (command.RebuildReplicationStreams targets) e h = h
  fed_kept now (command.Replicate target req) e h = h
  fed_kept now (command.ReplicateCommitted committed) e h = h
  fed_kept now (command.Respond when reply) e h = h
  fed_kept now command.BecomeLeader e h = h
  fed_kept now command.QuitLeader e h = h

-- In a run

-- a candidate's groups have an id
abbrev pub Among : ℕ → WorldCandidate → Type 0
Among id c = is_among c.progress.set id ≡ true

-- so it is of a node's candidate
abbrev pub HasStood : ℕ → WorldStore → Option EngineView → Type 0
HasStood id t o = IfSome o (λ e. IfSome e.machine.candidate (Among id))

module _ (id : ℕ) where
  abbrev Stood : EngineView → Type 0
  Stood e = IfSome e.machine.candidate (Among id)

  pub granted : (c : WorldCandidate) (voter : ℕ) → Among id c → Among id (grant_by nat_cmp c voter)
  granted c voter h = h

  elected_stood : (now : ℕ) (e : EngineView) → is_voter nat_cmp (members e) id ≡ true → Stood e → Stood (elected now e).1
  elected_stood now e v h = answered_kept (Among id) granted (refusals_of_elect nat_cmp e.config e.machine) e _ (λ _. elect_stands (Among id) granted e.config now e.machine (λ _. v)) h

  begun_stood : (now : ℕ) (e : EngineView) → e.config.id ≡ id → Stood e → Stood (begun_anew now e).1
  begun_stood now e own h =
      begun_one (λ r. Stood r.1) now e (λ v. elected_stood now e (subst (λ i. is_voter nat_cmp (members e) i ≡ true) own v) h) h (resumed_kept (Among id) granted e h)

  -- the first entry comes to voters alone
  initialized_stood : (first : Members ℕ (Unit {0})) (now : ℕ) (e : EngineView) → e.config.id ≡ id → Stood e → Stood (initialized first now e).1
  unfolding initialize do_append_entries update_role
  initialized_stood first now e own h =
      answered_kept (Among id) granted (refusals_of_initialize nat_cmp entry_meaning e.config 0 (first_entry first) e.machine) e _
      (λ asks.
      let voter : is_voter nat_cmp first e.config.id ≡ true = by (is_voter nat_cmp first e.config.id) (neither _ _ asks).1 in
      elect_stands (Among id) granted e.config now (on_core (do_append_entries nat_cmp entry_meaning e.config (entry_meaning.with_id (first_entry first) (default_log_id 0) ∷ [])) e.machine)
      (λ _. subst (λ i. is_voter nat_cmp first i ≡ true) own voter)) h
    where
      by : (b : Bool) → ◌≡◌ {A = Option (EngineError ℕ (Unit {0}))} (if b then None else Some (NotInMembers e.config.id)) None → b ≡ true
      by true q = refl
      by false q = cc

  on_engine_stood : (f : EngineView → Option ℕ × EngineView) (n : NodeView) → ((e : EngineView) → n.engine ≡ Some e → Stood e → Stood (f e).1)
      → IfSome n.engine Stood → IfSome (on_engine f n).1.engine Stood
  on_engine_stood f n k h = go n.engine refl h
    where
      go : (o : Option EngineView) → n.engine ≡ o → IfSome o Stood
          → IfSome (node_after (elim o as (λ _. Option ℕ × NodeView) [ None ↦ (None, n) | Some e ↦ (let r = f e in (r.0, record n { engine = Some r.1 })) ])).engine Stood
      go None q j = h
      go (Some e) q j = k e q j

  finish_stood : (n : NodeView) → IfSome n.engine Stood → IfSome (finish_snapshot n).1.engine Stood
  finish_stood n h = go n.engine h
    where
      told : (es : List Entry) (r : Option ℕ × EngineView) → Stood r.1 → IfSome (kept_built es n r).1.engine Stood
      told es (Some x, e) k = h
      told es (None, e) k = k

      noted : (e : EngineView) → Stood e → (o : Option (List Entry))
          → IfSome (node_after (elim o as (λ _. Option ℕ × NodeView) [ None ↦ (None, n) | Some es ↦ kept_built es n (told_built es e) ])).engine Stood
      noted e k None = h
      noted e k (Some es) = told es (told_built es e) (answered_kept (Among id) granted (refusals_of_spent e.machine) e _ (λ _. built_stands (Among id) granted e.config es e.machine k) k)

      go : (o : Option EngineView) → IfSome o Stood
          → IfSome (node_after (elim o as (λ _. Option ℕ × NodeView) [ None ↦ (None, n) | Some e ↦ elim n.noted as (λ _. Option ℕ × NodeView) [ None ↦ (None, n) | Some es ↦ kept_built es n (told_built es e) ] ])).engine Stood
      go None k = h
      go (Some e) k = noted e k n.noted

  restart_stood : (given : Given) (start : Start) (n : NodeView) → n.id ≡ id → IfSome (restart given.settings start n).1.engine Stood
  restart_stood given starts.Plain n own = resumed_kept (Among id) granted (engine_on given.settings false n) tt
  restart_stood given starts.Saved n own = resumed_kept (Among id) granted (engine_on given.settings true n) tt
  restart_stood given starts.Bare n own = begun_stood n.moment (engine_on given.settings false (unsaved n)) own tt

-- a candidate under its engine's vote has the groups of its membership
pub stood_votes : (id : ℕ) (e : EngineView) → e.config.id ≡ id → IsSound nat_cmp e.config e.machine → IfSome e.machine.candidate (Among id)
    → CandidateVotes e
stood_votes id e own sound h = go e.machine.candidate h sound.lead.candidate_fits
  where
    go : (o : Option WorldCandidate) → IfSome o (Among id)
        → IfSome o (CandidateFits nat_cmp e.config.id e.machine.core.state.vote e.machine.core.state.ids (members e))
        → IfSome o (λ c. is_eq (vote_cmp nat_cmp c.vote e.machine.core.state.vote) ≡ true → Listed (voter_ids nat_cmp (members e)) e.config.id)
    go None k j = tt
    go (Some c) k j = λ current.
        let g : CandidateIsCurrent nat_cmp e.config.id e.machine.core.state.ids (members e) c = j.current current in
        listed_voter (members e) e.config.id g.member (subst (λ (groups : List (List ℕ)). is_among groups e.config.id ≡ true) g.groups (subst (λ i. is_among c.progress.set i ≡ true) (sym own) k))

-- an act lets no learner stand
abbrev pub LetsNone : Act → Type 0
LetsNone (Elect AllMembers) = ⊥
LetsNone _ = Unit {0}

-- the calls of an act
module _ (given : Given) (n : NodeView) (own : (e : EngineView) → n.engine ≡ Some e → e.config.id ≡ n.id) (h : HasStood n.id n.store n.engine) where
  -- those of a running engine that make no candidate
  by_call : (f : EngineView → Option ℕ × EngineView) → ((e : EngineView) → Stood n.id e → Stood n.id (f e).1)
      → IfSome (on_engine f n).1.engine (Stood n.id)
  by_call f k = on_engine_stood n.id f n (λ e q. k e) h

  elect_called : skip_reason (Elect Voters) n ≡ None → IfSome (on_engine (elected n.moment) n).1.engine (Stood n.id)
  elect_called none =
      on_engine_stood n.id (elected n.moment) n
      (λ e q. elected_stood n.id n.moment e (subst (λ i. is_voter nat_cmp (members e) i ≡ true) (own e q) (by (is_some e.machine.leader) (is_voter nat_cmp (members e) e.config.id) (runs_unskipped (Elect Voters) n e q none)))) h
    where
      by : (a b : Bool) → ◌≡◌ {A = Option SkipReason} (if a then Some HasLeader else if b then None else Some NotVoter) None → b ≡ true
      by true b q = cc
      by false true q = refl
      by false false q = cc

  pub calls_stood : (act : Act) → LetsNone act → skip_reason act n ≡ None
      → HasStood n.id (calls_at given act n).1.store (calls_at given act n).1.engine
  calls_stood Initialize v none = on_engine_stood n.id (initialized given.membership n.moment) n (λ e q. initialized_stood n.id given.membership n.moment e (own e q)) h
  calls_stood (Elect Voters) v none = elect_called none
  calls_stood (Elect AllMembers) v none = absurd v
  calls_stood (Take m) v none = by_call (deliver m.from m.body n.moment) (deliver_kept (Among n.id) (granted n.id) m.from m.body n.moment)
  calls_stood (Propose values) v none = by_call (proposed values)
      (λ e. led_kept (Among n.id) (granted n.id) (refusals_of_propose (length (map value_entry values))) (leader_append_entries nat_cmp entry_meaning e.config (map value_entry values)) e)
  calls_stood SendHeartbeat v none = by_call heartbeats_sent (λ e. led_kept (Among n.id) (granted n.id) refusals_of_counter_led (initiate_replication nat_cmp e.config true) e)
  calls_stood (Fail target) v none = by_call (failed target) (λ e. progressed_kept (Among n.id) (granted n.id) target (request_of (inflight_to target e)) (Err tt) e)
  calls_stood TriggerSnapshot v none = by_call snapshot_triggered (λ e k. answered_kept (Among n.id) (granted n.id) (refusals_of_trigger_snapshot e.machine.core) e _ (λ _. k) k)
  calls_stood FinishSnapshot v none = finish_stood n.id n h
  calls_stood (TriggerPurge i) v none =
      by_call (purge_triggered i) (λ e k. answered_kept (Among n.id) (granted n.id) (refusals_of_spent e.machine) e _ (λ _. purge_stands (Among n.id) (granted n.id) e.config i e.machine k) k)
  calls_stood (Restart start) v none = restart_stood n.id given start n refl
  calls_stood (ChangeLearners learners) v none = by_call (learners_changed learners) (λ e. changed_kept (Among n.id) (granted n.id) (groups_in e) learners e)
  calls_stood (ChangeMembership groups learners) v none = by_call (membership_changed groups learners) (changed_kept (Among n.id) (granted n.id) groups learners)
  calls_stood Read v none = by_call read_asked (λ e k. k)
  calls_stood StepDown v none =
      by_call stepped_down (λ e k. answered_kept (Among n.id) (granted n.id) (refusals_of_step_down nat_cmp e.config e.machine) e _ (λ _. step_down_stands (Among n.id) (granted n.id) e.config e.machine k) k)
  calls_stood Stop v none = tt

-- what an event aims at
pub aimed_none : (bag : List Message) (kind : EventKind) → OnlyVotersStand kind → (aim : Aim) → aim_of bag kind ≡ Some aim → LetsNone aim.act
aimed_none bag kind v aim q = go kind v q
  where
    here : (a : Aim) → LetsNone a.act → ◌≡◌ {A = Option Aim} (Some a) (Some aim) → LetsNone aim.act
    here a k z = let same : ◌≡◌ {A = Aim} a aim = cc in subst (λ (b : Aim). LetsNone b.act) same k

    go : (kind : EventKind) → OnlyVotersStand kind → aim_of bag kind ≡ Some aim → LetsNone aim.act
    go (kinds.Init k) v = here (record { id = k; act = Initialize }) tt
    go (kinds.Timeout k) v = here (record { id = k; act = Elect Voters }) tt
    go (kinds.Stand k) v = absurd v
    go (kinds.Deliver k) v = sent (message_at bag k)
      where
        sent : (o : Option Message) → ◌≡◌ {A = Option Aim} (option_map (λ (m : Message). record { id = m.to; act = Take m }) o) (Some aim)
            → LetsNone aim.act
        sent None z = cc
        sent (Some m) z = here (record { id = m.to; act = Take m }) tt z
    go (kinds.Propose k values) v = here (record { id = k; act = Propose values }) tt
    go (kinds.Heartbeat k) v = here (record { id = k; act = SendHeartbeat }) tt
    go (kinds.Fail k target) v = here (record { id = k; act = Fail target }) tt
    go (kinds.Snapshot k) v = here (record { id = k; act = TriggerSnapshot }) tt
    go (kinds.Built k) v = here (record { id = k; act = FinishSnapshot }) tt
    go (kinds.Purge k i) v = here (record { id = k; act = TriggerPurge i }) tt
    go (kinds.Restart k start) v = here (record { id = k; act = Restart start }) tt
    go (kinds.Member k learners) v = here (record { id = k; act = ChangeLearners learners }) tt
    go (kinds.Change k groups learners) v = here (record { id = k; act = ChangeMembership groups learners }) tt
    go (kinds.Read k) v = here (record { id = k; act = Read }) tt
    go (kinds.Down k) v = here (record { id = k; act = StepDown }) tt
    go (kinds.Stop k) v = here (record { id = k; act = Stop }) tt

abbrev engine_in : Work (List Entry) → Option EngineView
engine_in w = w.engine

pub commands_stood : (given : Given) → CommandsKeep given HasStood
commands_stood given t since w works next h = go w.engine h
  where
    done : (e : EngineView) (c : WorldCommand) → Stood t.id e
        → HasStood t.id (done_of whole_logs t w e c).effects.store (done_of whole_logs t w e c).engine
    done e c k = by (stops w.left)
      where
        by : (b : Bool)
            → HasStood t.id w.effects.store (engine_in (if b then stopped (exec whole_logs t e c w.effects) else record { engine = Some (feed t.moment c e); effects = exec whole_logs t e c w.effects; left = one_less w.left }))
        by true = tt
        by false = fed_kept (Among t.id) (granted t.id) t.moment c e k

    of : (e : EngineView) (cs : List WorldCommand) → Stood t.id e
        → HasStood t.id w.effects.store (engine_in (step_of whole_logs t w e (popped (record e.machine.core.output { items = cs }))))
    of e [] k = h
    of e (c ∷ cs) k = done (with_queue e (record e.machine.core.output { items = cs })) c k

    go : (o : Option EngineView) → HasStood t.id w.effects.store o
        → HasStood t.id w.effects.store (engine_in (elim o as (λ _. Work (List Entry)) [ None ↦ w | Some e ↦ step_of whole_logs t w e (popped e.machine.core.output) ]))
    go None k = h
    go (Some e) k = of e e.machine.core.output.items k

module _ (given : Given) (wf : IsWellFormed given) where
  -- a node's engine has the node's id, and is sound
  pub engine_follows : (past : List Event) (n : NodeView) → Contains (world_after given past).nodes n
      → IfSome n.engine (EngineFollows (setup_of given.membership) n (followed given wf past).world)
  engine_follows past n there =
      let f : Followed given (Settled (setup_of given.membership)) (stores.empty (setup_of given.membership)) (world_after given past) =
      followed given wf past in
      (one_of (NodeFollows (setup_of given.membership) f.world (world_after given past).records) (world_after given past).nodes n f.follows.nodes there).engine

  calls_keep : (done : List Event) (event : Event) → OnlyVotersStand event.kind → CallsKeep given HasStood (world_after given done) event
  calls_keep done event v n aim there q same none h now since rs works =
      calls_stood given (record n { moment = now })
      (λ e is. let k : EngineFollows (setup_of given.membership) n (followed given wf done).world e = subst (λ o. IfSome o (EngineFollows (setup_of given.membership) n (followed given wf done).world)) is (engine_follows done n there) in k.id)
      h aim.act (aimed_none (world_after given done).records.bag event.kind v aim q) (skip_moved aim.act n now ∙ none)

  stood : (past : List Event) → AllByRecursion (λ (e : Event). OnlyVotersStand e.kind) past → AllHold given HasStood (world_after given past)
  stood past v = run_holds given HasStood (commands_stood given) wf (λ (e : Event). OnlyVotersStand e.kind) (λ done event d a. calls_keep done event a) (λ id. tt) past v

  -- so candidates vote
  votes : (past : List Event) (n : NodeView) → Contains (world_after given past).nodes n → HasStood n.id n.store n.engine
      → IfSome n.engine CandidateVotes
  votes past n there h = go n.engine h (engine_follows past n there)
    where
      go : (o : Option EngineView) → HasStood n.id n.store o → IfSome o (EngineFollows (setup_of given.membership) n (followed given wf past).world)
          → IfSome o CandidateVotes
      go None k f = tt
      go (Some e) k f = stood_votes n.id e f.id f.sound k

-- so it is in each reached world
pub candidates_vote : CandidatesVote
candidates_vote given wf past v =
    let nodes : List NodeView = (world_after given past).nodes in
    each_both (Contains (world_after given past).nodes) (λ (n : NodeView). HasStood n.id n.store n.engine) (λ (n : NodeView). IfSome n.engine CandidateVotes) (votes given wf past) (world_after given past).nodes
    (recursion_from_All (Contains (world_after given past).nodes) (world_after given past).nodes (All-contains_itself (world_after given past).nodes)) (stood given wf past v)
