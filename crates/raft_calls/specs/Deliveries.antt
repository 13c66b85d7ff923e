-- Deliveries: how a node's engine handles a message, and what its calls answer.
use Rattle.std.specs.Prelude.{ℕ, ◌||◌, List, Option, None, Some, Result, Ok, Err, map, if◌then◌else◌, ◌&&◌, Bool, false}
use Rattle.std.specs.Ordering.{is_gt, nat_cmp, is_eq}
use Rattle.std.specs.Result.{is_ok}
use Rattle.raft_state.specs.declared.ids.LogId.{LogId}
use Rattle.raft_state.specs.declared.ids.Vote.{Vote}
use Rattle.raft_state.specs.Order.{vote_cmp, last_id_cmp}
use Rattle.raft_error.specs.declared.error.EngineError.{EngineError}
use Rattle.raft_error.specs.declared.error.EngineError.TheVariants.{ForwardToLeader, Spent}
use Rattle.raft_error.specs.Number.{number_of}
use Rattle.raft_command.specs.declared.command.Command.TheVariants.{Respond}
use Rattle.raft_command.specs.declared.message.AppendEntriesResponse.{AppendEntriesResponse}
use Rattle.raft_command.specs.declared.message.AppendEntriesResponse.TheVariants.{Success, PartialSuccess, Conflict, HigherVote}
use Rattle.raft_command.specs.declared.message.SnapshotResponse.{SnapshotResponse}
use Rattle.raft_command.specs.declared.message.Token.{Token}
use Rattle.raft_command.specs.declared.message.VoteRequest.{VoteRequest}
use Rattle.raft_command.specs.declared.message.VoteResponse.{VoteResponse}
use Rattle.raft_command.specs.declared.replication.ReplicationResult.{ReplicationResult}
use Rattle.raft_command.specs.declared.replication.RequestId.{RequestId}
use Rattle.raft_command.specs.declared.respond.Respond.TheVariants as respond
use Rattle.raft_steps.specs.Refusals.{refusals_of_update_vote, refusals_of_vote_resp}
use Rattle.raft_steps.specs.Engine.{as_uncommitted, handle_vote_resp, sees_greater_log}
use Rattle.raft_steps.specs.InstallRefusals.{refusals_of_install}
use Rattle.raft_steps.specs.Installs.{handle_install_full_snapshot}
use Rattle.raft_steps.specs.Parts.{leading, led_of, on_core, then_command}
use Rattle.raft_steps.specs.Replies.{update_progress}
use Rattle.raft_steps.specs.ReplyRefusals.{refusals_of_progress}
use Rattle.raft_steps.specs.RequestRefusals.{refusals_of_append, refusals_of_commit, refusals_of_vote_req}
use Rattle.raft_steps.specs.Requests.{append_answer, handle_append_entries, handle_commit_entries, handle_vote_req, vote_req_answer}
use Rattle.raft_steps.specs.VoteHandler.{update_vote}
use Rattle.raft_store.specs.declared.entry.Entry.{Entry}
use Rattle.raft_store.specs.Entries.{entry_meaning}
use Rattle.raft_store.specs.Types.{WorldCommand, WorldMachine, WorldSnapshot, EngineView}
use Rattle.raft_calls.specs.declared.message.Body.{Body}
use Rattle.raft_calls.specs.declared.message.Body.TheVariants as body
use Rattle.raft_calls.specs.declared.message.Origin.{Origin}
use Rattle.raft_calls.specs.Feeds.{WorldLed}
use Rattle.raft_command.specs.declared.replication.ReplicationSessionId.{ReplicationSessionId}
use Rattle.raft_schedule.specs.declared.event.SkipReason.{SkipReason}
use Rattle.raft_schedule.specs.declared.event.SkipReason.TheVariants.{StaleSession}
use Rattle.raft_calls.specs.declared.message.Body.TheVariants.{AppendReply, SnapshotReply}
use Rattle.std.specs.Option.{option_map}

-- an engine with other parts
abbrev pub with_machine : EngineView → WorldMachine → EngineView
with_machine e m = record e { machine = m }

-- the number of a call's refusal, if any, and the engine after it: a refused call changes nothing
abbrev pub answered : Option (EngineError ℕ (Unit {0})) → EngineView → EngineView → Option ℕ × EngineView
answered None e after = (None, after)
answered (Some r) e after = (Some (number_of r), e)

-- the reply goes to the sender of the delivered message, so the token means nothing
abbrev pub reply_token : Token
reply_token = record { 0 = 0 }

-- the reply to a vote request
abbrev pub vote_reply : VoteResponse ℕ → WorldCommand
vote_reply r = Respond None (respond.Vote (record { value = r; token = reply_token }))

-- a vote request, and the reply to it, after its commands (Raft paper, section 5.2)
abbrev pub vote_requested : VoteRequest ℕ → ℕ → EngineView → EngineView
vote_requested req now e =
    with_machine e
    (on_core (λ c. then_command c (vote_reply (vote_req_answer nat_cmp entry_meaning e.config req now e.machine))) (handle_vote_req nat_cmp entry_meaning e.config req now e.machine))

abbrev pub take_vote_request : VoteRequest ℕ → ℕ → EngineView → Option ℕ × EngineView
take_vote_request req now e = answered (refusals_of_vote_req nat_cmp e.config req now e.machine) e (vote_requested req now e)

-- a reply to the candidate's vote request
abbrev pub vote_replied : ℕ → VoteResponse ℕ → ℕ → EngineView → EngineView
vote_replied from resp now e = record e {
  machine = handle_vote_resp nat_cmp entry_meaning e.config from resp now e.machine;
  seen_greater_log = e.seen_greater_log || sees_greater_log nat_cmp resp e.machine.candidate e.machine.core.state;
}

abbrev pub take_vote_reply : ℕ → VoteResponse ℕ → ℕ → EngineView → Option ℕ × EngineView
take_vote_reply from resp now e = answered (refusals_of_vote_resp nat_cmp e.config from resp e.machine) e (vote_replied from resp now e)

-- a leader's committed id
abbrev pub take_commit : Option (LogId ℕ) → EngineView → Option ℕ × EngineView
take_commit x e =
    answered (refusals_of_commit nat_cmp x e.machine) e (with_machine e (handle_commit_entries nat_cmp entry_meaning e.config x e.machine))

-- a leader's entries, and the reply after their commands
abbrev pub appended : Vote ℕ → Option (LogId ℕ) → List Entry → ℕ → EngineView → EngineView
appended v prev es now e = with_machine e (handle_append_entries nat_cmp entry_meaning e.config v prev es (Some reply_token) now e.machine)

-- an append request: the entries, then the committed id (Raft paper, figure 2: AppendEntries)
abbrev pub take_append : Vote ℕ → Option (LogId ℕ) → List Entry → Option (LogId ℕ) → ℕ → EngineView → Option ℕ × EngineView
take_append v prev es committed now e =
    elim (refusals_of_append nat_cmp e.config v prev (map (λ x. x.log_id) es) e.machine) [
      | Some r ↦ (Some (number_of r), e)
      | None ↦
          (if is_ok (append_answer nat_cmp entry_meaning e.config v prev now e.machine) then take_commit committed (appended v prev es now e)
          else (None, appended v prev es now e))
    ]

-- the number of the refusal of a leader's call at a node that doesn't lead
abbrev pub unled_number : EngineView → ℕ
unled_number e =
    if e.machine.core.output.spent then number_of {NID = ℕ} {N = Unit {0}} Spent
    else number_of {NID = ℕ} {N = Unit {0}} (ForwardToLeader None None)

-- a call of the leader; without one it is refused
abbrev pub led_call : (WorldLed → Option (EngineError ℕ (Unit {0}))) → (WorldLed → WorldLed) → EngineView → Option ℕ × EngineView
led_call asks step e =
    elim e.machine.leader [
      | None ↦ (Some (unled_number e), e)
      | Some l ↦
          let led = led_of l e.machine.core.state e.machine.core.output in
          answered (asks led) e (with_machine e (leading e.machine (step led)))
    ]

-- what a target answered, or that the request to it failed
abbrev pub progressed : ℕ → RequestId → Result (ReplicationResult ℕ) (Unit {0}) → EngineView → Option ℕ × EngineView
progressed target id result e =
    led_call (refusals_of_progress nat_cmp e.config target id result) (update_progress nat_cmp e.config target id result) e

-- a reply to a request: up to where the logs match, or an id that conflicts
abbrev pub take_result : ℕ → Origin → Result (Option (LogId ℕ)) (LogId ℕ) → EngineView → Option ℕ × EngineView
take_result from o result e = progressed from o.request_id (Ok (record { sending_time = o.sent_at; result = result })) e

-- a higher vote is adopted without its mark, since it isn't its leader who tells it
abbrev pub take_higher_vote : Vote ℕ → ℕ → EngineView → Option ℕ × EngineView
take_higher_vote v now e =
    answered (refusals_of_update_vote nat_cmp e.config (as_uncommitted v) e.machine) e
    (with_machine e (update_vote nat_cmp entry_meaning e.config (as_uncommitted v) now e.machine))

-- a conflict names the request's previous id
abbrev pub take_conflict : ℕ → Origin → Option (LogId ℕ) → EngineView → Option ℕ × EngineView
take_conflict from o prev e = elim prev [ None ↦ (None, e) | Some x ↦ take_result from o (Err x) e ]

-- a reply to an append request (Raft paper, section 5.3)
abbrev pub take_append_reply : ℕ → Origin → AppendEntriesResponse ℕ → Option (LogId ℕ) → Option (LogId ℕ) → ℕ → EngineView → Option ℕ × EngineView
take_append_reply from o Success prev upto now e = take_result from o (Ok upto) e
take_append_reply from o (PartialSuccess x) prev upto now e = take_result from o (Ok x) e
take_append_reply from o Conflict prev upto now e = take_conflict from o prev e
take_append_reply from o (HigherVote v) prev upto now e = take_higher_vote v now e

-- a snapshot request (Raft paper, section 7: InstallSnapshot)
abbrev pub take_snapshot : Vote ℕ → WorldSnapshot → ℕ → EngineView → Option ℕ × EngineView
take_snapshot v snapshot now e =
    answered (refusals_of_install nat_cmp e.config v snapshot.meta e.machine) e
    (with_machine e (handle_install_full_snapshot nat_cmp entry_meaning e.config v snapshot reply_token now e.machine))

-- a reply to a snapshot request: with a higher vote than the request's, that vote; else the snapshot's last id
abbrev pub take_snapshot_reply : ℕ → Origin → SnapshotResponse ℕ → Option (LogId ℕ) → ℕ → EngineView → Option ℕ × EngineView
take_snapshot_reply from o reply upto now e =
    if is_gt (vote_cmp nat_cmp reply.vote o.session_id.vote) then take_higher_vote reply.vote now e else take_result from o (Ok upto) e

-- a message from a node
abbrev pub deliver : ℕ → Body → ℕ → EngineView → Option ℕ × EngineView
deliver from (body.VoteRequest req) now e = take_vote_request req now e
deliver from (body.VoteReply resp) now e = take_vote_reply from resp now e
deliver from (body.AppendRequest o prev es committed) now e = take_append o.session_id.vote prev es committed now e
deliver from (body.AppendReply o reply prev upto) now e = take_append_reply from o reply prev upto now e
deliver from (body.SnapshotRequest o snapshot) now e = take_snapshot o.session_id.vote snapshot now e
deliver from (body.SnapshotReply o reply upto) now e = take_snapshot_reply from o reply upto now e

-- the session of an engine's leader under its effective membership
abbrev pub session_of : EngineView → Option (ReplicationSessionId ℕ)
session_of e = option_map (λ l. record { vote = l.vote; membership_log_id = e.machine.core.state.em.log_id }) e.machine.leader

-- two sessions are the same: the leader's vote, and the membership's id
abbrev pub same_session : ReplicationSessionId ℕ → ReplicationSessionId ℕ → Bool
same_session s t = is_eq (vote_cmp nat_cmp s.vote t.vote) && is_eq (last_id_cmp nat_cmp s.membership_log_id t.membership_log_id)

-- the node leads in this session
abbrev pub leads_in : ReplicationSessionId ℕ → EngineView → Bool
leads_in s e = elim (session_of e) [ None ↦ false | Some t ↦ same_session t s ]

-- a reply to a replication request is skipped unless the node leads in the session of the request
abbrev pub skip_reply : Origin → EngineView → Option SkipReason
skip_reply o e = if leads_in o.session_id e then None else Some StaleSession

abbrev pub skip_delivery : Body → EngineView → Option SkipReason
skip_delivery (AppendReply o _ _ _) e = skip_reply o e
skip_delivery (SnapshotReply o _ _) e = skip_reply o e
skip_delivery _ e = None
