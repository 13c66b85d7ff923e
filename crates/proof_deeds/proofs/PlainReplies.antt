-- The refusals of a leader's calls at events are plain.
use Rattle.std.proofs.Common.{ℕ, inl, inr, Bool, true, false, not, List, [], ◌∷◌, length, map, arith, Option, None, Some, Result, Ok, Err}
use Rattle.std.specs.Prelude.{IfSome, nat_lt, if◌then◌else◌, ◌&&◌, ◌+◌}
use Rattle.std.specs.Option.{option_map}
use Rattle.std.specs.Ordering.{is_eq, is_gt, nat_cmp}
use Rattle.raft_node.specs.raft_state.declared.ids.LogId.{LogId}
use Rattle.raft_node.specs.raft_state.declared.ids.Vote.{Vote}
use Rattle.raft_node.specs.raft_state.declared.state.RaftState.{RaftState}
use Rattle.raft_node.specs.raft_state.Fits.{fits}
use Rattle.raft_node.specs.raft_state.Order.{next, vote_cmp}
use Rattle.raft_node.specs.raft_progress_entry.Entry.{acknowledges, begins_at, carries, refusals_of_conflicted}
use Rattle.raft_node.specs.raft_progress.Table.{get}
use Rattle.raft_node.specs.raft_progress_entry.declared.entry.ProgressEntry.{ProgressEntry}
use Rattle.raft_node.specs.raft_error.declared.error.EngineError.{EngineError}
use Rattle.raft_node.specs.raft_error.declared.error.EngineError.TheVariants.{CounterEnd, ForeignInflight, ForwardToLeader, IndexEnd, LogReverted, OutsideInflight, Spent, UnknownTarget}
use Rattle.raft_node.specs.raft_error.Number.{number_of}
use Rattle.raft_node.specs.raft_command.Replication as replication
use Rattle.raft_node.specs.raft_command.declared.config.EngineConfig.{EngineConfig}
use Rattle.raft_node.specs.raft_command.declared.message.AppendEntriesResponse.{AppendEntriesResponse}
use Rattle.raft_node.specs.raft_command.declared.message.AppendEntriesResponse.TheVariants.{Conflict, HigherVote, PartialSuccess, Success}
use Rattle.raft_node.specs.raft_command.declared.message.SnapshotResponse.{SnapshotResponse}
use Rattle.raft_node.specs.raft_command.declared.replication.ReplicationResult.{ReplicationResult}
use Rattle.raft_node.specs.raft_command.declared.replication.RequestId.{RequestId}
use Rattle.raft_node.specs.raft_proposer.Joint.{u64_max}
use Rattle.raft_node.specs.raft_steps.Engine.{as_uncommitted}
use Rattle.raft_node.specs.raft_steps.LeaderHandler.{leader_append_entries}
use Rattle.raft_node.specs.raft_steps.Parts.{leading, led_of}
use Rattle.raft_node.specs.raft_steps.Refusals.{blank_is_at_end, is_counter_end_among, is_spent, refusals_of_counter_led, refusals_of_lead, refusals_of_propose, refusals_of_spent, refusals_of_update_vote}
use Rattle.raft_node.specs.raft_steps.Replies.{update_progress}
use Rattle.raft_node.specs.raft_steps.ReplyRefusals.{is_own_request, refusals_of_acknowledged, refusals_of_answer, refusals_of_entry, refusals_of_progress, refusals_of_result}
use Rattle.raft_node.specs.raft_steps.ReplicationHandler.{initiate_replication}
use Rattle.raft_node.specs.raft_steps.Starts.{is_settled, leader_step_down, refusals_of_step_down}
use Rattle.raft_node.specs.raft_steps.VoteHandler.{rejects_vote, update_vote}
use Rattle.raft_node.specs.raft_store.declared.entry.Value.{Value}
use Rattle.raft_node.specs.raft_store.Entries.{entry_meaning}
use Rattle.raft_node.specs.raft_store.Types.{EngineView, WorldLeader, WorldMachine}
use Rattle.raft_node.specs.raft_calls.declared.message.Origin.{Origin}
use Rattle.raft_node.specs.raft_calls.Deliveries.{answered, led_call, progressed, take_append_reply, take_conflict, take_higher_vote, take_result, take_snapshot_reply, unled_number, with_machine}
use Rattle.raft_node.specs.raft_calls.Feeds.{WorldLed}
use Rattle.raft_node.specs.raft_calls.LeaderCalls.{failed, heartbeats_sent, inflight_to, proposed, read_asked, request_of, stepped_down, value_entry}
use Rattle.raft_node.specs.raft_calls.Memberships.{members_with, membership_changed, membership_entry}
use Rattle.raft_node.specs.Safety.{IsOtherRefusal}
use Rattle.proof_deeds.proofs.PlainRefusals.{IsPlain, plain_answered, plain_first, plain_or}

counter_plain : (l : WorldLed) → IsPlain (refusals_of_counter_led l)
counter_plain l = plain_first ((l.core.output.spent, Spent) ∷ (is_counter_end_among l.core l.leader.progress.rows, CounterEnd) ∷ []) (inr (inr (omega arith)), (inr (inl (omega arith)), tt))

propose_plain : (count : ℕ) (l : WorldLed) → IsPlain (refusals_of_propose count l)
propose_plain count l = plain_or (refusals_of_counter_led l) _ (counter_plain l) (plain_first ((nat_lt u64_max (next l.leader.last_log_id + count), IndexEnd) ∷ []) (inr (inl (omega arith)), tt))

acknowledged_plain : (s : RaftState ℕ (Unit {0})) (e : ProgressEntry ℕ) (number : ℕ) (x : Option (LogId ℕ)) → IsPlain (refusals_of_acknowledged nat_cmp s e number x)
acknowledged_plain s e number x =
    plain_or _ _ (plain_first ((not (carries e number), ForeignInflight) ∷ (not (acknowledges nat_cmp e.inflight x), OutsideInflight) ∷ []) (inr (inl (omega arith)), (inr (inl (omega arith)), tt)))
    (plain_first ((not (fits nat_cmp s.ids s.purged x), OutsideInflight) ∷ []) (inr (inl (omega arith)), tt))

conflicted_plain : (e : ProgressEntry ℕ) (number : Option ℕ) (i : ℕ) → IsPlain (refusals_of_conflicted e number i)
conflicted_plain e None i = plain_first ((not (nat_lt i e.searching_end), OutsideInflight) ∷ (nat_lt i (next e.matching), LogReverted) ∷ []) (inr (inl (omega arith)), (inr (inl (omega arith)), tt))
conflicted_plain e (Some id) i =
    plain_first ((not (carries e id), ForeignInflight) ∷ (not (begins_at e.inflight i), OutsideInflight) ∷ (nat_lt i (next e.matching), LogReverted) ∷ []) (inr (inl (omega arith)), (inr (inl (omega arith)), (inr (inl (omega arith)), tt)))

answer_plain : (s : RaftState ℕ (Unit {0})) (e : ProgressEntry ℕ) (id : RequestId) (answer : ReplicationResult ℕ) → IsPlain (refusals_of_answer nat_cmp s e id answer)
answer_plain s e id answer = go answer.result (replication.number_of id) where
  go : (r : Result (Option (LogId ℕ)) (LogId ℕ)) (number : Option ℕ) → IsPlain (elim r as (λ _. Option (EngineError ℕ (Unit {0}))) [
    | Ok x ↦ elim number [ None ↦ None | Some number ↦ refusals_of_acknowledged nat_cmp s e number x ]
    | Err x ↦ refusals_of_conflicted e number x.index
  ])
  go (Ok x) None = tt
  go (Ok x) (Some number) = acknowledged_plain s e number x
  go (Err x) number = conflicted_plain e number x.index

result_plain : (s : RaftState ℕ (Unit {0})) (e : ProgressEntry ℕ) (id : RequestId) (reply : Result (ReplicationResult ℕ) (Unit {0})) → IsPlain (refusals_of_result nat_cmp s e id reply)
result_plain s e id (Ok answer) = answer_plain s e id answer
result_plain s e id (Err x) = plain_first ((not (is_own_request e.inflight id), ForeignInflight) ∷ []) (inr (inl (omega arith)), tt)

progress_plain : (config : EngineConfig ℕ) (target : ℕ) (id : RequestId) (reply : Result (ReplicationResult ℕ) (Unit {0})) (l : WorldLed) → IsPlain (refusals_of_progress nat_cmp config target id reply l)
progress_plain config target id reply l = plain_or (refusals_of_counter_led l) _ (counter_plain l) (of (is_eq (nat_cmp config.id target))) where
  row : (o : Option (ProgressEntry ℕ)) → IsPlain (elim o as (λ _. Option (EngineError ℕ (Unit {0}))) [ None ↦ Some UnknownTarget | Some e ↦ refusals_of_result nat_cmp l.core.state e id reply ])
  row None = inl (omega arith)
  row (Some e) = result_plain l.core.state e id reply

  of : (b : Bool) → IsPlain (if b then Some UnknownTarget else refusals_of_entry nat_cmp target (λ e. refusals_of_result nat_cmp l.core.state e id reply) l.leader)
  of true = inl (omega arith)
  of false = row (get nat_cmp l.leader.progress target)

update_vote_plain : (config : EngineConfig ℕ) (v : Vote ℕ) (m : WorldMachine) → IsPlain (refusals_of_update_vote nat_cmp config v m)
update_vote_plain config v m = plain_first ((is_spent m, Spent) ∷ (not (rejects_vote nat_cmp m.core.state v) && blank_is_at_end nat_cmp config v m, IndexEnd) ∷ []) (inr (inr (omega arith)), (inr (inl (omega arith)), tt))

module _ (e : EngineView) where
  -- a call of the leader
  led_number : (asks : WorldLed → Option (EngineError ℕ (Unit {0}))) (step : WorldLed → WorldLed) → ((l : WorldLed) → IsPlain (asks l)) → IfSome (led_call asks step e).0 IsOtherRefusal
  led_number asks step f = go e.machine.leader where
    after : Option WorldLeader → Option ℕ × EngineView
    after o = elim o [
      | None ↦ (Some (unled_number e), e)
      | Some l ↦ answered (asks (led_of l e.machine.core.state e.machine.core.output)) e (with_machine e (leading e.machine (step (led_of l e.machine.core.state e.machine.core.output))))
    ]

    unled : (b : Bool) → IsOtherRefusal (if b then number_of {NID = ℕ} {N = Unit {0}} Spent else number_of {NID = ℕ} {N = Unit {0}} (ForwardToLeader None None))
    unled true = inr (omega arith)
    unled false = inr (omega arith)

    go : (o : Option WorldLeader) → IfSome (after o).0 IsOtherRefusal
    go None = unled e.machine.core.output.spent
    go (Some l) =
        plain_answered (asks (led_of l e.machine.core.state e.machine.core.output)) e (with_machine e (leading e.machine (step (led_of l e.machine.core.state e.machine.core.output))))
        (f (led_of l e.machine.core.state e.machine.core.output))

  pub proposed_number : (values : List Value) → IfSome (proposed values e).0 IsOtherRefusal
  proposed_number values =
      led_number (refusals_of_propose (length (map value_entry values))) (leader_append_entries nat_cmp entry_meaning e.config (map value_entry values)) (propose_plain (length (map value_entry values)))

  pub changed_number : (groups : List (List ℕ)) (learners : List ℕ) → IfSome (membership_changed groups learners e).0 IsOtherRefusal
  changed_number groups learners = led_number (refusals_of_propose 1) (leader_append_entries nat_cmp entry_meaning e.config (membership_entry (members_with groups learners) ∷ [])) (propose_plain 1)

  -- a read is refused without a leader, or once memory ran out
  pub read_number : IfSome (read_asked e).0 IsOtherRefusal
  read_number = go e.machine.leader where
    of : (x : Option (EngineError ℕ (Unit {0}))) → IsPlain x → IfSome (option_map (number_of {NID = ℕ} {N = Unit {0}}) x) IsOtherRefusal
    of None p = tt
    of (Some x) p = p

    unled : (b : Bool) → IsOtherRefusal (if b then number_of {NID = ℕ} {N = Unit {0}} Spent else number_of {NID = ℕ} {N = Unit {0}} (ForwardToLeader None None))
    unled true = inr (omega arith)
    unled false = inr (omega arith)

    go : (o : Option WorldLeader) → IfSome (elim o as (λ _. Option ℕ) [ None ↦ Some (unled_number e) | Some l ↦ option_map number_of (refusals_of_spent e.machine) ]) IsOtherRefusal
    go None = unled e.machine.core.output.spent
    go (Some l) = of (refusals_of_spent e.machine) (plain_first ((is_spent e.machine, Spent) ∷ []) (inr (inr (omega arith)), tt))

  -- stepping down, at the end of numbers
  pub stepped_number : IfSome (stepped_down e).0 IsOtherRefusal
  stepped_number = plain_answered (refusals_of_step_down nat_cmp e.config e.machine) e (with_machine e (leader_step_down nat_cmp entry_meaning e.config e.machine)) (of (is_settled nat_cmp e.machine.core.state)) where
    of : (b : Bool) → IsPlain (if b then refusals_of_lead nat_cmp e.config e.machine else refusals_of_spent e.machine)
    of true = plain_first ((is_spent e.machine, Spent) ∷ (blank_is_at_end nat_cmp e.config e.machine.core.state.vote e.machine, IndexEnd) ∷ []) (inr (inr (omega arith)), (inr (inl (omega arith)), tt))
    of false = plain_first ((is_spent e.machine, Spent) ∷ []) (inr (inr (omega arith)), tt)

  pub heartbeat_number : IfSome (heartbeats_sent e).0 IsOtherRefusal
  heartbeat_number = led_number refusals_of_counter_led (initiate_replication nat_cmp e.config true) counter_plain

  progressed_number : (target : ℕ) (id : RequestId) (reply : Result (ReplicationResult ℕ) (Unit {0})) → IfSome (progressed target id reply e).0 IsOtherRefusal
  progressed_number target id reply = led_number (refusals_of_progress nat_cmp e.config target id reply) (update_progress nat_cmp e.config target id reply) (progress_plain e.config target id reply)

  pub failed_number : (target : ℕ) → IfSome (failed target e).0 IsOtherRefusal
  failed_number target = progressed_number target (request_of (inflight_to target e)) (Err tt)

  result_number : (from : ℕ) (o : Origin) (result : Result (Option (LogId ℕ)) (LogId ℕ)) → IfSome (take_result from o result e).0 IsOtherRefusal
  result_number from o result = progressed_number from o.request_id (Ok (record { sending_time = o.sent_at; result = result }))

  conflict_number : (from : ℕ) (o : Origin) (prev : Option (LogId ℕ)) → IfSome (take_conflict from o prev e).0 IsOtherRefusal
  conflict_number from o None = tt
  conflict_number from o (Some x) = result_number from o (Err x)

  higher_number : (v : Vote ℕ) (now : ℕ) → IfSome (take_higher_vote v now e).0 IsOtherRefusal
  higher_number v now =
      plain_answered (refusals_of_update_vote nat_cmp e.config (as_uncommitted v) e.machine) e (with_machine e (update_vote nat_cmp entry_meaning e.config (as_uncommitted v) now e.machine)) (update_vote_plain e.config (as_uncommitted v) e.machine)

  pub reply_number : (from : ℕ) (o : Origin) (reply : AppendEntriesResponse ℕ) (prev upto : Option (LogId ℕ)) (now : ℕ) → IfSome (take_append_reply from o reply prev upto now e).0 IsOtherRefusal
  reply_number from o Success prev upto now = result_number from o (Ok upto)
  reply_number from o (PartialSuccess x) prev upto now = result_number from o (Ok x)
  reply_number from o Conflict prev upto now = conflict_number from o prev
  reply_number from o (HigherVote v) prev upto now = higher_number v now

  pub snapshot_reply_number : (from : ℕ) (o : Origin) (reply : SnapshotResponse ℕ) (upto : Option (LogId ℕ)) (now : ℕ) → IfSome (take_snapshot_reply from o reply upto now e).0 IsOtherRefusal
  snapshot_reply_number from o reply upto now = go (is_gt (vote_cmp nat_cmp reply.vote o.session_id.vote)) where
    go : (b : Bool) → IfSome (let z : Option ℕ × EngineView = if b then take_higher_vote reply.vote now e else take_result from o (Ok upto) e in z).0 IsOtherRefusal
    go true = higher_number reply.vote now
    go false = result_number from o (Ok upto)
