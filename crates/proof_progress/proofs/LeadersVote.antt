-- Where no learner stands, and each proposer of a membership stays a voter, a node whose stored vote is its own, and committed, is one.
use Rattle.std.proofs.Common.{ℕ, ◌+◌, ◌≡◌, ◌++◌, ◌∙◌, Bool, true, false, not, List, [], ◌∷◌, length, refl, sym, ap, subst, Option, None, Some}
use Rattle.std.specs.Prelude.{◌==◌, ◌||◌, Err, IfSome, Ok, Result, if◌then◌else◌, map}
use Rattle.std.specs.Map.{keys_of}
use Rattle.std.specs.declared.cmp.Ordering.{Ordering}
use Rattle.std.specs.declared.cmp.Ordering.TheVariants.{Equal, Greater, Less}
use Rattle.std.specs.Ordering.{is_eq, is_gt, is_lt, is_ne, nat_cmp}
use Rattle.std.specs.Result.{is_ok}
use Rattle.std.proofs.lemmas.Bool.{and_parts, cond_both}
use Rattle.std.proofs.lemmas.Cmp.{nat_cmp_total}
use Rattle.proof_deeds.specs.raft_state.declared.ids.LeaderId.{LeaderId}
use Rattle.proof_deeds.specs.raft_state.declared.policy.RejectAppendEntries.TheVariants as reject
use Rattle.proof_deeds.specs.raft_state.declared.ids.LogId.{LogId}
use Rattle.proof_deeds.specs.raft_state.declared.ids.Vote.{Vote}
use Rattle.proof_deeds.specs.raft_state.declared.membership.Members.{Members}
use Rattle.proof_deeds.specs.raft_state.declared.membership.StoredMembership.{StoredMembership}
use Rattle.proof_deeds.specs.raft_state.Log.{last}
use Rattle.proof_deeds.specs.raft_state.Members.{contains, group_of, placed_nodes, voter_ids}
use Rattle.proof_deeds.specs.raft_state.Order.{next, vote_cmp}
use Rattle.proof_deeds.specs.raft_state.Same.{nat_same}
use Rattle.proof_deeds.specs.raft_state.Sorted.{has_id}
use Rattle.proof_deeds.specs.raft_state.State.{is_initialized, is_leader, is_leading}
use Rattle.proof_deeds.proofs.raft_state_proofs.Orders.{is_equal}
use Rattle.proof_deeds.proofs.raft_state_proofs.Voters.{voters_placed}
use Rattle.proof_deeds.specs.raft_progress.Quorum.{is_quorum}
use Rattle.proof_deeds.proofs.raft_progress_proofs.Memberships.{has_group}
use Rattle.proof_deeds.specs.raft_error.declared.error.EngineError.{EngineError}
use Rattle.proof_deeds.specs.raft_command.declared.command.Command.TheVariants as command
use Rattle.proof_deeds.specs.raft_command.declared.command.Condition.{Condition}
use Rattle.proof_deeds.specs.raft_command.declared.config.EngineConfig.{EngineConfig}
use Rattle.proof_deeds.specs.raft_command.declared.message.AppendEntriesResponse.{AppendEntriesResponse}
use Rattle.proof_deeds.specs.raft_command.declared.message.AppendEntriesResponse.TheVariants.{Conflict, HigherVote, PartialSuccess, Success}
use Rattle.proof_deeds.specs.raft_command.declared.message.VoteRequest.{VoteRequest}
use Rattle.proof_deeds.specs.raft_command.declared.message.VoteResponse.{VoteResponse}
use Rattle.proof_deeds.specs.raft_command.declared.replication.ReplicationResult.{ReplicationResult}
use Rattle.proof_deeds.specs.raft_command.declared.replication.RequestId.{RequestId}
use Rattle.proof_deeds.specs.raft_command.declared.sm.CommandPayload.TheVariants.{BuildSnapshot}
use Rattle.proof_deeds.specs.raft_proposer.Candidate.{candidate_of, grant_by, is_granted}
use Rattle.proof_deeds.specs.raft_steps.Engine.{as_uncommitted, default_log_id, elect, handle_vote_resp, initialize, is_granted_to, lead_by_votes, may_establish, take_grant, take_rejection}
use Rattle.proof_deeds.specs.raft_steps.FollowingHandler.{commit_entries, commit_target, consecutive_answer, do_append_entries, holds_previous, memberships_in}
use Rattle.proof_deeds.specs.raft_steps.InstallRefusals.{refusals_of_install}
use Rattle.proof_deeds.specs.raft_steps.Installs.{handle_install_full_snapshot, install_and_reply, install_full_snapshot, reply_install}
use Rattle.proof_deeds.specs.raft_steps.Laws.{Queues, QueuesOnly}
use Rattle.proof_deeds.specs.raft_steps.LeaderHandler.{leader_append_entries, proposed}
use Rattle.proof_deeds.specs.raft_proposer.Leader.{numbered}
use Rattle.proof_deeds.specs.raft_steps.Parts.{leading, led_of, on_core, then_command, with_state}
use Rattle.proof_deeds.specs.raft_steps.Refusals.{refusals_of_counter_led, refusals_of_elect, refusals_of_initialize, refusals_of_local_progress, refusals_of_propose, refusals_of_spent, refusals_of_trigger_snapshot, refusals_of_update_vote, refusals_of_vote_resp}
use Rattle.proof_deeds.specs.raft_steps.Replies.{update_progress}
use Rattle.proof_deeds.specs.raft_steps.ReplyRefusals.{refusals_of_progress}
use Rattle.proof_deeds.specs.raft_steps.ReplicationHandler.{append_membership_led, initiate_replication, rebuild_progresses, rebuild_replication_streams, update_local_progress}
use Rattle.proof_deeds.specs.raft_steps.RequestRefusals.{refusals_of_append, refusals_of_commit, refusals_of_vote_req}
use Rattle.proof_deeds.specs.raft_steps.Requests.{append_answer, append_entries, follow, handle_append_entries, handle_commit_entries, handle_vote_req, refuses_vote_req}
use Rattle.proof_deeds.specs.raft_steps.ServerStateHandler.{update_role}
use Rattle.proof_deeds.specs.raft_steps.SnapshotCalls.{trigger_purge_log}
use Rattle.proof_deeds.specs.raft_steps.SnapshotHandler.{trigger_snapshot}
use Rattle.proof_deeds.specs.raft_steps.Starts.{leader_step_down, refusals_of_startup, refusals_of_step_down, started_role, startup}
use Rattle.proof_deeds.specs.raft_steps.VoteHandler.{rejects_vote, take_vote, update_internal_server_state, update_vote}
use Rattle.proof_deeds.proofs.raft_steps_proofs.Allowed.{both_behind, initiate_only, local_only, only_here, only_of}
use Rattle.proof_deeds.proofs.raft_steps_proofs.Kept.{either, either_option}
use Rattle.proof_deeds.proofs.raft_steps_proofs.Leads.{vote_same}
use Rattle.proof_deeds.proofs.raft_steps_proofs.LawsFollow.{append_queues, consecutive_queues, handle_commit_queues}
use Rattle.proof_deeds.proofs.raft_steps_proofs.LawsInstall.{install_leaves_vote, install_queues}
use Rattle.proof_deeds.proofs.raft_steps_proofs.LawsQueue.{do_append_queues, role_queues, silent}
use Rattle.proof_deeds.proofs.raft_steps_proofs.Marks.{do_append_marks, follow_marks}
use Rattle.proof_deeds.proofs.raft_steps_proofs.Unrefused.{neither, or_fails, second_fails}
use Rattle.proof_deeds.specs.raft_store.declared.entry.Entry.{Entry}
use Rattle.proof_deeds.specs.raft_store.declared.entry.Value.{Value}
use Rattle.proof_deeds.specs.raft_store.Built.{last_membership}
use Rattle.proof_deeds.specs.raft_store.Entries.{entry_meaning}
use Rattle.proof_deeds.specs.raft_store.Mirror.{Mirrors}
use Rattle.proof_deeds.specs.raft_store.Store.{whole}
use Rattle.proof_deeds.specs.raft_store.Types.{EngineView, WorldCandidate, WorldCommand, WorldLeader, WorldMachine, WorldSnapshot, WorldStore}
use Rattle.proof_deeds.specs.raft_calls.declared.message.Body.{Body}
use Rattle.proof_deeds.specs.raft_calls.declared.message.Body.TheVariants as body
use Rattle.proof_deeds.specs.raft_calls.declared.message.Origin.{Origin}
use Rattle.proof_deeds.specs.raft_calls.Deliveries.{answered, appended, deliver, led_call, progressed, reply_token, take_append, take_append_reply, take_commit, take_higher_vote, unled_number, vote_replied, vote_requested, with_machine}
use Rattle.proof_deeds.specs.raft_calls.Elections.{elected, first_entry, initialized}
use Rattle.proof_deeds.specs.raft_calls.Engines.{WorldRespond}
use Rattle.proof_deeds.specs.raft_calls.Feeds.{WorldLed, asks_itself, called, feed, hold_own, last_sent, own_grant}
use Rattle.proof_deeds.specs.raft_calls.LeaderCalls.{stepped_down, value_entry}
use Rattle.proof_deeds.specs.raft_calls.Snapshots.{purge_triggered, snapshot_triggered}
use Rattle.proof_deeds.specs.raft_calls.Starts.{begun_anew, resumed}
use Rattle.proof_deeds.proofs.raft_calls_proofs.StartReady.{begun_one}
use Rattle.proof_deeds.specs.raft_calls.Memberships.{members_with, membership_changed, membership_entry}
use Rattle.proof_deeds.proofs.raft_calls_proofs.Falls.{WorldCore}
use Rattle.proof_deeds.specs.proof_mirror.Ready.{Awaits}
use Rattle.proof_deeds.specs.Chains.{left_by, stored}
use Rattle.proof_deeds.proofs.Numbers.{later_vote}
use Rattle.proof_deeds.proofs.Pushes.{left_more}
use Rattle.proof_progress.specs.Changes.{CandidateVotes, OwnsVote}
use Rattle.proof_progress.specs.Choices.{is_among}
use Rattle.proof_progress.specs.Elections.{Listed, members}
use Rattle.proof_progress.proofs.Choosing.{group_voter}
use Rattle.proof_progress.proofs.Elects.{if_false, if_true}
use Rattle.proof_progress.proofs.EntriesQueued.{trigger_purge-only}
use Rattle.proof_progress.proofs.KeptVotes.{committed_keeps}
use Rattle.proof_progress.proofs.VoteQueues.{Adds, AllReady, Fine, Leads, Mild, Once, Plain, Unsaved, Votes, adds_more, adds_none, adopted_adds, append_once, appends_leads, internal_unsaved, left_vote, mild_leading, mild_safely, none_saved, once_safely, plain_safely, progress_mild, safely_end, safely_then, startup_leads, step_down_leads, unsaved_safely, unsaved_then, voted_adds, won_leads}

-- The memberships that are proposed

has_in : (gs : List (List ℕ)) (id : ℕ) → is_among gs id ≡ true → is_among (map (group_of nat_cmp) gs) id ≡ true
has_in [] id h = h
has_in (g ∷ gs) id h = go (has_id nat_cmp g id) refl h (has_in gs id)
  where
    go : (b : Bool) → has_id nat_cmp g id ≡ b → (b || is_among gs id) ≡ true
        → (is_among gs id ≡ true → is_among (map (group_of nat_cmp) gs) id ≡ true)
        → (has_id nat_cmp (group_of nat_cmp g) id || is_among (map (group_of nat_cmp) gs) id) ≡ true
    go true e k f = ap (λ b. b || is_among (map (group_of nat_cmp) gs) id) (has_group nat_cmp nat_cmp_total nat_same g id ∙ e)
    go false e k f = ap (λ b. b || is_among (map (group_of nat_cmp) gs) id) (has_group nat_cmp nat_cmp_total nat_same g id ∙ e) ∙ f k

-- who is in one of its groups is a voter
pub proposed_votes : (groups : List (List ℕ)) (learners : List ℕ) (id : ℕ) → is_among groups id ≡ true
    → Listed (voter_ids nat_cmp (members_with groups learners)) id
proposed_votes groups learners id h =
    group_voter (map (group_of nat_cmp) groups) (members_with groups learners)
    (record {
      same = refl;
      nodes = voters_placed nat_cmp nat_cmp_total (record {}) (map (group_of nat_cmp) groups) (placed_nodes nat_cmp (map (λ id. (id, record {})) learners)) (has_id nat_cmp (keys_of (members_with groups learners).nodes)) (λ q h. h);
    })
    id (has_in groups id h)

abbrev machine_in : WorldMachine → WorldMachine
machine_in m = m

abbrev view_in : EngineView → EngineView
view_in e = e

-- Calls

-- what a queue leaves, on the store that the queue before it leaves, is ready, and mirrored
abbrev pub After : WorldStore → WorldCore → WorldCore → Type 0
After u old new = (cs : List WorldCommand) → new.output.items ≡ old.output.items ++ cs → AllReady u cs × Mirrors entry_meaning (left_by u cs) new.state

ready_behind : (t : WorldStore) (xs ys : List WorldCommand) → AllReady t (xs ++ ys) → AllReady (left_by t xs) ys
ready_behind t [] ys r = r
ready_behind t (x ∷ xs) ys r = ready_behind (stored x t) xs ys r.2

abbrev pub Waits : WorldStore → WorldCore → Type 0
Waits t c = Awaits nat_cmp entry_meaning (λ es. es) t c.output.items c.state

pub after_of : (t : WorldStore) (old new : WorldCore) → Waits t new → After (left_by t old.output.items) old new
after_of t old new w cs e =
    let k : Awaits nat_cmp entry_meaning (λ es. es) t (old.output.items ++ cs) new.state =
    subst (λ ds. Awaits nat_cmp entry_meaning (λ es. es) t ds new.state) e w in
    (ready_behind t old.output.items cs k.ready, subst (λ (x : WorldStore). Mirrors entry_meaning x new.state) (left_more t old.output.items cs) k.in_step.mirrors)

unowned : (id : ℕ) (v : Vote ℕ) → v.committed ≡ false → OwnsVote id v → ⊥
unowned id v e o = let z : true ≡ false = sym o.0 ∙ e in cc

module _ (id : ℕ) (u : WorldStore) where
  abbrev Grows : WorldCore → WorldCore → Type 0
  Grows old new = Adds id u old new

  grows_reply : (when : Option (Condition ℕ)) (r : WorldRespond) (a b : WorldCore) → Grows a b → Grows a (then_command b (command.Respond when r))
  grows_reply when r a b h = adds_more id u (command.Respond when r) a b (then_command b (command.Respond when r)) h refl refl (λ w. refl)

  grows_then : (a b c : WorldCore) → (h : Grows a b) → Adds id (left_by u h.added) b c → Grows a c
  grows_then a b c h k = record {
    added = h.added ++ k.added;
    items = both_behind a.output.items b.output.items c.output.items h.added k.added h.items k.items;
    safe = safely_then id u h.added k.added h.safe k.safe;
  }

reply_unsaved : (when : Option (Condition ℕ)) (r : WorldRespond) (c : WorldCore) → Unsaved c (then_command c (command.Respond when r))
reply_unsaved when r c = record { vote = refl; queues = silent nat_cmp (command.Respond when r ∷ []) c _ refl refl refl (record { no_votes = refl; no_numbers = refl; no_deletes = refl }) }

-- a vote that is heard
heard : (config : EngineConfig ℕ) (v : Vote ℕ) (now : ℕ) (m : WorldMachine) → rejects_vote nat_cmp m.core.state v ≡ false
    → update_vote nat_cmp entry_meaning config v now m ≡ update_internal_server_state nat_cmp entry_meaning config (on_core (take_vote nat_cmp config v now) m)
unfolding update_vote
heard config v now m e = if_false (rejects_vote nat_cmp m.core.state v) m _ e

heard_unsaved : (config : EngineConfig ℕ) (v : Vote ℕ) (now : ℕ) (m : WorldMachine) → rejects_vote nat_cmp m.core.state v ≡ false
    → Unsaved (take_vote nat_cmp config v now m.core) (update_vote nat_cmp entry_meaning config v now m).core
heard_unsaved config v now m e =
    subst (λ (q : WorldMachine). Unsaved (take_vote nat_cmp config v now m.core) q.core) (sym (heard config v now m e)) (internal_unsaved config (on_core (take_vote nat_cmp config v now) m))

-- the node's own vote in the next term, in an election
elect_grows : (id : ℕ) (u : WorldStore) (config : EngineConfig ℕ) (now : ℕ) (m : WorldMachine) → u.vote ≡ m.core.state.vote → Fine id u
    → Adds id u m.core (elect nat_cmp entry_meaning config now m).core
unfolding elect update_role
elect_grows id u config now m vote fine =
    adopted_adds id u config v now m.core vote fine (unowned id v refl) _ above
    (unsaved_then (take_vote nat_cmp config v now m.core) voted.core _ (heard_unsaved config v now standing above)
    (unsaved_then voted.core asked _ (record { vote = refl; queues = silent nat_cmp (command.SendVote request ∷ []) voted.core asked refl refl refl (record { no_votes = refl; no_numbers = refl; no_deletes = refl }) })
    (record { vote = refl; queues = role_queues nat_cmp nat_cmp_total config asked })))
  where
    v : Vote ℕ
    v = record { leader_id = record { term = m.core.state.vote.leader_id.term + 1; node_id = config.id }; committed = false }

    request : VoteRequest ℕ
    request = record { vote = record { leader_id = record { term = m.core.state.vote.leader_id.term + 1; node_id = config.id }; committed = false }; last_log_id = last m.core.state.ids }

    standing : WorldMachine
    standing = record m { candidate = Some (candidate_of nat_cmp now (record { leader_id = record { term = m.core.state.vote.leader_id.term + 1; node_id = config.id }; committed = false }) (last m.core.state.ids) m.core.state.em.membership) }

    voted : WorldMachine
    voted = update_vote nat_cmp entry_meaning config (record { leader_id = record { term = m.core.state.vote.leader_id.term + 1; node_id = config.id }; committed = false }) now standing

    asked : WorldCore
    asked = then_command voted.core (command.SendVote request)

    above : rejects_vote nat_cmp m.core.state v ≡ false
    above = ap is_lt (later_vote m.core.state.vote config.id)

-- a candidate that may not lead is used up
unestablished : (config : EngineConfig ℕ) (c : WorldCandidate) (now : ℕ) (m : WorldMachine) → may_establish nat_cmp m.core.state m.leader c ≡ false
    → lead_by_votes nat_cmp entry_meaning config c now m ≡ record m { candidate = None }
unfolding lead_by_votes
unestablished config c now m q = if_false (may_establish nat_cmp m.core.state m.leader c) _ (record m { candidate = None }) q

-- a node that starts, and doesn't lead, queues nothing
startup_waits : (config : EngineConfig ℕ) (m : WorldMachine) → is_leader nat_cmp m.core.state config.id ≡ false
    → (startup nat_cmp entry_meaning config m).core.output.items ≡ m.core.output.items
unfolding startup
startup_waits config m q =
    ap (λ (x : WorldMachine). x.core.output.items)
    (if_false (is_leader nat_cmp m.core.state config.id) _ (on_core (λ (c : WorldCore). with_state c (record c.state { role = started_role nat_cmp config c.state })) m) q)

-- what holds of an engine, and of the store that its queue leaves
pub record Knows (id : ℕ) (u : WorldStore) (e : EngineView) : Type 0 where
  pub own : e.config.id ≡ id
  pub mirrors : Mirrors entry_meaning u e.machine.core.state
  pub fine : Fine id u
  pub candidate : CandidateVotes e
  pub leader : IfSome e.machine.leader (λ l. (l.vote ≡ e.machine.core.state.vote) × OwnsVote id l.vote)

-- a machine's queue leaves the node fine
abbrev pub Grown : ℕ → WorldStore → EngineView → WorldMachine → Type 0
Grown id u e q = After u e.machine.core q.core → Adds id u e.machine.core q.core

module _ (id : ℕ) (u : WorldStore) (e : EngineView) (k : Knows id u e) where
  abbrev pub Answer : Type 0
  Answer = Option ℕ × EngineView

  abbrev pub core_in : Answer → WorldCore
  core_in r = r.1.machine.core

  -- a call leaves the node fine
  abbrev pub Good : Answer → Type 0
  Good r = After u e.machine.core (core_in r) → Adds id u e.machine.core (core_in r)

  pub vote : u.vote ≡ e.machine.core.state.vote
  vote = sym k.mirrors.log.vote_is

  -- a leader is a voter
  pub led_votes : (l : WorldLeader) → e.machine.leader ≡ Some l → Votes id u
  led_votes l is =
      let g : (l.vote ≡ e.machine.core.state.vote) × OwnsVote id l.vote =
      subst (λ o. IfSome o (λ (l : WorldLeader). (l.vote ≡ e.machine.core.state.vote) × OwnsVote id l.vote)) is k.leader in
      k.fine (subst (OwnsVote id) (g.0 ∙ sym vote) g.1)

  -- the voters by the state are those by the store
  state_votes : Listed (voter_ids nat_cmp (members e)) id → Votes id u
  state_votes v = subst (λ (m : StoredMembership ℕ (Unit {0})). Listed (voter_ids nat_cmp m.membership) id) k.mirrors.em v

  mild_grows : (new : WorldCore) → Votes id u → QueuesOnly Mild e.machine.core new → After u e.machine.core new → Adds id u e.machine.core new
  mild_grows new v h a = record { added = h.added; items = h.behind; safe = mild_safely id u h.added (a h.added h.behind).0 h.each v }

  plain_grows : (new : WorldCore) → QueuesOnly Plain e.machine.core new → After u e.machine.core new → Adds id u e.machine.core new
  plain_grows new h a = record { added = h.added; items = h.behind; safe = plain_safely id u h.added (a h.added h.behind).0 h.each k.fine }

  leads_grows : (new : WorldCore) → Votes id u → Leads e.machine.core new → After u e.machine.core new → Adds id u e.machine.core new
  leads_grows new v h a =
      let r : AllReady u h.once.added × Mirrors entry_meaning (left_by u h.once.added) new.state = a h.once.added h.once.items in
      let same : last_membership entry_meaning (whole u) ≡ last_membership entry_meaning (whole (left_by u h.once.added)) =
      sym k.mirrors.em ∙ (sym h.em ∙ r.1.em) in
      record {
        added = h.once.added;
        items = h.once.items;
        safe = once_safely id u e.machine.core new h.once r.0 v (subst (λ (m : StoredMembership ℕ (Unit {0})). Listed (voter_ids nat_cmp m.membership) id) same v);
      }

  changes_grows : (m : Members ℕ (Unit {0})) (new : WorldCore) → Listed (voter_ids nat_cmp m) id → new.state.em.membership ≡ m → Votes id u
      → Once e.machine.core new → After u e.machine.core new → Adds id u e.machine.core new
  changes_grows m new w is v h a =
      let r : AllReady u h.added × Mirrors entry_meaning (left_by u h.added) new.state = a h.added h.items in
      let there : Listed (voter_ids nat_cmp new.state.em.membership) id =
      subst (λ (x : Members ℕ (Unit {0})). Listed (voter_ids nat_cmp x) id) (sym is) w in
      record {
        added = h.added;
        items = h.items;
        safe = once_safely id u e.machine.core new h r.0 v (subst (λ (m : StoredMembership ℕ (Unit {0})). Listed (voter_ids nat_cmp m.membership) id) r.1.em there);
      }

  pub none_grows : (new : WorldCore) → new.output.items ≡ e.machine.core.output.items → Adds id u e.machine.core new
  none_grows new i = adds_none id u e.machine.core new i k.fine

  answered_good : (o : Option (EngineError ℕ (Unit {0}))) (after : EngineView)
      → (o ≡ None → After u e.machine.core after.machine.core → Adds id u e.machine.core after.machine.core) → Good (answered o e after)
  answered_good None after f a = f refl a
  answered_good (Some r) after f a = none_grows e.machine.core refl

  led_good : (asks : WorldLed → Option (EngineError ℕ (Unit {0}))) (step : WorldLed → WorldLed)
      → ((l : WorldLeader) → Votes id u → After u e.machine.core (step (led_of l e.machine.core.state e.machine.core.output)).core → Adds id u e.machine.core (step (led_of l e.machine.core.state e.machine.core.output)).core)
      → Good (led_call asks step e)
  led_good asks step f = go e.machine.leader refl
    where
      go : (o : Option WorldLeader) → e.machine.leader ≡ o → Good
          (elim o as (λ _. Answer) [
            | None ↦ (Some (unled_number e), e)
            | Some l ↦
                (let led = led_of l e.machine.core.state e.machine.core.output in
                answered (asks led) e (with_machine e (leading e.machine (step led))))
          ])
      go None q a = none_grows e.machine.core refl
      go (Some l) q a =
          let led : WorldLed = led_of l e.machine.core.state e.machine.core.output in
          answered_good (asks led) (with_machine e (leading e.machine (step led))) (λ _ b. f l (led_votes l q) b) a

  -- what a leader proposes, and what it is told
  values_none : (leader : LeaderId ℕ) (n : ℕ) (values : List Value)
      → memberships_in entry_meaning (numbered entry_meaning leader n (map value_entry values)) ≡ []
  values_none leader n [] = refl
  values_none leader n (v ∷ values) = values_none leader (n + 1) values

  pub proposed_good : (values : List Value)
      → Good (led_call (refusals_of_propose (length (map value_entry values))) (leader_append_entries nat_cmp entry_meaning e.config (map value_entry values)) e)
  proposed_good values =
      led_good (refusals_of_propose (length (map value_entry values))) (leader_append_entries nat_cmp entry_meaning e.config (map value_entry values)) (λ l v a. leads_grows _ v (appends_leads e.config (map value_entry values) (led_of l e.machine.core.state e.machine.core.output) (values_none l.vote.leader_id (next l.last_log_id) values)) a)

  pub changed_good : (groups : List (List ℕ)) (learners : List ℕ) → (Votes id u → is_among groups id ≡ true)
      → Good (membership_changed groups learners e)
  unfolding leader_append_entries proposed append_membership_led rebuild_progresses rebuild_replication_streams initiate_replication
  changed_good groups learners h =
      led_good (refusals_of_propose 1) (leader_append_entries nat_cmp entry_meaning e.config (membership_entry (members_with groups learners) ∷ []))
      (λ l v a. changes_grows (members_with groups learners) _ (proposed_votes groups learners id (h v)) refl v (append_once e.config (membership_entry (members_with groups learners) ∷ []) (led_of l e.machine.core.state e.machine.core.output)) a)

  pub progressed_good : (target : ℕ) (number : RequestId) (result : Result (ReplicationResult ℕ) (Unit {0}))
      → Good (progressed target number result e)
  progressed_good target number result =
      led_good (refusals_of_progress nat_cmp e.config target number result) (update_progress nat_cmp e.config target number result)
      (λ l v a. mild_grows _ v (progress_mild e.config target number result (led_of l e.machine.core.state e.machine.core.output)) a)

  pub heartbeats_good : Good (led_call refusals_of_counter_led (initiate_replication nat_cmp e.config true) e)
  heartbeats_good = led_good refusals_of_counter_led (initiate_replication nat_cmp e.config true) (λ l v a. mild_grows _ v (initiate_only Mild nat_cmp e.config mild_leading true (led_of l e.machine.core.state e.machine.core.output)) a)

  -- votes
  higher_good : (v : Vote ℕ) (now : ℕ) → Good (take_higher_vote v now e)
  higher_good v now = answered_good (refusals_of_update_vote nat_cmp e.config (as_uncommitted v) e.machine) (with_machine e (update_vote nat_cmp entry_meaning e.config (as_uncommitted v) now e.machine)) (λ _ a. voted_adds id u e.config (as_uncommitted v) now e.machine vote k.fine (unowned id (as_uncommitted v) refl))

  pub elected_good : (now : ℕ) → Good (elected now e)
  elected_good now = answered_good (refusals_of_elect nat_cmp e.config e.machine) (with_machine e (elect nat_cmp entry_meaning e.config now e.machine)) (λ _ a. elect_grows id u e.config now e.machine vote k.fine)

  requested_good : (req : VoteRequest ℕ) (now : ℕ) → req.vote.committed ≡ false → Adds id u e.machine.core (vote_requested req now e).machine.core
  unfolding handle_vote_req
  requested_good req now pending =
      grows_reply id u _ _ e.machine.core _
      (either (λ (q : WorldMachine). Adds id u e.machine.core q.core) (refuses_vote_req nat_cmp e.config e.machine.core.state req now) _ _ (none_grows e.machine.core refl)
      (voted_adds id u e.config req.vote now e.machine vote k.fine (unowned id req.vote pending)))

  -- a candidate of the state's vote with a quorum leads
  won_grows : (c : WorldCandidate) (now : ℕ) → (is_eq (vote_cmp nat_cmp c.vote e.machine.core.state.vote) ≡ true → Votes id u)
      → After u e.machine.core (lead_by_votes nat_cmp entry_meaning e.config c now e.machine).core
      → Adds id u e.machine.core (lead_by_votes nat_cmp entry_meaning e.config c now e.machine).core
  won_grows c now votes a = go (may_establish nat_cmp e.machine.core.state e.machine.leader c) refl
    where
      go : (b : Bool) → may_establish nat_cmp e.machine.core.state e.machine.leader c ≡ b
          → Adds id u e.machine.core (lead_by_votes nat_cmp entry_meaning e.config c now e.machine).core
      go true q = leads_grows _ (votes (and_parts (is_eq (vote_cmp nat_cmp c.vote e.machine.core.state.vote)) _ q).0) (won_leads e.config c now e.machine) a
      go false q = none_grows _ (ap (λ (x : WorldMachine). x.core.output.items) (unestablished e.config c now e.machine q))

  resp_grows : (target : ℕ) (resp : VoteResponse ℕ) (now : ℕ)
      → After u e.machine.core (handle_vote_resp nat_cmp entry_meaning e.config target resp now e.machine).core
      → Adds id u e.machine.core (handle_vote_resp nat_cmp entry_meaning e.config target resp now e.machine).core
  unfolding handle_vote_resp take_grant take_rejection
  resp_grows target resp now a = go e.machine.candidate k.candidate a
    where
      go : (o : Option WorldCandidate)
          → IfSome o (λ c. is_eq (vote_cmp nat_cmp c.vote e.machine.core.state.vote) ≡ true → Listed (voter_ids nat_cmp (members e)) e.config.id)
          → Grown id u e (elim o as (λ _. WorldMachine) [
            | None ↦ e.machine
            | Some c ↦ (if is_granted_to nat_cmp resp c.vote
                then (if is_granted (is_quorum nat_cmp) (grant_by nat_cmp c target) then lead_by_votes nat_cmp entry_meaning e.config (grant_by nat_cmp c target) now e.machine else record e.machine { candidate = Some (grant_by nat_cmp c target) })
                else update_vote nat_cmp entry_meaning e.config (as_uncommitted resp.vote) now e.machine)
          ])
      go None h = λ a. none_grows e.machine.core refl
      go (Some c) h =
          either (Grown id u e) (is_granted_to nat_cmp resp c.vote) _ _
          (either (Grown id u e) (is_granted (is_quorum nat_cmp) (grant_by nat_cmp c target)) _ _
          (λ a. won_grows (grant_by nat_cmp c target) now (λ q. state_votes (subst (Listed (voter_ids nat_cmp (members e))) k.own (h q))) a) (λ a. none_grows e.machine.core refl))
          (λ a. voted_adds id u e.config (as_uncommitted resp.vote) now e.machine vote k.fine (unowned id (as_uncommitted resp.vote) refl))

  -- a leader's entries, under another's vote
  module _ (v : Vote ℕ) (other : OwnsVote id v → ⊥) (now : ℕ) where
    follow_unsaved : (prev : Option (LogId ℕ)) (es : List Entry) (c : WorldCore) → Unsaved c (follow nat_cmp entry_meaning e.config prev es c)
    unfolding follow
    follow_unsaved prev es c = record {
      vote = (follow_marks nat_cmp entry_meaning e.config prev es c).vote;
      queues = either (Queues nat_cmp c) (holds_previous nat_cmp c.state prev) _ _ (append_queues nat_cmp nat_cmp_total entry_meaning e.config prev es c) (consecutive_queues nat_cmp nat_cmp_total e.config prev c);
    }

    appended_heard : (prev : Option (LogId ℕ)) (es : List Entry) → rejects_vote nat_cmp e.machine.core.state v ≡ false
        → Unsaved (take_vote nat_cmp e.config v now e.machine.core) (appended v prev es now e).machine.core
    unfolding handle_append_entries append_entries
    appended_heard prev es r =
        unsaved_then (take_vote nat_cmp e.config v now e.machine.core) mid.core _
        (subst (λ (q : WorldMachine). Unsaved (take_vote nat_cmp e.config v now e.machine.core) q.core) (sym (if_false (rejects_vote nat_cmp e.machine.core.state v) e.machine _ r))
        (unsaved_then (take_vote nat_cmp e.config v now e.machine.core) (update_vote nat_cmp entry_meaning e.config v now e.machine).core _ (heard_unsaved e.config v now e.machine r)
        (follow_unsaved prev es (update_vote nat_cmp entry_meaning e.config v now e.machine).core)))
        (reply_unsaved _ _ mid.core)
      where
        mid : WorldMachine
        mid = append_entries nat_cmp entry_meaning e.config v prev es now e.machine

    appended_rejected : (prev : Option (LogId ℕ)) (es : List Entry) → rejects_vote nat_cmp e.machine.core.state v ≡ true
        → Adds id u e.machine.core (appended v prev es now e).machine.core
    unfolding handle_append_entries append_entries
    appended_rejected prev es r =
        grows_reply id u _ _ e.machine.core (append_entries nat_cmp entry_meaning e.config v prev es now e.machine).core
        (subst (λ (q : WorldMachine). Adds id u e.machine.core q.core) (sym (if_true (rejects_vote nat_cmp e.machine.core.state v) e.machine _ r)) (none_grows e.machine.core refl))

    answered_heard : (prev : Option (LogId ℕ)) → is_ok (append_answer nat_cmp entry_meaning e.config v prev now e.machine) ≡ true
        → rejects_vote nat_cmp e.machine.core.state v ≡ false
    unfolding append_answer
    answered_heard prev ok = go (rejects_vote nat_cmp e.machine.core.state v) ok
      where
        go : (b : Bool)
            → is_ok (if b then Err (reject.ByVote e.machine.core.state.vote) else consecutive_answer nat_cmp (update_vote nat_cmp entry_meaning e.config v now e.machine).core.state prev) ≡ true
            → b ≡ false
        go true q = cc
        go false q = refl

    commit_unsaved : (x : Option (LogId ℕ)) (m : WorldMachine) → Unsaved m.core (handle_commit_entries nat_cmp entry_meaning e.config x m).core
    unfolding handle_commit_entries commit_entries
    commit_unsaved x m = record {
      vote = (committed_keeps e.config [] tt (commit_target nat_cmp m.core.state x) m.core).state.vote;
      queues = handle_commit_queues nat_cmp nat_cmp_total entry_meaning e.config x m;
    }

    append_good : (prev : Option (LogId ℕ)) (es : List Entry) (committed : Option (LogId ℕ))
        → Adds id u e.machine.core (core_in (take_append v prev es committed now e))
    append_good prev es committed =
        either_option (λ (r : Answer). Adds id u e.machine.core (core_in r)) (refusals_of_append nat_cmp e.config v prev (map (λ x. x.log_id) es) e.machine) _ _
        (cond_both (is_ok (append_answer nat_cmp entry_meaning e.config v prev now e.machine)) (take_commit committed new) (None, new) (λ (r : Answer). Adds id u e.machine.core (core_in r))
        (λ ok. committed_after (refusals_of_commit nat_cmp committed new.machine) (answered_heard prev ok))
        (λ _. done (rejects_vote nat_cmp e.machine.core.state v) refl))
        (λ r. none_grows e.machine.core refl)
      where
        new : EngineView
        new = appended v prev es now e

        done : (b : Bool) → rejects_vote nat_cmp e.machine.core.state v ≡ b → Adds id u e.machine.core new.machine.core
        done true r = appended_rejected prev es r
        done false r = adopted_adds id u e.config v now e.machine.core vote k.fine other new.machine.core r (appended_heard prev es r)

        committed_after : (o : Option (EngineError ℕ (Unit {0}))) → rejects_vote nat_cmp e.machine.core.state v ≡ false
            → Adds id u e.machine.core (core_in (answered o new (with_machine new (handle_commit_entries nat_cmp entry_meaning new.config committed new.machine))))
        committed_after (Some x) r = done false r
        committed_after None r =
            adopted_adds id u e.config v now e.machine.core vote k.fine other _ r
            (unsaved_then (take_vote nat_cmp e.config v now e.machine.core) new.machine.core _ (appended_heard prev es r) (commit_unsaved committed new.machine))

    -- and its snapshot
    install_good : (s : WorldSnapshot)
        → Good (answered (refusals_of_install nat_cmp e.config v s.meta e.machine) e (with_machine e (handle_install_full_snapshot nat_cmp entry_meaning e.config v s reply_token now e.machine)))
    unfolding handle_install_full_snapshot
    install_good s = answered_good (refusals_of_install nat_cmp e.config v s.meta e.machine) (with_machine e (handle_install_full_snapshot nat_cmp entry_meaning e.config v s reply_token now e.machine)) (λ _ a. go (rejects_vote nat_cmp e.machine.core.state v) refl)
      where
        voted : WorldMachine
        voted = update_vote nat_cmp entry_meaning e.config v now e.machine

        go : (b : Bool) → rejects_vote nat_cmp e.machine.core.state v ≡ b
            → Adds id u e.machine.core (machine_in (if b then on_core (reply_install None reply_token) e.machine else on_core (install_and_reply nat_cmp entry_meaning e.config s reply_token) voted)).core
        go true r = grows_reply id u _ _ e.machine.core e.machine.core (none_grows e.machine.core refl)
        go false r =
            adopted_adds id u e.config v now e.machine.core vote k.fine other _ r
            (unsaved_then (take_vote nat_cmp e.config v now e.machine.core) voted.core _ (heard_unsaved e.config v now e.machine r)
            (unsaved_then voted.core (install_full_snapshot nat_cmp e.config s voted.core) _
            (record { vote = (install_leaves_vote nat_cmp e.config nat_cmp_total s voted.core).0; queues = install_queues nat_cmp e.config nat_cmp_total s voted.core })
            (reply_unsaved _ _ (install_full_snapshot nat_cmp e.config s voted.core))))

  -- what may be delivered: requests of others
  abbrev pub IsOthers : Body → Type 0
  IsOthers (body.VoteRequest req) = req.vote.committed ≡ false
  IsOthers (body.AppendRequest o prev es committed) = OwnsVote id o.session_id.vote → ⊥
  IsOthers (body.SnapshotRequest o s) = OwnsVote id o.session_id.vote → ⊥
  IsOthers _ = Unit {0}

  append_reply_good : (from : ℕ) (o : Origin) (reply : AppendEntriesResponse ℕ) (prev upto : Option (LogId ℕ)) (now : ℕ)
      → Good (take_append_reply from o reply prev upto now e)
  append_reply_good from o Success prev upto now = progressed_good from o.request_id (Ok (record { sending_time = o.sent_at; result = Ok upto }))
  append_reply_good from o (PartialSuccess x) prev upto now = progressed_good from o.request_id (Ok (record { sending_time = o.sent_at; result = Ok x }))
  append_reply_good from o Conflict None upto now = λ a. none_grows e.machine.core refl
  append_reply_good from o Conflict (Some x) upto now = progressed_good from o.request_id (Ok (record { sending_time = o.sent_at; result = Err x }))
  append_reply_good from o (HigherVote v) prev upto now = higher_good v now

  pub deliver_good : (from : ℕ) (b : Body) (now : ℕ) → IsOthers b → Good (deliver from b now e)
  deliver_good from (body.VoteRequest req) now m = answered_good (refusals_of_vote_req nat_cmp e.config req now e.machine) (vote_requested req now e) (λ _ a. requested_good req now m)
  deliver_good from (body.VoteReply resp) now m = answered_good (refusals_of_vote_resp nat_cmp e.config from resp e.machine) (vote_replied from resp now e) (λ _ a. resp_grows from resp now a)
  deliver_good from (body.AppendRequest o prev es committed) now m = λ a. append_good o.session_id.vote m now prev es committed
  deliver_good from (body.AppendReply o reply prev upto) now m = append_reply_good from o reply prev upto now
  deliver_good from (body.SnapshotRequest o s) now m = install_good o.session_id.vote m now s
  deliver_good from (body.SnapshotReply o reply upto) now m =
      either Good (is_gt (vote_cmp nat_cmp reply.vote o.session_id.vote)) _ _ (higher_good reply.vote now) (progressed_good from o.request_id (Ok (record { sending_time = o.sent_at; result = Ok upto })))

  -- the first entry comes to a node that has no vote
  pub initialized_good : (first : Members ℕ (Unit {0})) (now : ℕ) → Good (initialized first now e)
  unfolding initialize
  initialized_good first now =
      answered_good (refusals_of_initialize nat_cmp entry_meaning e.config 0 (first_entry first) e.machine) (with_machine e (initialize nat_cmp entry_meaning e.config 0 (first_entry first) now e.machine))
      (λ asks a.
      let new : is_initialized nat_cmp 0 e.machine.core.state ≡ false =
      second_fails e.machine.core.output.spent (is_initialized nat_cmp 0 e.machine.core.state) _ _ _ (neither _ _ asks).0 in
      let none : e.machine.core.state.vote.committed ≡ false = pending (or_fails (not (length e.machine.core.state.ids == 0)) _ new).1 in
      let s : Unsaved e.machine.core taken =
      record { vote = (do_append_marks nat_cmp entry_meaning e.config es e.machine.core).vote; queues = do_append_queues nat_cmp nat_cmp_total entry_meaning e.config es e.machine.core } in
      let h : Adds id u e.machine.core taken =
      record { added = s.queues.added; items = s.queues.behind; safe = unsaved_safely id u s.queues.added (none_saved e.machine.core taken s) (λ o. unowned id e.machine.core.state.vote none (subst (OwnsVote id) vote o)) } in
      grows_then id u e.machine.core taken _ h
      (elect_grows id (left_by u s.queues.added) e.config now (on_core (do_append_entries nat_cmp entry_meaning e.config es) e.machine)
      (left_vote u s.queues.added (none_saved e.machine.core taken s) ∙ (vote ∙ sym s.vote)) (safely_end id u h.added h.safe)))
    where
      es : List Entry
      es = entry_meaning.with_id (first_entry first) (default_log_id 0) ∷ []

      taken : WorldCore
      taken = do_append_entries nat_cmp entry_meaning e.config (entry_meaning.with_id (first_entry first) (default_log_id 0) ∷ []) e.machine.core

      first_vote : Vote ℕ
      first_vote = record { leader_id = record { term = 0; node_id = 0 }; committed = false }

      equal : (r : Ordering) → is_ne r ≡ false → r ≡ Equal
      equal Less q = cc
      equal Equal q = refl
      equal Greater q = cc

      pending : is_ne (vote_cmp nat_cmp e.machine.core.state.vote (record { leader_id = record { term = 0; node_id = 0 }; committed = false })) ≡ false
          → e.machine.core.state.vote.committed ≡ false
      pending q = ap (λ (v : Vote ℕ). v.committed) (vote_same nat_cmp nat_same e.machine.core.state.vote first_vote (equal (vote_cmp nat_cmp e.machine.core.state.vote first_vote) q))

  -- snapshots and purges
  pub triggered_good : Good (snapshot_triggered e)
  unfolding trigger_snapshot
  triggered_good =
      answered_good (refusals_of_trigger_snapshot e.machine.core) (with_machine e (on_core trigger_snapshot e.machine))
      (λ _ a. plain_grows (trigger_snapshot e.machine.core)
      (either (QueuesOnly Plain e.machine.core) e.machine.core.state.building _ _ (only_here Plain e.machine.core e.machine.core refl)
      (only_of Plain (command.StateMachine (record { seq = e.machine.core.output.seq + 1; payload = BuildSnapshot }) ∷ []) e.machine.core _ refl ((tt, refl), tt))) a)

  pub purged_good : (i : ℕ) → Good (purge_triggered i e)
  purged_good i =
      answered_good (refusals_of_spent e.machine) (with_machine e (trigger_purge_log nat_cmp i e.machine))
      (λ _ a. plain_grows (trigger_purge_log nat_cmp i e.machine).core (trigger_purge-only Plain e.config (λ x. (tt, refl)) i e.machine) a)

  -- a leader steps down
  pub stepped_good : Votes id u → Good (stepped_down e)
  stepped_good v =
      answered_good (refusals_of_step_down nat_cmp e.config e.machine) (with_machine e (leader_step_down nat_cmp entry_meaning e.config e.machine))
      (λ _ a. leads_grows (leader_step_down nat_cmp entry_meaning e.config e.machine).core v (step_down_leads e.config e.machine) a)

  -- a start
  pub resumed_good : Good (resumed e)
  resumed_good =
      answered_good (refusals_of_startup nat_cmp e.config e.machine) (with_machine e (startup nat_cmp entry_meaning e.config e.machine))
      (λ _ a. go (is_leader nat_cmp e.machine.core.state e.config.id) refl a)
    where
      owns : is_leader nat_cmp e.machine.core.state e.config.id ≡ true → OwnsVote id u.vote
      owns q =
          let p = and_parts (is_leading nat_cmp e.machine.core.state e.config.id) e.machine.core.state.vote.committed q in
          let r = and_parts (is_eq (nat_cmp e.machine.core.state.vote.leader_id.node_id e.config.id)) (contains nat_cmp e.machine.core.state.em.membership e.config.id) p.0 in
          subst (OwnsVote id) (sym vote) (p.1, nat_same e.machine.core.state.vote.leader_id.node_id e.config.id (is_equal (nat_cmp e.machine.core.state.vote.leader_id.node_id e.config.id) r.0) ∙ k.own)

      go : (b : Bool) → is_leader nat_cmp e.machine.core.state e.config.id ≡ b → Grown id u e (startup nat_cmp entry_meaning e.config e.machine)
      go true q a = leads_grows (startup nat_cmp entry_meaning e.config e.machine).core (k.fine (owns q)) (startup_leads e.config e.machine) a
      go false q a = none_grows (startup nat_cmp entry_meaning e.config e.machine).core (startup_waits e.config e.machine q)

  pub begun_good : (now : ℕ) → Good (begun_anew now e)
  begun_good now = begun_one Good now e (λ _. elected_good now) (λ a. none_grows e.machine.core refl) resumed_good

  -- what is fed back
  called_good : {E : Type 0} (o : Option E) (m : WorldMachine) → Grown id u e m → Grown id u e (called o e m).machine
  called_good None m f = f
  called_good (Some r) m f = λ a. none_grows e.machine.core refl

  still : Grown id u e e.machine
  still a = none_grows e.machine.core refl

  pub fed_good : (now : ℕ) (c : WorldCommand) → Grown id u e (feed now c e).machine
  fed_good now (command.SaveVote v) =
      either_option (λ (x : EngineView). Grown id u e x.machine) e.machine.candidate _ _ still
      (λ c. either (λ (x : EngineView). Grown id u e x.machine) (asks_itself v c e) _ _
      (called_good (refusals_of_vote_resp nat_cmp e.config e.config.id (own_grant v) e.machine) _ (λ a. resp_grows e.config.id (own_grant v) now a)) still)
  fed_good now (command.AppendInputEntries v es) = go e.machine.leader refl
    where
      go : (o : Option WorldLeader) → e.machine.leader ≡ o
          → Grown id u e (view_in (elim o as (λ _. EngineView) [ None ↦ e | Some l ↦ (if is_eq (vote_cmp nat_cmp l.vote v) then hold_own (last_sent None es) l e else e) ])).machine
      go None q = still
      go (Some l) q =
          let led : WorldLed = led_of l e.machine.core.state e.machine.core.output in
          either (λ (x : EngineView). Grown id u e x.machine) (is_eq (vote_cmp nat_cmp l.vote v)) _ _
          (called_good (refusals_of_local_progress nat_cmp e.config (last_sent None es) led) (leading e.machine (update_local_progress nat_cmp e.config (last_sent None es) led))
          (λ a. mild_grows _ (led_votes l q) (local_only Mild nat_cmp e.config mild_leading (last_sent None es) led) a)) still
  fed_good now (command.DeleteConflictLog since) = still
  fed_good now (command.PurgeLog upto) = still
  fed_good now (command.Commit seq already upto) = still
  fed_good now (command.StateMachine c) = still
  fed_good now (command.SendVote req) = still
  fed_good now (command.RebuildReplicationStreams targets) = still
  fed_good now (command.Replicate target req) = still
  fed_good now (command.ReplicateCommitted committed) = still
  fed_good now (command.Respond when reply) = still
  fed_good now command.BecomeLeader = still
  fed_good now command.QuitLeader = still
