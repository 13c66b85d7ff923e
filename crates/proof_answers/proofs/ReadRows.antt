-- Worked runs of reads by the rule, computed: a server alone answers one, with all that its state machine has taken; and which replies
-- count. A reply to a request of the read's own moment doesn't, nor one that tells a higher vote.
use Rattle.std.specs.Prelude.{◌≡◌, ◌<◌, ◌≤◌, ◌⊎◌, ℕ, true, List, [], ◌∷◌, ◌++◌, length, Option, None, Some, refl, slice_get, take}
use Rattle.std.specs.Ordering.{nat_cmp}
use Rattle.std.proofs.Common.{◌∙◌, inl, inr, sym, ap, subst, arith, suc, zero}
use Rattle.std.proofs.lemmas.List.Elements.{All-from_recursion}
use Rattle.proof_deeds.specs.raft_state.Order.{next}
use Rattle.proof_deeds.specs.raft_progress.Quorum.{is_quorum}
use Rattle.proof_deeds.specs.raft_command.declared.message.AppendEntriesResponse.{AppendEntriesResponse}
use Rattle.proof_deeds.specs.raft_command.declared.message.AppendEntriesResponse.TheVariants.{HigherVote, Success}
use Rattle.proof_deeds.specs.raft_command.declared.replication.RequestId.TheVariants.{HeartBeat}
use Rattle.proof_deeds.specs.raft_steps.Commit.{commit_by}
use Rattle.proof_deeds.specs.raft_steps.Engine.{elect, handle_vote_resp, initialize, lead_by_votes, take_grant}
use Rattle.proof_deeds.specs.raft_steps.FollowingHandler.{do_append_entries}
use Rattle.proof_deeds.specs.raft_steps.LeaderHandler.{leader_append_entries, proposed}
use Rattle.proof_deeds.specs.raft_steps.ReplicationHandler.{initiate_replication, rebuild_replication_streams, try_commit_quorum_accepted, update_local_progress}
use Rattle.proof_deeds.specs.raft_steps.ServerStateHandler.{update_role}
use Rattle.proof_deeds.specs.raft_steps.SnapshotHandler.{snapshot_where_due, trigger_snapshot}
use Rattle.proof_deeds.specs.raft_steps.VoteHandler.{become_following, become_leader, begin_lead, lead_anew, update_internal_server_state, update_vote}
use Rattle.proof_deeds.proofs.raft_steps_proofs.Example.{committed, lid}
use Rattle.proof_deeds.specs.raft_store.declared.entry.Entry.{Entry}
use Rattle.proof_deeds.specs.raft_schedule.declared.event.Start.{Start}
use Rattle.proof_deeds.specs.raft_schedule.declared.event.Start.TheVariants.{Bare}
use Rattle.proof_deeds.specs.raft_calls.declared.lead.Answer.{Answer}
use Rattle.proof_deeds.specs.raft_calls.declared.message.Body.TheVariants.{AppendReply}
use Rattle.proof_deeds.specs.raft_calls.declared.message.Message.{Message}
use Rattle.proof_deeds.specs.raft_calls.declared.message.Origin.{Origin}
use Rattle.proof_deeds.specs.raft_calls.Elections.{first_entry}
use Rattle.proof_deeds.specs.raft_node.declared.act.Act.{Act}
use Rattle.proof_deeds.specs.raft_node.declared.act.Act.TheVariants.{Initialize, Propose, Read, Restart, Take}
use Rattle.proof_deeds.specs.raft_node.Chosen.{effective_in}
use Rattle.proof_deeds.specs.raft_node.Events.{finish, place_of, played}
use Rattle.proof_deeds.specs.raft_node.Net.{NodeView}
use Rattle.proof_deeds.specs.raft_node.Work.{worked}
use Rattle.proof_deeds.proofs.RunRows.{alone, blank, leader}
use Rattle.proof_clients.specs.Objects.{Operation, Query, Return, state_after}
use Rattle.proof_clients.specs.Reads.{IsTaking}
use Rattle.proof_clients.proofs.Rows.{counter}
use Rattle.proof_servers.specs.Servers.{Action, Crashes, Flushes, Step, Takes, node_after, outputs_of}
use Rattle.proof_answers.specs.Answers.{TakesAt, Told, node_then, node_within}
use Rattle.proof_answers.specs.Histories.{IsQuery, RuleReturns}
use Rattle.proof_answers.specs.Reads.{Hears, IsRead}
use Rattle.proof_answers.proofs.Rows.{answers, one, proposal, value}

-- once the value is answered a query comes, and the server asks its node
abbrev read : Step
read = record { act = Read; at = 6 }

abbrev reads : List Action
reads = answers ++ Takes 1 read ∷ Flushes 1 ∷ []

abbrev answer : Answer
answer = record { node = 1; leader_id = leader 1 1; log_id = Some (lid 1 1 2) }

answered : (outputs_of one (node_then one reads 4 1) read).answers ≡ answer ∷ []
unfolding finish played worked place_of initialize elect do_append_entries update_vote update_internal_server_state become_following become_leader begin_lead lead_anew update_role handle_vote_resp take_grant lead_by_votes rebuild_replication_streams initiate_replication leader_append_entries proposed update_local_progress try_commit_quorum_accepted commit_by snapshot_where_due trigger_snapshot
answered = refl

quorum : is_quorum nat_cmp (effective_in (node_then one reads 4 1).store).groups (1 ∷ []) ≡ true
unfolding finish played worked place_of initialize elect do_append_entries update_vote update_internal_server_state become_following become_leader begin_lead lead_anew update_role handle_vote_resp take_grant lead_by_votes rebuild_replication_streams initiate_replication leader_append_entries proposed update_local_progress try_commit_quorum_accepted commit_by snapshot_where_due trigger_snapshot
quorum = refl

applied : (node_within one (node_then one reads 4 1) read 0).store.applied ≡ first_entry alone ∷ blank 1 1 1 ∷ value ∷ []
unfolding finish played worked place_of initialize elect do_append_entries update_vote update_internal_server_state become_following become_leader begin_lead lead_anew update_role handle_vote_resp take_grant lead_by_votes rebuild_replication_streams initiate_replication leader_append_entries proposed update_local_progress try_commit_quorum_accepted commit_by snapshot_where_due trigger_snapshot
applied = refl

takes_act : (a b : ℕ) (s t : Step) → ◌≡◌ {A = Option Action} (Some (Takes a s)) (Some (Takes b t)) → s.act ≡ t.act
takes_act a b s t e = let z : s ≡ t = cc in ap (λ (s : Step). s.act) z

no_start : (number at : ℕ) (start : Start) → slice_get reads number ≡ Some (Takes 1 (record { act = Restart start; at = at })) → start ≡ Bare
no_start zero at start e = let z : Initialize ≡ Restart start = takes_act 1 1 (record { act = Initialize; at = 0 }) (record { act = Restart start; at = at }) e in cc
no_start (suc zero) at start e = cc
no_start (suc (suc zero)) at start e = let z : proposal.act ≡ Restart start = takes_act 1 1 proposal (record { act = Restart start; at = at }) e in cc
no_start (suc (suc (suc zero))) at start e = cc
no_start (suc (suc (suc (suc zero)))) at start e = let z : Read ≡ Restart start = takes_act 1 1 read (record { act = Restart start; at = at }) e in cc
no_start (suc (suc (suc (suc (suc zero))))) at start e = cc
no_start (suc (suc (suc (suc (suc (suc k)))))) at start e = cc

is_read : IsRead one reads 1 4 5 answer
is_read = record {
  step = read;
  takes = refl;
  is = refl;
  answered = answered;
  nodes = 1 ∷ [];
  quorum = quorum;
  each = All-from_recursion (λ n. (n ≡ 1) ⊎ Hears reads 1 5 (node_after one (node_then one reads 4 1) read).moment (leader 1 1) n) (1 ∷ []) (inl refl, tt);
  runs = λ number k at l h e. omega (arith, l, h);
  bare = λ number at start l e. no_start number at start e;
}

abbrev asks : Operation ℕ
asks = record { call = 4; ask = Query 0; returned = Some (record { events = 5; commands = 0; taken = 3; result = 7 }) }

is_told : Told one reads 1 5 0 (first_entry alone ∷ blank 1 1 1 ∷ value ∷ [])
is_told = record { by = 4; step = read; node = node_then one reads 4 1; takes = inl (refl, refl); applied = applied; flushes = refl; behind = []; oldest = refl }

is_query : IsQuery counter one reads asks
unfolding is_told
is_query = record {
  query = 0;
  ask = refl;
  returned = inr (record {
    id = 1;
    read = 4;
    later = omega arith;
    answer = answer;
    is = is_read;
    entries = first_entry alone ∷ blank 1 1 1 ∷ value ∷ [];
    flush = 5;
    early = omega arith;
    told = is_told;
    since = omega arith;
    reaches = omega arith;
    taken = refl;
    result = refl;
  });
}

abbrev next_of : Answer → ℕ
next_of a = next a.log_id

-- a read of that step which looks at fewer entries than up to the answer's id is none
no_shorter : (result : ℕ) (r : RuleReturns counter one reads 4 0 (record { events = 5; commands = 0; taken = 2; result = result })) → r.answer ≡ answer → ⊥
no_shorter result r e =
    let l = r.reaches in
    let t = r.taken in
    let q : 3 ≡ next_of r.answer = sym (ap next_of e) in
    omega (arith, l, t, q)

-- Which replies count: to a heartbeat that was sent at moment 7, after a read at moment 6

abbrev asked : ℕ → Origin
asked at = record { session_id = record { vote = committed 1 1; membership_log_id = Some (lid 0 0 0) }; request_id = HeartBeat; sent_at = at }

abbrev reply : ℕ → AppendEntriesResponse ℕ → Message
reply at response = record { from = 2; to = 1; body = AppendReply (asked at) response None None }

abbrev hears : ℕ → AppendEntriesResponse ℕ → List Action
hears at response = Takes 1 (record { act = Take (reply at response); at = 8 }) ∷ []

is_heard : Hears (hears 7 Success) 1 0 6 (leader 1 1) 2
is_heard = record {
  number = 0;
  early = omega arith;
  step = record { act = Take (reply 7 Success); at = 8 };
  takes = refl;
  message = reply 7 Success;
  is = refl;
  from = refl;
  origin = asked 7;
  tells = (refl, tt);
  session = refl;
  later = omega arith;
}

takes_message : (at : ℕ) (response : AppendEntriesResponse ℕ) (number : ℕ) (s : Step) (m : Message) → slice_get (hears at response) number ≡ Some (Takes 1 s) → s.act ≡ Take m → reply at response ≡ m
takes_message at response zero s m e q =
    let z : ◌≡◌ {A = Act} (Take (reply at response)) (Take m) = takes_act 1 1 (record { act = Take (reply at response); at = 8 }) s e ∙ q in
    cc
takes_message at response (suc k) s m e q = cc

-- one to a request of the read's own moment doesn't
no_older : Hears (hears 6 Success) 1 0 6 (leader 1 1) 2 → ⊥
no_older h =
    let z : reply 6 Success ≡ h.message = takes_message 6 Success h.number h.step h.message h.takes h.is in
    let t : IsTaking (reply 6 Success).body h.origin = subst (λ (m : Message). IsTaking m.body h.origin) (sym z) h.tells in
    let q : 6 ≡ h.origin.sent_at = ap (λ (o : Origin). o.sent_at) t.0 in
    let l = h.later in
    omega (arith, q, l)

-- nor one that tells a higher vote
no_higher : Hears (hears 7 (HigherVote (committed 2 2))) 1 0 6 (leader 1 1) 2 → ⊥
no_higher h =
    let z : reply 7 (HigherVote (committed 2 2)) ≡ h.message = takes_message 7 (HigherVote (committed 2 2)) h.number h.step h.message h.takes h.is in
    let t : IsTaking (reply 7 (HigherVote (committed 2 2))).body h.origin = subst (λ (m : Message). IsTaking m.body h.origin) (sym z) h.tells in
    t.1
