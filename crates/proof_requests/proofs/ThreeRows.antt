-- A worked run of three servers, computed: node 1 is elected by node 2, which acknowledges a write; node 2 crashes and starts; then node 1 reads by
-- the rule, with node 2's reply to a heartbeat that it sent later; and crashes, before it has answered a second read.
use Rattle.std.specs.Prelude.{◌≡◌, ◌≢◌, ◌<◌, ◌≤◌, ◌^◌, ◌⊎◌, ◌+◌, ℕ, All, Bool, true, false, Contains, List, [], ◌∷◌, ◌++◌, Option, None, Some, is_some, map, refl, slice_get}
use Rattle.std.specs.Ordering.{nat_cmp}
use Rattle.std.proofs.Common.{◌∙◌, inl, inr, sym, ap, subst, arith, suc, zero}
use Rattle.std.proofs.lemmas.List.Elements.{All-from_recursion}
use Rattle.raft_progress.specs.Quorum.{is_quorum}
use Rattle.raft_command.specs.declared.replication.RequestId.TheVariants.{HeartBeat}
use Rattle.raft_steps.specs.Commit.{commit_by}
use Rattle.raft_steps.specs.Engine.{elect, handle_vote_resp, initialize, lead_by_votes, take_grant}
use Rattle.raft_steps.specs.FollowingHandler as following
use Rattle.raft_steps.specs.FollowingHandler.{do_append_entries}
use Rattle.raft_steps.specs.LeaderHandler.{leader_append_entries, proposed}
use Rattle.raft_steps.specs.LogHandler.{purge_log, try_purge_log}
use Rattle.raft_steps.specs.Replies.{purge_unless_inflight, send_next, update_failed_progress, update_leader_clock, update_matching, update_progress, update_success_progress}
use Rattle.raft_steps.specs.ReplicationHandler.{initiate_replication, rebuild_replication_streams, try_commit_quorum_accepted, update_local_progress}
use Rattle.raft_steps.specs.Requests as requests
use Rattle.raft_steps.specs.Requests.{append_answer, follow, handle_append_entries, handle_commit_entries, handle_vote_req, vote_req_answer}
use Rattle.raft_steps.specs.ServerStateHandler.{update_role}
use Rattle.raft_steps.specs.SnapshotHandler.{snapshot_where_due, trigger_snapshot}
use Rattle.raft_steps.specs.Starts.{startup}
use Rattle.raft_steps.specs.VoteHandler.{become_following, become_leader, begin_lead, lead_anew, update_internal_server_state, update_vote}
use Rattle.raft_steps.proofs.Example.{committed, lid, pending, three}
use Rattle.raft_store.specs.declared.entry.Entry.{Entry}
use Rattle.raft_store.specs.declared.entry.Payload.TheVariants as payload
use Rattle.raft_store.specs.declared.entry.Value.{Value}
use Rattle.raft_store.specs.declared.entry.Value.TheVariants.{Number}
use Rattle.raft_store.specs.Store.{whole}
use Rattle.raft_calls.specs.declared.lead.Answer.{Answer}
use Rattle.raft_calls.specs.declared.message.Body.{Body}
use Rattle.raft_calls.specs.declared.message.Body.TheVariants as body
use Rattle.raft_calls.specs.declared.message.Message.{Message}
use Rattle.raft_calls.specs.declared.message.Origin.{Origin}
use Rattle.raft_calls.specs.Elections.{first_entry}
use Rattle.raft_node.specs.declared.act.Act.{Act}
use Rattle.raft_node.specs.declared.act.Act.TheVariants.{Initialize, Propose, Read, Restart, SendHeartbeat, Take}
use Rattle.raft_node.specs.Chosen.{effective_in}
use Rattle.raft_node.specs.Events.{finish, place_of, played}
use Rattle.raft_node.specs.Net.{NodeView}
use Rattle.raft_node.specs.WellFormed.{IsWellFormed}
use Rattle.raft_node.specs.Work.{worked}
use Rattle.proof_deeds.proofs.RunRows.{blank, leader, trio}
use Rattle.proof_clients.specs.Objects.{IsLinearizable, Operation, Query, Update}
use Rattle.proof_clients.specs.Reads.{IsTaking}
use Rattle.proof_clients.proofs.Rows.{counter}
use Rattle.proof_clients.proofs.Slots.{here}
use Rattle.proof_servers.specs.Servers.{Action, AllMayAct, Cluster, Crashes, Flushes, MayAct, Step, Takes, after_actions, new_cluster, node_after, outputs_of}
use Rattle.proof_answers.specs.Answers.{Executes, Proposed, StepAppends, Told, node_then, node_within}
use Rattle.proof_answers.specs.Histories.{IsHistory, IsQuery, IsUpdate}
use Rattle.proof_answers.specs.Reads.{Hears, IsRead}
use Rattle.proof_answers.proofs.Linear.{see_one}
use Rattle.proof_requests.proofs.Lists.{contains_slot}
use Rattle.proof_requests.proofs.More.{may_both}

-- what servers did, and a message that has left one of them by then, by its number, counted from 0
abbrev after : List Action → Cluster
after actions = after_actions trio actions (new_cluster trio)

abbrev sent : ℕ → List Action → Message
sent k actions =
    elim (slice_get (after actions).released.bag k) as (λ _. Message) [
      | None ↦ record { from = 0; to = 0; body = body.VoteRequest (record { vote = pending 0 0; last_log_id = None }) }
      | Some m ↦ m
    ]

abbrev at : ℕ → Act → ℕ → Action
at id act moment = Takes id (record { act = act; at = moment })

-- node 1 asks for votes, and node 2 grants its own
abbrev asks_votes : List Action
asks_votes = at 1 Initialize 0 ∷ Flushes 1 ∷ []

abbrev votes : List Action
votes = asks_votes ++ at 2 (Take (sent 0 asks_votes)) 3 ∷ Flushes 2 ∷ []

-- node 1 leads, and node 2 takes its entry
abbrev leads : List Action
leads = votes ++ at 1 (Take (sent 2 votes)) 4 ∷ Flushes 1 ∷ []

abbrev follows : List Action
follows = leads ++ at 2 (Take (sent 3 leads)) 5 ∷ Flushes 2 ∷ []

-- a client writes 7, which node 2 takes; node 1 answers once it hears of that (by the actions 9 and 15)
abbrev proposal : Step
proposal = record { act = Propose (Number 7 ∷ []); at = 7 }

abbrev writes : List Action
writes = follows ++ at 1 (Take (sent 5 follows)) 6 ∷ Takes 1 proposal ∷ Flushes 1 ∷ Flushes 1 ∷ []

abbrev takes : List Action
takes = writes ++ at 2 (Take (sent 8 writes)) 8 ∷ Flushes 2 ∷ []

abbrev applies : Step
applies = record { act = Take (sent 9 takes); at = 9 }

-- then node 2 crashes
abbrev crashes : List Action
crashes = takes ++ Takes 1 applies ∷ Flushes 1 ∷ Crashes 2 0 10 ∷ Flushes 2 ∷ []

-- a client reads (by the action 18): node 1 asks its node, and sends a heartbeat later
abbrev read : Step
read = record { act = Read; at = 11 }

abbrev reads : List Action
reads = crashes ++ Takes 1 read ∷ at 1 SendHeartbeat 12 ∷ Flushes 1 ∷ Flushes 1 ∷ []

-- node 2 replies, and node 1 hears it (by the action 24)
abbrev replies : List Action
replies = reads ++ at 2 (Take (sent 12 reads)) 13 ∷ Flushes 2 ∷ []

abbrev reply : Message
reply = sent 13 replies

abbrev hearing : Step
hearing = record { act = Take reply; at = 14 }

-- another client reads, and node 1 crashes
abbrev all : List Action
all = replies ++ Takes 1 hearing ∷ at 1 Read 15 ∷ Crashes 1 0 16 ∷ []

abbrev value : Entry
value = record { log_id = lid 1 1 2; payload = payload.Value (Number 7) }

abbrev log : List Entry
log = first_entry three ∷ blank 1 1 1 ∷ value ∷ []

-- who sent what has left
senders : map (λ (m : Message). m.from) (after all).released.bag ≡ 1 ∷ 1 ∷ 2 ∷ 1 ∷ 1 ∷ 2 ∷ 1 ∷ 1 ∷ 1 ∷ 2 ∷ 1 ∷ 1 ∷ 1 ∷ 2 ∷ []
unfolding finish played worked place_of initialize elect do_append_entries update_vote update_internal_server_state become_following become_leader begin_lead lead_anew update_role handle_vote_resp take_grant lead_by_votes rebuild_replication_streams initiate_replication leader_append_entries proposed update_local_progress try_commit_quorum_accepted commit_by snapshot_where_due trigger_snapshot handle_vote_req vote_req_answer handle_append_entries handle_commit_entries append_answer follow requests.append_entries following.append_entries following.ensure_log_consecutive following.truncate_logs following.commit_entries update_progress update_success_progress update_leader_clock update_matching update_failed_progress send_next purge_unless_inflight try_purge_log purge_log startup
senders = refl

-- What actions there are: node 1 crashes once, at last; no other start is taken; and one value is proposed

abbrev IsCrash : Action → Type 0
IsCrash (Crashes id k at) = id ≡ 1
IsCrash _ = ⊥

abbrev StartsBy : Act → Type 0
StartsBy (Restart start) = Unit {0}
StartsBy _ = ⊥

abbrev ProposesBy : Act → Type 0
ProposesBy (Propose values) = Unit {0}
ProposesBy _ = ⊥

abbrev IsStart : Action → Type 0
IsStart (Takes id step) = StartsBy step.act
IsStart _ = ⊥

abbrev IsProposal : Action → Type 0
IsProposal (Takes id step) = ProposesBy step.act
IsProposal _ = ⊥

abbrev Fact : ℕ → Action → Type 0
Fact n a = (IsCrash a → 26 ≤ n) × (IsStart a → ⊥) × (IsProposal a → n ≡ 9)

abbrev Facts : ℕ → List Action → Type 0
Facts n [] = Unit {0}
Facts n (a ∷ rest) = Fact n a × Facts (suc n) rest

fact_at : (n k : ℕ) (xs : List Action) (a : Action) → Facts n xs → slice_get xs k ≡ Some a → Fact (n + k) a
fact_at n k [] a h e = cc
fact_at n zero (x ∷ xs) a h e = let z : x ≡ a = cc in let q : n ≡ n + 0 = omega arith in subst (λ m. Fact m a) q (subst (Fact n) z h.0)
fact_at n (suc k) (x ∷ xs) a h e = let q : suc n + k ≡ n + suc k = omega arith in subst (λ m. Fact m a) q (fact_at (suc n) k xs a h.1 e)

facts : Facts 0 all
facts = ((λ p. absurd p, λ p. p, λ p. absurd p), ((λ p. absurd p, λ p. p, λ p. absurd p), ((λ p. absurd p, λ p. p, λ p. absurd p), ((λ p. absurd p, λ p. p, λ p. absurd p), ((λ p. absurd p, λ p. p, λ p. absurd p), ((λ p. absurd p, λ p. p, λ p. absurd p), ((λ p. absurd p, λ p. p, λ p. absurd p), ((λ p. absurd p, λ p. p, λ p. absurd p), ((λ p. absurd p, λ p. p, λ p. absurd p), ((λ p. absurd p, λ p. p, λ p. refl), ((λ p. absurd p, λ p. p, λ p. absurd p), ((λ p. absurd p, λ p. p, λ p. absurd p), ((λ p. absurd p, λ p. p, λ p. absurd p), ((λ p. absurd p, λ p. p, λ p. absurd p), ((λ p. absurd p, λ p. p, λ p. absurd p), ((λ p. absurd p, λ p. p, λ p. absurd p), ((λ p. absurd (omega (arith, p)), λ p. p, λ p. absurd p), ((λ p. absurd p, λ p. p, λ p. absurd p), ((λ p. absurd p, λ p. p, λ p. absurd p), ((λ p. absurd p, λ p. p, λ p. absurd p), ((λ p. absurd p, λ p. p, λ p. absurd p), ((λ p. absurd p, λ p. p, λ p. absurd p), ((λ p. absurd p, λ p. p, λ p. absurd p), ((λ p. absurd p, λ p. p, λ p. absurd p), ((λ p. absurd p, λ p. p, λ p. absurd p), ((λ p. absurd p, λ p. p, λ p. absurd p), ((λ p. omega arith, λ p. p, λ p. absurd p), tt)))))))))))))))))))))))))))

fact : (number : ℕ) (a : Action) → slice_get all number ≡ Some a → Fact number a
fact number a e = let q : 0 + number ≡ number = omega arith in subst (λ m. Fact m a) q (fact_at 0 number all a facts e)

-- The write

abbrev within : ℕ → NodeView
within k = node_within trio (node_then trio all 9 1) proposal k

it_leads : (within 0).store.vote ≡ committed 1 1
unfolding finish played worked place_of initialize elect do_append_entries update_vote update_internal_server_state become_following become_leader begin_lead lead_anew update_role handle_vote_resp take_grant lead_by_votes rebuild_replication_streams initiate_replication leader_append_entries proposed update_local_progress try_commit_quorum_accepted commit_by snapshot_where_due trigger_snapshot handle_vote_req vote_req_answer handle_append_entries handle_commit_entries append_answer follow requests.append_entries following.append_entries following.ensure_log_consecutive following.truncate_logs following.commit_entries update_progress update_success_progress update_leader_clock update_matching update_failed_progress send_next purge_unless_inflight try_purge_log purge_log startup
it_leads = refl

before : whole (within 0).store ≡ first_entry three ∷ blank 1 1 1 ∷ []
unfolding finish played worked place_of initialize elect do_append_entries update_vote update_internal_server_state become_following become_leader begin_lead lead_anew update_role handle_vote_resp take_grant lead_by_votes rebuild_replication_streams initiate_replication leader_append_entries proposed update_local_progress try_commit_quorum_accepted commit_by snapshot_where_due trigger_snapshot handle_vote_req vote_req_answer handle_append_entries handle_commit_entries append_answer follow requests.append_entries following.append_entries following.ensure_log_consecutive following.truncate_logs following.commit_entries update_progress update_success_progress update_leader_clock update_matching update_failed_progress send_next purge_unless_inflight try_purge_log purge_log startup
before = refl

after_one : whole (within 1).store ≡ log
unfolding finish played worked place_of initialize elect do_append_entries update_vote update_internal_server_state become_following become_leader begin_lead lead_anew update_role handle_vote_resp take_grant lead_by_votes rebuild_replication_streams initiate_replication leader_append_entries proposed update_local_progress try_commit_quorum_accepted commit_by snapshot_where_due trigger_snapshot handle_vote_req vote_req_answer handle_append_entries handle_commit_entries append_answer follow requests.append_entries following.append_entries following.ensure_log_consecutive following.truncate_logs following.commit_entries update_progress update_success_progress update_leader_clock update_matching update_failed_progress send_next purge_unless_inflight try_purge_log purge_log startup
after_one = refl

appends : StepAppends trio (node_then trio all 9 1) proposal 0 value
appends = record { entries = value ∷ []; slot = refl; leads = it_leads; appended = after_one ∙ ap (λ es. es ++ value ∷ []) (sym before) }

is_proposed : Proposed trio all 9 (Number 7) value
is_proposed = record { step = proposal; takes = refl; values = Number 7 ∷ []; proposes = refl; place = 0; value = refl; appended = appends; payload = refl }

applied : (node_within trio (node_then trio all 14 1) applies 20).store.applied ≡ log
unfolding finish played worked place_of initialize elect do_append_entries update_vote update_internal_server_state become_following become_leader begin_lead lead_anew update_role handle_vote_resp take_grant lead_by_votes rebuild_replication_streams initiate_replication leader_append_entries proposed update_local_progress try_commit_quorum_accepted commit_by snapshot_where_due trigger_snapshot handle_vote_req vote_req_answer handle_append_entries handle_commit_entries append_answer follow requests.append_entries following.append_entries following.ensure_log_consecutive following.truncate_logs following.commit_entries update_progress update_success_progress update_leader_clock update_matching update_failed_progress send_next purge_unless_inflight try_purge_log purge_log startup
applied = refl

is_executed : Executes trio all 9 value 15 20
is_executed = record {
  taken = log;
  told = record { by = 14; step = applies; node = node_then trio all 14 1; takes = inl (refl, refl); applied = applied; flushes = refl; behind = []; oldest = refl };
  since = omega arith;
  runs = λ number k at l h e. let c : 26 ≤ number = (fact number (Crashes 1 k at) e).0 refl in omega (arith, c, h);
  entry = value;
  there = refl;
  same = refl;
}

-- The read

abbrev answer : Answer
answer = record { node = 1; leader_id = leader 1 1; log_id = Some (lid 1 1 2) }

answered : (outputs_of trio (node_then trio all 18 1) read).answers ≡ answer ∷ []
unfolding finish played worked place_of initialize elect do_append_entries update_vote update_internal_server_state become_following become_leader begin_lead lead_anew update_role handle_vote_resp take_grant lead_by_votes rebuild_replication_streams initiate_replication leader_append_entries proposed update_local_progress try_commit_quorum_accepted commit_by snapshot_where_due trigger_snapshot handle_vote_req vote_req_answer handle_append_entries handle_commit_entries append_answer follow requests.append_entries following.append_entries following.ensure_log_consecutive following.truncate_logs following.commit_entries update_progress update_success_progress update_leader_clock update_matching update_failed_progress send_next purge_unless_inflight try_purge_log purge_log startup
answered = refl

-- node 1 and node 2 are a quorum, and node 1 alone is none
quorum : is_quorum nat_cmp (effective_in (node_then trio all 18 1).store).groups (1 ∷ 2 ∷ []) ≡ true
unfolding finish played worked place_of initialize elect do_append_entries update_vote update_internal_server_state become_following become_leader begin_lead lead_anew update_role handle_vote_resp take_grant lead_by_votes rebuild_replication_streams initiate_replication leader_append_entries proposed update_local_progress try_commit_quorum_accepted commit_by snapshot_where_due trigger_snapshot handle_vote_req vote_req_answer handle_append_entries handle_commit_entries append_answer follow requests.append_entries following.append_entries following.ensure_log_consecutive following.truncate_logs following.commit_entries update_progress update_success_progress update_leader_clock update_matching update_failed_progress send_next purge_unless_inflight try_purge_log purge_log startup
quorum = refl

no_quorum : is_quorum nat_cmp (effective_in (node_then trio all 18 1).store).groups (1 ∷ []) ≡ false
unfolding finish played worked place_of initialize elect do_append_entries update_vote update_internal_server_state become_following become_leader begin_lead lead_anew update_role handle_vote_resp take_grant lead_by_votes rebuild_replication_streams initiate_replication leader_append_entries proposed update_local_progress try_commit_quorum_accepted commit_by snapshot_where_due trigger_snapshot handle_vote_req vote_req_answer handle_append_entries handle_commit_entries append_answer follow requests.append_entries following.append_entries following.ensure_log_consecutive following.truncate_logs following.commit_entries update_progress update_success_progress update_leader_clock update_matching update_failed_progress send_next purge_unless_inflight try_purge_log purge_log startup
no_quorum = refl

its_moment : (node_after trio (node_then trio all 18 1) read).moment ≡ 11
unfolding finish played worked place_of initialize elect do_append_entries update_vote update_internal_server_state become_following become_leader begin_lead lead_anew update_role handle_vote_resp take_grant lead_by_votes rebuild_replication_streams initiate_replication leader_append_entries proposed update_local_progress try_commit_quorum_accepted commit_by snapshot_where_due trigger_snapshot handle_vote_req vote_req_answer handle_append_entries handle_commit_entries append_answer follow requests.append_entries following.append_entries following.ensure_log_consecutive following.truncate_logs following.commit_entries update_progress update_success_progress update_leader_clock update_matching update_failed_progress send_next purge_unless_inflight try_purge_log purge_log startup
its_moment = refl

abbrev origin_of : Body → Origin
origin_of (body.AppendReply origin response prev upto) = origin
origin_of _ = record { session_id = record { vote = pending 0 0; membership_log_id = None }; request_id = HeartBeat; sent_at = 0 }

-- node 2 replies to the heartbeat
is_reply : reply.from ≡ 2
unfolding finish played worked place_of initialize elect do_append_entries update_vote update_internal_server_state become_following become_leader begin_lead lead_anew update_role handle_vote_resp take_grant lead_by_votes rebuild_replication_streams initiate_replication leader_append_entries proposed update_local_progress try_commit_quorum_accepted commit_by snapshot_where_due trigger_snapshot handle_vote_req vote_req_answer handle_append_entries handle_commit_entries append_answer follow requests.append_entries following.append_entries following.ensure_log_consecutive following.truncate_logs following.commit_entries update_progress update_success_progress update_leader_clock update_matching update_failed_progress send_next purge_unless_inflight try_purge_log purge_log startup
is_reply = refl

tells : IsTaking reply.body (origin_of reply.body)
unfolding finish played worked place_of initialize elect do_append_entries update_vote update_internal_server_state become_following become_leader begin_lead lead_anew update_role handle_vote_resp take_grant lead_by_votes rebuild_replication_streams initiate_replication leader_append_entries proposed update_local_progress try_commit_quorum_accepted commit_by snapshot_where_due trigger_snapshot handle_vote_req vote_req_answer handle_append_entries handle_commit_entries append_answer follow requests.append_entries following.append_entries following.ensure_log_consecutive following.truncate_logs following.commit_entries update_progress update_success_progress update_leader_clock update_matching update_failed_progress send_next purge_unless_inflight try_purge_log purge_log startup
tells = (refl, tt)

under : (origin_of reply.body).session_id.vote.leader_id ≡ leader 1 1
unfolding finish played worked place_of initialize elect do_append_entries update_vote update_internal_server_state become_following become_leader begin_lead lead_anew update_role handle_vote_resp take_grant lead_by_votes rebuild_replication_streams initiate_replication leader_append_entries proposed update_local_progress try_commit_quorum_accepted commit_by snapshot_where_due trigger_snapshot handle_vote_req vote_req_answer handle_append_entries handle_commit_entries append_answer follow requests.append_entries following.append_entries following.ensure_log_consecutive following.truncate_logs following.commit_entries update_progress update_success_progress update_leader_clock update_matching update_failed_progress send_next purge_unless_inflight try_purge_log purge_log startup
under = refl

its_request : (origin_of reply.body).sent_at ≡ 12
unfolding finish played worked place_of initialize elect do_append_entries update_vote update_internal_server_state become_following become_leader begin_lead lead_anew update_role handle_vote_resp take_grant lead_by_votes rebuild_replication_streams initiate_replication leader_append_entries proposed update_local_progress try_commit_quorum_accepted commit_by snapshot_where_due trigger_snapshot handle_vote_req vote_req_answer handle_append_entries handle_commit_entries append_answer follow requests.append_entries following.append_entries following.ensure_log_consecutive following.truncate_logs following.commit_entries update_progress update_success_progress update_leader_clock update_matching update_failed_progress send_next purge_unless_inflight try_purge_log purge_log startup
its_request = refl

hears : Hears all 1 24 11 (leader 1 1) 2
hears = record {
  number = 24;
  early = omega arith;
  step = hearing;
  takes = refl;
  message = reply;
  is = refl;
  from = is_reply;
  origin = origin_of reply.body;
  tells = tells;
  session = under;
  later = (let q : (origin_of reply.body).sent_at ≡ 12 = its_request in omega (arith, q));
}

is_read : IsRead trio all 1 18 24 answer
is_read = record {
  step = read;
  takes = refl;
  is = refl;
  answered = answered;
  nodes = 1 ∷ 2 ∷ [];
  quorum = quorum;
  each = subst (λ m. All (λ n. (n ≡ 1) ⊎ Hears all 1 24 m (leader 1 1) n) (1 ∷ 2 ∷ [])) (sym its_moment) (All-from_recursion (λ n. (n ≡ 1) ⊎ Hears all 1 24 11 (leader 1 1) n) (1 ∷ 2 ∷ []) (inl refl, (inr hears, tt)));
  runs = λ number k at l h e. let c : 26 ≤ number = (fact number (Crashes 1 k at) e).0 refl in omega (arith, c, h);
  bare = λ number at start l e. absurd ((fact number (Takes 1 (record { act = Restart start; at = at })) e).1 tt);
}

applied_then : (node_within trio (node_then trio all 18 1) read 0).store.applied ≡ log
unfolding finish played worked place_of initialize elect do_append_entries update_vote update_internal_server_state become_following become_leader begin_lead lead_anew update_role handle_vote_resp take_grant lead_by_votes rebuild_replication_streams initiate_replication leader_append_entries proposed update_local_progress try_commit_quorum_accepted commit_by snapshot_where_due trigger_snapshot handle_vote_req vote_req_answer handle_append_entries handle_commit_entries append_answer follow requests.append_entries following.append_entries following.ensure_log_consecutive following.truncate_logs following.commit_entries update_progress update_success_progress update_leader_clock update_matching update_failed_progress send_next purge_unless_inflight try_purge_log purge_log startup
applied_then = refl

is_told : Told trio all 1 20 0 log
is_told = record { by = 18; step = read; node = node_then trio all 18 1; takes = inl (refl, refl); applied = applied_then; flushes = refl; behind = 19 ∷ []; oldest = refl }

-- The history: the write has returned 0, which was there before; the first read has returned 7; of the second nothing is known

abbrev adds_seven : Operation ℕ
adds_seven = record { call = 9; ask = Update (Number 7) value; returned = Some (record { events = 15; commands = 20; taken = 3; result = 0 }) }

abbrev asks : Operation ℕ
asks = record { call = 18; ask = Query 0; returned = Some (record { events = 24; commands = 0; taken = 3; result = 7 }) }

abbrev asks_again : Operation ℕ
asks_again = record { call = 25; ask = Query 0; returned = None }

is_update : IsUpdate counter trio all adds_seven
unfolding is_executed
is_update = record { value = Number 7; entry = value; ask = refl; proposed = is_proposed; returned = record { executes = is_executed; result = refl } }

is_query : IsQuery counter trio all asks
unfolding is_told
is_query = record {
  query = 0;
  ask = refl;
  returned = inr (record {
    id = 1;
    read = 18;
    later = omega arith;
    answer = answer;
    is = is_read;
    entries = log;
    flush = 20;
    early = omega arith;
    told = is_told;
    since = omega arith;
    reaches = omega arith;
    taken = refl;
    result = refl;
  });
}

-- no other value was proposed

takes_step : (a b : ℕ) (s t : Step) → ◌≡◌ {A = Option Action} (Some (Takes a s)) (Some (Takes b t)) → (a ≡ b) × (s ≡ t)
takes_step a b s t e = ((let z : a ≡ b = cc in z), (let z : s ≡ t = cc in z))

proposes_value : (act : Act) (values : List Value) → act ≡ Propose values → ProposesBy act
proposes_value act values e = subst ProposesBy (sym e) tt

only_value : (values : List Value) (place : ℕ) (v : Value) → ◌≡◌ {A = Act} (Propose (Number 7 ∷ [])) (Propose values) → slice_get values place ≡ Some v → (place ≡ 0) × (Number 7 ≡ v)
only_value [] place v e q = cc
only_value (w ∷ []) zero v e q = (refl, (let a : Number 7 ≡ w = cc in let b : w ≡ v = cc in a ∙ b))
only_value (w ∷ []) (suc k) v e q = cc
only_value (w ∷ (y ∷ ys)) place v e q = absurd (let z : ◌≡◌ {A = List Value} (Number 7 ∷ []) (w ∷ (y ∷ ys)) = cc in cc)

only_entry : (entries : List Entry) (x : Entry) → ◌≡◌ {A = List Entry} log (first_entry three ∷ blank 1 1 1 ∷ entries) → slice_get entries 0 ≡ Some x → value ≡ x
only_entry [] x e q = cc
only_entry (y ∷ ys) x e q = let z : value ≡ y = cc in let w : y ≡ x = cc in z ∙ w

appended_only : (x : Entry) (place : ℕ) → place ≡ 0 → StepAppends trio (node_then trio all 9 1) proposal place x → value ≡ x
appended_only x place p a = only_entry a.entries x (sym after_one ∙ (a.appended ∙ ap (λ es. es ++ a.entries) before)) (subst (λ j. slice_get a.entries j ≡ Some x) p a.slot)

only_proposed : (call : ℕ) (v : Value) (x : Entry) → Proposed trio all call v x → (call ≡ 9) × (Number 7 ≡ v) × (value ≡ x)
only_proposed call v x p =
    let c : call ≡ 9 = (fact call (Takes x.log_id.leader_id.node_id p.step) p.takes).2 (proposes_value p.step.act p.values p.proposes) in
    let z = takes_step 1 x.log_id.leader_id.node_id proposal p.step (ap (slice_get all) (sym c) ∙ p.takes) in
    let w = only_value p.values p.place v (ap (λ (s : Step). s.act) z.1 ∙ p.proposes) p.value in
    let a : StepAppends trio (node_then trio all 9 x.log_id.leader_id.node_id) proposal p.place x =
    subst (λ n. StepAppends trio (node_then trio all n x.log_id.leader_id.node_id) proposal p.place x) c
    (subst (λ (s : Step). StepAppends trio (node_then trio all call x.log_id.leader_id.node_id) s p.place x) (sym z.1) p.appended) in
    (c, w.1, appended_only x p.place w.0 (subst (λ d. StepAppends trio (node_then trio all 9 d) proposal p.place x) (sym z.0) a))

two_queries : asks_again ≢ asks
two_queries e = let z : 25 ≡ 18 = ap (λ (o : Operation ℕ). o.call) e in omega (arith, z)

pub is_history : IsHistory counter trio all (adds_seven ∷ []) (asks ∷ asks_again ∷ [])
is_history = record {
  are_updates = (is_update, tt);
  are_queries = (is_query, (record { query = 0; ask = refl; returned = tt }, tt));
  once = (tt, tt);
  distinct = ((two_queries, tt), (tt, tt));
  all = λ call v x p. (let z = only_proposed call v x p in inl (adds_seven, here adds_seven [], sym z.0, ap (λ w. Update w value) z.1 ∙ ap (Update v) z.2));
}

-- Servers may do all this

abbrev is_there : ℕ → List Action → Bool
is_there k actions = is_some (slice_get (after actions).released.bag k)

-- a message that is there has left a server
was_sent : (k : ℕ) (actions : List Action) → is_there k actions ≡ true → Contains (after actions).released.bag (sent k actions)
was_sent k actions e = go (slice_get (after actions).released.bag k) refl e
  where
    go : (o : Option Message) → slice_get (after actions).released.bag k ≡ o → is_some o ≡ true
        → Contains (after actions).released.bag (elim o as (λ _. Message) [
          | None ↦ record { from = 0; to = 0; body = body.VoteRequest (record { vote = pending 0 0; last_log_id = None }) }
          | Some m ↦ m
        ])
    go None q e = cc
    go (Some m) q e = contains_slot (after actions).released.bag k m q

-- its addressee takes it
abbrev Arrives : ℕ → List Action → ℕ → Type 0
Arrives k actions id = (is_there k actions ≡ true) × ((sent k actions).to ≡ id)

asks_votes_arrives : Arrives 0 asks_votes 2
unfolding finish played worked place_of initialize elect do_append_entries update_vote update_internal_server_state become_following become_leader begin_lead lead_anew update_role handle_vote_resp take_grant lead_by_votes rebuild_replication_streams initiate_replication leader_append_entries proposed update_local_progress try_commit_quorum_accepted commit_by snapshot_where_due trigger_snapshot handle_vote_req vote_req_answer handle_append_entries handle_commit_entries append_answer follow requests.append_entries following.append_entries following.ensure_log_consecutive following.truncate_logs following.commit_entries update_progress update_success_progress update_leader_clock update_matching update_failed_progress send_next purge_unless_inflight try_purge_log purge_log startup
asks_votes_arrives = (refl, refl)

votes_arrives : Arrives 2 votes 1
unfolding finish played worked place_of initialize elect do_append_entries update_vote update_internal_server_state become_following become_leader begin_lead lead_anew update_role handle_vote_resp take_grant lead_by_votes rebuild_replication_streams initiate_replication leader_append_entries proposed update_local_progress try_commit_quorum_accepted commit_by snapshot_where_due trigger_snapshot handle_vote_req vote_req_answer handle_append_entries handle_commit_entries append_answer follow requests.append_entries following.append_entries following.ensure_log_consecutive following.truncate_logs following.commit_entries update_progress update_success_progress update_leader_clock update_matching update_failed_progress send_next purge_unless_inflight try_purge_log purge_log startup
votes_arrives = (refl, refl)

leads_arrives : Arrives 3 leads 2
unfolding finish played worked place_of initialize elect do_append_entries update_vote update_internal_server_state become_following become_leader begin_lead lead_anew update_role handle_vote_resp take_grant lead_by_votes rebuild_replication_streams initiate_replication leader_append_entries proposed update_local_progress try_commit_quorum_accepted commit_by snapshot_where_due trigger_snapshot handle_vote_req vote_req_answer handle_append_entries handle_commit_entries append_answer follow requests.append_entries following.append_entries following.ensure_log_consecutive following.truncate_logs following.commit_entries update_progress update_success_progress update_leader_clock update_matching update_failed_progress send_next purge_unless_inflight try_purge_log purge_log startup
leads_arrives = (refl, refl)

follows_arrives : Arrives 5 follows 1
unfolding finish played worked place_of initialize elect do_append_entries update_vote update_internal_server_state become_following become_leader begin_lead lead_anew update_role handle_vote_resp take_grant lead_by_votes rebuild_replication_streams initiate_replication leader_append_entries proposed update_local_progress try_commit_quorum_accepted commit_by snapshot_where_due trigger_snapshot handle_vote_req vote_req_answer handle_append_entries handle_commit_entries append_answer follow requests.append_entries following.append_entries following.ensure_log_consecutive following.truncate_logs following.commit_entries update_progress update_success_progress update_leader_clock update_matching update_failed_progress send_next purge_unless_inflight try_purge_log purge_log startup
follows_arrives = (refl, refl)

writes_arrives : Arrives 8 writes 2
unfolding finish played worked place_of initialize elect do_append_entries update_vote update_internal_server_state become_following become_leader begin_lead lead_anew update_role handle_vote_resp take_grant lead_by_votes rebuild_replication_streams initiate_replication leader_append_entries proposed update_local_progress try_commit_quorum_accepted commit_by snapshot_where_due trigger_snapshot handle_vote_req vote_req_answer handle_append_entries handle_commit_entries append_answer follow requests.append_entries following.append_entries following.ensure_log_consecutive following.truncate_logs following.commit_entries update_progress update_success_progress update_leader_clock update_matching update_failed_progress send_next purge_unless_inflight try_purge_log purge_log startup
writes_arrives = (refl, refl)

takes_arrives : Arrives 9 takes 1
unfolding finish played worked place_of initialize elect do_append_entries update_vote update_internal_server_state become_following become_leader begin_lead lead_anew update_role handle_vote_resp take_grant lead_by_votes rebuild_replication_streams initiate_replication leader_append_entries proposed update_local_progress try_commit_quorum_accepted commit_by snapshot_where_due trigger_snapshot handle_vote_req vote_req_answer handle_append_entries handle_commit_entries append_answer follow requests.append_entries following.append_entries following.ensure_log_consecutive following.truncate_logs following.commit_entries update_progress update_success_progress update_leader_clock update_matching update_failed_progress send_next purge_unless_inflight try_purge_log purge_log startup
takes_arrives = (refl, refl)

reads_arrives : Arrives 12 reads 2
unfolding finish played worked place_of initialize elect do_append_entries update_vote update_internal_server_state become_following become_leader begin_lead lead_anew update_role handle_vote_resp take_grant lead_by_votes rebuild_replication_streams initiate_replication leader_append_entries proposed update_local_progress try_commit_quorum_accepted commit_by snapshot_where_due trigger_snapshot handle_vote_req vote_req_answer handle_append_entries handle_commit_entries append_answer follow requests.append_entries following.append_entries following.ensure_log_consecutive following.truncate_logs following.commit_entries update_progress update_success_progress update_leader_clock update_matching update_failed_progress send_next purge_unless_inflight try_purge_log purge_log startup
reads_arrives = (refl, refl)

replies_arrives : Arrives 13 replies 1
unfolding finish played worked place_of initialize elect do_append_entries update_vote update_internal_server_state become_following become_leader begin_lead lead_anew update_role handle_vote_resp take_grant lead_by_votes rebuild_replication_streams initiate_replication leader_append_entries proposed update_local_progress try_commit_quorum_accepted commit_by snapshot_where_due trigger_snapshot handle_vote_req vote_req_answer handle_append_entries handle_commit_entries append_answer follow requests.append_entries following.append_entries following.ensure_log_consecutive following.truncate_logs following.commit_entries update_progress update_success_progress update_leader_clock update_matching update_failed_progress send_next purge_unless_inflight try_purge_log purge_log startup
replies_arrives = (refl, refl)

may_take : (k : ℕ) (actions : List Action) (id moment : ℕ) → Contains trio.ids id → Arrives k actions id → MayAct trio (at id (Take (sent k actions)) moment) (after actions)
may_take k actions id moment m a = (m, (was_sent k actions a.0, a.1))

one : Contains trio.ids 1
one = (0, omega arith, refl)

two : Contains trio.ids 2
two = (1, omega arith, refl)

may_ask : AllMayAct trio asks_votes (new_cluster trio)
may_ask = ((one, tt), (one, tt))

may_vote : AllMayAct trio votes (new_cluster trio)
may_vote = may_both trio asks_votes (at 2 (Take (sent 0 asks_votes)) 3 ∷ Flushes 2 ∷ []) (new_cluster trio) may_ask (may_take 0 asks_votes 2 3 two asks_votes_arrives, (two, tt))

may_lead : AllMayAct trio leads (new_cluster trio)
may_lead = may_both trio votes (at 1 (Take (sent 2 votes)) 4 ∷ Flushes 1 ∷ []) (new_cluster trio) may_vote (may_take 2 votes 1 4 one votes_arrives, (one, tt))

may_follow : AllMayAct trio follows (new_cluster trio)
may_follow = may_both trio leads (at 2 (Take (sent 3 leads)) 5 ∷ Flushes 2 ∷ []) (new_cluster trio) may_lead (may_take 3 leads 2 5 two leads_arrives, (two, tt))

may_write : AllMayAct trio writes (new_cluster trio)
may_write =
    may_both trio follows (at 1 (Take (sent 5 follows)) 6 ∷ Takes 1 proposal ∷ Flushes 1 ∷ Flushes 1 ∷ []) (new_cluster trio) may_follow
    (may_take 5 follows 1 6 one follows_arrives, ((one, tt), (one, (one, tt))))

may_acknowledge : AllMayAct trio takes (new_cluster trio)
may_acknowledge = may_both trio writes (at 2 (Take (sent 8 writes)) 8 ∷ Flushes 2 ∷ []) (new_cluster trio) may_write (may_take 8 writes 2 8 two writes_arrives, (two, tt))

may_crash : AllMayAct trio crashes (new_cluster trio)
may_crash =
    may_both trio takes (Takes 1 applies ∷ Flushes 1 ∷ Crashes 2 0 10 ∷ Flushes 2 ∷ []) (new_cluster trio) may_acknowledge
    (may_take 9 takes 1 9 one takes_arrives, (one, (two, (two, tt))))

may_read : AllMayAct trio reads (new_cluster trio)
may_read =
    may_both trio crashes (Takes 1 read ∷ at 1 SendHeartbeat 12 ∷ Flushes 1 ∷ Flushes 1 ∷ []) (new_cluster trio) may_crash ((one, tt), ((one, tt), (one, (one, tt))))

may_reply : AllMayAct trio replies (new_cluster trio)
may_reply = may_both trio reads (at 2 (Take (sent 12 reads)) 13 ∷ Flushes 2 ∷ []) (new_cluster trio) may_read (may_take 12 reads 2 13 two reads_arrives, (two, tt))

pub may_happen : AllMayAct trio all (new_cluster trio)
may_happen =
    may_both trio replies (Takes 1 hearing ∷ at 1 Read 15 ∷ Crashes 1 0 16 ∷ []) (new_cluster trio) may_reply (may_take 13 replies 1 14 one replies_arrives, ((one, tt), (one, tt)))

-- So what its clients saw is linearizable

is_well_formed : IsWellFormed trio
is_well_formed = record { named = All-from_recursion (λ id. id < 2 ^ 64) trio.ids (omega arith, (omega arith, (omega arith, tt))); once = refl; voters = refl }

pub is_linearizable : IsLinearizable counter (adds_seven ∷ asks ∷ asks_again ∷ [])
is_linearizable = see_one counter trio is_well_formed all may_happen (adds_seven ∷ []) (asks ∷ asks_again ∷ []) is_history
