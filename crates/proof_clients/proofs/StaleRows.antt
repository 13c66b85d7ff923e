-- Worked runs of reads that miss something, computed: a deposed leader answers, but doesn't lead on; and a leader that starts
-- again and leads on answers below what it decided before, so that its node's log before the start counts too.
use Rattle.std.specs.Prelude.{◌≡◌, ◌≢◌, ◌≤◌, ℕ, Bool, true, false, ◌||◌, ◌&&◌, List, [], ◌∷◌, ◌++◌, length, nat_eq, None, Option, Some, is_some, refl, take}
use Rattle.std.proofs.Common.{◌⊎◌, inl, inr, ⊎_elim, arith, subst, sym, ap}
use Rattle.std.specs.List.{AllByRecursion, list_all}
use Rattle.std.specs.Ordering.{is_lt, nat_cmp}
use Rattle.std.proofs.lemmas.Bool.Decides.{nat_tests}
use Rattle.std.proofs.lemmas.List.{take_all}
use Rattle.std.specs.declared.cmp.Ordering.TheVariants.{Less}
use Rattle.std.proofs.lemmas.List.Elements.{All-weaker, recursion_from_All}
use Rattle.proof_deeds.specs.raft_state.Order.{leader_id_cmp}
use Rattle.proof_deeds.specs.raft_state.Sorted.{has_id}
use Rattle.std.specs.BTreeMap.{is_at}
use Rattle.proof_deeds.specs.raft_progress.Quorum.{is_quorum}
use Rattle.proof_deeds.specs.raft_steps.Commit.{commit_by}
use Rattle.proof_deeds.specs.raft_steps.Engine.{elect, handle_vote_resp, initialize, lead_by_votes, take_grant}
use Rattle.proof_deeds.specs.raft_steps.FollowingHandler as following
use Rattle.proof_deeds.specs.raft_steps.FollowingHandler.{append_entries, do_append_entries}
use Rattle.proof_deeds.specs.raft_steps.LeaderHandler.{leader_append_entries, proposed}
use Rattle.proof_deeds.specs.raft_steps.LogHandler.{purge_log, try_purge_log}
use Rattle.proof_deeds.specs.raft_steps.Replies.{purge_unless_inflight, send_next, update_failed_progress, update_leader_clock, update_matching, update_progress, update_success_progress}
use Rattle.proof_deeds.specs.raft_steps.ReplicationHandler.{initiate_replication, rebuild_replication_streams, try_commit_quorum_accepted, update_local_progress}
use Rattle.proof_deeds.specs.raft_steps.Requests as requests
use Rattle.proof_deeds.specs.raft_steps.Requests.{append_answer, follow, handle_append_entries, handle_commit_entries, handle_vote_req, vote_req_answer}
use Rattle.proof_deeds.specs.raft_steps.ServerStateHandler.{update_role}
use Rattle.proof_deeds.specs.raft_steps.Starts.{startup}
use Rattle.proof_deeds.specs.raft_steps.SnapshotHandler.{snapshot_where_due, trigger_snapshot}
use Rattle.proof_deeds.specs.raft_steps.VoteHandler.{become_following, become_leader, begin_lead, lead_anew, update_internal_server_state, update_vote}
use Rattle.proof_deeds.proofs.raft_steps_proofs.Example.{lid, three}
use Rattle.proof_deeds.specs.raft_store.declared.entry.Entry.{Entry}
use Rattle.proof_deeds.specs.raft_store.Store.{whole}
use Rattle.proof_deeds.specs.raft_schedule.declared.event.Event.{Event}
use Rattle.proof_deeds.specs.raft_schedule.declared.event.EventKind.{EventKind}
use Rattle.proof_deeds.specs.raft_schedule.declared.event.EventKind.TheVariants.{Deliver, Read, Restart, Timeout}
use Rattle.proof_deeds.specs.raft_schedule.declared.event.Start.TheVariants.{Bare, Plain}
use Rattle.proof_deeds.specs.raft_calls.declared.lead.Answer.{Answer}
use Rattle.proof_deeds.specs.raft_node.Chosen.{effective_in}
use Rattle.proof_deeds.specs.raft_node.Events.{finish, happens, place_of, played}
use Rattle.proof_deeds.specs.raft_calls.Elections.{first_entry}
use Rattle.proof_deeds.specs.raft_node.Net.{NodeView, node_at}
use Rattle.proof_deeds.specs.raft_node.Runs.{with_event, world_after}
use Rattle.proof_deeds.specs.raft_node.Work.{worked}
use Rattle.proof_deeds.proofs.Nodes.{node_found}
use Rattle.proof_deeds.proofs.RunRows.{blank, event, leader, trio}
use Rattle.proof_clients.specs.Reads.{LeadsOn, Reaches, ReachesLog, StillUnder}
use Rattle.proof_clients.proofs.Rows.{replicates, value}

-- node 2 stands for election a second later, and node 3 grants it: both store a vote of term 2, and node 1 hasn't heard of it
abbrev pub deposed : List Event
deposed = replicates ++ record { kind = Timeout 2; at = Some 1000; stop = None } ∷ event (Deliver 16) ∷ []

abbrev read : Event
read = event (Read 1)

-- each node but node 1 stores a vote above node 1's
abbrev is_above : NodeView → Bool
is_above n = nat_eq n.id 1 || is_lt (leader_id_cmp nat_cmp (leader 1 1) n.store.vote.leader_id)

before_it : list_all is_above (world_after trio (take 12 (deposed ++ read ∷ []))).nodes ≡ true
unfolding with_event happens finish played worked place_of initialize elect do_append_entries update_vote update_internal_server_state become_following become_leader begin_lead lead_anew update_role handle_vote_resp take_grant lead_by_votes rebuild_replication_streams initiate_replication leader_append_entries proposed update_local_progress try_commit_quorum_accepted commit_by snapshot_where_due trigger_snapshot handle_vote_req vote_req_answer handle_append_entries handle_commit_entries append_answer follow requests.append_entries following.append_entries following.ensure_log_consecutive following.truncate_logs following.commit_entries update_progress update_success_progress update_leader_clock update_matching update_failed_progress send_next purge_unless_inflight try_purge_log purge_log
before_it = refl

after_it : list_all is_above (world_after trio (deposed ++ read ∷ [])).nodes ≡ true
unfolding with_event happens finish played worked place_of initialize elect do_append_entries update_vote update_internal_server_state become_following become_leader begin_lead lead_anew update_role handle_vote_resp take_grant lead_by_votes rebuild_replication_streams initiate_replication leader_append_entries proposed update_local_progress try_commit_quorum_accepted commit_by snapshot_where_due trigger_snapshot handle_vote_req vote_req_answer handle_append_entries handle_commit_entries append_answer follow requests.append_entries following.append_entries following.ensure_log_consecutive following.truncate_logs following.commit_entries update_progress update_success_progress update_leader_clock update_matching update_failed_progress send_next purge_unless_inflight try_purge_log purge_log
after_it = refl

-- though it is answered
it_answers : length (world_after trio (deposed ++ read ∷ [])).records.answers ≡ 1
unfolding with_event happens finish played worked place_of initialize elect do_append_entries update_vote update_internal_server_state become_following become_leader begin_lead lead_anew update_role handle_vote_resp take_grant lead_by_votes rebuild_replication_streams initiate_replication leader_append_entries proposed update_local_progress try_commit_quorum_accepted commit_by snapshot_where_due trigger_snapshot handle_vote_req vote_req_answer handle_append_entries handle_commit_entries append_answer follow requests.append_entries following.append_entries following.ensure_log_consecutive following.truncate_logs following.commit_entries update_progress update_success_progress update_leader_clock update_matching update_failed_progress send_next purge_unless_inflight try_purge_log purge_log
it_answers = refl

one_is_there : is_some (node_at (world_after trio deposed).nodes 1) ≡ true
unfolding with_event happens finish played worked place_of initialize elect do_append_entries update_vote update_internal_server_state become_following become_leader begin_lead lead_anew update_role handle_vote_resp take_grant lead_by_votes rebuild_replication_streams initiate_replication leader_append_entries proposed update_local_progress try_commit_quorum_accepted commit_by snapshot_where_due trigger_snapshot handle_vote_req vote_req_answer handle_append_entries handle_commit_entries append_answer follow requests.append_entries following.append_entries following.ensure_log_consecutive following.truncate_logs following.commit_entries update_progress update_success_progress update_leader_clock update_matching update_failed_progress send_next purge_unless_inflight try_purge_log purge_log
one_is_there = refl

abbrev groups_of : Option NodeView → List (List ℕ)
groups_of None = []
groups_of (Some n) = (effective_in n.store).groups

its_groups : groups_of (node_at (world_after trio deposed).nodes 1) ≡ (1 ∷ 2 ∷ 3 ∷ []) ∷ []
unfolding with_event happens finish played worked place_of initialize elect do_append_entries update_vote update_internal_server_state become_following become_leader begin_lead lead_anew update_role handle_vote_resp take_grant lead_by_votes rebuild_replication_streams initiate_replication leader_append_entries proposed update_local_progress try_commit_quorum_accepted commit_by snapshot_where_due trigger_snapshot handle_vote_req vote_req_answer handle_append_entries handle_commit_entries append_answer follow requests.append_entries following.append_entries following.ensure_log_consecutive following.truncate_logs following.commit_entries update_progress update_success_progress update_leader_clock update_matching update_failed_progress send_next purge_unless_inflight try_purge_log purge_log
its_groups = refl

each_of : (p : NodeView → Bool) (nodes : List NodeView) → list_all p nodes ≡ true → AllByRecursion (λ n. p n ≡ true) nodes
each_of p [] h = tt
each_of p (n ∷ ns) h = go (p n) refl h (each_of p ns)
  where
    go : (b : Bool) → p n ≡ b → (b && list_all p ns) ≡ true → (list_all p ns ≡ true → AllByRecursion (λ n. p n ≡ true) ns) → (p n ≡ true) × AllByRecursion (λ n. p n ≡ true) ns
    go true e k rest = (e, rest k)
    go false e k rest = cc

-- whoever still stores no vote above node 1's is node 1
only_one : (k n : ℕ) → 12 ≤ k → (m : NodeView) → node_at (world_after trio (take k (deposed ++ read ∷ []))).nodes n ≡ Some m
    → leader_id_cmp nat_cmp (leader 1 1) m.store.vote.leader_id ≢ Less → n ≡ 1
only_one k n far m e under =
    let all : list_all is_above (world_after trio (take k (deposed ++ read ∷ []))).nodes ≡ true = at_all k far in
    let found : (is_above m ≡ true) × (m.id ≡ n) = node_found (world_after trio (take k (deposed ++ read ∷ []))).nodes n m (λ w. is_above w ≡ true) (each_of is_above _ all) e in
    one m n found.0 found.1 under
  where
    at_all : (k : ℕ) → 12 ≤ k → list_all is_above (world_after trio (take k (deposed ++ read ∷ []))).nodes ≡ true
    at_all k far = split (nat_eq k 12) refl
      where
        split : (b : Bool) → nat_eq k 12 ≡ b → list_all is_above (world_after trio (take k (deposed ++ read ∷ []))).nodes ≡ true
        split true q = let z : k ≡ 12 = grind (arith, nat_tests, q) in subst (λ j. list_all is_above (world_after trio (take j (deposed ++ read ∷ []))).nodes ≡ true) (sym z) before_it
        split false q = let z : 13 ≤ k = grind (arith, nat_tests, q, far) in subst (λ es. list_all is_above (world_after trio es).nodes ≡ true) (sym (take_all k (deposed ++ read ∷ []) z)) after_it

    one : (m : NodeView) (n : ℕ) → is_above m ≡ true → m.id ≡ n → leader_id_cmp nat_cmp (leader 1 1) m.store.vote.leader_id ≢ Less → n ≡ 1
    one m n a i u = go (nat_eq m.id 1) refl (leader_id_cmp nat_cmp (leader 1 1) m.store.vote.leader_id) refl a
      where
        go : (b : Bool) → nat_eq m.id 1 ≡ b → (o : _) → leader_id_cmp nat_cmp (leader 1 1) m.store.vote.leader_id ≡ o → (b || is_lt o) ≡ true → n ≡ 1
        go true e o q k = grind (arith, nat_tests, e, i)
        go false e Less q k = absurd (u q)
        go false e _ q k = cc

-- copies of node 1's id have no majority of the three
lacks : (x : ℕ) → is_at (nat_cmp x) 1 ≡ false → (ids : List ℕ) → AllByRecursion (λ n. n ≡ 1) ids → has_id nat_cmp ids x ≡ false
lacks x h [] a = refl
lacks x h (n ∷ ns) a = rw (a.0, h) (lacks x h ns a.1)

no_majority : (ids : List ℕ) → AllByRecursion (λ n. n ≡ 1) ids → is_quorum nat_cmp ((1 ∷ 2 ∷ 3 ∷ []) ∷ []) ids ≡ true → ⊥
no_majority ids a q = go (has_id nat_cmp ids 1) refl q
  where
    go : (b : Bool) → has_id nat_cmp ids 1 ≡ b → is_quorum nat_cmp ((1 ∷ 2 ∷ 3 ∷ []) ∷ []) ids ≡ true → ⊥
    go true e k = let z : false ≡ true = rw (lacks 2 refl ids a, lacks 3 refl ids a, e) at k in cc
    go false e k = let z : false ≡ true = rw (lacks 2 refl ids a, lacks 3 refl ids a, e) at k in cc

-- so node 1 doesn't lead on, and its read is none
pub no_lead : LeadsOn trio deposed (read ∷ []) (leader 1 1) → ⊥
no_lead l = no_majority l.nodes (recursion_from_All (λ n. n ≡ 1) l.nodes (All-weaker (λ n. (n ≡ 1) ⊎ StillUnder trio (deposed ++ read ∷ []) 12 n (leader 1 1)) (λ n. n ≡ 1) one l.nodes l.each)) quorum
  where
    one : (n : ℕ) → (n ≡ 1) ⊎ StillUnder trio (deposed ++ read ∷ []) 12 n (leader 1 1) → n ≡ 1
    one n (inl e) = e
    one n (inr s) = only_one s.events n s.after s.node s.is s.vote

    quorum : is_quorum nat_cmp ((1 ∷ 2 ∷ 3 ∷ []) ∷ []) l.nodes ≡ true
    quorum =
        subst (λ gs. is_quorum nat_cmp gs l.nodes ≡ true)
        (subst (λ (o : Option NodeView). groups_of o ≡ (1 ∷ 2 ∷ 3 ∷ []) ∷ []) l.is its_groups)
        l.quorum

-- node 1 starts again after it decided the value, leads on, and answers a read with its no-op entry
abbrev restarts : List Event
restarts = event (Restart 1 Plain) ∷ read ∷ []

abbrev below : Answer
below = record { node = 1; leader_id = leader 1 1; log_id = Some (lid 1 1 1) }

it_answers_below : (world_after trio (replicates ++ restarts)).records.answers ≡ below ∷ []
unfolding startup with_event happens finish played worked place_of initialize elect do_append_entries update_vote update_internal_server_state become_following become_leader begin_lead lead_anew update_role handle_vote_resp take_grant lead_by_votes rebuild_replication_streams initiate_replication leader_append_entries proposed update_local_progress try_commit_quorum_accepted commit_by snapshot_where_due trigger_snapshot handle_vote_req vote_req_answer handle_append_entries handle_commit_entries append_answer follow requests.append_entries following.append_entries following.ensure_log_consecutive following.truncate_logs following.commit_entries update_progress update_success_progress update_leader_clock update_matching update_failed_progress send_next purge_unless_inflight try_purge_log purge_log
it_answers_below = refl

abbrev log_of : Option NodeView → List Entry
log_of None = []
log_of (Some n) = whole n.store

its_log : log_of (node_at (world_after trio replicates).nodes 1) ≡ first_entry three ∷ blank 1 1 1 ∷ value ∷ []
unfolding with_event happens finish played worked place_of initialize elect do_append_entries update_vote update_internal_server_state become_following become_leader begin_lead lead_anew update_role handle_vote_resp take_grant lead_by_votes rebuild_replication_streams initiate_replication leader_append_entries proposed update_local_progress try_commit_quorum_accepted commit_by snapshot_where_due trigger_snapshot handle_vote_req vote_req_answer handle_append_entries handle_commit_entries append_answer follow requests.append_entries following.append_entries following.ensure_log_consecutive following.truncate_logs following.commit_entries update_progress update_success_progress update_leader_clock update_matching update_failed_progress send_next purge_unless_inflight try_purge_log purge_log
its_log = refl

-- so what reaches the answer alone isn't enough
pub answer_alone : Reaches trio replicates (event (Restart 1 Plain)) below (first_entry three ∷ blank 1 1 1 ∷ []) → ⊥
answer_alone r = ⊎_elim (λ q. no_bare q) (λ l. too_short l) r.log
  where
    no_bare : ◌≡◌ {A = EventKind} (Restart 1 Plain) (Restart 1 Bare) → ⊥
    no_bare q = cc

    too_short : ReachesLog trio replicates below (first_entry three ∷ blank 1 1 1 ∷ []) → ⊥
    too_short r =
        let short : length (whole r.node.store) ≤ 2 = r.log in
        let long : length (whole r.node.store) ≡ 3 = ap (λ (es : List Entry). length es) (subst (λ (o : Option NodeView). log_of o ≡ first_entry three ∷ blank 1 1 1 ∷ value ∷ []) r.is its_log) in
        omega (arith, short, long)
