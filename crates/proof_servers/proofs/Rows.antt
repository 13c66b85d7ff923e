-- Worked runs of servers, computed: nothing leaves a server before its record is on disk; and what isn't there a crash may
-- lose, or not.
use Rattle.std.specs.Prelude.{◌≡◌, ℕ, ◌-◌, ◌^◌, List, [], ◌∷◌, ◌++◌, Contains, Some, length, map, refl}
use Rattle.std.proofs.Common.{arith}
use Rattle.proof_deeds.specs.raft_steps.Commit.{commit_by}
use Rattle.proof_deeds.specs.raft_steps.Engine.{elect, handle_vote_resp, initialize, lead_by_votes, take_grant}
use Rattle.proof_deeds.specs.raft_steps.FollowingHandler.{do_append_entries}
use Rattle.proof_deeds.specs.raft_steps.LeaderHandler.{leader_append_entries, proposed}
use Rattle.proof_deeds.specs.raft_steps.ReplicationHandler.{initiate_replication, rebuild_replication_streams, try_commit_quorum_accepted, update_local_progress}
use Rattle.proof_deeds.specs.raft_steps.Requests.{handle_vote_req, vote_req_answer}
use Rattle.proof_deeds.specs.raft_steps.ServerStateHandler.{update_role}
use Rattle.proof_deeds.specs.raft_steps.SnapshotHandler.{snapshot_where_due, trigger_snapshot}
use Rattle.proof_deeds.specs.raft_steps.Starts.{startup}
use Rattle.proof_deeds.specs.raft_steps.VoteHandler.{become_following, become_leader, begin_lead, lead_anew, update_internal_server_state, update_vote}
use Rattle.proof_deeds.proofs.raft_steps_proofs.Example.{lid, pending, settings}
use Rattle.proof_deeds.specs.raft_store.declared.entry.Entry.{Entry}
use Rattle.proof_deeds.specs.raft_store.declared.entry.Payload.TheVariants.{Value}
use Rattle.proof_deeds.specs.raft_store.declared.entry.Value.TheVariants.{Number}
use Rattle.proof_deeds.specs.raft_store.Store.{whole}
use Rattle.proof_deeds.specs.raft_node.declared.act.Act.TheVariants.{Initialize, Propose, SendHeartbeat, Take}
use Rattle.proof_deeds.specs.raft_node.declared.given.Given.{Given}
use Rattle.proof_deeds.specs.raft_calls.declared.message.Body.TheVariants as body
use Rattle.proof_deeds.specs.raft_calls.declared.message.Message.{Message}
use Rattle.proof_deeds.specs.raft_node.Events.{finish, place_of, played}
use Rattle.proof_deeds.specs.raft_calls.Elections.{first_entry}
use Rattle.proof_deeds.specs.raft_node.Work.{worked}
use Rattle.raft_wire.specs.declared.record.Record.{Record}
use Rattle.proof_deeds.proofs.RunRows.{alone, blank, trio}
use Rattle.proof_servers.specs.Servers.{Action, AllMayAct, Cluster, Crashes, Flushes, Takes, WaitingStep, after_actions, new_cluster}

abbrev after : Given → List Action → Cluster
after given actions = after_actions given actions (new_cluster given)

-- what clients were told of as executed
abbrev told : Given → List Action → List Entry
told given actions = map (λ x. x.entry) (after given actions).released.executed

abbrev initializes : Action
initializes = Takes 1 (record { act = Initialize; at = 0 })

abbrev proposes : Action
proposes = Takes 1 (record { act = Propose (Number 7 ∷ []); at = 5 })

-- One voter, which is given the first entry

abbrev one : Given
one = record { ids = 1 ∷ []; membership = alone; settings = settings 1 }

abbrev value : Entry
value = record { log_id = lid 1 1 2; payload = Value (Number 7) }

-- it leads at once, ahead of its disk, and nothing is told
it_has_both_entries : whole ((after one (initializes ∷ [])).servers 1).node.store ≡ first_entry alone ∷ blank 1 1 1 ∷ []
unfolding finish played worked place_of initialize elect do_append_entries update_vote update_internal_server_state become_following become_leader begin_lead lead_anew update_role handle_vote_resp take_grant lead_by_votes rebuild_replication_streams initiate_replication leader_append_entries proposed update_local_progress try_commit_quorum_accepted commit_by snapshot_where_due trigger_snapshot
it_has_both_entries = refl

its_disk_has_none : whole ((after one (initializes ∷ [])).servers 1).disk.store ≡ []
unfolding finish played worked place_of initialize elect do_append_entries update_vote update_internal_server_state become_following become_leader begin_lead lead_anew update_role handle_vote_resp take_grant lead_by_votes rebuild_replication_streams initiate_replication leader_append_entries proposed update_local_progress try_commit_quorum_accepted commit_by snapshot_where_due trigger_snapshot
its_disk_has_none = refl

nothing_is_told : told one (initializes ∷ []) ≡ []
unfolding finish played worked place_of initialize elect do_append_entries update_vote update_internal_server_state become_following become_leader begin_lead lead_anew update_role handle_vote_resp take_grant lead_by_votes rebuild_replication_streams initiate_replication leader_append_entries proposed update_local_progress try_commit_quorum_accepted commit_by snapshot_where_due trigger_snapshot
nothing_is_told = refl

-- with the record on disk clients are told of what it executed
both_are_told : told one (initializes ∷ Flushes 1 ∷ []) ≡ first_entry alone ∷ blank 1 1 1 ∷ []
unfolding finish played worked place_of initialize elect do_append_entries update_vote update_internal_server_state become_following become_leader begin_lead lead_anew update_role handle_vote_resp take_grant lead_by_votes rebuild_replication_streams initiate_replication leader_append_entries proposed update_local_progress try_commit_quorum_accepted commit_by snapshot_where_due trigger_snapshot
both_are_told = refl

-- a crash loses the record, or it is on disk and the server is elected anew
all_is_lost : whole ((after one (initializes ∷ Crashes 1 0 9 ∷ [])).servers 1).node.store ≡ []
unfolding finish played worked place_of initialize elect do_append_entries update_vote update_internal_server_state become_following become_leader begin_lead lead_anew update_role handle_vote_resp take_grant lead_by_votes rebuild_replication_streams initiate_replication leader_append_entries proposed update_local_progress try_commit_quorum_accepted commit_by snapshot_where_due trigger_snapshot startup
all_is_lost = refl

all_survives : whole ((after one (initializes ∷ Crashes 1 1 9 ∷ [])).servers 1).node.store ≡ first_entry alone ∷ blank 1 1 1 ∷ blank 2 1 2 ∷ []
unfolding finish played worked place_of initialize elect do_append_entries update_vote update_internal_server_state become_following become_leader begin_lead lead_anew update_role handle_vote_resp take_grant lead_by_votes rebuild_replication_streams initiate_replication leader_append_entries proposed update_local_progress try_commit_quorum_accepted commit_by snapshot_where_due trigger_snapshot startup
all_survives = refl

-- a value that is lost nobody was told of: the server is elected anew, and executes again what it has, and then its no-op entry
the_value_is_lost : told one (initializes ∷ Flushes 1 ∷ proposes ∷ Crashes 1 0 9 ∷ Flushes 1 ∷ [])
    ≡ first_entry alone ∷ blank 1 1 1 ∷ first_entry alone ∷ blank 1 1 1 ∷ blank 2 1 2 ∷ []
unfolding finish played worked place_of initialize elect do_append_entries update_vote update_internal_server_state become_following become_leader begin_lead lead_anew update_role handle_vote_resp take_grant lead_by_votes rebuild_replication_streams initiate_replication leader_append_entries proposed update_local_progress try_commit_quorum_accepted commit_by snapshot_where_due trigger_snapshot startup
the_value_is_lost = refl

-- one that survived is told of once the record of the start is on disk
the_value_survives : told one (initializes ∷ Flushes 1 ∷ proposes ∷ Crashes 1 1 9 ∷ Flushes 1 ∷ [])
    ≡ first_entry alone ∷ blank 1 1 1 ∷ first_entry alone ∷ blank 1 1 1 ∷ value ∷ blank 2 1 3 ∷ []
unfolding finish played worked place_of initialize elect do_append_entries update_vote update_internal_server_state become_following become_leader begin_lead lead_anew update_role handle_vote_resp take_grant lead_by_votes rebuild_replication_streams initiate_replication leader_append_entries proposed update_local_progress try_commit_quorum_accepted commit_by snapshot_where_due trigger_snapshot startup
the_value_survives = refl

here : Contains {X = ℕ} (1 ∷ []) 1
here = (0, omega arith, refl)

-- all this may happen
it_may_happen : AllMayAct one (initializes ∷ Flushes 1 ∷ proposes ∷ Crashes 1 1 9 ∷ Flushes 1 ∷ []) (new_cluster one)
unfolding finish played worked place_of initialize elect do_append_entries update_vote update_internal_server_state become_following become_leader begin_lead lead_anew update_role handle_vote_resp take_grant lead_by_votes rebuild_replication_streams initiate_replication leader_append_entries proposed update_local_progress try_commit_quorum_accepted commit_by snapshot_where_due trigger_snapshot startup
it_may_happen = ((here, tt), (here, ((here, tt), (here, (here, tt)))))

-- a clock that went back stands at the moment up to which the disk reserves them; what a step reserved that is lost counts for nothing
its_moment_is_on_disk : ((after one (initializes ∷ proposes ∷ Crashes 1 2 3 ∷ [])).servers 1).node.moment ≡ 10005
unfolding finish played worked place_of initialize elect do_append_entries update_vote update_internal_server_state become_following become_leader begin_lead lead_anew update_role handle_vote_resp take_grant lead_by_votes rebuild_replication_streams initiate_replication leader_append_entries proposed update_local_progress try_commit_quorum_accepted commit_by snapshot_where_due trigger_snapshot startup
its_moment_is_on_disk = refl

its_moment_is_lost : ((after one (initializes ∷ proposes ∷ Crashes 1 1 3 ∷ [])).servers 1).node.moment ≡ 3
unfolding finish played worked place_of initialize elect do_append_entries update_vote update_internal_server_state become_following become_leader begin_lead lead_anew update_role handle_vote_resp take_grant lead_by_votes rebuild_replication_streams initiate_replication leader_append_entries proposed update_local_progress try_commit_quorum_accepted commit_by snapshot_where_due trigger_snapshot startup
its_moment_is_lost = refl

-- What changes nothing on disk leaves no record, while moments are reserved

abbrev beats : ℕ → Action
beats at = Takes 1 (record { act = SendHeartbeat; at = at })

-- up to which moments the records that wait reserve them
abbrev reserving : Given → List Action → List (List ℕ)
reserving given actions = map (λ (w : WaitingStep). map (λ (r : Record). r.moment) w.disk_records) ((after given actions).servers 1).waiting

its_records : reserving one (initializes ∷ proposes ∷ beats 6 ∷ beats 10005 ∷ beats 10006 ∷ proposes ∷ []) ≡ (0 ∷ []) ∷ (10005 ∷ []) ∷ [] ∷ [] ∷ (20006 ∷ []) ∷ (20006 ∷ []) ∷ []
unfolding finish played worked place_of initialize elect do_append_entries update_vote update_internal_server_state become_following become_leader begin_lead lead_anew update_role handle_vote_resp take_grant lead_by_votes rebuild_replication_streams initiate_replication leader_append_entries proposed update_local_progress try_commit_quorum_accepted commit_by snapshot_where_due trigger_snapshot
its_records = refl

-- no more can be reserved than a record can tell
its_last_moment : reserving one (initializes ∷ beats (2 ^ 64 - 2) ∷ []) ≡ (0 ∷ []) ∷ ((2 ^ 64 - 1) ∷ []) ∷ []
unfolding finish played worked place_of initialize elect do_append_entries update_vote update_internal_server_state become_following become_leader begin_lead lead_anew update_role handle_vote_resp take_grant lead_by_votes rebuild_replication_streams initiate_replication leader_append_entries proposed update_local_progress try_commit_quorum_accepted commit_by snapshot_where_due trigger_snapshot
its_last_moment = refl

-- such a step waits for the records before it, and for nothing else
it_waits : length ((after one (initializes ∷ proposes ∷ beats 6 ∷ Flushes 1 ∷ [])).servers 1).waiting ≡ 2
unfolding finish played worked place_of initialize elect do_append_entries update_vote update_internal_server_state become_following become_leader begin_lead lead_anew update_role handle_vote_resp take_grant lead_by_votes rebuild_replication_streams initiate_replication leader_append_entries proposed update_local_progress try_commit_quorum_accepted commit_by snapshot_where_due trigger_snapshot
it_waits = refl

no_record_is_lost : whole ((after one (initializes ∷ proposes ∷ beats 6 ∷ Flushes 1 ∷ Flushes 1 ∷ Flushes 1 ∷ Crashes 1 0 7 ∷ [])).servers 1).node.store ≡ first_entry alone ∷ blank 1 1 1 ∷ value ∷ blank 2 1 3 ∷ []
unfolding finish played worked place_of initialize elect do_append_entries update_vote update_internal_server_state become_following become_leader begin_lead lead_anew update_role handle_vote_resp take_grant lead_by_votes rebuild_replication_streams initiate_replication leader_append_entries proposed update_local_progress try_commit_quorum_accepted commit_by snapshot_where_due trigger_snapshot startup
no_record_is_lost = refl

-- Three voters: node 1 asks for votes, and node 2 grants its own

abbrev vote_request : ℕ → Message
vote_request to = record { from = 1; to = to; body = body.VoteRequest (record { vote = pending 1 1; last_log_id = Some (lid 0 0 0) }) }

abbrev grants : Action
grants = Takes 2 (record { act = Take (vote_request 2); at = 3 })

abbrev asked : List Action
asked = initializes ∷ Flushes 1 ∷ []

-- requests leave once the vote that they ask for is on disk
nothing_leaves : (after trio (initializes ∷ [])).released.bag ≡ []
unfolding finish played worked place_of initialize elect do_append_entries update_vote update_internal_server_state become_following become_leader begin_lead lead_anew update_role handle_vote_resp take_grant lead_by_votes rebuild_replication_streams initiate_replication leader_append_entries proposed update_local_progress try_commit_quorum_accepted commit_by snapshot_where_due trigger_snapshot
nothing_leaves = refl

the_requests_leave : (after trio asked).released.bag ≡ vote_request 2 ∷ vote_request 3 ∷ []
unfolding finish played worked place_of initialize elect do_append_entries update_vote update_internal_server_state become_following become_leader begin_lead lead_anew update_role handle_vote_resp take_grant lead_by_votes rebuild_replication_streams initiate_replication leader_append_entries proposed update_local_progress try_commit_quorum_accepted commit_by snapshot_where_due trigger_snapshot
the_requests_leave = refl

-- a vote is granted ahead of the disk, and the grant leaves once it is there
it_has_granted_its_vote : ((after trio (asked ++ grants ∷ [])).servers 2).node.store.vote ≡ pending 1 1
unfolding finish played worked place_of initialize elect do_append_entries update_vote update_internal_server_state become_following become_leader begin_lead lead_anew update_role handle_vote_resp take_grant lead_by_votes rebuild_replication_streams initiate_replication leader_append_entries proposed update_local_progress try_commit_quorum_accepted commit_by snapshot_where_due trigger_snapshot handle_vote_req vote_req_answer
it_has_granted_its_vote = refl

its_disk_has_no_vote : ((after trio (asked ++ grants ∷ [])).servers 2).disk.store.vote ≡ pending 0 0
unfolding finish played worked place_of initialize elect do_append_entries update_vote update_internal_server_state become_following become_leader begin_lead lead_anew update_role handle_vote_resp take_grant lead_by_votes rebuild_replication_streams initiate_replication leader_append_entries proposed update_local_progress try_commit_quorum_accepted commit_by snapshot_where_due trigger_snapshot handle_vote_req vote_req_answer
its_disk_has_no_vote = refl

the_grant_waits : map (λ (m : Message). m.from) (after trio (asked ++ grants ∷ [])).released.bag ≡ 1 ∷ 1 ∷ []
unfolding finish played worked place_of initialize elect do_append_entries update_vote update_internal_server_state become_following become_leader begin_lead lead_anew update_role handle_vote_resp take_grant lead_by_votes rebuild_replication_streams initiate_replication leader_append_entries proposed update_local_progress try_commit_quorum_accepted commit_by snapshot_where_due trigger_snapshot handle_vote_req vote_req_answer
the_grant_waits = refl

the_grant_leaves : map (λ (m : Message). m.from) (after trio (asked ++ grants ∷ Flushes 2 ∷ [])).released.bag ≡ 1 ∷ 1 ∷ 2 ∷ []
unfolding finish played worked place_of initialize elect do_append_entries update_vote update_internal_server_state become_following become_leader begin_lead lead_anew update_role handle_vote_resp take_grant lead_by_votes rebuild_replication_streams initiate_replication leader_append_entries proposed update_local_progress try_commit_quorum_accepted commit_by snapshot_where_due trigger_snapshot handle_vote_req vote_req_answer
the_grant_leaves = refl

-- a crash that loses the vote loses the grant
its_vote_is_lost : ((after trio (asked ++ grants ∷ Crashes 2 0 4 ∷ [])).servers 2).node.store.vote ≡ pending 0 0
unfolding finish played worked place_of initialize elect do_append_entries update_vote update_internal_server_state become_following become_leader begin_lead lead_anew update_role handle_vote_resp take_grant lead_by_votes rebuild_replication_streams initiate_replication leader_append_entries proposed update_local_progress try_commit_quorum_accepted commit_by snapshot_where_due trigger_snapshot handle_vote_req vote_req_answer startup
its_vote_is_lost = refl

its_grant_is_lost : map (λ (m : Message). m.from) (after trio (asked ++ grants ∷ Crashes 2 0 4 ∷ Flushes 2 ∷ [])).released.bag ≡ 1 ∷ 1 ∷ []
unfolding finish played worked place_of initialize elect do_append_entries update_vote update_internal_server_state become_following become_leader begin_lead lead_anew update_role handle_vote_resp take_grant lead_by_votes rebuild_replication_streams initiate_replication leader_append_entries proposed update_local_progress try_commit_quorum_accepted commit_by snapshot_where_due trigger_snapshot handle_vote_req vote_req_answer startup
its_grant_is_lost = refl

the_vote_may_be_asked_for : AllMayAct trio (asked ++ grants ∷ []) (new_cluster trio)
unfolding finish played worked place_of initialize elect do_append_entries update_vote update_internal_server_state become_following become_leader begin_lead lead_anew update_role handle_vote_resp take_grant lead_by_votes rebuild_replication_streams initiate_replication leader_append_entries proposed update_local_progress try_commit_quorum_accepted commit_by snapshot_where_due trigger_snapshot handle_vote_req vote_req_answer
the_vote_may_be_asked_for = (((0, omega arith, refl), tt), ((0, omega arith, refl), (((1, omega arith, refl), ((0, omega arith, refl), refl)), tt)))
