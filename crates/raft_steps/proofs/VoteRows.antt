-- Computed examples of votes, roles and elections.
use Rattle.std.specs.Prelude.{◌≡◌, ℕ, true, false, [], ◌∷◌, None, Some, Err, refl}
use Rattle.std.specs.Ordering.{nat_cmp}
use Rattle.raft_state.specs.declared.state.ServerState.TheVariants as role
use Rattle.raft_state.specs.declared.policy.RejectVoteRequest.TheVariants.{ByVote}
use Rattle.raft_progress_entry.specs.raft_error.declared.error.EngineError.TheVariants.{TermEnd}
use Rattle.raft_command.specs.declared.command.Command.TheVariants.{SaveVote, QuitLeader}
use Rattle.raft_steps.specs.Refusals.{refusals_of_elect}
use Rattle.raft_proposer.specs.Candidate.{candidate_of}
use Rattle.raft_steps.specs.ServerStateHandler.{update_role}
use Rattle.raft_steps.specs.VoteHandler.{become_following, begin_lead, lead_anew, become_leader, update_internal_server_state, update_vote, vote_answer}
use Rattle.raft_steps.specs.Engine.{lead_by_votes, take_grant, take_rejection, handle_vote_resp}
use Rattle.raft_steps.proofs.Example.{PlainMachine, PlainCandidate, plain, pending, committed, settings, state, core, machine, three, u64_end}

-- a smaller vote is rejected, a greater one saved
a_smaller_vote_is_rejected : vote_answer nat_cmp (state (committed 2 1) []) (pending 1 2) ≡ Err (ByVote (committed 2 1))
a_smaller_vote_is_rejected = refl

a_greater_vote_is_saved : (update_vote nat_cmp plain (settings 0) (pending 3 3) 5 (machine (state (committed 2 1) []))).core.output.items ≡ SaveVote (pending 3 3) ∷ []
unfolding update_vote update_internal_server_state become_following become_leader begin_lead lead_anew update_role
a_greater_vote_is_saved = refl

-- another node's vote ends the lead
another_nodes_vote_ends_the_lead : (update_role nat_cmp (settings 2) (core (record (state (pending 2 100) []) { role = role.Leader }))).output.items ≡ QuitLeader ∷ []
unfolding update_role
another_nodes_vote_ends_the_lead = refl

another_nodes_vote_makes_a_follower : (update_role nat_cmp (settings 2) (core (record (state (pending 2 100) []) { role = role.Leader }))).state.role ≡ role.Follower
unfolding update_role
another_nodes_vote_makes_a_follower = refl

the_greatest_term_has_no_election : refusals_of_elect nat_cmp (settings 1) (machine (state (pending u64_end 1) [])) ≡ Some TermEnd
the_greatest_term_has_no_election = refl

-- a late vote uses the candidate up, and makes no leader
candidate : PlainCandidate
candidate = candidate_of nat_cmp 0 (pending 3 1) None three

asking : PlainMachine
asking = record (machine (record (state (pending 3 1) []) { role = role.Candidate })) { candidate = Some candidate }

after_greater : PlainMachine
unfolding asking
after_greater = handle_vote_resp nat_cmp plain (settings 1) 2 (record { vote = committed 5 1; vote_granted = false; last_log_id = None }) 7 asking

a_rejections_vote_is_taken_without_its_mark : after_greater.core.state.vote ≡ pending 5 1
unfolding after_greater asking candidate handle_vote_resp take_grant take_rejection update_vote update_internal_server_state become_following become_leader begin_lead lead_anew update_role
a_rejections_vote_is_taken_without_its_mark = refl

a_rejections_vote_is_saved : after_greater.core.output.items ≡ SaveVote (pending 5 1) ∷ []
unfolding after_greater asking candidate handle_vote_resp take_grant take_rejection update_vote update_internal_server_state become_following become_leader begin_lead lead_anew update_role
a_rejections_vote_is_saved = refl

a_rejection_keeps_the_candidate : after_greater.candidate ≡ Some candidate
unfolding after_greater asking candidate handle_vote_resp take_grant take_rejection update_vote update_internal_server_state become_following become_leader begin_lead lead_anew update_role
a_rejection_keeps_the_candidate = refl

grants : ℕ → PlainMachine → PlainMachine
grants target m = handle_vote_resp nat_cmp plain (settings 1) target (record { vote = pending 3 1; vote_granted = true; last_log_id = None }) 8 m

a_late_quorum_makes_no_leader : grants 3 (grants 2 after_greater) ≡ record after_greater { candidate = None }
unfolding grants after_greater asking candidate handle_vote_resp take_grant take_rejection lead_by_votes update_vote update_internal_server_state become_following become_leader begin_lead lead_anew update_role
a_late_quorum_makes_no_leader = refl
