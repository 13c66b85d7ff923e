use Rattle.std.proofs.Common.{sym}
use Rattle.std.specs.Prelude.{filter_map}
use Rattle.raft_steps.specs.Laws.{saved_vote}
use Rattle.raft_steps.proofs.LawsQueue.{risen_le, saved_where_grown, elect_queues, initialize_queues, handle_vote_resp_queues, update_vote_queues, internal_queues, become_leader_queues, following_queues, reply_queues, do_append_queues, role_queues, trigger_queues, leader_append_queues, join_queues, rebuild_progresses_queues, rebuild_queues, initiate_queues, send_queues, try_commit_queues, local_queues}
use Rattle.raft_steps.proofs.laws.votes_and_numbers_rise.Goals as goal

pub returns-clause-votes : goal.returns-clause-votes
returns-clause-votes g c =
    let cmp = g.C.NodeId.Ord.cmp in
    let total = g.met.C.NodeId.Ord.total in
    record {
      never_lowered = λ old new q. risen_le cmp total old.state.vote (filter_map saved_vote q.added) new.state.vote q.votes;
      saved_where_grown = λ old new q. sym (saved_where_grown cmp total old.state.vote (filter_map saved_vote q.added) new.state.vote q.votes);
    }

pub returns-clause-calls : goal.returns-clause-calls
returns-clause-calls g c =
    let cmp = g.C.NodeId.Ord.cmp in
    let total = g.met.C.NodeId.Ord.total in
    let entry = g.C.Entry.RaftEntry in
    record {
      by_elect = λ config now m. elect_queues cmp total entry config now m;
      by_initialize = λ config first e now m. initialize_queues cmp total entry config first e now m;
      by_handle_vote_resp = λ config target resp now m. handle_vote_resp_queues cmp total entry config target resp now m;
      by_update_vote = λ config v now m. update_vote_queues cmp total entry config v now m;
      by_internal = λ config m. internal_queues cmp total entry config m;
      by_become_leader = λ config m. become_leader_queues cmp total entry config m;
      by_become_following = λ config m. following_queues cmp total entry config m;
      by_reply = λ resp c. reply_queues cmp resp c;
      by_do_append = λ config es c. do_append_queues cmp total entry config es c;
      by_update_role = λ config c. role_queues cmp total config c;
      by_trigger_snapshot = λ c. trigger_queues cmp c;
      by_leader_append = λ config es l. leader_append_queues cmp total entry config es l;
      by_append_membership = λ config s l. join_queues cmp total config s l;
      by_rebuild_progresses = λ l. rebuild_progresses_queues cmp l;
      by_rebuild = λ config l. rebuild_queues cmp total config l;
      by_initiate = λ config force l. initiate_queues cmp total config force l;
      by_send = λ target f c. send_queues cmp target f c;
      by_try_commit = λ config x c. try_commit_queues cmp total config x c;
      by_local_progress = λ config x l. local_queues cmp total config x l;
    }
