use Rattle.raft_steps.proofs.AllowedCalls.{append_entries_only, append_only, commit_entries_only, consecutive_only, handle_append_only, handle_commit_only, vote_req_only}
use Rattle.raft_steps.proofs.LawsFollow.{Undeleting, undeleting_elections, handle_vote_req_queues, append_entries_queues, handle_append_queues, handle_commit_queues, consecutive_queues, append_queues, commit_entries_queues, grants_exactly, lease_grants_nothing, log_grants_nothing, update_vote_renews, handle_vote_req_renews, append_entries_renews, handle_append_renews, append_entries_keeps, handle_append_keeps, consecutive_keeps, append_keeps}
use Rattle.raft_steps.proofs.LawsInstall.{Unpurging, unpurging_elections, unpurging_requests}
use Rattle.raft_steps.proofs.LawsRenew.{accept_vote_renews, handle_install_renews, handle_vote_resp_renews}
use Rattle.raft_steps.proofs.request_laws.requests_obey_the_laws.Goals as goal

pub returns-clause-queue : goal.returns-clause-queue
returns-clause-queue g c =
    let cmp = g.C.NodeId.Ord.cmp in
    let total = g.met.C.NodeId.Ord.total in
    let entry = g.C.Entry.RaftEntry in
    record {
      by_handle_vote_req = λ config req now m. handle_vote_req_queues cmp total entry config req now m;
      by_append_entries = λ config v prev es now m. append_entries_queues cmp total entry config v prev es now m;
      by_handle_append_entries = λ config v prev es token now m. handle_append_queues cmp total entry config v prev es token now m;
      by_handle_commit_entries = λ config x m. handle_commit_queues cmp total entry config x m;
      by_ensure_log_consecutive = λ config prev k. consecutive_queues cmp total config prev k;
      by_following_append = λ config prev es k. append_queues cmp total entry config prev es k;
      by_commit_entries = λ config x k. commit_entries_queues cmp total config x k;
    }

pub returns-clause-lease : goal.returns-clause-lease
returns-clause-lease g c =
    let cmp = g.C.NodeId.Ord.cmp in
    let total = g.met.C.NodeId.Ord.total in
    let entry = g.C.Entry.RaftEntry in
    record {
      by_lease = λ config req now m. lease_grants_nothing cmp total entry config req now m;
      by_log = λ config req now m. log_grants_nothing cmp total entry config req now m;
    }

pub returns-clause-granted : goal.returns-clause-granted
returns-clause-granted g c = λ config req now m. grants_exactly g.C.NodeId.Ord.cmp g.met.C.NodeId.Ord.total g.C.Entry.RaftEntry config req now m

pub returns-clause-renewed : goal.returns-clause-renewed
returns-clause-renewed g c =
    let cmp = g.C.NodeId.Ord.cmp in
    let total = g.met.C.NodeId.Ord.total in
    let entry = g.C.Entry.RaftEntry in
    record {
      by_update_vote = λ config v now m. update_vote_renews cmp total entry config v now m;
      by_handle_vote_req = λ config req now m. handle_vote_req_renews cmp total entry config req now m;
      by_append_entries = λ config v prev es now m. append_entries_renews cmp total entry config v prev es now m;
      by_handle_append_entries = λ config v prev es token now m. handle_append_renews cmp total entry config v prev es token now m;
      by_accept_vote = λ config v token now answer old new a e. accept_vote_renews cmp total entry config v token now answer old new a e;
      by_handle_vote_resp = λ config target resp now k m is ungranted e. handle_vote_resp_renews cmp total entry config target resp now k m is ungranted e;
      by_handle_install = λ config v snapshot token now m e. handle_install_renews cmp total entry config v snapshot token now m e;
    }

pub returns-clause-committed : goal.returns-clause-committed
returns-clause-committed g c =
    let cmp = g.C.NodeId.Ord.cmp in
    let total = g.met.C.NodeId.Ord.total in
    let entry = g.C.Entry.RaftEntry in
    record {
      by_handle_vote_req = λ config req now m. vote_req_only Undeleting cmp entry config undeleting_elections req now m;
      by_append_entries = λ config v prev es now m. append_entries_keeps cmp total entry config v prev es now m;
      by_handle_append_entries = λ config v prev es token now m. handle_append_keeps cmp total entry config v prev es token now m;
      by_handle_commit_entries = λ config x m. handle_commit_only Undeleting cmp entry config undeleting_elections x m;
      by_ensure_log_consecutive = λ config prev k. consecutive_keeps cmp total config prev k;
      by_following_append = λ config prev es k. append_keeps cmp total entry config prev es k;
      by_commit_entries = λ config x k. commit_entries_only Undeleting cmp entry config undeleting_elections x k;
    }

pub returns-clause-purges : goal.returns-clause-purges
returns-clause-purges g c =
    let cmp = g.C.NodeId.Ord.cmp in
    let entry = g.C.Entry.RaftEntry in
    record {
      by_handle_vote_req = λ config req now m. vote_req_only Unpurging cmp entry config unpurging_elections req now m;
      by_append_entries = λ config v prev es now m. append_entries_only Unpurging cmp entry config unpurging_requests v prev es now m;
      by_handle_append_entries = λ config v prev es token now m. handle_append_only Unpurging cmp entry config unpurging_requests v prev es token now m;
      by_handle_commit_entries = λ config x m. handle_commit_only Unpurging cmp entry config unpurging_elections x m;
      by_ensure_log_consecutive = λ config prev k. consecutive_only Unpurging cmp entry config unpurging_requests prev k;
      by_following_append = λ config prev es k. append_only Unpurging cmp entry config unpurging_requests prev es k;
      by_commit_entries = λ config x k. commit_entries_only Unpurging cmp entry config unpurging_elections x k;
    }
