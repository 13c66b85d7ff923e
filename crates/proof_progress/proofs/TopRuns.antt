-- In each reached world in which a log has an entry of an elected leader, a node has the greatest log, and is a voter of it.
use Rattle.std.specs.Prelude.{List, [], ◌++◌, ◌∷◌, ◌≡◌, ◌≤◌, ◌⊎◌, map, ℕ}
use Rattle.std.proofs.Common.{ap, append_assoc, arith, inl, inr, subst, sym, ◌∙◌}
use Rattle.std.specs.List.{AllByRecursion}
use Rattle.std.specs.Ordering.{nat_cmp}
use Rattle.proof_deeds.specs.raft_state.Members.{voter_ids}
use Rattle.proof_deeds.proofs.raft_state_proofs.LogLists.{each_append}
use Rattle.proof_deeds.specs.raft_store.declared.entry.Entry.{Entry}
use Rattle.proof_deeds.specs.raft_store.Store.{whole}
use Rattle.proof_deeds.specs.raft_schedule.declared.event.Event.{Event}
use Rattle.proof_deeds.specs.raft_node.declared.given.Given.{Given}
use Rattle.proof_deeds.specs.raft_node.Events.{happens}
use Rattle.proof_deeds.specs.raft_node.Net.{Net}
use Rattle.proof_deeds.specs.raft_node.Runs.{whole_logs, world_after}
use Rattle.proof_deeds.specs.raft_node.WellFormed.{IsWellFormed}
use Rattle.proof_deeds.specs.raft_node.Work.{weight}
use Rattle.proof_deeds.specs.Images.{number}
use Rattle.proof_progress.specs.Continuations.{At}
use Rattle.proof_progress.specs.Changes.{GreatestLogsExist, HasElectedEnd, HasGreatestLog, LeaderVotes}
use Rattle.proof_progress.specs.Elections.{Listed, members}
use Rattle.proof_progress.specs.GoesOn.{found}
use Rattle.proof_progress.proofs.BringingCalled.{ActTakesNone}
use Rattle.proof_progress.proofs.Campaigns.{at_id}
use Rattle.proof_progress.proofs.CanElect.{goes_after}
use Rattle.proof_progress.proofs.Chosen.{each_at}
use Rattle.proof_progress.proofs.EntriesStored.{whole_keeps}
use Rattle.proof_progress.proofs.FirstLogs.{first_greatest}
use Rattle.proof_progress.proofs.Greatest.{end_of, greatest_of, owns_at}
use Rattle.proof_progress.proofs.Grown.{Taking, takes_or}
use Rattle.proof_progress.proofs.LeadersStay.{leaders_vote}
use Rattle.proof_progress.proofs.OwnFirst.{end_leader}
use Rattle.proof_progress.proofs.TakenRuns.{takes_does}
use Rattle.proof_progress.proofs.MembershipsLed.{Keeps}
use Rattle.proof_progress.proofs.Top.{IsFirst, IsOwn, Top, end_upto}
use Rattle.proof_progress.proofs.VoteQueues.{Votes}
use Rattle.proof_progress.proofs.TopEvents.{Does, EventAt, then_at, top_run}
use Rattle.proof_progress.proofs.TopGrown.{grows_does}

module _ (given : Given) (wf : IsWellFormed given) where
  module _ (done : List Event) (each : AllByRecursion Keeps done) (event : Event) (kept : Keeps event) (E : EventAt given wf done event) where
    -- who appends an entry of its own under its vote was elected by it, and is a voter
    voter : (added : List Entry) (y : Entry) → whole (then_at given wf done event E.act E.node).node.store ≡ whole E.node.store ++ (added ++ y ∷ []) → IsOwn E.n y
        → number (then_at given wf done event E.act E.node).node.store.vote.leader_id ≤ number y.log_id.leader_id → Votes E.n (then_at given wf done event E.act E.node).node.store
    voter added y q i l =
        let at : At (world_after given (done ++ event ∷ [])).nodes E.n (then_at given wf done event E.act E.node).node =
        subst (λ (w : Net (List Entry)). At w.nodes E.n (then_at given wf done event E.act E.node).node) (sym (goes_after given done (event ∷ []))) E.moves.to in
        let id : (then_at given wf done event E.act E.node).node.id ≡ E.n = at_id (world_after given (done ++ event ∷ [])).nodes E.n (then_at given wf done event E.act E.node).node at in
        let votes : LeaderVotes (then_at given wf done event E.act E.node).node =
        each_at LeaderVotes (world_after given (done ++ event ∷ [])).nodes E.n (then_at given wf done event E.act E.node).node at
        (leaders_vote given wf (done ++ event ∷ []) (each_append Keeps done (event ∷ []) each (kept, tt))) in
        subst (λ n. Votes n (then_at given wf done event E.act E.node).node.store) id
        (votes
        (owns_at given wf (done ++ event ∷ []) E.n (then_at given wf done event E.act E.node).node at (whole E.node.store ++ added) y (q ∙ sym (append_assoc (whole E.node.store) added (y ∷ []))) (i.own ∙ sym id) i.positive l))

    does : ActTakesNone E.act E.node ⊎ Taking E.act E.node → Does (world_after given done) (happens whole_logs weight given event (world_after given done)).1 E.n E.node (then_at given wf done event E.act E.node).node
    does (inl none) = grows_does given wf done event E none voter
    does (inr taking) = takes_does given wf done event E taking

  pub top_of : (past : List Event) → AllByRecursion Keeps past → Top (world_after given past)
  top_of past each = top_run given wf Keeps (λ done each event kept E. does done each event kept E (takes_or E.act E.node)) past each

-- so some node has the greatest log, where a log has an entry of an elected leader
pub greatest_logs_exist : GreatestLogsExist
greatest_logs_exist given wf past each t T at h = go (top_of given wf past each) h
  where
    go : Top (world_after given past) → HasElectedEnd T ⊎ Listed (voter_ids nat_cmp (members (found given T))) t → (n : ℕ) × HasGreatestLog given (world_after given past) (map (λ N. N.id) (world_after given past).nodes) n
    go (inr (o, x, top)) k = greatest_of given wf past o x top
    go (inl low) (inl k) =
        let a : end_leader (whole T.store) ≤ 0 = end_upto 0 (whole T.store) (whole_keeps IsFirst T.store (low.nodes t T at).store) in
        let l : end_leader (whole T.store) ≡ number k.end.log_id.leader_id = ap end_leader k.log ∙ end_of k.before k.end in
        let e = k.elected in
        absurd (omega (arith, a, l, e))
    go (inl low) (inr votes) = first_greatest given wf past each low t T at votes
