-- Where no learner stood, and each proposer of a membership stayed a voter, a majority of each group of the greatest log goes on with its node.
use Rattle.std.proofs.Common.{ℕ, ◌≡◌, true, List, ◌∷◌, length, map, sym, subst}
use Rattle.std.specs.Ordering.{nat_cmp}
use Rattle.proof_deeds.specs.raft_state.Members.{voter_ids}
use Rattle.proof_deeds.specs.raft_state.Sorted.{has_id}
use Rattle.proof_deeds.specs.raft_progress.Quorum.{is_quorum}
use Rattle.proof_deeds.specs.raft_store.declared.entry.Entry.{Entry}
use Rattle.proof_deeds.specs.raft_node.declared.given.Given.{Given}
use Rattle.proof_deeds.specs.raft_node.Net.{Net, NodeView}
use Rattle.proof_deeds.specs.raft_node.Runs.{world_after}
use Rattle.proof_progress.specs.Changes.{CanGoOnBy, CanGoOnWith, HasGreatestLog, ProposersCommit, voters_among}
use Rattle.proof_progress.specs.Elections.{members}
use Rattle.proof_progress.specs.GoesOn.{Reaches, found}
use Rattle.proof_progress.proofs.ChangesGo.{changed_commit}
use Rattle.proof_progress.proofs.Choosing.{listed_at}
use Rattle.proof_progress.proofs.Places.{at_one}
use Rattle.proof_progress.proofs.TopRuns.{greatest_logs_exist}
use Rattle.proof_progress.proofs.Voters.{from_filter, to_filter}

module _ (given : Given) (net : Net (List Entry)) (n : ℕ) (greatest : HasGreatestLog given net (map (λ N. N.id) net.nodes) n) (up : List ℕ) (count : ℕ) (c : CanGoOnBy given net up n count) where
  same : greatest.node ≡ c.node
  same = at_one net.nodes n greatest.node c.node greatest.at c.at

  -- the greatest log of all nodes is the greatest among these
  can : CanGoOnWith given net up n count
  can = record {
    once = c.once;
    nodes = c.nodes;
    greatest = record {
      one = c.one;
      node = greatest.node;
      at = greatest.at;
      votes = greatest.votes;
      top = λ t T h at.
          greatest.top t T
          (to_filter (has_id nat_cmp (voter_ids nat_cmp (members (found given greatest.node)))) (map (λ N. N.id) net.nodes) t (listed_at net.nodes t T at)
          (from_filter (has_id nat_cmp (voter_ids nat_cmp (members (found given greatest.node)))) up t h).1) at;
    };
    quorum = subst (λ (N : NodeView). is_quorum nat_cmp (members (found given N)).groups (voters_among (found given N) up) ≡ true) (sym same) c.quorum;
    reach = λ t T h at. subst (λ (N : NodeView). Reaches (found given N) (found given T)) (sym same) (c.reach t T h at);
    payload = c.payload;
    terms = c.terms;
    room = c.room;
  }

pub proposers_commit : ProposersCommit
proposers_commit given wf past kept t T at some =
    let g : (n : ℕ) × HasGreatestLog given (world_after given past) (map (λ N. N.id) (world_after given past).nodes) n = greatest_logs_exist given wf past kept t T at some in
    (g.0, λ up v vs c. changed_commit given wf past up g.0 v vs (can given (world_after given past) g.0 g.1 up (length (v ∷ vs)) c))
