-- Nodes that go on by the plan recover: so there is such a way on.
use Rattle.std.proofs.Common.{ℕ, ◌+◌, ◌≡◌, Bool, false, true, List, [], ◌∷◌, ◌++◌, length, arith, sym, ap, ◌∙◌, subst, None, Some}
use Rattle.std.specs.Option.{option_and_then}
use Rattle.std.specs.List.{AllByRecursion}
use Rattle.std.specs.Ordering.{nat_cmp}
use Rattle.raft_state.specs.declared.ids.LogId.{LogId}
use Rattle.raft_state.specs.Members.{voter_ids}
use Rattle.raft_store.specs.declared.entry.Value.{Value}
use Rattle.raft_schedule.specs.declared.event.Event.{Event}
use Rattle.raft_node.specs.declared.given.Given.{Given}
use Rattle.raft_node.specs.Net.{Net}
use Rattle.raft_node.specs.Runs.{world_after}
use Rattle.raft_store.specs.declared.entry.Entry.{Entry}
use Rattle.proof_progress.specs.Continuations.{At, goes_on}
use Rattle.proof_progress.specs.Elections.{Listed, log_end, members}
use Rattle.proof_progress.specs.GoesOn.{HasExecuted, first_new, found}
use Rattle.proof_progress.specs.GoneByPlan.{GoneByPlan, other_voters}
use Rattle.proof_progress.proofs.CanElect.{goes_after}
use Rattle.proof_progress.proofs.ChangesGo.{plan_is, plans_go_on}
use Rattle.proof_progress.proofs.Numbered.{running_is}
use Rattle.raft_recovery.specs.declared.starting.Found.{Found}
use Rattle.raft_recovery.specs.Choosing.{is_elected}
use Rattle.raft_recovery.specs.Recoveries.{HasApplied, IsElectable, Recovers}
use Rattle.raft_recovery.specs.Starting.{found_in}
use Rattle.raft_recovery.specs.Ways.{RecoversBy, WaysRecover, last_id_at, way_of}
use Rattle.raft_recovery.proofs.Electing.{finds_at, is_found}

module _ (given : Given) (past : List Event) (up : List ℕ) (n : ℕ) (value : Value) (g : GoneByPlan given past up n (value ∷ [])) where
  abbrev id : LogId ℕ
  id = g.gone.gone.id

  abbrev after : List Event
  after = past ++ g.gone.more

  same : g.gone.n ≡ id.leader_id.node_id
  same = sym g.gone.gone.own

  index_is : id.index ≡ first_new (found given g.gone.node)
  index_is = let q : id.index + 1 ≡ first_new (found given g.gone.node) + 1 = g.gone.gone.new in omega (arith, q)

  entry : HasApplied (world_after given after) g.gone.n id
  entry = record { node = g.ends.node; at = g.ends.at; entry = g.ends.entry; has = g.ends.has; is = g.ends.is }

  pub recovers_by_plan : Recovers given (world_after given past) (world_after given after) up id value (length g.gone.more)
  recovers_by_plan = record {
    one = subst (Listed up) same g.gone.one;
    node = g.gone.node;
    at = subst (λ i. At (world_after given past).nodes i g.gone.node) same g.gone.at;
    votes = subst (Listed (voter_ids nat_cmp (members (found given g.gone.node)))) same g.gone.votes;
    others = g.gone.others;
    all = λ t up_t member. subst (λ i. Listed (i ∷ g.gone.others) t) same (g.all t up_t member);
    new = let q : id.index ≡ first_new (found given g.gone.node) = index_is in omega (arith, q);
    first = λ _. index_is;
    entry = subst (λ i. HasApplied (world_after given after) i id) same entry;
    each = subst (λ i. AllByRecursion (HasExecuted (world_after given after) id i (value ∷ [])) (id.leader_id.node_id ∷ g.gone.others)) (sym index_is)
        (subst (λ i. AllByRecursion (HasExecuted (world_after given after) id (first_new (found given g.gone.node)) (value ∷ [])) (i ∷ g.gone.others)) same g.gone.gone.each);
    few = g.gone.few;
  }

  abbrev net : Net (List Entry)
  net = world_after given past

  abbrev f : Found
  f = found_in g.gone.node.store

  -- the way on is the plan
  way_is : g.gone.more ≡ way_of given net up value g.gone.n f
  way_is = g.planned ∙ plan_is given net up g.gone.n g.gone.node g.gone.at (value ∷ [])

  after_is : world_after given (past ++ g.gone.more) ≡ goes_on given (way_of given net up value g.gone.n f) net
  after_is = goes_after given past g.gone.more ∙ ap (λ es. goes_on given es net) way_is

  last_is : last_id_at (world_after given (past ++ g.gone.more)) g.gone.n ≡ Some g.gone.gone.id
  last_is = ap (option_and_then log_end) (running_is (world_after given (past ++ g.gone.more)) g.gone.n g.ends.node g.ends.engine g.ends.at g.ends.runs) ∙ g.ends.end

  pub electable : IsElectable given (world_after given past) up g.gone.n
  electable = record {
    one = g.gone.one;
    node = g.gone.node;
    at = g.gone.at;
    votes = g.gone.votes;
    voters = other_voters (members (found given g.gone.node)) up g.gone.n;
    among = g.among;
    follow = g.follow;
    quorum = g.quorum;
  }

  elected : is_elected net.nodes up g.gone.n f ≡ true
  elected =
      subst (λ o. elim o as (λ _. Bool) [ None ↦ false | Some h ↦ is_elected net.nodes up g.gone.n h ] ≡ true) (finds_at net.nodes g.gone.n g.gone.node g.gone.at)
      (is_found given net up g.gone.n electable)

  pub recovers_by : RecoversBy given net up value g.gone.n
  recovers_by = record {
    found = f;
    at = finds_at net.nodes g.gone.n g.gone.node g.gone.at;
    elected = elected;
    id = g.gone.gone.id;
    last = subst (λ (w : Net (List Entry)). last_id_at w g.gone.n ≡ Some g.gone.gone.id) after_is last_is;
    recovers = subst (λ (w : Net (List Entry)). Recovers given net w up g.gone.gone.id value (length (way_of given net up value g.gone.n f))) after_is
        (subst (λ es. Recovers given net (world_after given (past ++ g.gone.more)) up g.gone.gone.id value (length es)) way_is recovers_by_plan);
  }

pub ways_recover : WaysRecover
ways_recover given wf past up n value c none =
    let g : GoneByPlan given past up n (value ∷ []) = plans_go_on given wf past up n value [] c none in
    (g.gone.n, g.gone.one, recovers_by given past up n value g)
