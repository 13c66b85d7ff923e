-- When a node stands and others grant it their votes, in the forms that the steps read.
use Rattle.std.specs.Prelude.{Bool, ℕ, ◌≡◌, ◌≢◌, ◌≤◌, ◌==◌, false, true, List, [], ◌∷◌, Option, None, Some}
use Rattle.std.specs.declared.cmp.Ordering.TheVariants.{Greater}
use Rattle.std.specs.Ordering.{is_eq, is_lt, nat_cmp}
use Rattle.proof_deeds.specs.raft_state.declared.ids.LeaderId.{LeaderId}
use Rattle.proof_deeds.specs.raft_state.declared.ids.LogId.{LogId}
use Rattle.proof_deeds.specs.raft_state.declared.state.ServerState.TheVariants.{Leader}
use Rattle.proof_deeds.specs.raft_state.Log.{last}
use Rattle.proof_deeds.specs.raft_state.Members.{contains, is_voter, voter_ids}
use Rattle.proof_deeds.specs.raft_state.Order.{last_id_cmp, next, vote_cmp}
use Rattle.proof_deeds.specs.raft_progress.Quorum.{is_quorum}
use Rattle.proof_deeds.specs.raft_proposer.Candidate.{grant_by, is_granted}
use Rattle.proof_deeds.specs.raft_proposer.Joint.{u64_max}
use Rattle.proof_deeds.specs.raft_steps.Requests.{is_leased}
use Rattle.proof_deeds.specs.raft_store.declared.entry.Entry.{Entry}
use Rattle.proof_deeds.specs.raft_store.Types.{EngineView}
use Rattle.proof_deeds.specs.raft_node.Execute.{others}
use Rattle.proof_deeds.specs.raft_node.Net.{Net, NodeView}
use Rattle.proof_progress.specs.Continuations.{At}
use Rattle.proof_progress.specs.Elections.{Listed, asked_id, pending}
use Rattle.proof_progress.proofs.Images.{standing}

-- an engine at rest that may stand: not spent, with a next term, a member that doesn't lead
pub record EngineStands (e : EngineView) : Type 0 where
  pub unspent : e.machine.core.output.spent ≡ false
  pub term : (e.machine.core.state.vote.leader_id.term == u64_max) ≡ false
  pub unled : e.machine.leader ≡ None
  pub rest : e.machine.core.output.items ≡ []
  pub role : e.machine.core.state.role ≢ Leader
  pub member : contains nat_cmp e.machine.core.state.em.membership e.config.id ≡ true

-- a request of this leader id and last id is granted by an engine at a moment
pub record EngineGrants (d : LeaderId ℕ) (x : Option (LogId ℕ)) (now : ℕ) (e : EngineView) : Type 0 where
  pub unspent : e.machine.core.output.spent ≡ false
  pub greater : vote_cmp nat_cmp (pending d) e.machine.core.state.vote ≡ Greater
  pub other : is_eq (nat_cmp d.node_id e.config.id) ≡ false
  pub unleased : is_leased e.config e.machine.core.state now ≡ false
  pub ahead : is_lt (last_id_cmp nat_cmp x (last e.machine.core.state.ids)) ≡ false
  pub rest : e.machine.core.output.items ≡ []

-- so is any whose term is above this one
pub record EngineGrantsAbove (n : ℕ) (x : Option (LogId ℕ)) (now top : ℕ) (e : EngineView) : Type 0 where
  pub unspent : e.machine.core.output.spent ≡ false
  pub low : e.machine.core.state.vote.leader_id.term ≤ top
  pub other : is_eq (nat_cmp n e.config.id) ≡ false
  pub unleased : is_leased e.config e.machine.core.state now ≡ false
  pub ahead : is_lt (last_id_cmp nat_cmp x (last e.machine.core.state.ids)) ≡ false
  pub rest : e.machine.core.output.items ≡ []

-- some ids before others, the last of them first
abbrev pub over : List ℕ → List ℕ → List ℕ
over [] G = G
over (t ∷ rest) G = over rest (t ∷ G)

-- a node that may stand at a moment: it runs, and is a voter of its effective membership
pub record NodeStands (net : Net (List Entry)) (now n : ℕ) : Type 0 where
  pub node : NodeView
  pub at : At net.nodes n node
  pub moment : node.moment ≤ now
  pub engine : EngineView
  pub runs : node.engine ≡ Some engine
  pub own : engine.config.id ≡ n
  pub may : EngineStands engine
  pub voter : is_voter nat_cmp engine.machine.core.state.em.membership engine.config.id ≡ true
  pub listed : Listed (voter_ids nat_cmp engine.machine.core.state.em.membership) engine.config.id
  pub room : (next (last engine.machine.core.state.ids) == u64_max) ≡ false

-- the engine is a quorum alone
abbrev pub is_enough : ℕ → EngineView → Bool
is_enough now e = is_granted (is_quorum nat_cmp) (grant_by nat_cmp (standing now e) e.config.id)

-- another voter of its membership that will grant it
pub record NodeGrants (net : Net (List Entry)) (now n : ℕ) (e : EngineView) (t : ℕ) : Type 0 where
  pub other : Listed (others n e.machine.core.state.em.membership) t
  pub voter : Listed (voter_ids nat_cmp e.machine.core.state.em.membership) t
  pub node : NodeView
  pub at : At net.nodes t node
  pub moment : node.moment ≤ now
  pub engine : EngineView
  pub runs : node.engine ≡ Some engine
  pub may : EngineGrants (asked_id e) (last e.machine.core.state.ids) now engine

-- or any vote of a term above this one
pub record NodeGrantsAbove (net : Net (List Entry)) (now n top : ℕ) (e : EngineView) (t : ℕ) : Type 0 where
  pub other : Listed (others n e.machine.core.state.em.membership) t
  pub voter : Listed (voter_ids nat_cmp e.machine.core.state.em.membership) t
  pub node : NodeView
  pub at : At net.nodes t node
  pub moment : node.moment ≤ now
  pub engine : EngineView
  pub runs : node.engine ≡ Some engine
  pub may : EngineGrantsAbove n (last e.machine.core.state.ids) now top engine
