-- When a node can be elected (Raft paper, sections 5.2 and 5.4.1).
use Rattle.std.specs.Prelude.{ℕ, ◌+◌, ◌≡◌, ◌≢◌, ◌≤◌, ◌⊎◌, ◌==◌, false, true, List, [], ◌∷◌, Option, None, Some}
use Rattle.std.specs.declared.cmp.Ordering.TheVariants.{Greater}
use Rattle.std.specs.List.{AllByRecursion}
use Rattle.std.specs.Ordering.{is_lt, nat_cmp}
use Rattle.proof_deeds.specs.raft_state.declared.ids.LeaderId.{LeaderId}
use Rattle.proof_deeds.specs.raft_state.declared.ids.LogId.{LogId}
use Rattle.proof_deeds.specs.raft_state.declared.ids.Vote.{Vote}
use Rattle.proof_deeds.specs.raft_state.declared.membership.Members.{Members}
use Rattle.proof_deeds.specs.raft_state.declared.state.ServerState.TheVariants.{Leader}
use Rattle.proof_deeds.specs.raft_state.Log.{last}
use Rattle.proof_deeds.specs.raft_state.Members.{voter_ids}
use Rattle.proof_deeds.specs.raft_state.Order.{last_id_cmp, next, vote_cmp}
use Rattle.proof_deeds.specs.raft_progress.Quorum.{is_quorum}
use Rattle.proof_deeds.specs.raft_proposer.Joint.{u64_max}
use Rattle.proof_deeds.specs.raft_steps.Requests.{is_leased}
use Rattle.proof_deeds.specs.raft_store.declared.entry.Entry.{Entry}
use Rattle.proof_deeds.specs.raft_store.Types.{EngineView}
use Rattle.proof_deeds.specs.raft_schedule.declared.event.Event.{Event}
use Rattle.proof_deeds.specs.raft_node.declared.given.Given.{Given}
use Rattle.proof_deeds.specs.raft_node.Net.{Net, NodeView}
use Rattle.proof_progress.specs.Continuations.{At, LeadsIn, goes_on}

-- the vote of a leader id, not yet committed
abbrev pub pending : LeaderId ℕ → Vote ℕ
pending d = record { leader_id = d; committed = false }

-- the leader id that an engine asks votes for next: its own, of the next term
abbrev pub asked_id : EngineView → LeaderId ℕ
asked_id e = record { term = e.machine.core.state.vote.leader_id.term + 1; node_id = e.config.id }

-- the last id of an engine's log, and its effective membership
abbrev pub log_end : EngineView → Option (LogId ℕ)
log_end e = last e.machine.core.state.ids

abbrev pub members : EngineView → Members ℕ (Unit {0})
members e = e.machine.core.state.em.membership

-- the id is in the list
abbrev pub Listed : List ℕ → ℕ → Type 0
Listed [] t = ⊥
Listed (x ∷ xs) t = (x ≡ t) ⊎ Listed xs t

-- these are other nodes, each once
abbrev pub Apart : ℕ → List ℕ → Type 0
Apart n [] = Unit {0}
Apart n (t ∷ rest) = (t ≢ n) × AllByRecursion (λ u. u ≢ t) rest × Apart n rest

-- between two events, with a queue that was never out of memory
pub record IsIdle (e : EngineView) : Type 0 where
  pub rest : e.machine.core.output.items ≡ []
  pub unspent : e.machine.core.output.spent ≡ false

-- a node runs this engine, and no event of it is later than this moment
pub record Runs (net : Net (List Entry)) (now n : ℕ) (e : EngineView) : Type 0 where
  pub node : NodeView
  pub at : At net.nodes n node
  pub moment : node.moment ≤ now
  pub runs : node.engine ≡ Some e
  pub own : e.config.id ≡ n

-- a voter that doesn't lead, and has a next term, and an index for its no-op entry
pub record MayStand (e : EngineView) : Type 0 where
  pub idle : IsIdle e
  pub unled : e.machine.leader ≡ None
  pub role : e.machine.core.state.role ≢ Leader
  pub voter : Listed (voter_ids nat_cmp (members e)) e.config.id
  pub term : (e.machine.core.state.vote.leader_id.term == u64_max) ≡ false
  pub index : (next (log_end e) == u64_max) ≡ false

-- an engine that grants a leader id its vote at a moment: its own vote is smaller, its lease is over, and the candidate's log
-- isn't behind its own
pub record MayGrant (d : LeaderId ℕ) (x : Option (LogId ℕ)) (now : ℕ) (e : EngineView) : Type 0 where
  pub idle : IsIdle e
  pub greater : vote_cmp nat_cmp (pending d) e.machine.core.state.vote ≡ Greater
  pub unleased : is_leased e.config e.machine.core.state now ≡ false
  pub ahead : is_lt (last_id_cmp nat_cmp x (log_end e)) ≡ false

-- a voter of a candidate's effective membership that will grant its next vote
pub record WouldGrant (net : Net (List Entry)) (now : ℕ) (candidate : EngineView) (t : ℕ) : Type 0 where
  pub voter : Listed (voter_ids nat_cmp (members candidate)) t
  pub engine : EngineView
  pub runs : Runs net now t engine
  pub may : MayGrant (asked_id candidate) (log_end candidate) now engine

-- a node that may stand, and other voters that will grant, with it a quorum of each group
pub record CanBeElected (net : Net (List Entry)) (now n : ℕ) : Type 0 where
  pub engine : EngineView
  pub runs : Runs net now n engine
  pub may : MayStand engine
  pub voters : List ℕ
  pub apart : Apart n voters
  pub would : AllByRecursion (WouldGrant net now engine) voters
  pub quorum : is_quorum nat_cmp (members engine).groups (n ∷ voters) ≡ true

-- from where a node can be elected, events elect it, in whatever world: its timeout, and deliveries of its requests for votes
-- and of their replies
abbrev pub ElectableLead : Type 0
ElectableLead =
    (given : Given) (net : Net (List Entry)) (now n : ℕ) (h : CanBeElected net now n)
    → (es : List Event) × LeadsIn (goes_on given es net) (asked_id h.engine) n
