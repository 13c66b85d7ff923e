-- A leader brings a node's log to match its own, by events (Raft paper, section 5.3).
use Rattle.std.specs.Prelude.{ℕ, ◌+◌, ◌*◌, ◌≡◌, ◌≢◌, ◌<◌, ◌≤◌, ◌++◌, true, List, ◌∷◌, length, Option}
use Rattle.std.specs.List.{AllByRecursion}
use Rattle.std.specs.Ordering.{is_le, nat_cmp}
use Rattle.proof_deeds.specs.raft_state.declared.ids.LogId.{LogId}
use Rattle.proof_deeds.specs.raft_state.declared.ids.Vote.{Vote}
use Rattle.proof_deeds.specs.raft_state.Log.{last}
use Rattle.proof_deeds.specs.raft_state.Order.{last_id_cmp, next}
use Rattle.proof_deeds.specs.raft_state.State.{accepted}
use Rattle.proof_deeds.specs.raft_progress.Table.{get}
use Rattle.proof_deeds.specs.raft_schedule.declared.event.Event.{Event}
use Rattle.proof_deeds.specs.raft_node.declared.given.Given.{Given}
use Rattle.proof_deeds.specs.raft_node.Net.{Net, NodeView}
use Rattle.proof_deeds.specs.raft_node.Runs.{world_after}
use Rattle.proof_deeds.specs.raft_node.WellFormed.{IsWellFormed}
use Rattle.proof_deeds.specs.raft_store.declared.entry.Entry.{Entry}
use Rattle.proof_progress.specs.Continuations.{At}
use Rattle.proof_progress.specs.Exchanges.{FollowsAt, HasNumbers, IsLeft, LeadsAt, LeadsOn, MayTake, led}
use Rattle.proof_progress.specs.Plans.{bring, bring_all}
use Rattle.proof_progress.specs.Proposals.{EachOnce, Replicated, ReplicatedTo}
use Rattle.proof_progress.specs.Replication.{IsAsked}

-- a leader sends at least one entry at once, and isn't to purge all of its log
pub record CanServe {net : Net (List Entry)} {now n : ℕ} (l : LeadsAt net now n) : Type 0 where
  pub payload : 1 ≤ l.engine.config.max_payload_entries
  pub unpurged : next l.engine.machine.core.state.purge_to < next (last l.engine.machine.core.state.ids)

-- the index after a leader's log
abbrev pub log_len : {net : Net (List Entry)} {now n : ℕ} → LeadsAt net now n → ℕ
log_len l = next (last l.engine.machine.core.state.ids)

-- a node that a leader may bring up to date: something is in flight to it, its log isn't known to match, its vote isn't above the
-- leader's, and it has so many numbers left. It needs no snapshot: it has committed what the leader is to purge, and the leader's
-- search doesn't end below that
pub record MayCatchUp {net : Net (List Entry)} {now n : ℕ} (l : LeadsAt net now n) (k t : ℕ) : Type 0 where
  pub asked : IsAsked nat_cmp t (led l)
  pub behind : asked.entry.matching ≢ last l.engine.machine.core.state.ids
  pub takes : MayTake net now l.leader.vote k t
  pub searched : next l.engine.machine.core.state.purge_to ≤ asked.entry.searching_end
  pub reaches : next l.engine.machine.core.state.purge_to ≤ next takes.engine.machine.core.state.committed

-- a node follows, and has accepted a leader's log up to this id
pub record HasCaughtUp (net : Net (List Entry)) (now : ℕ) (v : Vote ℕ) (end : Option (LogId ℕ)) (k t : ℕ) : Type 0 where
  pub follows : FollowsAt net now v k t
  pub accepts : is_le (last_id_cmp nat_cmp end (accepted nat_cmp follows.engine.machine.core.state)) ≡ true

-- after all of these events, as planned, the node's log matches the leader's: what was in flight has failed, and the node's answers to what it
-- was sent since were handled. It follows, and has accepted all of that log; all others are as they were
pub record MatchesAfter (given : Given) (past : List Event) (now n t k : ℕ) (l : LeadsAt (world_after given past) now n) (all : List Event) : Type 0 where
  pub planned : all ≡ past ++ bring given now n t (world_after given past)
  pub leads : LeadsAt (world_after given all) now n
  pub config : leads.engine.config ≡ l.engine.config
  pub numbers : HasNumbers k leads.engine.machine
  pub on : LeadsOn l leads
  pub left : IsLeft l.node.store leads.node.store
  pub replicated : Replicated nat_cmp l.engine.config t (led l) (led leads)
  pub caught : HasCaughtUp (world_after given all) now l.leader.vote (last l.engine.machine.core.state.ids) k t
  pub others : (i : ℕ) (I : NodeView) → i ≢ n → i ≢ t → At (world_after given past).nodes i I → At (world_after given all).nodes i I

-- From each reached world in which a node leads, and may bring another one up to date, a failure, and then at most four deliveries
-- for each entry of the log, make the logs match
abbrev pub WorldsMatch : Type 0
WorldsMatch =
    (given : Given) → IsWellFormed given → (past : List Event) (now n t k : ℕ) (l : LeadsAt (world_after given past) now n) → n ≢ t → CanServe l → HasNumbers (k + (4 * log_len l + 2)) l.engine.machine
    → MayCatchUp l (k + (4 * log_len l + 2)) t → (more : List Event) × (length more ≤ 4 * log_len l + 1) × MatchesAfter given past now n t k l (past ++ more)

-- after all of these events, as planned, the logs of all of these nodes match, one after another; all others, and what the leader knows of them,
-- are as they were
pub record AllMatchAfter (given : Given) (past : List Event) (now n k : ℕ) (l : LeadsAt (world_after given past) now n) (ts : List ℕ) (all : List Event) : Type 0 where
  pub planned : all ≡ past ++ bring_all given now n ts (world_after given past)
  pub leads : LeadsAt (world_after given all) now n
  pub config : leads.engine.config ≡ l.engine.config
  pub numbers : HasNumbers k leads.engine.machine
  pub on : LeadsOn l leads
  pub left : IsLeft l.node.store leads.node.store
  pub end : last leads.engine.machine.core.state.ids ≡ last l.engine.machine.core.state.ids
  pub purge_to : leads.engine.machine.core.state.purge_to ≡ l.engine.machine.core.state.purge_to
  pub vote : leads.engine.machine.core.state.vote ≡ l.engine.machine.core.state.vote
  pub replicated : ReplicatedTo nat_cmp l.engine.config ts (led l) (led leads)
  pub caught : AllByRecursion (HasCaughtUp (world_after given all) now l.leader.vote (last l.engine.machine.core.state.ids) k) ts
  pub rows : (u : ℕ) → AllByRecursion (λ t. u ≢ t) ts → get nat_cmp leads.leader.progress u ≡ get nat_cmp l.leader.progress u
  pub others : (i : ℕ) (I : NodeView) → i ≢ n → AllByRecursion (λ t. i ≢ t) ts → At (world_after given past).nodes i I → At (world_after given all).nodes i I

-- so for several nodes
abbrev pub WorldsAllMatch : Type 0
WorldsAllMatch =
    (given : Given) → IsWellFormed given → (ts : List ℕ) (past : List Event) (now n k : ℕ) (l : LeadsAt (world_after given past) now n) → EachOnce (n ∷ ts) → CanServe l
    → HasNumbers (k + length ts * (4 * log_len l + 2)) l.engine.machine → AllByRecursion (MayCatchUp l (k + length ts * (4 * log_len l + 2))) ts
    → (more : List Event) × (length more ≤ length ts * (4 * log_len l + 1)) × AllMatchAfter given past now n k l ts (past ++ more)
