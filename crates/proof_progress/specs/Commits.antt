-- A leader's proposal is committed, by events (Raft paper, sections 5.3 and 5.4.2).
use Rattle.std.specs.Prelude.{ℕ, ◌+◌, ◌*◌, ◌≡◌, ◌≢◌, ◌≤◌, ◌++◌, true, List, [], ◌∷◌, length, map, slice_get, Option, Some}
use Rattle.std.specs.List.{AllByRecursion}
use Rattle.std.specs.Ordering.{is_le, nat_cmp}
use Rattle.proof_deeds.specs.raft_state.declared.ids.LogId.{LogId}
use Rattle.proof_deeds.specs.raft_state.declared.ids.Vote.{Vote}
use Rattle.proof_deeds.specs.raft_state.Log.{last}
use Rattle.proof_deeds.specs.raft_state.Order.{last_id_cmp, next}
use Rattle.proof_deeds.specs.raft_progress_entry.declared.entry.ProgressEntry.{ProgressEntry}
use Rattle.proof_deeds.specs.raft_progress.Quorum.{is_quorum}
use Rattle.proof_deeds.specs.raft_progress.Table.{get}
use Rattle.proof_deeds.specs.raft_proposer.Joint.{u64_max}
use Rattle.proof_deeds.specs.raft_store.declared.entry.Entry.{Entry}
use Rattle.proof_deeds.specs.raft_store.declared.entry.Payload.TheVariants as payload
use Rattle.proof_deeds.specs.raft_store.declared.entry.Value.{Value}
use Rattle.proof_deeds.specs.raft_store.Entries.{entry_meaning}
use Rattle.proof_deeds.specs.raft_store.Types.{WorldStore}
use Rattle.proof_deeds.specs.raft_schedule.declared.event.Event.{Event}
use Rattle.proof_deeds.specs.raft_calls.LeaderCalls.{value_entry}
use Rattle.proof_deeds.specs.raft_node.declared.given.Given.{Given}
use Rattle.proof_deeds.specs.raft_node.Net.{Net, NodeView}
use Rattle.proof_deeds.specs.raft_node.Runs.{world_after}
use Rattle.proof_deeds.specs.raft_node.WellFormed.{IsWellFormed}
use Rattle.proof_progress.specs.CatchUps.{HasCaughtUp, CanServe, log_len}
use Rattle.proof_progress.specs.Continuations.{At, propose}
use Rattle.proof_progress.specs.Elections.{Listed, log_end}
use Rattle.proof_progress.specs.Exchanges.{FollowsAt, HasNumbers, LeadsAt, LeadsOn, MayTake, led}
use Rattle.proof_progress.specs.Plans.{bring_all, replicate, world_then}
use Rattle.proof_progress.specs.Proposals.{EachOnce, IsVoter, Proposes, id_past}
use Rattle.proof_progress.specs.Replication.{IsAsked}

-- something is in flight to a node, whose log isn't known to match
pub record IsBehind {net : Net (List Entry)} {now n : ℕ} (l : LeadsAt net now n) (t : ℕ) : Type 0 where
  pub asked : IsAsked nat_cmp t (led l)
  pub behind : asked.entry.matching ≢ last l.engine.machine.core.state.ids

-- a node of a leader's table, whose vote isn't above the leader's, with so many numbers left; it needs no snapshot: it has committed
-- what the leader is to purge, and the leader's search doesn't end below that
pub record CanCatchUp {net : Net (List Entry)} {now n : ℕ} (l : LeadsAt net now n) (k t : ℕ) : Type 0 where
  pub row : ProgressEntry ℕ
  pub has : get nat_cmp l.leader.progress t ≡ Some row
  pub searched : next l.engine.machine.core.state.purge_to ≤ row.searching_end
  pub takes : MayTake net now l.leader.vote k t
  pub reaches : next l.engine.machine.core.state.purge_to ≤ next takes.engine.machine.core.state.committed

-- an entry at the index of one of some values, of which the first is at this index, has the value
abbrev pub HasValueAt : ℕ → List Value → ℕ × Entry → Type 0
HasValueAt first values p = (i : ℕ) (x : Value) → p.0 ≡ first + i → slice_get values i ≡ Some x → p.1.payload ≡ payload.Value x

-- a store's entries have so; its snapshot ends below them
pub record HoldsValues (t : WorldStore) (first : ℕ) (values : List Value) : Type 0 where
  pub snap : length t.snap ≤ first
  pub log : AllByRecursion (HasValueAt first values) t.log

-- the entries that a state machine has executed have values, in order, from an index on
abbrev pub HasValues : List Entry → ℕ → List Value → Type 0
HasValues applied first [] = Unit {0}
HasValues applied first (x ∷ values) = ((e : Entry) × (slice_get applied first ≡ Some e) × (e.payload ≡ payload.Value x)) × HasValues applied (first + 1) values

-- after these events the leader has proposed values, and each node of its table is sent them, or was being sent something before;
-- all others are as they were
pub record ProposedAfter (given : Given) (past : List Event) (now n k : ℕ) (l : LeadsAt (world_after given past) now n) (v : Value) (vs : List Value) (all : List Event) : Type 0 where
  pub leads : LeadsAt (world_after given all) now n
  pub config : leads.engine.config ≡ l.engine.config
  pub numbers : HasNumbers k leads.engine.machine
  pub on : LeadsOn l leads
  pub proposes : Proposes nat_cmp entry_meaning l.engine.config (value_entry v) (map value_entry vs) (led l) (led leads)
  pub stored : HoldsValues leads.node.store (log_len l) (v ∷ vs)
  pub sends : (t : ℕ) (e : ProgressEntry ℕ) → t ≢ n → get nat_cmp l.leader.progress t ≡ Some e → (b : IsBehind leads t) × (b.asked.entry.searching_end ≡ e.searching_end)
  pub others : (i : ℕ) (I : NodeView) → i ≢ n → At (world_after given past).nodes i I → At (world_after given all).nodes i I

-- from each reached world in which a node leads, a proposal of values, for which there are indexes, is such events
abbrev pub WorldsPropose : Type 0
WorldsPropose =
    (given : Given) → IsWellFormed given → (past : List Event) (now n k : ℕ) (l : LeadsAt (world_after given past) now n) (v : Value) (vs : List Value) → CanServe l → HasNumbers (k + 2) l.engine.machine
    → log_len l + length (v ∷ vs) ≤ u64_max → ProposedAfter given past now n k l v vs (past ++ propose n (v ∷ vs) now ∷ [])

-- how many numbers are needed to propose so many values and to bring so many nodes up to date, so many being left
abbrev pub needed : {net : Net (List Entry)} {now n : ℕ} → LeadsAt net now n → ℕ → ℕ → ℕ → ℕ
needed l k count nodes = (k + nodes * (4 * (log_len l + count) + 2)) + 2

-- after these events, as planned, the leader has committed the last of the proposed values, and so all; each of these nodes follows, and has
-- accepted the leader's log; other nodes of its table are being sent it, and are as they were
pub record CommitsAfter (given : Given) (past : List Event) (now n k : ℕ) (l : LeadsAt (world_after given past) now n) (v : Value) (vs : List Value) (ts : List ℕ) (all : List Event) : Type 0 where
  pub planned : all
      ≡ past ++ propose n (v ∷ vs) now ∷ bring_all given now n ts (world_then given now (propose n (v ∷ vs) now) (world_after given past))
  pub leads : LeadsAt (world_after given all) now n
  pub config : leads.engine.config ≡ l.engine.config
  pub numbers : HasNumbers k leads.engine.machine
  pub on : LeadsOn l leads
  pub vote : leads.leader.vote ≡ l.leader.vote
  pub serves : CanServe leads
  pub stored : HoldsValues leads.node.store (log_len l) (v ∷ vs)
  pub purge_to : leads.engine.machine.core.state.purge_to ≡ l.engine.machine.core.state.purge_to
  pub end : last leads.engine.machine.core.state.ids ≡ Some (id_past (length vs) (led l))
  pub committed : leads.engine.machine.core.state.committed ≡ Some (id_past (length vs) (led l))
  pub caught : AllByRecursion (HasCaughtUp (world_after given all) now l.leader.vote (Some (id_past (length vs) (led l))) k) ts
  pub behind : (u : ℕ) (e : ProgressEntry ℕ) → u ≢ n → AllByRecursion (λ t. u ≢ t) ts → get nat_cmp l.leader.progress u ≡ Some e → (b : IsBehind leads u) × (b.asked.entry.searching_end ≡ e.searching_end)
  pub others : (i : ℕ) (I : NodeView) → i ≢ n → AllByRecursion (λ t. i ≢ t) ts → At (world_after given past).nodes i I → At (world_after given all).nodes i I

-- From each reached world in which a node leads, and voters that it can bring up to date are with it a quorum of each group, the
-- proposal, and then for each of these voters a failure and at most four deliveries for each entry of the log, are such events
abbrev pub WorldsCommit : Type 0
WorldsCommit =
    (given : Given) → IsWellFormed given → (past : List Event) (now n k : ℕ) (l : LeadsAt (world_after given past) now n) (v : Value) (vs : List Value) (t : ℕ) (ts : List ℕ) → EachOnce (n ∷ t ∷ ts)
    → AllByRecursion (IsVoter (led l)) (n ∷ t ∷ ts) → is_quorum nat_cmp l.leader.progress.set (n ∷ t ∷ ts) ≡ true → CanServe l → log_len l + length (v ∷ vs) ≤ u64_max
    → HasNumbers (needed l k (length (v ∷ vs)) (length (t ∷ ts))) l.engine.machine → AllByRecursion (CanCatchUp l (needed l k (length (v ∷ vs)) (length (t ∷ ts)))) (t ∷ ts)
    → (more : List Event) × (length more ≤ 1 + length (t ∷ ts) * (4 * (log_len l + length (v ∷ vs)) + 1)) × CommitsAfter given past now n k l v vs (t ∷ ts) (past ++ more)

-- Nodes execute what the leader tells them

-- a node follows, and has committed and applied up to an id
pub record HasCommitted (net : Net (List Entry)) (now : ℕ) (v : Vote ℕ) (x : Option (LogId ℕ)) (k t : ℕ) : Type 0 where
  pub follows : FollowsAt net now v k t
  pub committed : is_le (last_id_cmp nat_cmp x follows.engine.machine.core.state.committed) ≡ true
  pub applied : next x ≤ length follows.node.store.applied

-- after these events, as planned, the leader has committed and applied the last of the proposed values, and so all, and so has each of these nodes;
-- what it applied there has the values
pub record ExecutesAfter (given : Given) (past : List Event) (now n k : ℕ) (l : LeadsAt (world_after given past) now n) (v : Value) (vs : List Value) (ts : List ℕ) (all : List Event) : Type 0 where
  pub planned : all ≡ past ++ replicate given now n (v ∷ vs) ts (world_after given past)
  pub leads : LeadsAt (world_after given all) now n
  pub numbers : HasNumbers k leads.engine.machine
  pub end : log_end leads.engine ≡ Some (id_past (length vs) (led l))
  pub committed : leads.engine.machine.core.state.committed ≡ Some (id_past (length vs) (led l))
  pub applied : length leads.node.store.applied ≡ next (Some (id_past (length vs) (led l)))
  pub values : HasValues leads.node.store.applied (log_len l) (v ∷ vs)
  pub each : AllByRecursion (HasCommitted (world_after given all) now l.leader.vote (Some (id_past (length vs) (led l))) k) ts

-- From each such world, with other nodes beside these voters that the leader can bring up to date, all of them its streams' targets:
-- as many events for each of the others, and one delivery more for all of these nodes, leave the values committed at each
abbrev pub WorldsExecute : Type 0
WorldsExecute =
    (given : Given) → IsWellFormed given → (past : List Event) (now n k : ℕ) (l : LeadsAt (world_after given past) now n) (v : Value) (vs : List Value) (t : ℕ) (ts us : List ℕ) → EachOnce (n ∷ t ∷ ts ++ us)
    → AllByRecursion (IsVoter (led l)) (n ∷ t ∷ ts) → is_quorum nat_cmp l.leader.progress.set (n ∷ t ∷ ts) ≡ true → AllByRecursion (Listed l.node.streams.targets) (t ∷ ts ++ us) → CanServe l → log_len l + length (v ∷ vs) ≤ u64_max
    → HasNumbers (needed l (k + 2) (length (v ∷ vs)) (length (t ∷ ts ++ us))) l.engine.machine
    → AllByRecursion (CanCatchUp l (needed l (k + 2) (length (v ∷ vs)) (length (t ∷ ts ++ us)))) (t ∷ ts ++ us)
    → (more : List Event) × (length more ≤ 1 + length (t ∷ ts ++ us) * (4 * (log_len l + length (v ∷ vs)) + 2)) × ExecutesAfter given past now n k l v vs (t ∷ ts ++ us) (past ++ more)

-- From each reached world in which a node leads that is a quorum alone, the proposal alone has the values committed and applied there
abbrev pub WorldsCommitAlone : Type 0
WorldsCommitAlone =
    (given : Given) → IsWellFormed given → (past : List Event) (now n k : ℕ) (l : LeadsAt (world_after given past) now n) (v : Value) (vs : List Value) → IsVoter (led l) n → is_quorum nat_cmp l.leader.progress.set (n ∷ []) ≡ true → CanServe l
    → log_len l + length (v ∷ vs) ≤ u64_max → HasNumbers (k + 2) l.engine.machine → ExecutesAfter given past now n k l v vs [] (past ++ propose n (v ∷ vs) now ∷ [])
