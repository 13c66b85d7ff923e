-- What an engine knows of the ideal world that its queued commands leave, and the condition under which its calls keep
-- that.
use Rattle.std.specs.Prelude.{ℕ, ◌≡◌, ◌<◌, ◌⊎◌, true, false, Option, None, Some, IfSome, drop}
use Rattle.std.specs.List.{AllByRecursion}
use Rattle.std.specs.Ordering.{nat_cmp}
use Rattle.raft_node.specs.raft_state.declared.state.RaftState.{RaftState}
use Rattle.raft_node.specs.raft_state.State.{accepted}
use Rattle.raft_node.specs.raft_progress_entry.declared.entry.ProgressEntry.{ProgressEntry}
use Rattle.raft_node.specs.raft_command.declared.config.EngineConfig.{EngineConfig}
use Rattle.raft_node.specs.raft_steps.Invariants.{IsSound}
use Rattle.proof_agreement.specs.Machine.{Setup, Includes}
use Rattle.proof_agreement.specs.Stores.{Append, DecidedCommit, Store, VoteGranted, whole}
use Rattle.proof_agreement.specs.Deeds.{HasAccepted, MayAccept, Reaches}
use Rattle.raft_node.specs.raft_store.declared.entry.Entry.{Entry}
use Rattle.raft_node.specs.raft_store.Entries.{entry_meaning}
use Rattle.raft_node.specs.raft_store.Types.{WorldStore, WorldMachine, WorldLeader, WorldCandidate}
use Rattle.proof_mirror.specs.Ready.{PendingIn, Ordered}
use Rattle.raft_node.specs.declared.node.Turn.{Turn}
use Rattle.raft_node.specs.raft_calls.declared.message.Message.{Message}
use Rattle.proof_deeds.specs.Chains.{Carried, Does, Reached}
use Rattle.proof_deeds.specs.Follows.{MessageIs}
use Rattle.proof_deeds.specs.Images.{Ideal, number}

-- where the stored entries reach the snapshot's end, they are the whole log from the front on
abbrev pub Joined : {A : Type 0} → Store A → Type 0
Joined S = Reaches S → drop S.front (whole S) ≡ S.entries

-- this is so in each world that comes of the empty one
abbrev pub AllJoined : Setup Entry → Type 0
AllJoined s = (W : Ideal) (n : ℕ) → Reached s W → Joined (W.store n)

-- the last id that was accepted of the vote's leader is held and named by a request of that leader, or is committed
abbrev pub KnowsAccepted : Setup Entry → ℕ → RaftState ℕ (Unit {0}) → Ideal → Type 0
KnowsAccepted s n st W = IfSome (accepted nat_cmp st) (λ x. ((r : Append Entry) × MayAccept s W n r x.index (number x.leader_id)) ⊎ (x.index < (W.store n).committed))

-- who counts as granting a candidate's vote is the node itself, or has said so, and without grants there is none
pub record KnowsGrants (n : ℕ) (c : WorldCandidate) (W : Ideal) : Type 0 where
  pub positive : 0 < number c.vote.leader_id
  pub ungranted : c.progress.default ≡ false
  pub rows : AllByRecursion (λ row. row.1 ≡ true → (row.0 ≡ n) ⊎ Includes W.messages (VoteGranted row.0 (number c.vote.leader_id))) c.progress.rows

-- what matches of a target is the node's own, or the target has accepted it
abbrev pub KnowsMatch : ℕ → ℕ → Ideal → ℕ × ProgressEntry ℕ → Type 0
KnowsMatch n d W row = IfSome row.1.matching (λ x. (row.0 ≡ n) ⊎ HasAccepted W row.0 d x.index)

-- what leaders of smaller ids decide, in this world and in all that come of it, stands below an index
abbrev pub StaysAbove : Setup Entry → Ideal → ℕ → ℕ → Type 0
StaysAbove s W d i = (V : Ideal) → Does s W V → (c : DecidedCommit Entry) → Includes V.decided c → c.leader < d → c.index < i

-- a leader's vote is the state's, its streams are of it, what it knows of its targets was accepted, and its no-op entry
-- stands above all that leaders of smaller ids ever decide
pub record KnowsLed (s : Setup Entry) (n : ℕ) (st : RaftState ℕ (Unit {0})) (l : WorldLeader) (W : Ideal) : Type 0 where
  pub vote : l.vote ≡ st.vote
  pub session : (W.store n).session.leader ≡ (W.store n).vote
  pub rows : AllByRecursion (KnowsMatch n (number l.vote.leader_id) W) l.progress.rows
  pub above : StaysAbove s W (number l.vote.leader_id) l.noop_log_id.index

-- no candidate stands beside a leader
abbrev pub Alone : Option WorldLeader → Option WorldCandidate → Type 0
Alone None c = Unit {0}
Alone (Some l) c = c ≡ None

pub record Knows (s : Setup Entry) (n : ℕ) (m : WorldMachine) (W : Ideal) : Type 0 where
  pub state : KnowsAccepted s n m.core.state W
  pub leader : IfSome m.leader (λ l. KnowsLed s n m.core.state l W)
  pub candidate : IfSome m.candidate (λ c. KnowsGrants n c W)
  pub alone : Alone m.leader m.candidate

-- the message that is delivered in a turn: it is for this node, and what it says was said in the ideal world
pub record Delivered (s : Setup Entry) (t : Turn) (W : Ideal) (m : Message) : Type 0 where
  pub request : t.request ≡ Some m
  pub here : m.to ≡ t.id
  pub is : MessageIs s W m

module _ (s : Setup Entry) (t : Turn) where
  -- an engine's queue is carried to what the engine knows
  abbrev pub CarriedIn : WorldStore → Ideal → WorldMachine → Type 0
  CarriedIn u W m = Carried s t m.core.state.vote.leader_id u W m.core.output.items (Knows s t.id m)

  -- A node of the world between two calls of one turn: its store u now, its ideal world W now, and its engine. The
  -- node's id is a u64; the queue is pending and carried, the store in order, the engine sound, and W came of the empty
  -- world.
  pub record Stands (config : EngineConfig ℕ) (u : WorldStore) (W : Ideal) (m : WorldMachine) : Type 0 where
    pub id : config.id ≡ t.id
    pub node : t.id < 18446744073709551616
    pub reached : Reached s W
    pub ordered : Ordered nat_cmp entry_meaning u
    pub sound : IsSound nat_cmp config m
    pub pending : PendingIn nat_cmp entry_meaning (λ es. es) u m
    pub carried : CarriedIn u W m
