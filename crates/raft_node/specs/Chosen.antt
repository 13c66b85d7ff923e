-- What leaders count (Raft paper, sections 5.3, 5.4.2 and 6): acknowledgements, and the entries that a leader has
-- chosen.
use Rattle.std.specs.Prelude.{ℕ, ◌+◌, ◌≡◌, ◌⊎◌, All, true, List, Contains, take, Some}
use Rattle.std.specs.declared.cmp.Ordering.TheVariants.{Less}
use Rattle.std.specs.Ordering.{is_le, nat_cmp}
use Rattle.raft_state.specs.declared.ids.LeaderId.{LeaderId}
use Rattle.raft_state.specs.declared.ids.LogId.{LogId}
use Rattle.raft_state.specs.declared.membership.Members.{Members}
use Rattle.raft_state.specs.Order.{leader_id_cmp, log_id_cmp}
use Rattle.raft_progress.specs.Quorum.{is_quorum}
use Rattle.raft_command.specs.declared.message.AppendEntriesResponse.TheVariants.{Success}
use Rattle.raft_steps.specs.FollowingHandler.{memberships_in}
use Rattle.raft_store.specs.declared.entry.Entry.{Entry}
use Rattle.raft_store.specs.Entries.{entry_meaning}
use Rattle.raft_store.specs.Mirror.{last_two}
use Rattle.raft_store.specs.Store.{holds, whole, whole_upto}
use Rattle.raft_store.specs.Types.{WorldStore}
use Rattle.raft_schedule.specs.declared.event.Event.{Event}
use Rattle.raft_node.specs.declared.given.Given.{Given}
use Rattle.raft_calls.specs.declared.message.Body.{Body}
use Rattle.raft_calls.specs.declared.message.Body.TheVariants.{AppendReply, SnapshotReply}
use Rattle.raft_calls.specs.declared.message.Message.{Message}
use Rattle.raft_node.specs.declared.record.Decided.{Decided}
use Rattle.raft_node.specs.declared.record.Established.{Established}
use Rattle.raft_node.specs.Net.{NodeView, node_at}
use Rattle.raft_node.specs.Runs.{moment, world_after}

-- a reply to a request under leader id d acknowledges x: a success up to there, or a snapshot that was taken under the
-- request's vote
abbrev pub Acknowledges : Body → LeaderId ℕ → LogId ℕ → Type 0
Acknowledges (AppendReply o reply prev upto) d x = (o.session_id.vote.leader_id ≡ d) × (reply ≡ Success) × (upto ≡ Some x)
Acknowledges (SnapshotReply o reply upto) d x = (o.session_id.vote.leader_id ≡ d) × (reply.vote ≡ o.session_id.vote) × (upto ≡ Some x)
Acknowledges _ d x = ⊥

-- node n has acknowledged x to leader d: a reply in the bag acknowledges x, or an id above it
pub record AcknowledgedUpTo (bag : List Message) (n : ℕ) (d : LeaderId ℕ) (x : LogId ℕ) : Type 0 where
  pub message : Message
  pub sent : Contains bag message
  pub from : message.from ≡ n
  pub upto : LogId ℕ
  pub reaches : is_le (log_id_cmp nat_cmp x upto) ≡ true
  pub acknowledges : Acknowledges message.body d upto

-- the effective membership of a store: the last one in its whole log, committed or not
abbrev pub effective_in : WorldStore → Members ℕ (Unit {0})
effective_in u = (last_two (memberships_in entry_meaning (whole u))).1.membership

-- Entry x is chosen by leader d, who wrote it: at a moment of the run, after so many events and so many commands of the
-- next one, d's node had stored d's committed vote and held x in its whole log; and a quorum of the membership that was
-- effective there then consists of that node, and of nodes that have acknowledged x to d at any time.
pub record ChosenAt (given : Given) (es : List Event) (d : LeaderId ℕ) (x : LogId ℕ) : Type 0 where
  pub events : ℕ
  pub commands : ℕ
  pub node : NodeView
  pub is : node_at (moment given es events commands).nodes d.node_id ≡ Some node
  pub vote : node.store.vote ≡ record { leader_id = d; committed = true }
  pub own : x.leader_id ≡ d
  pub holds_it : holds nat_cmp entry_meaning node.store x ≡ true
  pub nodes : List ℕ
  pub quorum : is_quorum nat_cmp (effective_in node.store).groups nodes ≡ true
  pub each : All (λ n. (n ≡ d.node_id) ⊎ AcknowledgedUpTo (world_after given es).records.bag n d x) nodes

-- each leader that is ever established under a greater id begins with the log that d's node had up to the chosen entry
abbrev pub KeepsChosen : Given → List Event → Type 0
KeepsChosen given es =
    (d : LeaderId ℕ) (x : LogId ℕ) (c : ChosenAt given es d x) (l : Established (List Entry)) → Contains (world_after given es).records.established l
    → leader_id_cmp nat_cmp d l.leader_id ≡ Less → take (x.index + 1) l.log ≡ whole_upto c.node.store x.index

-- each id that is recorded as decided was chosen by the leader that decided it (Raft paper, section 5.3: an entry is
-- committed once its leader has replicated it on a majority)
abbrev pub DecidedAreChosen : Given → List Event → Type 0
DecidedAreChosen given es = (r : Decided (List Entry)) → Contains (world_after given es).records.decided r → ChosenAt given es r.leader_id r.log_id
