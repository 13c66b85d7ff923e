-- A node between two events, and what an act's calls ask of it.
use Rattle.std.specs.Prelude.{◌≡◌, Bool, List, Option, Some, All}
use Rattle.std.specs.Ordering.{nat_cmp}
use Rattle.raft_state.specs.Invariants.{IsSoundState}
use Rattle.raft_store.specs.declared.entry.Entry.{Entry}
use Rattle.raft_store.specs.Entries.{entry_meaning}
use Rattle.raft_store.specs.Restart.{started}
use Rattle.raft_store.specs.Types.{EngineView, WorldStore}
use Rattle.raft_node.specs.declared.act.Act.{Act}
use Rattle.raft_node.specs.declared.act.Act.TheVariants.{FinishSnapshot, Restart}
use Rattle.raft_node.specs.Net.{NodeView}
use Rattle.raft_node.specs.Starts.{state_for}
use Rattle.raft_calls.specs.Held.{IsRestingWhereRunning, NoteFits}

-- what is noted for a snapshot, if the node runs and something is, fits its engine
abbrev pub NotedFits : Option EngineView → Option (List Entry) → Type 0
NotedFits engine noted = (e : EngineView) (es : List Entry) → engine ≡ Some e → noted ≡ Some es → NoteFits e es

-- what an act's calls ask of a node's parts: the end of a build, that the note fits; a start, that its state is sound
abbrev pub MayCallOn : Act → Option EngineView → Option (List Entry) → WorldStore → Type 0
MayCallOn FinishSnapshot engine noted t = NotedFits engine noted
MayCallOn (Restart start) engine noted t = IsSoundState nat_cmp (state_for start t)
MayCallOn _ engine noted t = Unit {0}

-- what they ask of a node, beside rest
abbrev pub MayCall : Act → NodeView → Type 0
MayCall act n = MayCallOn act n.engine n.noted n.store

-- a node between two events: its engine is at rest, its note fits it, and its store gives a start a sound state
pub record IsAtRest (n : NodeView) : Type 0 where
  pub resting : IsRestingWhereRunning n.engine
  pub noted : NotedFits n.engine n.noted
  pub starts : (saved : Bool) → IsSoundState nat_cmp (started nat_cmp entry_meaning saved n.store)

-- all nodes between two events
abbrev pub AllResting : List NodeView → Type 0
AllResting nodes = All IsAtRest nodes
