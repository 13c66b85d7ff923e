-- A packed node between two events, and what an act's calls ask of it.
use Rattle.std.specs.Prelude.{◌≡◌, ◌⊎◌, Bool, true, false, Option, Some}
use Rattle.std.specs.Ordering.{nat_cmp}
use Rattle.raft_state.specs.Fits.{fits, is_within}
use Rattle.raft_state.specs.Invariants.{IsSoundState}
use Rattle.raft_store.specs.Types.{EngineView}
use Rattle.raft_node.specs.declared.act.Act.{Act}
use Rattle.raft_node.specs.declared.act.Act.TheVariants.{FinishSnapshot, Restart}
use Rattle.raft_calls.specs.Held.{IsRestingWhereRunning}
use Rattle.proof_packed.specs.Nodes.{PackedNode}
use Rattle.proof_packed.specs.Stores.{Application, Packed, PackedStore, packed_started}
use Rattle.raft_packed_node.specs.declared.error.StepError.{StepError}
use Rattle.raft_packed_node.specs.declared.error.StepError.TheVariants.{OutOfMemory, TooManyEntries}
use Rattle.raft_packed_node.specs.Starts.{packed_state_for}

-- what is noted for a snapshot ends with an id that the engine's log holds and that is committed
pub record PackedNoteFits {S : Type 0} (e : EngineView) (p : Packed S) : Type 0 where
  pub fit : fits nat_cmp e.machine.core.state.ids e.machine.core.state.purged p.last_id ≡ true
  pub committed : is_within nat_cmp p.last_id e.machine.core.state.committed ≡ true

-- the same of a node's parts, if it runs and something is noted
abbrev pub PackedNotedFits : {S : Type 0} → Option EngineView → Option (Packed S) → Type 0
PackedNotedFits {S = S} engine noted = (e : EngineView) (p : Packed S) → engine ≡ Some e → noted ≡ Some p → PackedNoteFits e p

-- an act starts the node
abbrev pub is_start : Act → Bool
is_start (Restart start) = true
is_start _ = false

module _ {S : Type 0} (app : Application S) where
  -- what an act's calls ask of a node's parts: the end of a build, that the note fits; a start, that its state is sound
  abbrev pub PackedMayCallOn : Act → Option EngineView → Option (Packed S) → PackedStore S → Type 0
  PackedMayCallOn FinishSnapshot engine noted t = PackedNotedFits engine noted
  PackedMayCallOn (Restart start) engine noted t = IsSoundState nat_cmp (packed_state_for app start t)
  PackedMayCallOn _ engine noted t = Unit {0}

  -- what they ask of a node, beside rest
  abbrev pub PackedMayCall : Act → PackedNode S → Type 0
  PackedMayCall act n = PackedMayCallOn act n.engine n.noted n.store

  -- a node between two events: its engine is at rest, its note fits it, and its store gives a start a sound state
  pub record IsPackedAtRest (n : PackedNode S) : Type 0 where
    pub resting : IsRestingWhereRunning n.engine
    pub noted : PackedNotedFits n.engine n.noted
    pub starts : (saved : Bool) → IsSoundState nat_cmp (packed_started app saved n.store)

-- a step failed because memory or numbers ran out
abbrev pub RunsOut : StepError → Type 0
RunsOut e = (e ≡ OutOfMemory) ⊎ (e ≡ TooManyEntries)
