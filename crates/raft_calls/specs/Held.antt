-- A node's engine between any two commands: it is sound, and holds what its queued commands will store.
use Rattle.std.specs.Prelude.{ℕ, ◌≡◌, true, List, [], ◌∷◌, Option, None, Some, Contains}
use Rattle.std.specs.Ordering.{nat_cmp}
use Rattle.raft_state.specs.declared.ids.LogId.{LogId}
use Rattle.raft_state.specs.Fits.{fits, is_within}
use Rattle.raft_steps.specs.Invariants.{IsSound}
use Rattle.raft_store.specs.declared.entry.Entry.{Entry}
use Rattle.raft_store.specs.Built.{meta_of}
use Rattle.raft_store.specs.Entries.{entry_meaning}
use Rattle.raft_store.specs.Types.{WorldCommand, EngineView}
use Rattle.raft_calls.specs.declared.feed.Feed.{Feed}
use Rattle.raft_calls.specs.declared.feed.Feed.TheVariants.{Saved, Stored, Nothing}
use Rattle.raft_calls.specs.Feeds.{feed_of}

-- the id that is fed back is one of these
abbrev pub Held : List (LogId ℕ) → Feed → Type 0
Held ids (Stored v (Some x)) = Contains ids x
Held ids (Stored v None) = Unit {0}
Held ids (Saved v) = Unit {0}
Held ids Nothing = Unit {0}

abbrev pub AllHeld : List (LogId ℕ) → List WorldCommand → Type 0
AllHeld ids [] = Unit {0}
AllHeld ids (c ∷ cs) = Held ids (feed_of c) × AllHeld ids cs

-- the engine meets its invariants, and its log has the ids of the entries that its queued commands will store
pub record IsReady (e : EngineView) : Type 0 where
  pub sound : IsSound nat_cmp e.config e.machine
  pub held : AllHeld e.machine.core.state.ids e.machine.core.output.items

abbrev pub IsReadyWhereRunning : Option EngineView → Type 0
IsReadyWhereRunning None = Unit {0}
IsReadyWhereRunning (Some e) = IsReady e

-- between two events: the engine is ready, and nothing is queued
pub record IsResting (e : EngineView) : Type 0 where
  pub ready : IsReady e
  pub queue : e.machine.core.output.items ≡ []

abbrev pub IsRestingWhereRunning : Option EngineView → Type 0
IsRestingWhereRunning None = Unit {0}
IsRestingWhereRunning (Some e) = IsResting e

-- what is noted for a snapshot ends with an id that the engine's log holds and that is committed
pub record NoteFits (e : EngineView) (es : List Entry) : Type 0 where
  pub fit : fits nat_cmp e.machine.core.state.ids e.machine.core.state.purged (meta_of entry_meaning es).last_log_id ≡ true
  pub committed : is_within nat_cmp (meta_of entry_meaning es).last_log_id e.machine.core.state.committed ≡ true
