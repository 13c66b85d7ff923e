-- When an ideal world follows a whole world, between two events.
use Rattle.std.specs.Prelude.{◌≡◌, ◌≢◌, ◌<◌, List, [], ◌∷◌, IfSome}
use Rattle.std.specs.List.{AllByRecursion}
use Rattle.std.specs.Ordering.{nat_cmp}
use Rattle.raft_node.specs.raft_steps.Invariants.{IsSound}
use Rattle.proof_agreement.specs.Machine.{Setup}
use Rattle.raft_node.specs.raft_store.declared.entry.Entry.{Entry}
use Rattle.raft_node.specs.raft_store.Entries.{entry_meaning}
use Rattle.raft_node.specs.raft_store.Types.{EngineView}
use Rattle.proof_mirror.specs.Ready.{Shaped, Ordered, InStep}
use Rattle.raft_node.specs.Execute.{effects}
use Rattle.raft_node.specs.Net.{NodeView, Records, Net}
use Rattle.proof_deeds.specs.Chains.{Reached}
use Rattle.proof_deeds.specs.Follows.{StoreIs, RecordsAre, RestIs}
use Rattle.proof_deeds.specs.Images.{Ideal}
use Rattle.proof_deeds.specs.Knows.{Knows}

module _ (s : Setup Entry) where
  -- a running engine: under its node's id, sound, with nothing queued, in step with the store, and what it knows is so
  pub record EngineFollows (n : NodeView) (W : Ideal) (e : EngineView) : Type 0 where
    pub id : e.config.id ≡ n.id
    pub sound : IsSound nat_cmp e.config e.machine
    pub queue : e.machine.core.output.items ≡ []
    pub in_step : InStep entry_meaning n.store e.machine.core.state
    pub knows : Knows s n.id e.machine W

  -- a node: its store is the ideal one, shaped and in order; so are its streams and its note, and the engine where it
  -- runs
  pub record NodeFollows (W : Ideal) (r : Records (List Entry)) (n : NodeView) : Type 0 where
    pub node : n.id < 18446744073709551616
    pub store : StoreIs s n.store (W.store n.id)
    pub shaped : Shaped entry_meaning n.store
    pub ordered : Ordered nat_cmp entry_meaning n.store
    pub rest : RestIs s n.id (effects n.store n.streams n.noted r) W
    pub engine : IfSome n.engine (EngineFollows n W)

  -- ids of nodes, each once
  abbrev pub AllApart : List NodeView → Type 0
  AllApart [] = Unit {0}
  AllApart (n ∷ ns) = AllByRecursion (λ m. m.id ≢ n.id) ns × AllApart ns

  -- an ideal world that came of the empty one, and in which all is so
  pub record NetFollows (net : Net (List Entry)) (W : Ideal) : Type 0 where
    pub reached : Reached s W
    pub apart : AllApart net.nodes
    pub nodes : AllByRecursion (NodeFollows W net.records) net.nodes
    pub records : RecordsAre s net.records W
