-- When what a node does can be recorded, and its store can take its next command. Records can keep the whole logs of leaders
-- if the store that has one is without a gap, and if what is recorded of one leader only grows (Raft paper, section 5.3).
use Rattle.std.specs.Prelude.{ℕ, List, [], ◌∷◌, Option, None, Some, Contains}
use Rattle.raft_store.specs.declared.entry.Entry.{Entry}
use Rattle.raft_store.specs.Entries.{entry_meaning}
use Rattle.raft_store.specs.Mirror.{IsGapless}
use Rattle.raft_store.specs.Ring.{CanStore}
use Rattle.raft_store.specs.Types.{EngineView, WorldCommand, WorldStore}
use Rattle.raft_schedule.specs.declared.event.Event.{Event}
use Rattle.raft_node.specs.declared.act.Act.{Act}
use Rattle.raft_node.specs.declared.given.Given.{Given}
use Rattle.raft_node.specs.declared.node.Turn.{Turn}
use Rattle.raft_node.specs.Events.{Scene, happens, played}
use Rattle.raft_node.specs.Net.{Net, NodeView, Records}
use Rattle.raft_node.specs.Runs.{whole_logs}
use Rattle.raft_node.specs.Safety.{AppendsOnly, RecordsGrow}
use Rattle.raft_node.specs.Work.{Work, worked}

-- a store can take the first of some commands
abbrev pub CanStoreFirst : WorldStore → List WorldCommand → Type 0
CanStoreFirst t [] = Unit {0}
CanStoreFirst t (c ∷ cs) = CanStore c t

-- a store can take the command that its engine has queued first
abbrev pub CanStoreNext : Option EngineView → WorldStore → Type 0
CanStoreNext None t = Unit {0}
CanStoreNext (Some e) t = CanStoreFirst t e.machine.core.output.items

-- a node's store has no gap and can take the command that is queued first, and what is recorded of a leader's log only
-- grows
pub record MayKeep (engine : Option EngineView) (store : WorldStore) (records : Records (List Entry)) : Type 0 where
  pub gapless : IsGapless entry_meaning store
  pub grows : RecordsGrow records
  pub next : CanStoreNext engine store

-- after any number of a node's commands
abbrev pub KeepsAlong : Turn → Work (List Entry) → Type 0
KeepsAlong t w = (n : ℕ) → MayKeep (worked whole_logs n t w).engine (worked whole_logs n t w).effects.store (worked whole_logs n t w).effects.records

-- after any number of an event's commands, at its node
abbrev pub KeepsThrough : Given → Act → Event → Scene (List Entry) → Type 0
KeepsThrough given act event s =
    (n : ℕ) → MayKeep (played whole_logs (λ _. n) given act event s).1.node.engine (played whole_logs (λ _. n) given act event s).1.node.store (played whole_logs (λ _. n) given act event s).1.records

-- the same of every node of a world
pub record AllMayKeep (net : Net (List Entry)) : Type 0 where
  pub gapless : (n : NodeView) → Contains net.nodes n → IsGapless entry_meaning n.store
  pub grows : AppendsOnly net
  pub next : (n : NodeView) → Contains net.nodes n → CanStoreNext n.engine n.store

abbrev pub KeepsDuring : Given → Event → Net (List Entry) → Type 0
KeepsDuring given event net = (n : ℕ) → AllMayKeep (happens whole_logs (λ _. n) given event net).1
