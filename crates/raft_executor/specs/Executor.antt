-- What executing entries makes of a state machine.
use Rattle.std.specs.Prelude.{ℕ, List, Option, Some, None, fold}
use Rattle.raft_machine.specs.Machine.{State}
use Rattle.raft_machine.specs.declared.machine.Outcome.{Outcome}
use Rattle.raft_state.specs.declared.ids.LogId.{LogId}
use Rattle.raft_state.specs.declared.membership.Members.{Members}
use Rattle.raft_state.specs.declared.membership.StoredMembership.{StoredMembership}
use Rattle.raft_store.specs.Entries.{members_of}
use Rattle.raft_store.specs.declared.entry.Entry.{Entry}
use Rattle.raft_packed.specs.proof_packed_stores.Stores.{Packed}
use Rattle.raft_executor.specs.KeyValue.{application, ran, request_in}
use Rattle.raft_executor.specs.declared.executor.Executor.{Executor}

-- a state, what the request of the last entry came to if that isn't taken yet, the id of that entry, and the members of the last that has some
pub record Executed : Type 0 where
  pub state : State
  pub outcome : Option Outcome
  pub applied : Option (LogId ℕ)
  pub members : Option (Members ℕ (Unit {0}))

abbrev pub executed_of : Executor → Executed
executed_of x = record { state = x.machine; outcome = x.outcome; applied = x.applied; members = x.members }

-- nothing was executed
abbrev pub begun : Executed
begun = record { state = application.first; outcome = None; applied = None; members = None }

abbrev pub latest : {X : Type 0} → Option X → Option X → Option X
latest (Some x) before = Some x
latest None before = before

-- an entry
abbrev pub executed : Executed → Entry → Executed
executed x e =
    let after = ran x.state (request_in e.payload) in
    record { state = after.0; outcome = after.1; applied = Some e.log_id; members = latest (members_of e.payload) x.members }

-- entries, in order
abbrev pub executed_all : Executed → List Entry → Executed
executed_all x es = fold executed x es

abbrev pub without_outcome : Executed → Executed
without_outcome x = record x { outcome = None }

-- ---- a snapshot

-- the members of the last entry that has some, if one has
abbrev pub held : StoredMembership ℕ (Unit {0}) → Option (Members ℕ (Unit {0}))
held m = elim m.log_id [ None ↦ None | Some id ↦ Some m.membership ]

-- it is what its entries left, but for what the last request came to
abbrev pub installed : Packed State → Executed
installed p = record { state = p.state; outcome = None; applied = p.last_id; members = held p.effective }
