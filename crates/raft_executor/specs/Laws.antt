-- What is promised of executing entries.
use Rattle.std.specs.Prelude.{◌≡◌, List, ◌++◌}
use Rattle.raft_store.specs.declared.entry.Entry.{Entry}
use Rattle.raft_packed.specs.proof_packed_stores.Stores.{packed}
use Rattle.raft_executor.specs.Executor.{Executed, begun, executed_all, installed, without_outcome}
use Rattle.raft_executor.specs.KeyValue.{application}

abbrev pub ExecutingGoesOn : Type 0
ExecutingGoesOn = (x : Executed) (es fs : List Entry) → executed_all x (es ++ fs) ≡ executed_all (executed_all x es) fs

abbrev pub SnapshotsAreWhatWasExecuted : Type 0
SnapshotsAreWhatWasExecuted = (es : List Entry) → installed (packed application es) ≡ without_outcome (executed_all begun es)
