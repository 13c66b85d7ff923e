use Rattle.std.proofs.Common.{◌≡◌, fold}
use Rattle.raft_store.specs.Entries.{entry_meaning}
use Rattle.raft_store.specs.Store.{put}
use Rattle.raft_packed.proofs.log.insert_all.Given as goal

abbrev pub invariant-loop-entry : goal.invariant-loop-entry
invariant-loop-entry l = l.log.entries ≡ fold (put entry_meaning) l.initial.log.entries l.yielded
