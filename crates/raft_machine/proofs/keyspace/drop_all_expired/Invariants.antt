use Rattle.std.proofs.Common.{◌≡◌}
use Rattle.std.specs.BTreeSet.{btree_set_len}
use Rattle.raft_machine.specs.Space.{alive, AreNoted}
use Rattle.raft_machine.proofs.keyspace.drop_all_expired.Given as goal

abbrev pub invariant-loop-deadlines : goal.invariant-loop-deadlines
invariant-loop-deadlines l = record {
  noted : AreNoted l.table l.deadlines;
  alive : alive l.now l.table ≡ alive l.now l.initial.table;
}

abbrev pub decreases-loop-deadlines : goal.decreases-loop-deadlines
decreases-loop-deadlines l = btree_set_len l.deadlines
