use Rattle.raft_store.proofs.Memberships.{found, one_more, none_more, no_membership}
use Rattle.raft_store.proofs.built.last_membership.Goals as goal
use Rattle.raft_store.proofs.built.last_membership.Goals.{in-Membership, in_default}

pub loop-entry-preserved : goal.loop-entry-preserved
loop-entry-preserved c =
    elim c.match-entry.branch [
      | in-Membership w ↦ rw w.last-is (one_more c.args.entries.now c.loop-entry.entry-index c.entry-item.result w.in-Membership.membership c.loop-entry-test.true c.entry-item.is w.in-Membership.is)
      | in_default w ↦ rw w.last-is
          (none_more c.args.entries.now c.loop-entry.entry-index c.entry-item.result (found c.loop-entry.last) c.loop-entry-test.true c.entry-item.is
          (no_membership c.entry-item.result.payload w.in_default.not-Membership)
          c.loop-entry.invariant)
    ]
