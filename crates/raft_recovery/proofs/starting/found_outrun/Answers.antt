use Rattle.std.proofs.Common.{ℕ, ◌∙◌, ap}
use Rattle.raft_state.specs.declared.membership.SnapshotMeta.{SnapshotMeta}
use Rattle.raft_store.specs.Built.{last_membership}
use Rattle.raft_store.specs.Entries.{entry_meaning}
use Rattle.raft_recovery.proofs.Starts.{found_snapshot}
use Rattle.raft_recovery.proofs.starting.found_outrun.Goals as goal

pub returns : goal.returns
returns c =
    found_snapshot c.args.store.now c.args.last c.in_ok-meta.meta.last_membership.membership c.requires.last c.requires.fit
    (ap (λ (m : SnapshotMeta ℕ (Unit {0})). m.last_membership.membership) c.in_ok-meta.ensures
    ∙ ap (λ es. (last_membership entry_meaning es).membership) (c.deref.ensures.value ∙ c.in_ok-snapshot.ensures))
