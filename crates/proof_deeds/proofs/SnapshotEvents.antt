-- The laws of calls for snapshots and purges at an event.
use Rattle.std.proofs.Common.{ℕ}
use Rattle.raft_node.specs.raft_state.declared.membership.Members.{Members}
use Rattle.raft_node.specs.raft_calls.Deliveries.{reply_token}
use Rattle.proof_deeds.specs.Images.{setup_of}
use Rattle.proof_deeds.proofs.AppendFitting.{Settled}
use Rattle.proof_deeds.proofs.Calls.{ByInstall, ByPurge, ByTrigger, PlainInstall}
use Rattle.proof_deeds.proofs.InstallPlain.{install_plain}
use Rattle.proof_deeds.proofs.Laws.{unread}
use Rattle.proof_deeds.proofs.SnapshotSettles.{install_settles, purge_to_keeps, trigger_keeps}
use Rattle.proof_deeds.proofs.SnapshotsDone.{snapshots_done}

module _ (first : Members ℕ (Unit {0})) where
  pub install_law : ByInstall first (Settled (setup_of first))
  install_law t config u W m h empty msg o snapshot d is asks x = (
    (snapshots_done first).by_install config t u W t.moment reply_token m msg o snapshot h (unread m.core.output.items empty) d is asks,
    install_settles first t config u W msg o snapshot d is m t.moment reply_token h empty asks x,
  )

  pub install_plain_law : PlainInstall first (Settled (setup_of first))
  install_plain_law t config u W m h msg o snapshot d is x = install_plain first t config u W msg o snapshot d is m h x

  pub trigger_law : ByTrigger first (Settled (setup_of first))
  trigger_law t config u W m h x = ((snapshots_done first).by_trigger config t u W m h, trigger_keeps (setup_of first) W m.core x)

  pub purge_law : ByPurge first (Settled (setup_of first))
  purge_law t config u W m h i x = ((snapshots_done first).by_purge config t u W i m h, purge_to_keeps (setup_of first) W i m x)
