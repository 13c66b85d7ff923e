-- The laws of snapshots, purges and starts, of a node that stands.
use Rattle.std.proofs.Common.{ℕ, ◌<◌, ◌≡◌, ◌∙◌, ap, sym, Bool}
use Rattle.std.specs.Ordering.{nat_cmp}
use Rattle.raft_node.specs.raft_state.declared.membership.Members.{Members}
use Rattle.raft_node.specs.raft_command.declared.config.EngineConfig.{EngineConfig}
use Rattle.raft_node.specs.raft_store.Entries.{entry_meaning}
use Rattle.raft_node.specs.raft_store.Types.{WorldStore}
use Rattle.proof_mirror.specs.Ready.{Ordered, Shaped}
use Rattle.raft_node.specs.declared.node.Turn.{Turn}
use Rattle.proof_deeds.specs.Chains.{Reached}
use Rattle.proof_deeds.specs.Follows.{StoreIs}
use Rattle.proof_deeds.specs.Images.{Ideal, setup_of}
use Rattle.proof_deeds.specs.SnapshotDeeds.{SnapshotsDone, TakenUp}
use Rattle.proof_deeds.proofs.Finishing.{build_ends}
use Rattle.proof_deeds.proofs.InstallLaws.{carried_handle_install}
use Rattle.proof_deeds.proofs.Restarts.{Restarted, as_does}
use Rattle.proof_deeds.proofs.SnapshotLaws.{carried_receiving, carried_to_index, carried_trigger}
use Rattle.proof_deeds.proofs.Starts.{started_carried, taken_shaped, taken_stands, taken_up}
use Rattle.proof_deeds.proofs.Worlds.{other_run}

module _ (first : Members ℕ (Unit {0})) where
  start_done : (config : EngineConfig ℕ) (t : Turn) (saved : Bool) (u : WorldStore) (W : Ideal) → config.id ≡ t.id → t.id < 18446744073709551616 → StoreIs (setup_of first) u (W.store t.id) → Shaped entry_meaning u → Ordered nat_cmp entry_meaning u
      → Reached (setup_of first) W → TakenUp first config t saved u W
  start_done config t saved u W own node h z o reached =
      let r : Restarted (setup_of first) t.id saved u W = taken_up first t config own node saved u W h z o reached in
      record {
        end = (taken_up first t config own node saved u W h z o reached).end;
        came = as_does (setup_of first) t.id W r.end r.did;
        quiet = r.did.quiet;
        apart = λ k f. ap (λ (X : Ideal). X.store k) (sym r.did.result) ∙ other_run (setup_of first) t.id r.did.deeds W k r.did.by f;
        session = r.session;
        store = r.store;
        shaped = taken_shaped first t config own node saved u W h z o reached;
        stands = taken_stands first t config own node saved u W h z o reached;
        starts = started_carried first t config own node saved u W h z o reached;
      }

  pub snapshots_done : SnapshotsDone first
  snapshots_done = record {
    by_install = λ config t u W now token m msg o snapshot st unread d b asks. carried_handle_install first t config u W msg o snapshot d b m now token st unread asks;
    by_trigger = λ config t u W m st. carried_trigger (setup_of first) t u W st.reached m st.pending.core st.carried;
    by_finish = λ config t u W m st empty es noted. build_ends first config t u W m st empty es noted;
    by_purge = λ config t u W i m st. carried_to_index (setup_of first) t u W st.reached i m st.pending.core st.sound.sound st.carried;
    by_receiving = λ config t u W token m st. carried_receiving (setup_of first) t u W st.reached token m st.carried;
    by_start = start_done;
  }
