-- The calls for snapshots and purges leave a node at work.
use Rattle.std.proofs.Common.{ℕ, ◌<◌, ◌≡◌, []}
use Rattle.std.specs.Prelude.{IfSome, true}
use Rattle.std.specs.Ordering.{nat_cmp}
use Rattle.std.proofs.lemmas.Bool.{cond_both}
use Rattle.std.proofs.lemmas.Cmp.{nat_cmp_total}
use Rattle.raft_node.specs.raft_state.declared.membership.Members.{Members}
use Rattle.raft_node.specs.raft_state.Same.{nat_same}
use Rattle.raft_node.specs.raft_command.declared.sm.CommandPayload.TheVariants as payload
use Rattle.raft_node.specs.raft_command.Push.{ordered}
use Rattle.raft_node.specs.raft_steps.InstallRefusals.{refusals_of_install}
use Rattle.raft_node.specs.raft_steps.Installs.{handle_install_full_snapshot}
use Rattle.raft_node.specs.raft_steps.Parts.{on_core}
use Rattle.raft_node.specs.raft_steps.Refusals.{refusals_of_spent, refusals_of_trigger_snapshot}
use Rattle.raft_node.specs.raft_steps.SnapshotCalls.{trigger_purge_log}
use Rattle.raft_node.specs.raft_steps.SnapshotHandler.{trigger_snapshot}
use Rattle.raft_node.specs.raft_store.Entries.{entry_meaning}
use Rattle.raft_node.specs.raft_store.Types.{EngineView, WorldSnapshot, WorldStore}
use Rattle.proof_mirror.specs.Ready.{KnowsLog, Ordered}
use Rattle.proof_mirror.proofs.Committing.{pending_trigger}
use Rattle.proof_mirror.proofs.Proposes.{takes_id}
use Rattle.proof_mirror.proofs.Purging.{pending_purge_to}
use Rattle.proof_mirror.proofs.Starting.{pending_handle_install}
use Rattle.raft_node.specs.raft_calls.declared.message.Body.TheVariants as body
use Rattle.raft_node.specs.raft_calls.declared.message.Message.{Message}
use Rattle.raft_node.specs.raft_calls.declared.message.Origin.{Origin}
use Rattle.raft_node.specs.declared.node.Turn.{Turn}
use Rattle.raft_node.specs.raft_calls.Deliveries.{reply_token, take_snapshot}
use Rattle.raft_node.specs.raft_calls.Held.{IsReady}
use Rattle.raft_node.specs.raft_calls.Snapshots.{purge_triggered, snapshot_triggered}
use Rattle.proof_deeds.specs.Chains.{Reached}
use Rattle.proof_deeds.specs.Images.{Ideal, setup_of}
use Rattle.proof_deeds.specs.Knows.{Delivered}
use Rattle.proof_deeds.proofs.Calls.{CallLaws, WorldState}
use Rattle.proof_deeds.proofs.Drains.{EngineWorks, takes}
use Rattle.proof_deeds.proofs.InstallLaws.{sent_in}
use Rattle.proof_deeds.proofs.LeaderWorks.{at_work, call_works}

module _ (first : Members ℕ (Unit {0})) (Extra : Ideal → WorldState → Type 0) (laws : CallLaws first Extra) (t : Turn) (node : t.id < 18446744073709551616)
    (u : WorldStore) (W : Ideal) (r : Reached (setup_of first) W) (o : Ordered nat_cmp entry_meaning u)
    (e : EngineView) (h : EngineWorks first Extra t u W e) where
  abbrev Working : EngineView → Type 0
  Working f = EngineWorks first Extra t u W f

  triggered_knows : IfSome e.machine.leader (KnowsLog (trigger_snapshot e.machine.core).state.ids)
  unfolding trigger_snapshot
  triggered_knows =
      cond_both e.machine.core.state.building e.machine.core (record { state = record e.machine.core.state { building = true }; output = ordered e.machine.core.output payload.BuildSnapshot })
      (λ c. IfSome e.machine.leader (KnowsLog c.state.ids)) (λ _. h.pending.knows) (λ _. h.pending.knows)

  -- a snapshot is to be built
  pub triggered_works : IsReady (snapshot_triggered e).1 → Working (snapshot_triggered e).1
  triggered_works k =
      call_works first Extra laws t node u W r o e h (refusals_of_trigger_snapshot e.machine.core) (on_core trigger_snapshot e.machine)
      (λ _. (record { core = pending_trigger nat_cmp entry_meaning (λ es. es) u e.machine.core h.pending.core; knows = triggered_knows }, laws.by_trigger t e.config u W e.machine (at_work first Extra laws t node u W r o e h) h.extra)) k

  -- a purge up to an index
  pub purged_works : (i : ℕ) → IsReady (purge_triggered i e).1 → Working (purge_triggered i e).1
  purged_works i k =
      call_works first Extra laws t node u W r o e h (refusals_of_spent e.machine) (trigger_purge_log nat_cmp i e.machine)
      (λ _. (pending_purge_to nat_cmp nat_cmp_total nat_same entry_meaning (λ es. es) e.config u i e.machine h.pending h.ready.sound, laws.by_purge t e.config u W e.machine (at_work first Extra laws t node u W r o e h) i h.extra)) k

  -- a leader's snapshot
  pub installed_works : e.machine.core.output.items ≡ [] → (msg : Message) → Delivered (setup_of first) t W msg → (origin : Origin) (snapshot : WorldSnapshot) → msg.body ≡ body.SnapshotRequest origin snapshot
      → IsReady (take_snapshot origin.session_id.vote snapshot t.moment e).1 → Working (take_snapshot origin.session_id.vote snapshot t.moment e).1
  installed_works queue msg d origin snapshot is k =
      call_works first Extra laws t node u W r o e h (refusals_of_install nat_cmp e.config origin.session_id.vote snapshot.meta e.machine) (handle_install_full_snapshot nat_cmp entry_meaning e.config origin.session_id.vote snapshot reply_token t.moment e.machine)
      (λ asks. (
        pending_handle_install nat_cmp nat_cmp_total nat_same entry_meaning (takes_id entry_meaning takes) (λ es. es) e.config u origin.session_id.vote snapshot reply_token t.moment e.machine h.pending h.ready.sound asks
            (sent_in first t e.config u W msg origin snapshot d is).tells,
        laws.by_install t e.config u W e.machine (at_work first Extra laws t node u W r o e h) queue msg origin snapshot d is asks h.extra,
      ))
      k
