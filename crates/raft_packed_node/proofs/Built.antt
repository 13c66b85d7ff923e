-- The end of a build leaves an engine ready.
use Rattle.std.specs.Prelude.{ℕ, ◌≡◌, []}
use Rattle.std.proofs.Common.{subst, sym}
use Rattle.std.proofs.lemmas.Bool.{cond_both}
use Rattle.std.proofs.lemmas.Cmp.{nat_cmp_total}
use Rattle.std.specs.Ordering.{nat_cmp}
use Rattle.raft_state.specs.declared.membership.SnapshotMeta.{SnapshotMeta}
use Rattle.raft_state.specs.Same.{nat_same}
use Rattle.raft_steps.specs.LogHandler.{schedule_policy_based_purge, try_purge_log}
use Rattle.raft_steps.specs.Parts.{with_state}
use Rattle.raft_steps.specs.Refusals.{refusals_of_spent, rows_in}
use Rattle.raft_steps.specs.SnapshotCalls.{built, finish_building_snapshot}
use Rattle.raft_steps.specs.SnapshotHandler.{is_newer_snapshot, update_snapshot}
use Rattle.raft_steps.proofs.KeptPurge.{finished_is_sound}
use Rattle.raft_store.specs.Types.{EngineView, WorldMachine}
use Rattle.raft_calls.specs.Held.{IsReady}
use Rattle.raft_calls.proofs.Falls.{WorldCore}
use Rattle.raft_calls.proofs.LeaderReady.{AllQuiet, IsQuiet, quiet_held, try_purge-quiet}
use Rattle.raft_calls.proofs.SnapshotReady.{answered_ready}
use Rattle.proof_packed.specs.Nodes.{packed_told_built}
use Rattle.proof_packed.specs.Stores.{Application, Packed, packed_meta}
use Rattle.raft_packed_node.specs.Held.{PackedNoteFits}

module _ (e : EngineView) (meta : SnapshotMeta ℕ (Unit {0})) where
  recorded-quiet : (c : WorldCore) → IsQuiet c → IsQuiet (schedule_policy_based_purge nat_cmp e.config (update_snapshot nat_cmp meta c))
  unfolding schedule_policy_based_purge update_snapshot
  recorded-quiet c h = cond_both (is_newer_snapshot nat_cmp c.state meta) (with_state c (record c.state { snap = meta })) c IsQuiet (λ _. h) (λ _. h)

  finish-quiet : (m : WorldMachine) → IsQuiet m.core → IsQuiet (finish_building_snapshot nat_cmp e.config meta m).core
  unfolding finish_building_snapshot
  finish-quiet m h =
      let b : WorldCore = built m.core in
      let scheduled : WorldCore = schedule_policy_based_purge nat_cmp e.config (update_snapshot nat_cmp meta b) in
      cond_both (is_newer_snapshot nat_cmp b.state meta) (try_purge_log nat_cmp (rows_in m) scheduled) b IsQuiet
      (λ _. try_purge-quiet e.config (rows_in m) scheduled (recorded-quiet b h)) (λ _. h)

pub told_ready : {S : Type 0} (app : Application S) (e : EngineView) (p : Packed S) → IsReady e → e.machine.core.output.items ≡ [] → PackedNoteFits e p → IsReady (packed_told_built app p e).1
told_ready app e p h queue f =
    let quiet : IsQuiet e.machine.core = subst AllQuiet (sym queue) tt in
    let told : WorldMachine = finish_building_snapshot nat_cmp e.config (packed_meta p) e.machine in
    answered_ready (refusals_of_spent e.machine) e _ h
    (λ _. record {
      sound = finished_is_sound nat_cmp nat_cmp_total nat_same e.config (packed_meta p) e.machine f.fit f.committed h.sound;
      held = quiet_held told.core.state.ids told.core.output.items (finish-quiet e (packed_meta p) e.machine quiet);
    })
