-- A whole restart: the store is taken up by deeds, and what the engine that starts on it queues is carried.
use Rattle.std.proofs.Common.{ℕ, ◌<◌, ◌≡◌, Bool, false, refl, None}
use Rattle.std.specs.Ordering.{nat_cmp}
use Rattle.std.proofs.lemmas.Cmp.{nat_cmp_total}
use Rattle.raft_node.specs.raft_state.declared.membership.Members.{Members}
use Rattle.raft_node.specs.raft_state.declared.state.RaftState.{RaftState}
use Rattle.raft_node.specs.raft_state.Invariants.{IsSoundState}
use Rattle.raft_node.specs.raft_state.Same.{nat_same}
use Rattle.raft_node.specs.raft_command.declared.config.EngineConfig.{EngineConfig}
use Rattle.raft_node.specs.raft_error.declared.error.EngineError.TheVariants.{IndexEnd}
use Rattle.raft_node.specs.raft_steps.Refusals.{blank_is_at_end, refusals_of_counter}
use Rattle.raft_node.specs.raft_steps.Parts.{idle}
use Rattle.raft_node.specs.raft_steps.Starts.{refusals_of_startup, startup}
use Rattle.raft_node.proofs.raft_steps_proofs.KeptEngine.{idle_is_sound}
use Rattle.raft_node.proofs.raft_steps_proofs.Unrefused.{neither, test_fails}
use Rattle.raft_node.specs.raft_store.Entries.{entry_meaning}
use Rattle.raft_node.specs.raft_store.Types.{WorldStore, WorldMachine}
use Rattle.proof_mirror.specs.Ready.{Shaped, Ordered, InStep}
use Rattle.raft_node.specs.raft_store.Restart.{restarted, started}
use Rattle.proof_mirror.proofs.Restarting.{restart_in_step}
use Rattle.proof_mirror.proofs.Shape.{shaped_of}
use Rattle.raft_node.specs.declared.node.Turn.{Turn}
use Rattle.proof_deeds.specs.Chains.{Reached}
use Rattle.proof_deeds.specs.Follows.{StoreIs}
use Rattle.proof_deeds.specs.Images.{Ideal, setup_of}
use Rattle.proof_deeds.specs.Knows.{CarriedIn, Stands}
use Rattle.proof_deeds.proofs.LeaderStarts.{carried_startup}
use Rattle.proof_deeds.proofs.Restarts.{Restarted, restart_done, as_does}
use Rattle.proof_deeds.proofs.Worlds.{Within, does_then, within_of}

-- a start that isn't refused doesn't append at the last index
pub full_of : (config : EngineConfig ℕ) (m : WorldMachine) → refusals_of_startup nat_cmp config m ≡ None → blank_is_at_end nat_cmp config m.core.state.vote m ≡ false
full_of config m asks = (test_fails (blank_is_at_end nat_cmp config m.core.state.vote m) IndexEnd None (neither (refusals_of_counter m) _ asks).1).0

module _ (first : Members ℕ (Unit {0})) (t : Turn) (config : EngineConfig ℕ) (own : config.id ≡ t.id) (node : t.id < 18446744073709551616) (saved : Bool) (u : WorldStore) (W : Ideal)
    (h : StoreIs (setup_of first) u (W.store t.id)) (z : Shaped entry_meaning u) (o : Ordered nat_cmp entry_meaning u) (reached : Reached (setup_of first) W) where
  abbrev taken : WorldStore
  taken = restarted nat_cmp entry_meaning saved u

  abbrev st : RaftState ℕ (Unit {0})
  st = started nat_cmp entry_meaning saved u

  abbrev m : WorldMachine
  m = idle (started nat_cmp entry_meaning saved u)

  mirrored : InStep entry_meaning taken st × Ordered nat_cmp entry_meaning taken × IsSoundState nat_cmp st
  mirrored = restart_in_step nat_cmp nat_cmp_total nat_same entry_meaning saved u z o

  -- the store taken up
  pub taken_up : Restarted (setup_of first) t.id saved u W
  taken_up = restart_done (setup_of first) t.id saved u W h z o reached

  pub taken_within : Within W taken_up.end
  taken_within = within_of (setup_of first) W taken_up.end (as_does (setup_of first) t.id W taken_up.end taken_up.did)

  pub taken_shaped : Shaped entry_meaning (restarted nat_cmp entry_meaning saved u)
  taken_shaped = shaped_of entry_meaning taken st mirrored.0

  -- the engine on it, before its start
  pub taken_stands : Stands (setup_of first) t config (restarted nat_cmp entry_meaning saved u) taken_up.end (idle (started nat_cmp entry_meaning saved u))
  taken_stands = record {
    id = own;
    node = node;
    reached = does_then (setup_of first) _ W taken_up.end reached (as_does (setup_of first) t.id W taken_up.end taken_up.did);
    ordered = mirrored.1;
    sound = idle_is_sound nat_cmp nat_cmp_total nat_same config m.core mirrored.2;
    pending = record { core = record { ready = taken_shaped; in_step = mirrored.0 }; knows = tt };
    carried = record { end = taken_up.end; chain = refl; store = taken_up.store; knows = taken_up.knows };
  }

  -- and after it
  pub started_carried : blank_is_at_end nat_cmp config (started nat_cmp entry_meaning saved u).vote (let m : WorldMachine = idle (started nat_cmp entry_meaning saved u) in m) ≡ false
      → CarriedIn (setup_of first) t (restarted nat_cmp entry_meaning saved u) taken_up.end (startup nat_cmp entry_meaning config (idle (started nat_cmp entry_meaning saved u)))
  started_carried full = carried_startup first t config own taken taken_up.end taken_stands.reached m taken_stands.pending taken_stands.sound taken_stands.ordered refl full taken_stands.carried
