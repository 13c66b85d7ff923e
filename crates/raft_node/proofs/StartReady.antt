-- An engine on a node's store is ready to start.
use Rattle.std.specs.Prelude.{ℕ, ◌≡◌, Bool, true, false, [], Option, None, Some, refl, if◌then◌else◌}
use Rattle.std.proofs.lemmas.Cmp.{nat_cmp_total}
use Rattle.std.specs.Ordering.{nat_cmp}
use Rattle.raft_state.specs.declared.ids.LogId.{LogId}
use Rattle.raft_state.specs.declared.state.RaftState.{RaftState}
use Rattle.raft_state.specs.Invariants.{IsSoundState}
use Rattle.raft_state.specs.Same.{nat_same}
use Rattle.raft_command.specs.declared.config.EngineConfig.{EngineConfig}
use Rattle.raft_steps.proofs.KeptEngine.{idle_is_sound}
use Rattle.raft_store.specs.Entries.{entry_meaning}
use Rattle.raft_store.specs.Restart.{forgotten, is_outrun, rebuilt, settled_by, start_committed, started}
use Rattle.raft_store.specs.Types.{WorldStore}
use Rattle.raft_calls.specs.Held.{IsReady}
use Rattle.raft_node.specs.Net.{NodeView}
use Rattle.raft_node.specs.Starts.{engine_on}

-- an engine with a sound state is ready before it resumes
pub on_ready : (settings : EngineConfig ℕ) (saved : Bool) (n : NodeView) → IsSoundState nat_cmp (started nat_cmp entry_meaning saved n.store) → IsReady (engine_on settings saved n)
on_ready settings saved n h = record {
  sound = idle_is_sound nat_cmp nat_cmp_total nat_same (record settings { id = n.id }) (engine_on settings saved n).machine.core h;
  held = tt;
}

-- a start from the snapshot doesn't read the saved id
pub forgotten_starts : (t : WorldStore) → started nat_cmp entry_meaning false (forgotten t) ≡ started nat_cmp entry_meaning false t
forgotten_starts t = go t.meta.last_log_id
  where
    on : WorldStore → RaftState ℕ (Unit {0})
    on fit = rebuilt nat_cmp entry_meaning fit (start_committed nat_cmp entry_meaning false fit)

    fitted : (x : LogId ℕ) (b : Bool) → on (if b then record (forgotten t) { log = []; front = Some x } else forgotten t) ≡ on (if b then record t { log = []; front = Some x } else t)
    fitted x true = refl
    fitted x false = refl

    go : (p : Option (LogId ℕ)) → on (settled_by nat_cmp entry_meaning (forgotten t) p) ≡ on (settled_by nat_cmp entry_meaning t p)
    go None = refl
    go (Some x) = fitted x (is_outrun nat_cmp entry_meaning t x)
