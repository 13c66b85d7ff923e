-- A start on a disk, packed. The store there isn't shaped, since it has nothing of what was applied; but a start does there what it does on a
-- node's store that is the same on disk.
use Rattle.std.specs.Prelude.{ℕ, ◌≡◌, false, max, [], ◌∷◌, Option, None, Some, nat_le, refl}
use Rattle.std.specs.Ordering.{nat_cmp}
use Rattle.std.proofs.Common.{◌∙◌, sym, ap}
use Rattle.proof_packed.specs.raft_state.declared.ids.LogId.{LogId}
use Rattle.proof_packed.specs.raft_state.declared.state.RaftState.{RaftState}
use Rattle.proof_packed.specs.raft_steps.Parts.{idle}
use Rattle.proof_packed.specs.raft_store.Entries.{entry_meaning}
use Rattle.proof_packed.specs.raft_store.Types.{WorldStore}
use Rattle.proof_packed.specs.raft_schedule.declared.event.Start.TheVariants.{Bare}
use Rattle.proof_packed.specs.raft_calls.Starts.{begun_anew}
use Rattle.proof_packed.specs.raft_calls.Weights.{weight_at}
use Rattle.proof_packed.specs.raft_node.declared.given.Given.{Given}
use Rattle.proof_packed.specs.raft_node.declared.node.Turn.{Turn}
use Rattle.proof_packed.specs.raft_node.Net.{NodeView, no_streams}
use Rattle.raft_wire.specs.Records.{on_disk}
use Rattle.proof_packed.specs.proof_mirror.Ready.{Shaped, Ordered}
use Rattle.proof_servers.specs.Servers.{Disk, Server, disk_records, played_alone, reserved_for, started, stopped_node, with_step}
use Rattle.proof_servers.proofs.Disk.{disk_records_same, played_same, start_step}
use Rattle.proof_packed.specs.Nodes.{PackedNode, of_no_entries, packed_finish, packed_played, packed_restart, packed_work_of}
use Rattle.proof_packed.specs.Records.{packed_executed}
use Rattle.proof_packed.specs.Stores.{Application, Packed, PackedStore, packed, packed_restarted, packed_started, packed_store}
use Rattle.proof_packed.proofs.proof_packed_stores_proofs.Stores.{packs_stores}
use Rattle.proof_packed_nodes.specs.raft_packed_node.Effects.{nothing_recorded, scene}
use Rattle.raft_packed_wire.specs.declared.record.PackedBegan.TheVariants.{Settled}
use Rattle.raft_packed_wire.specs.Records.{packed_record_of}
use Rattle.proof_packed_servers.specs.Servers as ours
use Rattle.proof_packed_servers.specs.Servers.{PackedServer, PackedStep, disk_packed, packed_left_of, packed_played_alone}
use Rattle.proof_packed_servers.specs.Servers.{packed_step_commands, packed_waiting_step, packed_with_step, server_packed, step_packed}
use Rattle.proof_packed_servers.proofs.Steps.{Fits, step_kept}

module _ {S : Type 0} (app : Application S) (given : Given) (id : ℕ) where
  -- a node that doesn't run, with this moment and this store
  abbrev pub stopped : ℕ → PackedStore S → PackedNode S
  stopped moment t = record { id = id; store = t; engine = None; streams = no_streams; noted = None; moment = moment }

  abbrev begin : ℕ → PackedStore S → Option ℕ × PackedNode S
  begin moment t = packed_restart app given.settings Bare (stopped moment t)

  -- it begins with this store and this state
  abbrev begun : ℕ → PackedStore S → RaftState ℕ (Unit {0}) → Option ℕ × PackedNode S
  begun moment t state =
      let r = begun_anew moment (record { config = record given.settings { id = id }; machine = idle state; seen_greater_log = false }) in
      (r.0, record { id = id; store = t; engine = Some r.1; streams = no_streams; noted = None; moment = moment })

  abbrev turn : ℕ → Turn
  turn moment = record { id = id; moment = moment; request = None }

  abbrev pub start : ℕ → PackedStep S
  start at = step_packed app (start_step at)

  -- two stores that differ by what is saved and applied
  module _ (t u : PackedStore S) (saved : Option (LogId ℕ)) (applied : Packed S) (is : u ≡ record t { saved = saved; applied = applied }) where
    begin_same : (moment : ℕ) → begin moment u ≡ begin moment t
    begin_same moment = ap (begin moment) is ∙ (λ i. begun moment (forgets.0 i) (forgets.1 i))
      where
        forgets : (packed_restarted app false (record t { saved = None; applied = applied }) ≡ packed_restarted app false (record t { saved = None }))
            × (packed_started app false (record t { saved = None; applied = applied }) ≡ packed_started app false (record t { saved = None }))
        forgets = (packs_stores app).forgets false (record t { saved = None }) applied

    module _ (at moment : ℕ) where
      pub same_played : packed_played_alone app given (stopped moment u) (start at) ≡ packed_played_alone app given (stopped moment t) (start at)
      unfolding packed_played
      same_played = λ i.
          (let r = begin_same (max at moment) i in
          packed_finish app (turn (max at moment)) (of_no_entries app) None r.0 (scene r.1 nothing_recorded))

      same_commands : packed_step_commands app given (stopped moment u) (start at) ≡ packed_step_commands app given (stopped moment t) (start at)
      same_commands = λ i.
          (let w = packed_work_of app None (scene (begin_same (max at moment) i).1 nothing_recorded) in
          packed_executed app (turn (max at moment)) (of_no_entries app) (weight_at w.engine) w)

      pub same_waiting : (reserved : ℕ)
          → packed_waiting_step app given reserved (stopped moment u) (start at)
          ≡ packed_waiting_step app given reserved (stopped moment t) (start at)
      same_waiting reserved = λ i. record {
        step = start at;
        disk_records = packed_left_of (nat_le (same_played i).1.node.moment reserved)
            (packed_record_of (reserved_for (same_played i).1.node.moment reserved) Settled (of_no_entries app) (same_commands i));
        outputs = (same_played i).1.records;
      }

  -- a disk that has the store of a node of a run
  module _ (at : ℕ) (d : Disk) (t : WorldStore) (shaped : Shaped entry_meaning t) (ordered : Ordered nat_cmp entry_meaning t)
      (same : on_disk d.store ≡ on_disk t) where
    abbrev now : ℕ
    now = max at d.moment

    -- the node that has stopped there
    abbrev base : NodeView
    base = record { id = id; store = t; engine = None; streams = no_streams; noted = None; moment = d.moment }

    fits : Fits base
    fits = record { queue = λ e q. absurd cc; shaped = shaped; ordered = ordered }

    abbrev server : NodeView → Server
    server n = record { node = n; reserved = d.moment; waiting = []; disk = d }

    on_base : started given id at d ≡ with_step given (start_step now) (server base)
    on_base = λ i. record {
      node = (played i).1.node;
      reserved = reserved_for (played i).1.node.moment d.moment;
      waiting = record { step = start_step now; disk_records = records i; outputs = (played i).1.records } ∷ [];
      disk = d;
    }
      where
        played : played_alone given (stopped_node id d) (start_step now) ≡ played_alone given base (start_step now)
        played = played_same given now now (stopped_node id d) base refl refl same

        records : disk_records given d.moment (stopped_node id d) (start_step now) ≡ disk_records given d.moment base (start_step now)
        records = disk_records_same given now now (stopped_node id d) base refl refl same d.moment

    abbrev packed_first : PackedStore S → PackedServer S
    packed_first u = record { node = stopped d.moment u; reserved = d.moment; waiting = []; disk = disk_packed app d }

    on_disk_alone : packed_with_step app given (start now) (packed_first (packed_store app d.store))
        ≡ packed_with_step app given (start now) (packed_first (packed_store app t))
    on_disk_alone = λ i. record {
      node = (played i).1.node;
      reserved = reserved_for (played i).1.node.moment d.moment;
      waiting = waits i ∷ [];
      disk = disk_packed app d;
    }
      where
        is : packed_store app d.store ≡ record (packed_store app t) { saved = d.store.saved; applied = packed app d.store.applied }
        is = ap (λ (s : WorldStore). record (packed_store app s) { saved = d.store.saved; applied = packed app d.store.applied }) same

        played : packed_played_alone app given (stopped d.moment (packed_store app d.store)) (start now)
            ≡ packed_played_alone app given (stopped d.moment (packed_store app t)) (start now)
        played = same_played (packed_store app t) (packed_store app d.store) d.store.saved (packed app d.store.applied) is now d.moment

        waits : packed_waiting_step app given d.moment (stopped d.moment (packed_store app d.store)) (start now)
            ≡ packed_waiting_step app given d.moment (stopped d.moment (packed_store app t)) (start now)
        waits = same_waiting (packed_store app t) (packed_store app d.store) d.store.saved (packed app d.store.applied) is now d.moment d.moment

    pub started_kept : server_packed app (started given id at d) ≡ ours.packed_started app given id at (disk_packed app d)
    started_kept = ap (server_packed app) on_base ∙ (step_kept app given (start_step now) (server base) fits ∙ sym on_disk_alone)
