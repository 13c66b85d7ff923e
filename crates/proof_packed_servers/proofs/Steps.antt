-- A step at a server's node, packed: what it does there, what it says, and what it leaves on disk.
use Rattle.std.specs.Prelude.{ℕ, ◌≡◌, ◌++◌, Bool, true, false, List, [], ◌∷◌, Option, None, Some, map, nat_le, refl, is_some, if◌then◌else◌}
use Rattle.std.specs.Option.{option_map}
use Rattle.std.specs.Ordering.{nat_cmp}
use Rattle.std.proofs.Common.{◌∙◌, ap}
use Rattle.std.proofs.lemmas.List.{map-append}
use Rattle.proof_packed.specs.raft_steps.Refusals.{refusals_of_spent}
use Rattle.proof_packed.specs.raft_store.declared.entry.Entry.{Entry}
use Rattle.proof_packed.specs.raft_store.Entries.{entry_meaning}
use Rattle.proof_packed.specs.raft_store.Types.{EngineView}
use Rattle.proof_packed.specs.raft_schedule.declared.event.Event.{Event}
use Rattle.proof_packed.specs.raft_schedule.declared.event.EventKind.TheVariants as event
use Rattle.proof_packed.specs.raft_schedule.declared.event.SkipReason.{SkipReason}
use Rattle.proof_packed.specs.raft_node.declared.act.Act.{Act}
use Rattle.proof_packed.specs.raft_node.declared.act.Act.TheVariants.{Initialize, Elect, Take, Propose, SendHeartbeat, Fail, TriggerSnapshot, FinishSnapshot}
use Rattle.proof_packed.specs.raft_node.declared.act.Act.TheVariants.{TriggerPurge, Restart, ChangeLearners, ChangeMembership, Read, StepDown, Stop}
use Rattle.proof_packed.specs.raft_node.declared.given.Given.{Given}
use Rattle.proof_packed.specs.raft_node.Events.{scene, skip_reason}
use Rattle.proof_packed.specs.raft_node.Net.{NodeView, no_records}
use Rattle.proof_packed.specs.raft_node.Runs.{whole_logs}
use Rattle.proof_packed.specs.proof_mirror.Ready.{Shaped, Ordered}
use Rattle.raft_wire.specs.declared.record.Began.{Began}
use Rattle.raft_wire.specs.declared.record.Began.TheVariants as began
use Rattle.proof_servers.specs.Servers.{Server, Step, build_effect, call_effect, called_node, disk_record, disk_records, event_at}
use Rattle.proof_servers.specs.Servers.{node_after, played_alone, reserved_after, reserved_for, step_began, step_commands, waiting_step, with_step}
use Rattle.proof_packed.specs.Laws.{HasEmptyQueue}
use Rattle.proof_packed.specs.Nodes.{PackedNode, bare_act, bare_engine, brought_by_act, packed_node, packed_scene}
use Rattle.proof_packed.specs.Records.{PacksRecordsOf}
use Rattle.proof_packed.specs.Stores.{Application, Packed, packed}
use Rattle.proof_packed.proofs.Played.{played_kept, skip_kept}
use Rattle.proof_packed.proofs.Records.{records_kept}
use Rattle.raft_packed_wire.specs.declared.record.PackedBegan.{PackedBegan}
use Rattle.raft_packed_wire.specs.declared.record.PackedBegan.TheVariants.{Built, Unchanged}
use Rattle.raft_packed_wire.specs.Records.{began_packed, packed_record_of, record_packed}
use Rattle.raft_packed_wire.proofs.Replays.{packs_replays}
use Rattle.proof_packed_servers.specs.Servers.{PackedWaitingStep, packed_build_effect, packed_call_effect}
use Rattle.proof_packed_servers.specs.Servers.{packed_disk_record, packed_disk_records, packed_left_of, packed_played_alone, packed_step_began}
use Rattle.proof_packed_servers.specs.Servers.{packed_waiting_step, packed_with_step, server_packed, step_packed, waiting_packed}
use Rattle.proof_packed_servers.proofs.Disks.{left_kept}

-- what a node of a run is between two steps
pub record Fits (n : NodeView) : Type 0 where
  pub queue : HasEmptyQueue n
  pub shaped : Shaped entry_meaning n.store
  pub ordered : Ordered nat_cmp entry_meaning n.store

module _ {S : Type 0} (app : Application S) where
  -- a build's end
  built_kept : (o : Option EngineView) (p : Option (List Entry))
      → began_packed app (elim o as (λ _. Began) [
        | None ↦ began.Unchanged
        | Some e ↦ elim p as (λ _. Began) [ None ↦ began.Unchanged | Some es ↦ build_effect es e ]
      ])
      ≡ (elim (option_map bare_engine o) as (λ _. PackedBegan (Packed S)) [
        | None ↦ Unchanged
        | Some e ↦ elim (option_map (packed app) p) as (λ _. PackedBegan (Packed S)) [ None ↦ Unchanged | Some p ↦ packed_build_effect p e ]
      ])
  built_kept None p = refl
  built_kept (Some e) None = refl
  built_kept (Some e) (Some es) =
      elim (is_some (refusals_of_spent e.machine)) as (λ b. began_packed app (if b then began.Unchanged else began.Built es) ≡ packed_if b)
      [ true ↦ refl | false ↦ refl ]
    where
      packed_if : Bool → PackedBegan (Packed S)
      packed_if b = if b then Unchanged else Built (packed app es)

  -- what an act's calls make of a store, at any moment of the node
  effect_kept : (act : Act) (n : NodeView) (at : ℕ)
      → began_packed app (call_effect act (record n { moment = at })) ≡ packed_call_effect (bare_act act) (packed_node app n)
  effect_kept Initialize n at = refl
  effect_kept (Elect candidates) n at = refl
  effect_kept (Take m) n at = refl
  effect_kept (Propose values) n at = refl
  effect_kept SendHeartbeat n at = refl
  effect_kept (Fail target) n at = refl
  effect_kept TriggerSnapshot n at = refl
  effect_kept FinishSnapshot n at = built_kept n.engine n.noted
  effect_kept (TriggerPurge i) n at = refl
  effect_kept (Restart start) n at = refl
  effect_kept (ChangeLearners learners) n at = refl
  effect_kept (ChangeMembership groups learners) n at = refl
  effect_kept Read n at = refl
  effect_kept StepDown n at = refl
  effect_kept Stop n at = refl

  module _ (n : NodeView) (s : Step) (fits : Fits n) where
    abbrev ours : PackedNode S
    ours = packed_node app n

    -- what the calls make of the store
    began_kept : began_packed app (step_began n s) ≡ packed_step_began app ours (step_packed app s)
    began_kept = go (skip_reason s.act n) ∙ ap choose (skip_kept app s.act n fits.queue)
      where
        choose : Option SkipReason → PackedBegan (Packed S)
        choose o = elim o [ Some reason ↦ Unchanged | None ↦ packed_call_effect (bare_act s.act) ours ]

        go : (o : Option SkipReason)
            → began_packed app (elim o as (λ _. Began) [ Some reason ↦ began.Unchanged | None ↦ call_effect s.act (called_node s n) ])
            ≡ choose o
        go (Some reason) = refl
        go None = effect_kept s.act n (called_node s n).moment

    module _ (given : Given) where
      abbrev at : Event
      at = event_at (event.Read 0) s.at

      -- what the node does
      pub scene_kept : packed_scene app (played_alone given n s).1 ≡ (packed_played_alone app given ours (step_packed app s)).1
      scene_kept = ap (λ z. z.1) (played_kept app whole_logs given s.act at (scene n no_records) fits.queue fits.shaped fits.ordered)

      -- and its outcome
      pub outcome_kept : (played_alone given n s).0 ≡ (packed_played_alone app given ours (step_packed app s)).0
      outcome_kept = ap (λ z. z.0) (played_kept app whole_logs given s.act at (scene n no_records) fits.queue fits.shaped fits.ordered)

      records : PacksRecordsOf app whole_logs given s.act at (scene n no_records)
      records = records_kept app whole_logs given s.act at (scene n no_records) fits.queue fits.shaped fits.ordered

      module _ (reserved : ℕ) where
        record_kept : record_packed app (disk_record given reserved n s) ≡ packed_disk_record app given reserved ours (step_packed app s)
        record_kept =
            (packs_replays app).steps (reserved_after given reserved n s) (step_began n s) (brought_by_act app s.act)
            (step_commands given n s) records.brings
            ∙ (λ i. packed_record_of (reserved_for (scene_kept i).node.moment reserved)
            (began_kept i) (brought_by_act app s.act) (records.commands i))

        disk_records_kept : map (record_packed app) (disk_records given reserved n s)
            ≡ packed_disk_records app given reserved ours (step_packed app s)
        disk_records_kept =
            left_kept app (nat_le (node_after given n s).moment reserved) (disk_record given reserved n s)
            ∙ (λ i. packed_left_of (nat_le (scene_kept i).node.moment reserved) (record_kept i))

        pub waiting_kept : waiting_packed app (waiting_step given reserved n s) ≡ packed_waiting_step app given reserved ours (step_packed app s)
        waiting_kept = λ i. record { step = step_packed app s; disk_records = disk_records_kept i; outputs = (scene_kept i).records }

  -- a step is taken
  pub step_kept : (given : Given) (step : Step) (s : Server) → Fits s.node
      → server_packed app (with_step given step s)
      ≡ packed_with_step app given (step_packed app step) (server_packed app s)
  step_kept given step s fits =
      ap (λ (ws : List (PackedWaitingStep S)). record (server_packed app (with_step given step s)) { waiting = ws })
      (map-append (waiting_packed app) s.waiting (waiting_step given s.reserved s.node step ∷ []))
      ∙ (λ i. record (server_packed app s) {
        node = (scene_kept s.node step fits given i).node;
        reserved = reserved_for (scene_kept s.node step fits given i).node.moment s.reserved;
        waiting = map (waiting_packed app) s.waiting ++ waiting_kept s.node step fits given s.reserved i ∷ [];
      })
