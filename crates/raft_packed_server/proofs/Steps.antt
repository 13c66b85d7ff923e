-- What a step of the code does is what the model says: with records of its own it does the same as behind what was said before.
use Rattle.std.proofs.Common.{ℕ, ◌≡◌, ◌∙◌, List, [], ◌∷◌, ◌++◌, Option, None, Some, refl, sym, ap, subst, append_assoc}
use Rattle.std.specs.Prelude.{◌+◌, Bool, fold, map, nat_le}
use Rattle.std.specs.Option.{option_map, option_to_list}
use Rattle.std.proofs.lemmas.List.{append-nil}
use Rattle.raft_store.specs.declared.entry.Entry.{Entry}
use Rattle.raft_store.specs.Types.{EngineView, WorldCommand}
use Rattle.raft_schedule.specs.declared.event.EventKind.TheVariants as event
use Rattle.raft_schedule.specs.declared.event.Outcome.{Outcome}
use Rattle.raft_schedule.specs.declared.event.SkipReason.{SkipReason}
use Rattle.raft_schedule.specs.declared.event.SkipReason.TheVariants.{NotRunning, NothingBuilt}
use Rattle.raft_node.specs.declared.act.Act.{Act}
use Rattle.raft_node.specs.declared.act.Act.TheVariants.{Initialize, Elect, Take, Propose, SendHeartbeat, Fail, TriggerSnapshot, FinishSnapshot}
use Rattle.raft_node.specs.declared.act.Act.TheVariants.{TriggerPurge, Restart, ChangeLearners, ChangeMembership, Read, StepDown, Stop}
use Rattle.raft_node.specs.declared.given.Given.{Given}
use Rattle.raft_node.specs.Events.{skip_reason}
use Rattle.raft_wire.specs.declared.record.Change.{Change}
use Rattle.raft_wire.specs.Records.{change_of, changes_of}
use Rattle.proof_logs.specs.proof_servers.Servers.{event_at, reserved_for}
use Rattle.proof_packed.specs.Nodes.{PackedNode, PackedRecords, PackedScene, packed_played, without_store}
use Rattle.proof_packed.specs.Records.{packed_commands_at}
use Rattle.proof_packed.specs.Stores.{Application, Packed}
use Rattle.raft_packed_wire.specs.raft_packed_node.Effects.{scene}
use Rattle.raft_packed_wire.specs.declared.record.PackedBegan.{PackedBegan}
use Rattle.raft_packed_wire.specs.declared.record.PackedBegan.TheVariants.{Settled, Unchanged}
use Rattle.raft_packed_wire.specs.declared.named.Named.{Named}
use Rattle.raft_packed_wire.specs.declared.record.NamedRecord.{NamedRecord}
use Rattle.raft_packed_wire.specs.declared.record.PackedRecord.{PackedRecord}
use Rattle.raft_packed_wire.specs.Named.{IsBeganBy, IsNamedBy, StandFor}
use Rattle.raft_packed_wire.specs.Records.{packed_change_of, packed_changes_of, with_snapshot}
use Rattle.proof_packed_servers.specs.Servers.{PackedStep, packed_build_effect, packed_call_effect, packed_joined, packed_left_of}
use Rattle.proof_packed_servers.specs.Servers.{packed_disk_record, packed_node_after, packed_played_alone, packed_step_began, packed_step_commands}
use Rattle.proof_packed_servers.proofs.Frame.{outcome_behind, same_commands, same_played}
use Rattle.raft_packed_server.specs.declared.serving.Serving.{Serving}
use Rattle.raft_packed_server.specs.Began.{named_left_of}
use Rattle.raft_packed_server.specs.Views.{ChangesView, IsTaken}
use Rattle.raft_packed_server.proofs.Seen.{left_stands}

-- ---- what the step's calls are about to make of the store

unchanged : {P : Type 0} (o : Option SkipReason) → (elim o as (λ _. PackedBegan P) [ Some reason ↦ Unchanged | None ↦ Unchanged ]) ≡ Unchanged
unchanged None = refl
unchanged (Some reason) = refl

module _ {S : Type 0} (app : Application S) (brought : Packed S) (at : ℕ) (n : PackedNode S) where
  abbrev began_by : Act → PackedBegan (Packed S)
  began_by act = packed_step_began app n (record { act = act; brought = brought; at = at })

  -- an engine's calls see of a note that there is one
  abbrev no_entries : Packed S → List Entry
  no_entries p = []

  restart_began : (o : Option EngineView)
      → (elim (elim o as (λ _. Option SkipReason) [ None ↦ None | Some e ↦ None ])
      as (λ _. PackedBegan (Packed S)) [ Some reason ↦ Unchanged | None ↦ Settled ]) ≡ Settled
  restart_began None = refl
  restart_began (Some e) = refl

  -- the end of a build, by the engine and by what is noted
  abbrev built_by : Option EngineView → Option (Packed S) → PackedBegan (Packed S)
  built_by o p =
      elim o as (λ _. PackedBegan (Packed S)) [
        | None ↦ Unchanged
        | Some e ↦ elim p as (λ _. PackedBegan (Packed S)) [ None ↦ Unchanged | Some x ↦ packed_build_effect x e ]
      ]

  finish_began : (o : Option EngineView) (p : Option (Packed S))
      → (elim (elim o as (λ _. Option SkipReason) [
        | None ↦ Some NotRunning
        | Some e ↦ elim (option_map no_entries p) as (λ _. Option SkipReason) [ None ↦ Some NothingBuilt | Some es ↦ None ]
      ]) as (λ _. PackedBegan (Packed S)) [
        | Some reason ↦ Unchanged
        | None ↦ built_by o p
      ])
      ≡ built_by o p
  finish_began None p = refl
  finish_began (Some e) None = refl
  finish_began (Some e) (Some x) = refl

  -- a step that is skipped has calls that make nothing of the store
  pub began_is : (act : Act) → began_by act ≡ packed_call_effect act n
  began_is Initialize = unchanged (skip_reason Initialize (without_store app n))
  began_is (Elect candidates) = unchanged (skip_reason (Elect candidates) (without_store app n))
  began_is (Take m) = unchanged (skip_reason (Take m) (without_store app n))
  began_is (Propose values) = unchanged (skip_reason (Propose values) (without_store app n))
  began_is SendHeartbeat = unchanged (skip_reason SendHeartbeat (without_store app n))
  began_is (Fail target) = unchanged (skip_reason (Fail target) (without_store app n))
  began_is TriggerSnapshot = unchanged (skip_reason TriggerSnapshot (without_store app n))
  began_is FinishSnapshot = finish_began n.engine n.noted
  began_is (TriggerPurge i) = unchanged (skip_reason (TriggerPurge i) (without_store app n))
  began_is (Restart start) = restart_began n.engine
  began_is (ChangeLearners learners) = unchanged (skip_reason (ChangeLearners learners) (without_store app n))
  began_is (ChangeMembership groups learners) = unchanged (skip_reason (ChangeMembership groups learners) (without_store app n))
  began_is Read = unchanged (skip_reason Read (without_store app n))
  began_is StepDown = unchanged (skip_reason StepDown (without_store app n))
  began_is Stop = unchanged (skip_reason Stop (without_store app n))

-- ---- what the step's commands change

module _ {S : Type 0} where
  abbrev pub sees : ChangesView S → WorldCommand → ChangesView S
  sees seen command = record seen { changes = seen.changes ++ option_to_list (packed_change_of seen.brought command) }

  change_first : (p : Packed S) (o : Option Change) (cs : List Change)
      → option_to_list (option_map (with_snapshot p) o) ++ map (with_snapshot p) cs ≡ map (with_snapshot p) (option_to_list o ++ cs)
  change_first p None cs = refl
  change_first p (Some x) cs = refl

  -- all commands of a run, seen in turn
  pub seen_all : (cs : List WorldCommand) (seen : ChangesView S) → fold sees seen cs
      ≡ record seen { changes = seen.changes ++ packed_changes_of seen.brought cs }
  seen_all [] seen = ap (λ xs. record seen { changes = xs }) (sym (append-nil seen.changes))
  seen_all (c ∷ cs) seen =
      seen_all cs (sees seen c)
      ∙ ap (λ xs. record seen { changes = xs })
      (append_assoc seen.changes (option_to_list (packed_change_of seen.brought c)) (packed_changes_of seen.brought cs)
      ∙ ap (λ xs. seen.changes ++ xs) (change_first seen.brought (change_of c) (changes_of cs)))

-- the parts of a step of the code, whose record is added to the others, as the log names it, if it leaves one
module _ {S : Type 0} (old : Serving S) (brought : Packed S) (done : Outcome × PackedScene S) (named : List (NamedRecord S)) where
  abbrev done_by : Serving S
  done_by = record old {
    node = done.1.node;
    reserved = reserved_for done.1.node.moment old.reserved;
    steps = old.steps + 1;
    records = old.records ++ named;
    outputs = packed_joined old.outputs done.1.records;
  }

  parts_are : (outcome : Outcome) (node : PackedNode S) (said : PackedRecords S) (reserved steps : ℕ) (records : List (NamedRecord S))
      → ◌≡◌ {A = Outcome × PackedScene S} (outcome, scene node said) (outcome_behind old.outputs done)
      → reserved ≡ reserved_for node.moment old.reserved
      → steps ≡ old.steps + 1
      → records ≡ old.records ++ named
      → ◌≡◌ {A = Outcome × Serving S}
      (outcome, record old { node = node; reserved = reserved; steps = steps; records = records; outputs = said }) (done.0, done_by)
  parts_are outcome node said reserved steps records does upto counted pushed =
      λ i. (
        (does i).0,
        record old {
          node = (does i).1.node;
          reserved = (upto ∙ ap (λ (p : Outcome × PackedScene S). reserved_for p.1.node.moment old.reserved) does) i;
          steps = counted i;
          records = pushed i;
          outputs = (does i).1.records;
        },
      )

-- such a step is one of the model
pub step_is : {S : Type 0} (app : Application S) (given : Given) (step : PackedStep S) (old : Serving S) (outcome : Outcome) (node : PackedNode S)
    (said : PackedRecords S)
    (seen : ChangesView S) (began : PackedBegan (Named S)) (reserved steps : ℕ) (records : List (NamedRecord S))
    → (outcome, scene node said) ≡ packed_played app given step.act step.brought (event_at (event.Read 0) step.at) (scene old.node old.outputs)
    → seen ≡ fold sees (record { brought = step.brought; changes = [] })
    (packed_commands_at app given step.act step.brought (event_at (event.Read 0) step.at) (scene old.node old.outputs))
    → IsBeganBy app old.node.store began (packed_call_effect step.act old.node)
    → reserved ≡ reserved_for node.moment old.reserved
    → steps ≡ old.steps + 1
    → records ≡ old.records ++ named_left_of (nat_le node.moment old.reserved)
    (record { moment = reserved_for node.moment old.reserved; began = began; changes = seen.changes })
    → IsTaken app given step old outcome (record old { node = node; reserved = reserved; steps = steps; outputs = said; records = records })
step_is {S = S} app given step old outcome node said seen began reserved steps records does watched calls upto counted pushed = record {
  named = left;
  stand =
      subst (λ (b : Bool). StandFor app old.node.store left (packed_left_of b theirs)) (ap (λ m. nat_le m old.reserved) same)
      (left_stands app old.node.store (nat_le node.moment old.reserved) ours theirs is_named);
  is =
      parts_are old step.brought (packed_played_alone app given old.node step) left outcome node said reserved steps records
      (does ∙ same_played app old.outputs given old.node step) upto counted pushed;
}
  where
    ours : NamedRecord S
    ours = record { moment = reserved_for node.moment old.reserved; began = began; changes = seen.changes }

    left : List (NamedRecord S)
    left = named_left_of (nat_le node.moment old.reserved) ours

    theirs : PackedRecord (Packed S)
    theirs = packed_disk_record app given old.reserved old.node step

    same : node.moment ≡ (packed_node_after app given old.node step).moment
    same = ap (λ (p : Outcome × PackedScene S). p.1.node.moment) (does ∙ same_played app old.outputs given old.node step)

    changed : seen.changes ≡ packed_changes_of step.brought (packed_step_commands app given old.node step)
    changed =
        ap (λ (v : ChangesView S). v.changes)
        (watched
        ∙ seen_all (packed_commands_at app given step.act step.brought (event_at (event.Read 0) step.at) (scene old.node old.outputs))
        (record { brought = step.brought; changes = [] }))
        ∙ ap (packed_changes_of step.brought) (same_commands app old.outputs given old.node step)

    is_named : IsNamedBy app old.node.store ours theirs
    is_named = record {
      moment = ap (λ m. reserved_for m old.reserved) same;
      began = subst (IsBeganBy app old.node.store began) (sym (began_is app step.brought step.at old.node step.act)) calls;
      changes = changed;
    }
