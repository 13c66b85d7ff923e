-- A whole event at a packed node.
use Rattle.std.specs.Prelude.{◌≡◌, ◌+◌, ℕ, List, [], ◌∷◌, map, Option, None, Some, refl}
use Rattle.std.specs.Option.{option_map}
use Rattle.std.specs.Ordering.{nat_cmp}
use Rattle.std.proofs.Common.{◌∙◌, sym, ap}
use Rattle.raft_node.specs.raft_command.declared.command.Command.TheVariants.{AppendInputEntries, BecomeLeader, Commit, DeleteConflictLog, PurgeLog, QuitLeader, RebuildReplicationStreams, Replicate, ReplicateCommitted, Respond, SaveVote, SendVote, StateMachine}
use Rattle.raft_node.specs.raft_store.declared.entry.Entry.{Entry}
use Rattle.raft_node.specs.raft_store.Entries.{entry_meaning}
use Rattle.raft_node.specs.raft_store.Types.{EngineView, WorldCommand}
use Rattle.raft_node.specs.raft_schedule.declared.event.Event.{Event}
use Rattle.raft_node.specs.raft_schedule.declared.event.Outcome.{Outcome}
use Rattle.raft_node.specs.raft_schedule.declared.event.Outcome.TheVariants.{Skipped}
use Rattle.raft_node.specs.raft_schedule.declared.event.SkipReason.{SkipReason}
use Rattle.raft_node.specs.raft_schedule.declared.event.SkipReason.TheVariants.{NothingBuilt}
use Rattle.raft_node.specs.declared.act.Act.{Act}
use Rattle.raft_node.specs.declared.act.Act.TheVariants.{Initialize, Elect, Take, Propose, SendHeartbeat, Fail, TriggerSnapshot, FinishSnapshot, TriggerPurge, Restart, ChangeLearners, ChangeMembership, Read, StepDown, Stop}
use Rattle.raft_node.specs.declared.given.Given.{Given}
use Rattle.raft_node.specs.raft_calls.declared.message.Body.{Body}
use Rattle.raft_node.specs.raft_calls.declared.message.Body.TheVariants as body
use Rattle.raft_node.specs.declared.node.Turn.{Turn}
use Rattle.raft_node.specs.raft_calls.declared.lead.Answer.{Answer}
use Rattle.raft_node.specs.Events.{Scene, answer_at, called_at, calls, calls_at, finish, moment_of, outcome_of, played, skip_reason, skip_running, skip_stopped, turn_of, work_of}
use Rattle.raft_node.specs.raft_calls.Deliveries.{skip_delivery}
use Rattle.raft_node.specs.raft_calls.LeaderCalls.{read_answer}
use Rattle.raft_node.specs.Net.{NodeView}
use Rattle.raft_node.specs.Work.{Work, weight, worked}
use Rattle.raft_node.specs.raft_calls.Weights.{election, weight_at, weight_of, weights}
use Rattle.proof_mirror.specs.Ready.{Shaped, Ordered}
use Rattle.proof_packed.specs.Nodes.{PackedNode, PackedScene, PackedWork, bare_act, bare_body, bare_command, bare_engine, bare_turn, brought_by_act, packed_called_at, packed_calls, packed_calls_at, packed_finish, packed_node, packed_played, packed_records, packed_scene, packed_scene_of, packed_with_answer, packed_work, packed_worked, without_store}
use Rattle.proof_packed_stores.specs.Stores.{Application, Packed, packed}
use Rattle.proof_packed.specs.Laws.{HasEmptyQueue}
use Rattle.proof_packed.proofs.Events.{Calls, calls_kept, packed_result, empty_queue_bare}
use Rattle.proof_packed.proofs.Works.{IsReady, worked_kept}

-- the same commands come of a queue without data
weight_bare : (c : WorldCommand) → weight_of (bare_command c) ≡ weight_of c
weight_bare (SaveVote v) = refl
weight_bare (AppendInputEntries v es) = refl
weight_bare (DeleteConflictLog since) = refl
weight_bare (PurgeLog upto) = refl
weight_bare (Commit seq already upto) = refl
weight_bare (StateMachine c) = refl
weight_bare BecomeLeader = refl
weight_bare QuitLeader = refl
weight_bare (ReplicateCommitted x) = refl
weight_bare (Replicate target f) = refl
weight_bare (RebuildReplicationStreams targets) = refl
weight_bare (SendVote req) = refl
weight_bare (Respond when reply) = refl

weights_bare : (cs : List WorldCommand) → weights (map bare_command cs) ≡ weights cs
weights_bare [] = refl
weights_bare (c ∷ cs) = ap (λ n. n + weights (map bare_command cs)) (weight_bare c) ∙ ap (λ n. weight_of c + n) (weights_bare cs)

pub fuel_bare : (o : Option EngineView) → weight_at (option_map bare_engine o) ≡ weight_at o
fuel_bare None = refl
fuel_bare (Some e) = ap (λ n. n + election e.machine e.machine.candidate) (weights_bare e.machine.core.output.items)

outcome_bare : (r : Option ℕ) (o : Option EngineView) → outcome_of r (option_map bare_engine o) ≡ outcome_of r o
outcome_bare None None = refl
outcome_bare None (Some e) = refl
outcome_bare (Some k) None = refl
outcome_bare (Some k) (Some e) = refl

stopped_bare : (act : Act) → skip_stopped act ≡ skip_stopped (bare_act act)
stopped_bare Initialize = refl
stopped_bare (Elect candidates) = refl
stopped_bare (Take m) = refl
stopped_bare (Propose values) = refl
stopped_bare SendHeartbeat = refl
stopped_bare (Fail target) = refl
stopped_bare TriggerSnapshot = refl
stopped_bare FinishSnapshot = refl
stopped_bare (TriggerPurge i) = refl
stopped_bare (Restart start) = refl
stopped_bare (ChangeLearners learners) = refl
stopped_bare (ChangeMembership groups learners) = refl
stopped_bare Read = refl
stopped_bare StepDown = refl
stopped_bare Stop = refl

delivery_bare : (b : Body) (e : EngineView) → skip_delivery b e ≡ skip_delivery (bare_body b) e
delivery_bare (body.VoteRequest req) e = refl
delivery_bare (body.VoteReply resp) e = refl
delivery_bare (body.AppendRequest o prev es committed) e = refl
delivery_bare (body.AppendReply o reply prev upto) e = refl
delivery_bare (body.SnapshotRequest o s) e = refl
delivery_bare (body.SnapshotReply o reply upto) e = refl

abbrev no_entries : {S : Type 0} → Packed S → List Entry
no_entries p = []

module _ {S : Type 0} (app : Application S) where
  running_kept : (act : Act) (n : NodeView) (e : EngineView) → skip_running act n e ≡ skip_running (bare_act act) (without_store app (packed_node app n)) e
  running_kept Initialize n e = refl
  running_kept (Elect candidates) n e = refl
  running_kept (Take m) n e = delivery_bare m.body e
  running_kept (Propose values) n e = refl
  running_kept SendHeartbeat n e = refl
  running_kept (Fail target) n e = refl
  running_kept TriggerSnapshot n e = refl
  running_kept FinishSnapshot n e = go n.noted
    where
      go : (o : Option (List Entry))
          → (elim o as (λ _. Option SkipReason) [ None ↦ Some NothingBuilt | Some es ↦ None ])
          ≡ (elim (option_map (no_entries {S = S}) (option_map (packed app) o)) as (λ _. Option SkipReason) [ None ↦ Some NothingBuilt | Some es ↦ None ])
      go None = refl
      go (Some es) = refl
  running_kept (TriggerPurge i) n e = refl
  running_kept (Restart start) n e = refl
  running_kept (ChangeLearners learners) n e = refl
  running_kept (ChangeMembership groups learners) n e = refl
  running_kept Read n e = refl
  running_kept StepDown n e = refl
  running_kept Stop n e = refl

  pub skip_kept : (act : Act) (n : NodeView) → HasEmptyQueue n → skip_reason act n ≡ skip_reason (bare_act act) (without_store app (packed_node app n))
  skip_kept act n r = go n.engine refl
    where
      go : (o : Option EngineView) → n.engine ≡ o
          → (elim o as (λ _. Option SkipReason) [ None ↦ skip_stopped act | Some e ↦ skip_running act n e ])
          ≡ (elim (option_map bare_engine o) as (λ _. Option SkipReason) [ None ↦ skip_stopped (bare_act act) | Some e ↦ skip_running (bare_act act) (without_store app (packed_node app n)) e ])
      go None q = stopped_bare act
      go (Some e) q = running_kept act n e ∙ ap (skip_running (bare_act act) (without_store app (packed_node app n))) (sym (empty_queue_bare e (r e q)))

  pub turn_kept : (act : Act) (n : NodeView) → bare_turn (turn_of act n) ≡ turn_of (bare_act act) (without_store app (packed_node app n))
  turn_kept Initialize n = refl
  turn_kept (Elect candidates) n = refl
  turn_kept (Take m) n = refl
  turn_kept (Propose values) n = refl
  turn_kept SendHeartbeat n = refl
  turn_kept (Fail target) n = refl
  turn_kept TriggerSnapshot n = refl
  turn_kept FinishSnapshot n = refl
  turn_kept (TriggerPurge i) n = refl
  turn_kept (Restart start) n = refl
  turn_kept (ChangeLearners learners) n = refl
  turn_kept (ChangeMembership groups learners) n = refl
  turn_kept Read n = refl
  turn_kept StepDown n = refl
  turn_kept Stop n = refl

  pub answer_kept : (act : Act) (n : NodeView) → answer_at act n ≡ answer_at (bare_act act) (without_store app (packed_node app n))
  answer_kept Initialize n = refl
  answer_kept (Elect candidates) n = refl
  answer_kept (Take m) n = refl
  answer_kept (Propose values) n = refl
  answer_kept SendHeartbeat n = refl
  answer_kept (Fail target) n = refl
  answer_kept TriggerSnapshot n = refl
  answer_kept FinishSnapshot n = refl
  answer_kept (TriggerPurge i) n = refl
  answer_kept (Restart start) n = refl
  answer_kept (ChangeLearners learners) n = refl
  answer_kept (ChangeMembership groups learners) n = refl
  answer_kept Read n = go n.engine
    where
      go : (o : Option EngineView)
          → (elim o as (λ _. Option Answer) [ None ↦ None | Some e ↦ read_answer n.id e ]) ≡ (elim (option_map bare_engine o) as (λ _. Option Answer) [ None ↦ None | Some e ↦ read_answer n.id e ])
      go None = refl
      go (Some e) = refl
  answer_kept StepDown n = refl
  answer_kept Stop n = refl

  module _ {L : Type 0} (keep : List Entry → L) where
    abbrev pub packed_outcome : Outcome × Scene L → Outcome × PackedScene S
    packed_outcome p = (p.0, packed_scene app p.1)

    -- the queue of an event
    finish_kept : (t : Turn) (brought : Packed S) (stop refusal : Option ℕ) (s : Scene L) → IsReady app brought s.node.engine
        → packed_outcome (finish keep weight t stop refusal s) ≡ packed_finish app (bare_turn t) brought stop refusal (packed_scene app s)
    unfolding finish packed_finish
    finish_kept t brought stop refusal s h =
        let w : Work L = work_of stop s in
        let done : Work L = worked keep (weight w) t w in
        let same : packed_work app done ≡ packed_worked app (bare_turn t) brought (weight_at (option_map bare_engine w.engine)) (packed_work app w) =
        worked_kept app brought keep t (weight w) w h ∙ ap (λ k. packed_worked app (bare_turn t) brought k (packed_work app w)) (sym (fuel_bare w.engine)) in
        ap (λ (o : Outcome). (o, packed_scene_of app (packed_node app s.node) (packed_work app done))) (sym (outcome_bare refusal done.engine))
        ∙ ap (λ (v : PackedWork S). (outcome_of refusal v.engine, packed_scene_of app (packed_node app s.node) v)) same

    -- an event
    pub played_kept : (given : Given) (act : Act) (event : Event) (s : Scene L) → HasEmptyQueue s.node → Shaped entry_meaning s.node.store → Ordered nat_cmp entry_meaning s.node.store
        → packed_outcome (played keep weight given act event s) ≡ packed_played app given (bare_act act) (brought_by_act app act) event (packed_scene app s)
    unfolding played packed_played
    played_kept given act event s r h o = go (skip_reason act s.node) ∙ ap choose (skip_kept act s.node r)
      where
        now : Scene L
        now = called_at (moment_of event s.node) s

        made : Option ℕ × PackedScene S
        made = packed_calls app given (bare_act act) (packed_called_at app (moment_of event (without_store app (packed_node app s.node))) (packed_scene app s))

        choose : Option SkipReason → Outcome × PackedScene S
        choose o = elim o [
          | Some reason ↦ (Skipped reason, packed_scene app s)
          | None ↦ packed_finish app (turn_of (bare_act act) (without_store app (packed_node app now.node))) (brought_by_act app act) event.stop made.0 made.1
        ]

        c : Calls app act now.node (calls_at given act now.node) (packed_calls_at app given (bare_act act) (packed_node app now.node))
        c = calls_kept app given act now.node r h o

        called : (let z = calls given act now in (z.0, packed_scene app z.1)) ≡ made
        called =
            ap (λ (a : Option Answer). (let z = packed_result app (calls_at given act now.node) in (z.0, record { node = z.1; records = packed_with_answer app a (packed_records app s.records) }))) (answer_kept act (calls_at given act now.node).1)
            ∙ ap (λ (z : Option ℕ × PackedNode S). (z.0, record { node = z.1; records = packed_with_answer app (answer_at (bare_act act) (without_store app z.1)) (packed_records app s.records) })) c.alike

        go : (o : Option SkipReason)
            → packed_outcome (elim o as (λ _. Outcome × Scene L) [ Some reason ↦ (Skipped reason, s) | None ↦ finish keep weight (turn_of act now.node) event.stop (calls given act now).0 (calls given act now).1 ])
            ≡ choose o
        go (Some reason) = refl
        go None =
            finish_kept (turn_of act now.node) (brought_by_act app act) event.stop (calls given act now).0 (calls given act now).1 c.ready
            ∙ (ap (λ t. packed_finish app t (brought_by_act app act) event.stop (calls given act now).0 (packed_scene app (calls given act now).1)) (turn_kept act now.node)
            ∙ ap (λ (z : Option ℕ × PackedScene S). packed_finish app (turn_of (bare_act act) (without_store app (packed_node app now.node))) (brought_by_act app act) event.stop z.0 z.1) called)
