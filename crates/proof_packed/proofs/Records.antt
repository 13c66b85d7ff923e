-- What an event at a packed node leaves on disk.
use Rattle.std.specs.Prelude.{ℕ, ◌≡◌, List, [], ◌∷◌, Option, None, Some, map, refl}
use Rattle.std.specs.List.{AllByRecursion}
use Rattle.std.specs.Option.{option_map}
use Rattle.std.specs.Ordering.{nat_cmp}
use Rattle.std.proofs.Common.{◌∙◌, ◌⊎◌, inl, inr, sym, ap, subst, suc, zero}
use Rattle.raft_node.specs.raft_command.declared.command.Command.TheVariants.{AppendInputEntries, BecomeLeader, Commit, DeleteConflictLog, PurgeLog, QuitLeader, RebuildReplicationStreams, Replicate, ReplicateCommitted, Respond, SaveVote, SendVote, StateMachine}
use Rattle.raft_node.specs.raft_command.declared.sm.CommandPayload.TheVariants.{BuildSnapshot, GetSnapshot, BeginReceivingSnapshot, InstallFullSnapshot, Apply}
use Rattle.raft_node.specs.raft_command.Queue.{popped}
use Rattle.raft_node.specs.raft_store.declared.entry.Entry.{Entry}
use Rattle.raft_node.specs.raft_store.Entries.{entry_meaning}
use Rattle.raft_node.specs.raft_store.Store.{exec, exec_all}
use Rattle.raft_node.specs.raft_store.Types.{EngineView, WorldCommand, WorldPayload, WorldStore}
use Rattle.raft_node.specs.raft_schedule.declared.event.Event.{Event}
use Rattle.raft_node.specs.raft_schedule.declared.event.SkipReason.{SkipReason}
use Rattle.raft_node.specs.declared.act.Act.{Act}
use Rattle.raft_node.specs.declared.given.Given.{Given}
use Rattle.raft_node.specs.declared.node.Turn.{Turn}
use Rattle.raft_node.specs.raft_calls.declared.lead.Answer.{Answer}
use Rattle.raft_node.specs.Commands.{commands_at, executed, next_command, next_command_of}
use Rattle.raft_node.specs.Events.{Scene, answer_at, called_at, calls, calls_at, moment_of, skip_reason, turn_of, work_of}
use Rattle.raft_node.specs.Work.{Work, weight, work_step}
use Rattle.raft_node.specs.raft_calls.Weights.{weight_at}
use Rattle.proof_mirror.specs.Ready.{Shaped, Ordered}
use Rattle.proof_packed.specs.Data.{payload_with}
use Rattle.proof_packed.specs.Laws.{HasEmptyQueue}
use Rattle.proof_packed_stores.specs.Laws.{Brings}
use Rattle.proof_packed.specs.Nodes.{PackedNode, PackedScene, PackedWork, bare_act, bare_command, bare_engine, bare_queue, bare_turn, brought_by_act, packed_called_at, packed_calls, packed_calls_at, packed_node, packed_records, packed_scene, packed_work_step, packed_with_answer, packed_work, packed_work_of, without_store}
use Rattle.proof_packed.specs.Records.{PacksRecordsOf, packed_commands_at, packed_exec_all, packed_executed}
use Rattle.proof_packed_stores.specs.Stores.{Application, Packed, PackedStore, packed_exec, packed_exec_payload, packed_store}
use Rattle.proof_packed.proofs.Calls.{IsNoInstall}
use Rattle.proof_packed.proofs.Events.{Calls, calls_kept, packed_result}
use Rattle.proof_packed.proofs.Played.{answer_kept, fuel_bare, skip_kept, turn_kept}
use Rattle.proof_packed_stores.proofs.Stores.{command_kept}
use Rattle.proof_packed.proofs.Works.{Follows, IsReady, brings, step_kept, step_ready}

next_bare : (o : Option EngineView) → next_command_of (option_map bare_engine o) ≡ option_map bare_command (next_command_of o)
next_bare None = refl
next_bare (Some e) = go e.machine.core.output.items
  where
    go : (cs : List WorldCommand)
        → (popped (bare_queue (record e.machine.core.output { items = cs }))).0 ≡ option_map bare_command (popped (record e.machine.core.output { items = cs })).0
    go [] = refl
    go (c ∷ cs) = refl

module _ {S : Type 0} (app : Application S) (brought : Packed S) where
  payload_alone : (p : WorldPayload) (t : PackedStore S) → packed_exec_payload app brought (payload_with [] p) t ≡ packed_exec_payload app brought p t
  payload_alone BuildSnapshot t = refl
  payload_alone (GetSnapshot tx) t = refl
  payload_alone (BeginReceivingSnapshot tx) t = refl
  payload_alone (InstallFullSnapshot s) t = refl
  payload_alone (Apply es) t = refl

  -- a command does the same without data
  command_alone : (c : WorldCommand) (t : PackedStore S) → packed_exec app brought (bare_command c) t ≡ packed_exec app brought c t
  command_alone (SaveVote v) t = refl
  command_alone (AppendInputEntries v es) t = refl
  command_alone (DeleteConflictLog since) t = refl
  command_alone (PurgeLog upto) t = refl
  command_alone (Commit seq already upto) t = refl
  command_alone (StateMachine c) t = payload_alone c.payload t
  command_alone BecomeLeader t = refl
  command_alone QuitLeader t = refl
  command_alone (ReplicateCommitted x) t = refl
  command_alone (Replicate target f) t = refl
  command_alone (RebuildReplicationStreams targets) t = refl
  command_alone (SendVote req) t = refl
  command_alone (Respond when reply) t = refl

  replay_kept : (t : WorldStore) (cs : List WorldCommand) → AllByRecursion (Brings app brought) cs → packed_store app (exec_all entry_meaning (λ es. es) t cs) ≡ packed_exec_all app brought (packed_store app t) (map bare_command cs)
  replay_kept t [] h = refl
  replay_kept t (c ∷ cs) h =
      replay_kept (exec entry_meaning (λ es. es) c t) cs h.1
      ∙ ap (λ u. packed_exec_all app brought u (map bare_command cs)) (command_kept app brought c t h.0 ∙ sym (command_alone c (packed_store app t)))

  first_brings_of : (o : Option EngineView) (c : WorldCommand) → IsReady app brought o → next_command_of o ≡ Some c → Brings app brought c
  first_brings_of None c h q = cc
  first_brings_of (Some e) c h q = go e.machine.core.output.items h q
    where
      go : (cs : List WorldCommand) → AllByRecursion IsNoInstall cs ⊎ (Follows e × AllByRecursion (Brings app brought) cs) → (popped (record e.machine.core.output { items = cs })).0 ≡ Some c → Brings app brought c
      go [] h q = cc
      go (x ∷ xs) (inl h) q = let e : x ≡ c = cc in subst (Brings app brought) e (brings app brought x h.0)
      go (x ∷ xs) (inr h) q = let e : x ≡ c = cc in subst (Brings app brought) e h.1.0

  module _ {L : Type 0} (keep : List Entry → L) (t : Turn) where
    executed_brings : (n : ℕ) (w : Work L) → IsReady app brought w.engine → AllByRecursion (Brings app brought) (executed keep t n w)
    executed_brings zero w h = tt
    executed_brings (suc n) w h = go (next_command w) refl (executed_brings n (work_step keep t w) (step_ready app brought keep t w h))
      where
        go : (o : Option WorldCommand) → next_command w ≡ o → AllByRecursion (Brings app brought) (executed keep t n (work_step keep t w))
            → AllByRecursion (Brings app brought) (elim o as (λ _. List WorldCommand) [ None ↦ [] | Some c ↦ c ∷ executed keep t n (work_step keep t w) ])
        go None q k = tt
        go (Some c) q k = (first_brings_of w.engine c h q, k)

    executed_kept : (n : ℕ) (w : Work L) → IsReady app brought w.engine → map bare_command (executed keep t n w) ≡ packed_executed app (bare_turn t) brought n (packed_work app w)
    executed_kept zero w h = refl
    executed_kept (suc n) w h =
        go (executed_kept n (work_step keep t w) (step_ready app brought keep t w h) ∙ ap (packed_executed app (bare_turn t) brought n) (step_kept app brought keep t w h)) (next_command w)
        ∙ sym (ap choose (next_bare w.engine))
      where
        choose : Option WorldCommand → List WorldCommand
        choose o = elim o [ None ↦ [] | Some c ↦ c ∷ packed_executed app (bare_turn t) brought n (packed_work_step app (bare_turn t) brought (packed_work app w)) ]

        go : map bare_command (executed keep t n (work_step keep t w)) ≡ packed_executed app (bare_turn t) brought n (packed_work_step app (bare_turn t) brought (packed_work app w))
            → (o : Option WorldCommand) → map bare_command (elim o as (λ _. List WorldCommand) [ None ↦ [] | Some c ↦ c ∷ executed keep t n (work_step keep t w) ]) ≡ choose (option_map bare_command o)
        go rest None = refl
        go rest (Some c) = ap (λ cs. bare_command c ∷ cs) rest

module _ {S L : Type 0} (app : Application S) (keep : List Entry → L) (given : Given) (act : Act) (event : Event) (s : Scene L) (r : HasEmptyQueue s.node) (h : Shaped entry_meaning s.node.store) (o : Ordered nat_cmp entry_meaning s.node.store) where
  abbrev now : Scene L
  now = called_at (moment_of event s.node) s

  abbrev brought_here : Packed S
  brought_here = brought_by_act app act

  made : Calls app act now.node (calls_at given act now.node) (packed_calls_at app given (bare_act act) (packed_node app now.node))
  made = calls_kept app given act now.node r h o

  abbrev at_work : Work L
  at_work = work_of event.stop (calls given act now).1

  abbrev packed_made : Option ℕ × PackedScene S
  packed_made = packed_calls app given (bare_act act) (packed_called_at app (moment_of event (without_store app (packed_node app s.node))) (packed_scene app s))

  called : (let z = calls given act now in (z.0, packed_scene app z.1)) ≡ packed_made
  called =
      ap (λ (a : Option Answer). (let z = packed_result app (calls_at given act now.node) in (z.0, record { node = z.1; records = packed_with_answer app a (packed_records app s.records) }))) (answer_kept app act (calls_at given act now.node).1)
      ∙ ap (λ (z : Option ℕ × PackedNode S). (z.0, record { node = z.1; records = packed_with_answer app (answer_at (bare_act act) (without_store app z.1)) (packed_records app s.records) })) made.alike

  work_is : packed_work app at_work ≡ packed_work_of app event.stop packed_made.1
  work_is = ap (λ z. packed_work_of app event.stop z.1) called

  all_bring : AllByRecursion (Brings app brought_here) (commands_at keep given act event s)
  all_bring = go (skip_reason act s.node)
    where
      go : (x : Option SkipReason) → AllByRecursion (Brings app brought_here) (elim x as (λ _. List WorldCommand) [ Some reason ↦ [] | None ↦ executed keep (turn_of act now.node) (weight at_work) at_work ])
      go None = executed_brings app brought_here keep (turn_of act now.node) (weight at_work) at_work made.ready
      go (Some reason) = tt

  commands_kept : map bare_command (commands_at keep given act event s) ≡ packed_commands_at app given (bare_act act) brought_here event (packed_scene app s)
  commands_kept = go (skip_reason act s.node) ∙ ap choose (skip_kept app act s.node r)
    where
      choose : Option SkipReason → List WorldCommand
      choose x = elim x [
        | Some reason ↦ []
        | None ↦ packed_executed app (turn_of (bare_act act) (without_store app (packed_node app now.node))) brought_here (weight_at (packed_work_of app event.stop packed_made.1).engine) (packed_work_of app event.stop packed_made.1)
      ]

      go : (x : Option SkipReason)
          → map bare_command (elim x as (λ _. List WorldCommand) [ Some reason ↦ [] | None ↦ executed keep (turn_of act now.node) (weight at_work) at_work ]) ≡ choose x
      go (Some reason) = refl
      go None =
          executed_kept app brought_here keep (turn_of act now.node) (weight at_work) at_work made.ready
          ∙ (ap (λ k. packed_executed app (bare_turn (turn_of act now.node)) brought_here k (packed_work app at_work)) (sym (fuel_bare at_work.engine))
          ∙ (ap (λ t. packed_executed app t brought_here (weight_at (packed_work app at_work).engine) (packed_work app at_work)) (turn_kept app act now.node)
          ∙ ap (λ (w : PackedWork S). packed_executed app (turn_of (bare_act act) (without_store app (packed_node app now.node))) brought_here (weight_at w.engine) w) work_is))

  pub records_kept : PacksRecordsOf app keep given act event s
  records_kept = record {
    commands = commands_kept;
    brings = all_bring;
    replays = λ t. replay_kept app brought_here t (commands_at keep given act event s) all_bring;
  }
