-- What an event records as answered to a read is what its node answers.
use Rattle.std.proofs.Common.{ℕ, ◌+◌, ◌≡◌, Bool, true, false, List, [], ◌∷◌, ◌++◌, length, arith, refl, sym, ap, ◌∙◌, subst, length-append, Option, None, Some}
use Rattle.std.specs.Prelude.{Contains, slice_get, slice_set, if◌then◌else◌}
use Rattle.std.specs.Option.{option_to_list}
use Rattle.std.proofs.lemmas.List.{append_cancel_left}
use Rattle.std.proofs.lemmas.List.Elements.{All-contains_itself, recursion_from_All}
use Rattle.raft_node.specs.raft_state.declared.ids.LogId.{LogId}
use Rattle.raft_node.specs.raft_command.declared.command.Command.TheVariants as command
use Rattle.raft_node.specs.raft_command.declared.replication.ReplicationSessionId.{ReplicationSessionId}
use Rattle.raft_node.specs.raft_command.declared.sm.CommandPayload.TheVariants as payload
use Rattle.raft_node.specs.raft_command.Queue.{popped}
use Rattle.raft_node.specs.raft_store.declared.entry.Entry.{Entry}
use Rattle.raft_node.specs.raft_store.Types.{EngineView, WorldCommand, WorldPayload}
use Rattle.raft_node.specs.raft_schedule.declared.event.Event.{Event}
use Rattle.raft_node.specs.raft_schedule.declared.event.EventKind.TheVariants as event
use Rattle.raft_node.specs.raft_schedule.declared.event.Outcome.{Outcome}
use Rattle.raft_node.specs.raft_schedule.declared.event.Outcome.TheVariants.{Skipped}
use Rattle.raft_node.specs.raft_schedule.declared.event.SkipReason.{SkipReason}
use Rattle.raft_node.specs.raft_schedule.declared.event.SkipReason.TheVariants.{NoMessage, NotRunning}
use Rattle.raft_node.specs.declared.act.Act.TheVariants.{Read}
use Rattle.raft_node.specs.declared.given.Given.{Given}
use Rattle.raft_node.specs.declared.node.Turn.{Turn}
use Rattle.raft_node.specs.raft_calls.declared.lead.Answer.{Answer}
use Rattle.raft_node.specs.Events.{Scene, aim_of, answer_at, at_node, at_place, called_at, calls, calls_at, finish, happens, moment_of, place_of, played, skip_reason, turn_of, work_of}
use Rattle.raft_node.specs.Execute.{Effects, exec, exec_payload, replicate_committed, replication, sending, to_each}
use Rattle.raft_node.specs.raft_calls.Feeds.{feed}
use Rattle.raft_node.specs.raft_calls.LeaderCalls.{read_answer}
use Rattle.raft_node.specs.Net.{Net, NodeView}
use Rattle.raft_node.specs.Runs.{whole_logs}
use Rattle.raft_node.specs.Work.{Work, done_of, one_less, step_of, stopped, stops, weight, work_step}
use Rattle.raft_node.specs.raft_calls.Engines.{with_queue}
use Rattle.raft_node.proofs.Ready.{net_after, scene_after}
use Rattle.raft_node.proofs.Worked.{worked-keeps}
use Rattle.proof_deeds.proofs.Executed.{WorldOrder}
use Rattle.proof_deeds.proofs.Nodes.{each_at, placed_id}

abbrev answers_in : Effects (List Entry) → List Answer
answers_in w = w.records.answers

-- commands answer no read
module _ (t : Turn) (e : EngineView) (w : Effects (List Entry)) where
  ordered : (k : WorldOrder) (p : WorldPayload) → answers_in (exec_payload whole_logs t (command.StateMachine k) p w) ≡ answers_in w
  ordered k payload.BuildSnapshot = refl
  ordered k (payload.GetSnapshot _) = refl
  ordered k (payload.BeginReceivingSnapshot _) = refl
  ordered k (payload.InstallFullSnapshot s) = refl
  ordered k (payload.Apply _) = refl

  replicated : (target : ℕ) (req : _) (o : Option (ReplicationSessionId ℕ)) → answers_in (elim o [ None ↦ w | Some s ↦ sending (to_each t.id (target ∷ []) (replication t s w.store req)) w ]) ≡ answers_in w
  replicated target req None = refl
  replicated target req (Some s) = refl

  told : (committed : Option (LogId ℕ)) (o : Option (ReplicationSessionId ℕ)) → answers_in (elim o [ None ↦ w | Some s ↦ replicate_committed whole_logs t committed s w ]) ≡ answers_in w
  told committed None = refl
  told committed (Some s) = refl

  exec_answers : (c : WorldCommand) → answers_in (exec whole_logs t e c w) ≡ answers_in w
  exec_answers (command.SaveVote _) = refl
  exec_answers (command.AppendInputEntries _ es) = refl
  exec_answers (command.DeleteConflictLog since) = refl
  exec_answers (command.PurgeLog upto) = refl
  exec_answers (command.Commit seq already upto) = refl
  exec_answers (command.StateMachine c) = ordered c c.payload
  exec_answers (command.SendVote req) = refl
  exec_answers (command.RebuildReplicationStreams targets) = refl
  exec_answers (command.Replicate target req) = replicated target req w.streams.session_id
  exec_answers (command.ReplicateCommitted committed) = told committed w.streams.session_id
  exec_answers (command.Respond when reply) = refl
  exec_answers command.BecomeLeader = refl
  exec_answers command.QuitLeader = refl

module _ (t : Turn) (old : List Answer) where
  abbrev Same : Work (List Entry) → Type 0
  Same w = answers_in w.effects ≡ old

  done_answers : (w : Work (List Entry)) (e : EngineView) (c : WorldCommand) → Same w → Same (done_of whole_logs t w e c)
  done_answers w e c h = go (stops w.left) where
    go : (b : Bool) → Same (if b then stopped (exec whole_logs t e c w.effects) else record { engine = Some (feed t.moment c e); effects = exec whole_logs t e c w.effects; left = one_less w.left })
    go true = exec_answers t e w.effects c ∙ h
    go false = exec_answers t e w.effects c ∙ h

  step_answers : (w : Work (List Entry)) → Same w → Same (work_step whole_logs t w)
  step_answers w h = go w.engine where
    items : (e : EngineView) (cs : List WorldCommand) → Same (step_of whole_logs t w e (popped (record e.machine.core.output { items = cs })))
    items e [] = h
    items e (c ∷ cs) = done_answers w (with_queue e (record e.machine.core.output { items = cs })) c h

    go : (o : Option EngineView) → Same (elim o as (λ _. Work (List Entry)) [ None ↦ w | Some e ↦ step_of whole_logs t w e (popped e.machine.core.output) ])
    go None = h
    go (Some e) = items e e.machine.core.output.items

-- no list is one longer than itself
no_longer : (old : List Answer) (a : Answer) → old ≡ old ++ a ∷ [] → ⊥
no_longer old a e = let n : length old ≡ length old + 1 = ap (λ xs. length xs) e ∙ length-append old (a ∷ []) in omega (arith, n)

one_answer : (o : Option Answer) (a : Answer) → option_to_list o ≡ a ∷ [] → o ≡ Some a
one_answer None a e = cc
one_answer (Some b) a e = cc

slice_contains : (nodes : List NodeView) (i : ℕ) (m : NodeView) → slice_get nodes i ≡ Some m → Contains nodes m
slice_contains nodes i m e = each_at (Contains nodes) nodes i m e (recursion_from_All (Contains nodes) nodes (All-contains_itself nodes))

-- a node that answers this
pub record Answers (n : ℕ) (a : Answer) (m : NodeView) : Type 0 where
  pub is : m.id ≡ n
  pub engine : EngineView
  pub runs : m.engine ≡ Some engine
  pub says : read_answer m.id engine ≡ Some a

module _ (given : Given) (read : Event) (a : Answer) where
  finish_answers : (t : Turn) (stop refusal : Option ℕ) (s : Scene (List Entry)) → (finish whole_logs weight t stop refusal s).1.records.answers ≡ s.records.answers
  unfolding finish
  finish_answers t stop refusal s = worked-keeps whole_logs t (Same t s.records.answers) (weight (work_of stop s)) (λ w busy k. step_answers t s.records.answers w k) (work_of stop s) refl

  played_answers : (m : NodeView) (s : Scene (List Entry)) → s.node ≡ m → (played whole_logs weight given Read read s).1.records.answers ≡ s.records.answers ++ a ∷ [] → Answers m.id a m
  unfolding played
  played_answers m s is q = go (skip_reason Read s.node) q where
    now : Scene (List Entry)
    now = called_at (moment_of read s.node) s

    asked : (o : Option EngineView) → s.node.engine ≡ o → answer_at Read (calls_at given Read (record s.node { moment = moment_of read s.node; engine = o })).1 ≡ Some a → Answers m.id a m
    asked None e f = cc
    asked (Some x) e f = subst (λ (k : NodeView). Answers k.id a k) is (record { is = refl; engine = x; runs = e; says = f })

    go : (o : Option SkipReason) → (scene_after {L = List Entry} (elim o as (λ _. Outcome × Scene (List Entry)) [
      | Some reason ↦ (Skipped reason, s)
      | None ↦ finish whole_logs weight (turn_of Read now.node) read.stop (calls given Read now).0 (calls given Read now).1
    ])).records.answers ≡ s.records.answers ++ a ∷ [] → Answers m.id a m
    go (Some reason) q = absurd (no_longer s.records.answers a q)
    go None q =
        let z : s.records.answers ++ option_to_list (answer_at Read (calls_at given Read now.node).1) ≡ s.records.answers ++ a ∷ [] = sym (finish_answers (turn_of Read now.node) read.stop (calls given Read now).0 (calls given Read now).1) ∙ q in
        asked s.node.engine refl (one_answer (answer_at Read (calls_at given Read now.node).1) a (append_cancel_left s.records.answers _ (a ∷ []) z))

  -- an event that records an answer to a read of this node
  pub read_recorded : (net : Net (List Entry)) (n : ℕ) → read.kind ≡ event.Read n → (happens whole_logs weight given read net).1.records.answers ≡ net.records.answers ++ a ∷ [] → (m : NodeView) × Contains net.nodes m × Answers n a m
  unfolding happens
  read_recorded net n is q = placed (place_of net.nodes n) refl (subst (λ k. (net_after {L = List Entry} (elim (aim_of net.records.bag k) [ None ↦ (Skipped NoMessage, net) | Some aim ↦ at_node net aim.id (played whole_logs weight given aim.act read) ])).records.answers ≡ net.records.answers ++ a ∷ []) is q) where
    at_slot : (i : ℕ) → place_of net.nodes n ≡ Some i → (o : Option NodeView) → slice_get net.nodes i ≡ o
        → (net_after {L = List Entry} (elim o [
          | None ↦ (Skipped NotRunning, net)
          | Some m ↦
              (let r = played whole_logs weight given Read read (record { node = m; records = net.records }) in
              (r.0, record { nodes = slice_set net.nodes i r.1.node; records = r.1.records }))
        ])).records.answers ≡ net.records.answers ++ a ∷ [] → (m : NodeView) × Contains net.nodes m × Answers n a m
    at_slot i p None e q = absurd (no_longer net.records.answers a q)
    at_slot i p (Some m) e q =
        let x : Answers m.id a m = played_answers m (record { node = m; records = net.records }) refl q in
        (m, slice_contains net.nodes i m e, record { is = placed_id net.nodes n i m p e; engine = x.engine; runs = x.runs; says = x.says })

    placed : (o : Option ℕ) → place_of net.nodes n ≡ o → (net_after {L = List Entry} (elim o [ None ↦ (Skipped NotRunning, net) | Some i ↦ at_place net i (played whole_logs weight given Read read) ])).records.answers ≡ net.records.answers ++ a ∷ []
        → (m : NodeView) × Contains net.nodes m × Answers n a m
    placed None p q = absurd (no_longer net.records.answers a q)
    placed (Some i) p q = at_slot i p (slice_get net.nodes i) refl q
