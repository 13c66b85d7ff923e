-- A packed node's engine stays ready, at each event and each command.
use Rattle.std.specs.Prelude.{ℕ, ◌≡◌, Bool, true, false, List, [], ◌∷◌, Option, None, Some, refl, if◌then◌else◌}
use Rattle.std.proofs.Common.{◌∙◌, sym, subst}
use Rattle.std.proofs.lemmas.Cmp.{nat_cmp_total}
use Rattle.std.specs.Ordering.{nat_cmp}
use Rattle.raft_state.specs.declared.ids.LogId.{LogId}
use Rattle.raft_state.specs.declared.state.RaftState.{RaftState}
use Rattle.raft_state.specs.Invariants.{IsSoundState}
use Rattle.raft_state.specs.Same.{nat_same}
use Rattle.raft_command.specs.declared.config.EngineConfig.{EngineConfig}
use Rattle.raft_command.specs.Queue.{popped}
use Rattle.raft_steps.proofs.KeptEngine.{idle_is_sound}
use Rattle.raft_store.specs.Types.{EngineView, WorldCommand}
use Rattle.raft_schedule.specs.declared.event.Event.{Event}
use Rattle.raft_schedule.specs.declared.event.Outcome.{Outcome}
use Rattle.raft_schedule.specs.declared.event.Outcome.TheVariants.{Skipped}
use Rattle.raft_schedule.specs.declared.event.SkipReason.{SkipReason}
use Rattle.raft_schedule.specs.declared.event.Start.TheVariants as starts
use Rattle.raft_calls.specs.Engines.{with_queue}
use Rattle.raft_calls.specs.Feeds.{feed, feed_of}
use Rattle.raft_calls.specs.Held.{IsReady, IsReadyWhereRunning, IsResting, IsRestingWhereRunning}
use Rattle.raft_calls.proofs.Ready.{Taken, begun_ready, fed_ready, popped_ready}
use Rattle.raft_calls.proofs.StartReady.{resumed_ready}
use Rattle.raft_node.specs.declared.act.Act.{Act}
use Rattle.raft_node.specs.declared.act.Act.TheVariants.{ChangeLearners, ChangeMembership, Elect, Fail, FinishSnapshot, Initialize, Propose, Read, Restart, SendHeartbeat, StepDown, Stop, Take, TriggerPurge, TriggerSnapshot}
use Rattle.raft_node.specs.declared.given.Given.{Given}
use Rattle.raft_node.specs.declared.node.Turn.{Turn}
use Rattle.raft_node.specs.Events.{moment_of, skip_reason, turn_of}
use Rattle.raft_node.specs.Work.{one_less, stops}
use Rattle.raft_node.proofs.Ready.{act_ready, skip_moved}
use Rattle.proof_packed.specs.Nodes.{PackedNode, PackedScene, PackedWork, node_exec, packed_called_at, packed_calls, packed_calls_at, packed_done_of, packed_engine_on, packed_finish, packed_finish_snapshot, packed_kept_built, packed_played, packed_step_of, packed_stopped, packed_told_built, packed_unsaved, packed_work_of, packed_work_step, without_store}
use Rattle.proof_packed.specs.Stores.{Application, Packed, PackedStore, packed_committed, packed_outrun, packed_rebuilt, packed_settled_by, packed_started}
use Rattle.raft_packed_node.specs.Held.{IsPackedAtRest, PackedMayCall, PackedNotedFits}
use Rattle.raft_packed_node.proofs.Built.{told_ready}
use Rattle.raft_packed_node.proofs.Queued.{resting_of}
use Rattle.raft_packed_node.proofs.Worked.{all_worked, worked-ends, worked-keeps}

-- parts of what a choice gives
module _ {S : Type 0} where
  abbrev engine_in : PackedWork S → Option EngineView
  engine_in w = w.engine

  abbrev node_in : Option ℕ × PackedNode S → PackedNode S
  node_in r = r.1

  abbrev scene_in : Outcome × PackedScene S → PackedScene S
  scene_in r = r.1

module _ {S : Type 0} (app : Application S) (t : Turn) (brought : Packed S) where
  done_ready : (w : PackedWork S) (e : EngineView) (c : WorldCommand) → Taken e c → IsReadyWhereRunning (packed_done_of app t brought w e c).engine
  done_ready w e c h = go (stops w.left)
    where
      go : (b : Bool) → IsReadyWhereRunning
          (engine_in {S = S} (if b then packed_stopped app t brought (node_exec app t brought e c w.effects)
          else record { engine = Some (feed t.moment c e); effects = node_exec app t brought e c w.effects; left = one_less w.left }))
      go true = tt
      go false = fed_ready t.moment (feed_of c) e h.ready h.held

  items_ready : (w : PackedWork S) (e : EngineView) (cs : List WorldCommand) → e.machine.core.output.items ≡ cs → IsReady e → IsReadyWhereRunning w.engine
      → IsReadyWhereRunning (packed_step_of app t brought w e (popped (record e.machine.core.output { items = cs }))).engine
  items_ready w e [] is h k = k
  items_ready w e (c ∷ cs) is h k = done_ready w (with_queue e (record e.machine.core.output { items = cs })) c (popped_ready e c cs is h)

  -- each command keeps an engine ready
  step_ready : (w : PackedWork S) → IsReadyWhereRunning w.engine → IsReadyWhereRunning (packed_work_step app t brought w).engine
  step_ready w h = go w.engine h
    where
      go : (o : Option EngineView) → IsReadyWhereRunning o
          → IsReadyWhereRunning (engine_in {S = S} (elim o as (λ x. PackedWork S) [
            | None ↦ record w { engine = o }
            | Some e ↦ packed_step_of app t brought (record w { engine = o }) e (popped e.machine.core.output)
          ]))
      go None k = k
      go (Some e) k = items_ready (record w { engine = Some e }) e e.machine.core.output.items refl k k

  -- the same along a step's equation
  pub step_along : (w v : PackedWork S) → v ≡ packed_work_step app t brought w → IsReadyWhereRunning w.engine → IsReadyWhereRunning v.engine
  step_along w v is h = subst (λ (x : PackedWork S). IsReadyWhereRunning x.engine) (sym is) (step_ready w h)

  -- so does the whole queue
  worked_ready : (w : PackedWork S) → IsReadyWhereRunning w.engine → IsReadyWhereRunning (all_worked app t brought w).engine
  worked_ready w h = worked-keeps app t brought (λ v. IsReadyWhereRunning v.engine) (λ v busy k. step_ready v k) w h

module _ {S : Type 0} (app : Application S) where
  -- an engine with a sound state is ready before it resumes
  on_ready : (settings : EngineConfig ℕ) (saved : Bool) (n : PackedNode S) → IsSoundState nat_cmp (packed_started app saved n.store) → IsReady (packed_engine_on app settings saved n)
  on_ready settings saved n h = record {
    sound = idle_is_sound nat_cmp nat_cmp_total nat_same (record settings { id = n.id }) (packed_engine_on app settings saved n).machine.core h;
    held = tt;
  }

  -- a start from the snapshot doesn't read the saved id
  forgotten_starts : (t : PackedStore S) → packed_started app false (record t { saved = None }) ≡ packed_started app false t
  forgotten_starts t = go t.meta.last_log_id
    where
      on : PackedStore S → RaftState ℕ (Unit {0})
      on fit = packed_rebuilt app fit (packed_committed app false fit)

      fitted : (x : LogId ℕ) (b : Bool) → on (if b then record t { log = []; front = Some x; saved = None } else record t { saved = None }) ≡ on (if b then record t { log = []; front = Some x } else t)
      fitted x true = refl
      fitted x false = refl

      go : (p : Option (LogId ℕ)) → on (packed_settled_by app (record t { saved = None }) p) ≡ on (packed_settled_by app t p)
      go None = refl
      go (Some x) = fitted x (packed_outrun app t x)

  -- the end of a build
  kept_ready : (p : Packed S) (n : PackedNode S) (e : EngineView) (r : Option ℕ × EngineView) → n.engine ≡ Some e → IsReady e → IsReady r.1
      → IsReadyWhereRunning (packed_kept_built app p n r).1.engine
  kept_ready p n e (Some k, after) is h next = subst IsReadyWhereRunning (sym is) h
  kept_ready p n e (None, after) is h next = next

  finish_ready : (n : PackedNode S) → IsRestingWhereRunning n.engine → PackedNotedFits n.engine n.noted → IsReadyWhereRunning (packed_finish_snapshot app n).1.engine
  finish_ready n rests fits = go n.engine refl
    where
      noted : (e : EngineView) → n.engine ≡ Some e → (o : Option (Packed S)) → n.noted ≡ o → IsReadyWhereRunning
          (node_in (elim o as (λ _. Option ℕ × PackedNode S) [ None ↦ (None, n) | Some p ↦ packed_kept_built app p n (packed_told_built app p e) ])).engine
      noted e is None q = let r : IsResting e = subst IsRestingWhereRunning is rests in subst IsReadyWhereRunning (sym is) r.ready
      noted e is (Some p) q =
          let r : IsResting e = subst IsRestingWhereRunning is rests in
          kept_ready p n e (packed_told_built app p e) is r.ready (told_ready app e p r.ready r.queue (fits e p is q))

      go : (o : Option EngineView) → n.engine ≡ o → IsReadyWhereRunning
          (node_in (elim o as (λ _. Option ℕ × PackedNode S) [
            | None ↦ (None, n)
            | Some e ↦ elim n.noted as (λ _. Option ℕ × PackedNode S) [ None ↦ (None, n) | Some p ↦ packed_kept_built app p n (packed_told_built app p e) ]
          ])).engine
      go None is = subst IsReadyWhereRunning (sym is) tt
      go (Some e) is = noted e is n.noted refl

  -- an act's calls leave an engine at rest ready, if the node has what they ask for
  pub calls_ready : (given : Given) (act : Act) (n : PackedNode S) → skip_reason act (without_store app n) ≡ None → IsRestingWhereRunning n.engine → PackedMayCall app act n
      → IsReadyWhereRunning (packed_calls_at app given act n).1.engine
  calls_ready given Initialize n none rests may = act_ready given Initialize (without_store app n) none rests tt
  calls_ready given (Elect candidates) n none rests may = act_ready given (Elect candidates) (without_store app n) none rests tt
  calls_ready given (Take m) n none rests may = act_ready given (Take m) (without_store app n) none rests tt
  calls_ready given (Propose values) n none rests may = act_ready given (Propose values) (without_store app n) none rests tt
  calls_ready given SendHeartbeat n none rests may = act_ready given SendHeartbeat (without_store app n) none rests tt
  calls_ready given (Fail target) n none rests may = act_ready given (Fail target) (without_store app n) none rests tt
  calls_ready given TriggerSnapshot n none rests may = act_ready given TriggerSnapshot (without_store app n) none rests tt
  calls_ready given FinishSnapshot n none rests may = finish_ready n rests may
  calls_ready given (TriggerPurge i) n none rests may = act_ready given (TriggerPurge i) (without_store app n) none rests tt
  calls_ready given (Restart starts.Plain) n none rests may = resumed_ready (packed_engine_on app given.settings false n) (on_ready given.settings false n may)
  calls_ready given (Restart starts.Saved) n none rests may = resumed_ready (packed_engine_on app given.settings true n) (on_ready given.settings true n may)
  calls_ready given (Restart starts.Bare) n none rests may =
      begun_ready n.moment (packed_engine_on app given.settings false (packed_unsaved app n)) refl (on_ready given.settings false (packed_unsaved app n) may)
  calls_ready given (ChangeLearners learners) n none rests may = act_ready given (ChangeLearners learners) (without_store app n) none rests tt
  calls_ready given (ChangeMembership groups learners) n none rests may = act_ready given (ChangeMembership groups learners) (without_store app n) none rests tt
  calls_ready given Read n none rests may = act_ready given Read (without_store app n) none rests tt
  calls_ready given StepDown n none rests may = act_ready given StepDown (without_store app n) none rests tt
  calls_ready given Stop n none rests may = tt

  -- a node at rest has it for each act
  pub may_call : (act : Act) (n : PackedNode S) → IsPackedAtRest app n → PackedMayCall app act n
  may_call Initialize n h = tt
  may_call (Elect candidates) n h = tt
  may_call (Take m) n h = tt
  may_call (Propose v) n h = tt
  may_call SendHeartbeat n h = tt
  may_call (Fail target) n h = tt
  may_call TriggerSnapshot n h = tt
  may_call FinishSnapshot n h = h.noted
  may_call (TriggerPurge i) n h = tt
  may_call (Restart starts.Plain) n h = h.starts false
  may_call (Restart starts.Saved) n h = h.starts true
  may_call (Restart starts.Bare) n h = subst (IsSoundState nat_cmp) (sym (forgotten_starts n.store)) (h.starts false)
  may_call (ChangeLearners learners) n h = tt
  may_call (ChangeMembership groups learners) n h = tt
  may_call Read n h = tt
  may_call StepDown n h = tt
  may_call Stop n h = tt

  -- why an act is skipped doesn't hang on the node's moment
  pub skip_at : (act : Act) (n : PackedNode S) (now : ℕ) → skip_reason act (without_store app (record n { moment = now })) ≡ skip_reason act (without_store app n)
  skip_at act n now = skip_moved act (without_store app n) now

  abbrev NodeResting : PackedScene S → Type 0
  NodeResting s = IsRestingWhereRunning s.node.engine

  finish_resting : (t : Turn) (brought : Packed S) (stop refusal : Option ℕ) (s : PackedScene S) → IsReadyWhereRunning s.node.engine → NodeResting (packed_finish app t brought stop refusal s).1
  unfolding packed_finish
  finish_resting t brought stop refusal s h =
      resting_of _ (worked_ready app t brought (packed_work_of app stop s) h) (worked-ends app t brought (packed_work_of app stop s))

  -- an event at a node at rest leaves its engine at rest
  pub played_resting : (given : Given) (act : Act) (brought : Packed S) (event : Event) (s : PackedScene S) → IsRestingWhereRunning s.node.engine
      → (skip_reason act (without_store app s.node) ≡ None → PackedMayCall app act s.node) → NodeResting (packed_played app given act brought event s).1
  unfolding packed_played
  played_resting given act brought event s rests may = go (skip_reason act (without_store app s.node)) refl
    where
      now : PackedScene S
      now = packed_called_at app (moment_of event (without_store app s.node)) s

      go : (o : Option SkipReason) → skip_reason act (without_store app s.node) ≡ o → NodeResting
          (scene_in {S = S} (elim o as (λ _. Outcome × PackedScene S) [
            | Some reason ↦ (Skipped reason, s)
            | None ↦ packed_finish app (turn_of act (without_store app now.node)) brought event.stop (packed_calls app given act now).0 (packed_calls app given act now).1
          ]))
      go (Some reason) is = rests
      go None is =
          finish_resting (turn_of act (without_store app now.node)) brought event.stop (packed_calls app given act now).0 (packed_calls app given act now).1
          (calls_ready given act now.node (skip_at act s.node (moment_of event (without_store app s.node)) ∙ is) rests (may is))
