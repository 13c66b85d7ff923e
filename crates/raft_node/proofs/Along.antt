-- What calls keep, along the equations that they ensure.
use Rattle.std.specs.Prelude.{ℕ, ◌≡◌, ◌<◌, List, length, Option, None, Some}
use Rattle.std.specs.List.{slice_index_or}
use Rattle.std.proofs.Common.{◌∙◌, sym, ap, subst, refl}
use Rattle.std.specs.Ordering.{nat_cmp}
use Rattle.raft_state.specs.declared.state.RaftState.{RaftState}
use Rattle.raft_command.specs.declared.config.EngineConfig.{EngineConfig}
use Rattle.raft_store.specs.declared.entry.Entry.{Entry}
use Rattle.raft_store.specs.Entries.{entry_meaning}
use Rattle.raft_store.specs.Types.{EngineView}
use Rattle.raft_node.specs.declared.act.Act.{Act}
use Rattle.raft_node.specs.declared.given.Given.{Given}
use Rattle.raft_schedule.specs.declared.event.Start.{Start}
use Rattle.raft_schedule.specs.declared.event.Start.TheVariants.{Plain, Saved, Bare}
use Rattle.raft_calls.specs.Deliveries.{answered, with_machine}
use Rattle.raft_node.specs.Events.{Scene, called_at, calls, scene, skip_reason}
use Rattle.raft_node.specs.Held.{AllResting, IsAtRest, MayCall}
use Rattle.raft_calls.specs.Held.{IsReadyWhereRunning, IsRestingWhereRunning}
use Rattle.raft_node.specs.Net.{NodeView, Records}
use Rattle.raft_node.specs.Snapshots.{finish_snapshot, kept_built}
use Rattle.raft_calls.specs.Snapshots.{told_built}
use Rattle.raft_node.specs.Starts.{opened, restart, started_at, state_for}
use Rattle.raft_error.specs.declared.error.EngineError.{EngineError}
use Rattle.raft_steps.specs.Refusals.{refusals_of_spent}
use Rattle.raft_steps.specs.SnapshotCalls.{finish_building_snapshot}
use Rattle.raft_store.specs.Built.{keep_snapshot, meta_of}
use Rattle.raft_node.proofs.Ready.{act_ready, skip_moved}

-- a node after the act's calls, at a moment
pub calls_along : {L : Type 0} (given : Given) (act : Act) (now : ℕ) (n new : NodeView) (w v : Records L) (r : Option ℕ) → (r, scene new v) ≡ calls given act (called_at now (scene n w))
    → skip_reason act n ≡ None → IsRestingWhereRunning n.engine → MayCall act n → IsReadyWhereRunning new.engine
calls_along {L = L} given act now n new w v r is none rests may =
    subst (λ (m : NodeView). IsReadyWhereRunning m.engine) (sym (ap (λ (p : Option ℕ × Scene L). p.1.node) is))
    (act_ready given act (record n { moment = now }) (skip_moved act n now ∙ none) rests may)

-- the node at a place
pub item_along : (nodes : List NodeView) (i : ℕ) (n : NodeView) → AllResting nodes → n ≡ slice_index_or nodes i n → i < length nodes → IsAtRest n
item_along nodes i n h is within = subst IsAtRest (sym is) (h i n within)

-- the end of a build at a running node with a note
finish_of : (n : NodeView) (e : EngineView) (es : List Entry) → n.engine ≡ Some e → n.noted ≡ Some es → finish_snapshot n ≡ kept_built es n (told_built es e)
finish_of n e es is noted =
    ap (λ (o : Option EngineView). elim o as (λ _. Option ℕ × NodeView) [
      | None ↦ (None, n)
      | Some e ↦ elim n.noted as (λ _. Option ℕ × NodeView) [ None ↦ (None, n) | Some es ↦ kept_built es n (told_built es e) ]
    ]) is
    ∙ ap (λ (o : Option (List Entry)). elim o as (λ _. Option ℕ × NodeView) [ None ↦ (None, n) | Some es ↦ kept_built es n (told_built es e) ]) noted

-- it is kept, or the engine refuses it
pub built_along : (n : NodeView) (e new : EngineView) (es : List Entry) → n.engine ≡ Some e → n.noted ≡ Some es → (None, new) ≡ told_built es e
    → (None, record n { store = keep_snapshot entry_meaning es n.store; engine = Some new; noted = None }) ≡ finish_snapshot n
built_along n e new es is noted told = ap (kept_built es n) told ∙ sym (finish_of n e es is noted)

pub unbuilt_along : (n : NodeView) (e new : EngineView) (es : List Entry) (k : ℕ) → n.engine ≡ Some e → n.noted ≡ Some es → (Some k, new) ≡ told_built es e
    → (Some k, record n { engine = Some new; noted = Some es }) ≡ finish_snapshot n
unbuilt_along n e new es k is noted told =
    unchanged (ap Some (same (refusals_of_spent e.machine) told) ∙ sym is) (sym noted) ∙ (ap (kept_built es n) told ∙ sym (finish_of n e es is noted))
  where
    unchanged : {o : Option EngineView} {m : Option (List Entry)} → o ≡ n.engine → m ≡ n.noted → ◌≡◌ {A = Option ℕ × NodeView} (Some k, record n { engine = o; noted = m }) (Some k, n)
    unchanged p q = λ i. (Some k, record n { engine = p i; noted = q i })

    same : (asks : Option (EngineError ℕ (Unit {0})))
        → (Some k, new) ≡ answered asks e (with_machine e (finish_building_snapshot nat_cmp e.config (meta_of entry_meaning es) e.machine)) → new ≡ e
    same None q = let f : ◌≡◌ {A = Option ℕ} (Some k) None = ap (λ (p : Option ℕ × EngineView). p.0) q in cc
    same (Some r) q = ap (λ (p : Option ℕ × EngineView). p.1) q

-- a node that was opened for a start, with an engine that starts with the state that its store gave
pub restart_along : (settings : EngineConfig ℕ) (start : Start) (n m new : NodeView) (s : RaftState ℕ (Unit {0})) (r : Option ℕ)
    → m ≡ opened start n → s ≡ state_for start n.store → (r, new) ≡ started_at settings start s m → (r, new) ≡ restart settings start n
restart_along settings start n m new s r ready state done =
    done ∙ (ap (started_at settings start s) ready ∙ (ap (λ (x : RaftState ℕ (Unit {0})). started_at settings start x (opened start n)) state ∙ go start))
  where
    go : (start : Start) → started_at settings start (state_for start n.store) (opened start n) ≡ restart settings start n
    go Plain = refl
    go Saved = refl
    go Bare = refl
