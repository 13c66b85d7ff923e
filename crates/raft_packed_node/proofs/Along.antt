-- What calls keep, along the equations that they ensure.
use Rattle.std.specs.Prelude.{ℕ, ◌≡◌, None, Option, Result, Ok, Err, IfOk, OnOk, refl}
use Rattle.std.proofs.Common.{◌∙◌, sym, ap, subst}
use Rattle.raft_state.specs.declared.state.RaftState.{RaftState}
use Rattle.raft_command.specs.declared.config.EngineConfig.{EngineConfig}
use Rattle.raft_schedule.specs.declared.event.Event.{Event}
use Rattle.raft_schedule.specs.declared.event.Outcome.{Outcome}
use Rattle.raft_schedule.specs.declared.event.Start.{Start}
use Rattle.raft_schedule.specs.declared.event.Start.TheVariants.{Plain, Saved, Bare}
use Rattle.raft_calls.specs.Held.{IsReadyWhereRunning, IsRestingWhereRunning}
use Rattle.raft_node.specs.declared.act.Act.{Act}
use Rattle.raft_node.specs.declared.given.Given.{Given}
use Rattle.raft_node.specs.Events.{skip_reason}
use Rattle.proof_packed.specs.Nodes.{PackedNode, PackedRecords, PackedScene, packed_called_at, packed_calls, packed_played, packed_restart, without_store}
use Rattle.proof_packed.specs.Stores.{Application, Packed}
use Rattle.raft_packed_node.specs.Effects.{scene}
use Rattle.raft_packed_node.specs.Held.{PackedMayCall}
use Rattle.raft_packed_node.specs.Starts.{packed_opened, packed_started_at, packed_state_for, packed_stopped_node}
use Rattle.raft_packed_node.proofs.Ready.{calls_ready, played_resting, skip_at}

module _ {S : Type 0} (app : Application S) where
  -- a node after the act's calls, at a moment
  pub calls_along : (given : Given) (act : Act) (now : ℕ) (n new : PackedNode S) (w v : PackedRecords S) (r : Option ℕ)
      → (r, scene new v) ≡ packed_calls app given act (packed_called_at app now (scene n w))
      → skip_reason act (without_store app n) ≡ None → IsRestingWhereRunning n.engine → PackedMayCall app act n → IsReadyWhereRunning new.engine
  calls_along given act now n new w v r is none rests may =
      subst (λ (m : PackedNode S). IsReadyWhereRunning m.engine) (sym (ap (λ (p : Option ℕ × PackedScene S). p.1.node) is))
      (calls_ready app given act (record n { moment = now }) (skip_at app act n now ∙ none) rests may)

  -- a node that was opened for a start, with an engine that starts with the state that its store gave
  pub restart_along : (settings : EngineConfig ℕ) (start : Start) (n m new : PackedNode S) (s : RaftState ℕ (Unit {0})) (r : Option ℕ)
      → m ≡ packed_opened app start n → s ≡ packed_state_for app start n.store → (r, new) ≡ packed_started_at settings start s (packed_stopped_node m)
      → (r, new) ≡ packed_restart app settings start n
  restart_along settings start n m new s r ready state done =
      done ∙ (ap (λ (o : PackedNode S). packed_started_at settings start s (packed_stopped_node o)) ready
      ∙ (ap (λ (x : RaftState ℕ (Unit {0})). packed_started_at settings start x (packed_opened app start n)) state ∙ go start))
    where
      go : (start : Start) → packed_started_at settings start (packed_state_for app start n.store) (packed_opened app start n) ≡ packed_restart app settings start n
      go Plain = refl
      go Saved = refl
      go Bare = refl

  -- an event at a node whose engine is at rest, and that has what the act's calls ask for, leaves its engine at rest
  pub rests_along : {E : Type 0} (given : Given) (act : Act) (brought : Packed S) (event : Event) (s : PackedScene S) (n : PackedNode S) (v : PackedRecords S) (r : Result Outcome E)
      → IfOk r (λ o. (o, scene n v) ≡ packed_played app given act brought event s) → IsRestingWhereRunning s.node.engine → OnOk r (PackedMayCall app act s.node)
      → OnOk r (IsRestingWhereRunning n.engine)
  rests_along given act brought event s n v (Ok o) is rests may =
      subst (λ (p : Outcome × PackedScene S). IsRestingWhereRunning p.1.node.engine) (sym is) (played_resting app given act brought event s rests (λ _. may))
  rests_along given act brought event s n v (Err e) is rests may = tt
