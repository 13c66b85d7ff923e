-- What a node has committed up to its log's end it has applied: the last applied entry has that id.
use Rattle.std.proofs.Common.{ℕ, ◌+◌, ◌-◌, ◌≡◌, List, length, map, arith, sym, ap, ◌∙◌, Some, slice_get}
use Rattle.std.specs.Option.{option_map}
use Rattle.std.proofs.lemmas.List.{length-map}
use Rattle.std.proofs.lemmas.Option.{slice_get-map}
use Rattle.proof_deeds.specs.raft_state.declared.ids.LogId.{LogId}
use Rattle.proof_deeds.specs.raft_state.Log.{last}
use Rattle.proof_deeds.specs.raft_state.Order.{next}
use Rattle.proof_deeds.specs.raft_store.declared.entry.Entry.{Entry}
use Rattle.proof_deeds.specs.raft_store.Entries.{entry_meaning}
use Rattle.proof_deeds.specs.raft_store.Store.{whole}
use Rattle.proof_deeds.specs.raft_store.Types.{EngineView}
use Rattle.proof_deeds.specs.raft_schedule.declared.event.Event.{Event}
use Rattle.proof_deeds.specs.raft_node.declared.given.Given.{Given}
use Rattle.proof_deeds.specs.raft_node.Net.{NodeView}
use Rattle.proof_deeds.specs.raft_node.Runs.{world_after}
use Rattle.proof_deeds.specs.raft_node.WellFormed.{IsWellFormed}
use Rattle.proof_deeds.proofs.proof_mirror_proofs.Shape.{shape_of, whole_end}
use Rattle.proof_deeds.specs.Images.{setup_of}
use Rattle.proof_deeds.specs.Nets.{EngineFollows}
use Rattle.proof_deeds.proofs.Proved.{followed}
use Rattle.proof_progress.specs.Continuations.{At}
use Rattle.proof_progress.proofs.Applies.{applied_is}
use Rattle.proof_progress.proofs.Exchanging.{engine_follows}
use Rattle.proof_progress.proofs.FoundEnd.{end_stored}
use Rattle.proof_progress.proofs.Values.{some_of, taken_of}

same_some : {A : Type 0} (a b : A) → Some a ≡ Some b → a ≡ b
same_some a b e = cc

module _ (given : Given) (wf : IsWellFormed given) (past : List Event) (t : ℕ) (N : NodeView) (there : At (world_after given past).nodes t N) (e : EngineView) (runs : N.engine ≡ Some e) where
  engine : EngineFollows (setup_of given.membership) N (followed given wf past).world e
  engine = engine_follows given wf past t N there e runs

  abbrev ids : List (LogId ℕ)
  ids = map (λ (x : Entry). x.log_id) (whole N.store)

  pub applied_end : (y : LogId ℕ) → e.machine.core.state.committed ≡ Some y → last e.machine.core.state.ids ≡ Some y → (x : Entry) × (slice_get N.store.applied y.index ≡ Some x) × (x.log_id ≡ y)
  applied_end y committed ends = (r.0, r.1, id_is)
    where
      size : length (whole N.store) ≡ y.index + 1
      size = whole_end entry_meaning N.store e.machine.core.state (shape_of entry_meaning N.store e.machine.core.state engine.in_step.mirrors engine.in_step.marks) ∙ ap next ends

      long : length N.store.applied ≡ y.index + 1
      long = applied_is given wf past t N there e runs ∙ ap next committed

      r : (x : Entry) × (slice_get N.store.applied y.index ≡ Some x)
      r = some_of N.store.applied y.index (let q : length N.store.applied ≡ y.index + 1 = long in omega (arith, q))

      in_whole : slice_get (whole N.store) y.index ≡ Some r.0
      in_whole =
          taken_of (next e.machine.core.state.committed) y.index (whole N.store) r.0
          (ap (λ (es : List Entry). slice_get es y.index) (sym engine.in_step.applied) ∙ r.1)

      place : length ids - 1 ≡ y.index
      place = let n : length ids ≡ length (whole N.store) = ids_length (whole N.store) in let q : length (whole N.store) ≡ y.index + 1 = size in omega (arith, n, q)
        where
          ids_length : (es : List Entry) → length (map (λ (x : Entry). x.log_id) es) ≡ length es
          ids_length es = length-map es (λ (x : Entry). x.log_id)

      id_is : r.0.log_id ≡ y
      id_is =
          same_some r.0.log_id y
          (sym (ap (option_map (λ (x : Entry). x.log_id)) in_whole) ∙ (sym (slice_get-map (λ (x : Entry). x.log_id) (whole N.store) y.index)
          ∙ (sym (ap (slice_get ids) place) ∙ (end_stored N.store e.machine.core.state engine.in_step engine.sound.sound ∙ ends))))
