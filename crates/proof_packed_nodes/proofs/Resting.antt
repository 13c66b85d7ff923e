-- Between two events each packed node is at rest, since the node that it stands for is.
use Rattle.std.specs.Prelude.{◌≡◌, List, [], ◌∷◌, Option, None, Some, All, map, refl}
use Rattle.std.specs.List.{AllByRecursion}
use Rattle.std.specs.Option.{option_map}
use Rattle.std.specs.Ordering.{nat_cmp}
use Rattle.std.proofs.Common.{◌∙◌, sym, ap, subst}
use Rattle.std.proofs.lemmas.List.Elements.{All-from_recursion}
use Rattle.raft_state.specs.Invariants.{IsSoundState}
use Rattle.raft_store.specs.declared.entry.Entry.{Entry}
use Rattle.raft_store.specs.Entries.{entry_meaning}
use Rattle.raft_store.specs.Types.{EngineView}
use Rattle.raft_schedule.specs.declared.event.Event.{Event}
use Rattle.raft_node.specs.raft_calls.Held.{IsResting, IsRestingWhereRunning, NoteFits}
use Rattle.raft_node.specs.declared.given.Given.{Given}
use Rattle.raft_node.specs.Held.{IsAtRest}
use Rattle.raft_node.specs.Net.{NodeView, Records}
use Rattle.raft_node.specs.Runs.{world_after}
use Rattle.raft_node.specs.WellFormed.{IsWellFormed}
use Rattle.proof_mirror.specs.Ready.{Shaped, Ordered}
use Rattle.proof_agreement.specs.Machine.{Setup}
use Rattle.proof_packed_worlds.specs.proof_deeds.Chains.{Reached}
use Rattle.proof_packed_worlds.specs.proof_deeds.Images.{Ideal}
use Rattle.proof_packed_worlds.specs.proof_deeds.Nets.{NodeFollows}
use Rattle.proof_packed_worlds.proofs.proof_deeds_proofs.Proved.{followed}
use Rattle.proof_packed_worlds.proofs.proof_deeds_proofs.Resting.{node_rests}
use Rattle.raft_packed_node.specs.proof_packed.Laws.{HasEmptyQueue}
use Rattle.raft_packed_node.specs.proof_packed.Nodes.{PackedNode, bare_engine, packed_node}
use Rattle.raft_packed_node.specs.proof_packed.Stores.{Application, Packed, packed}
use Rattle.proof_packed_worlds.specs.Worlds.{PackedNet, packed_after}
use Rattle.raft_packed_node.proofs.proof_packed_proofs.Events.{empty_queue_bare}
use Rattle.raft_packed_node.proofs.proof_packed_stores_proofs.Stores.{packs_stores}
use Rattle.proof_packed_worlds.proofs.Worlds.{world_kept}
use Rattle.raft_packed_node.specs.Held.{IsPackedAtRest, PackedNotedFits, PackedNoteFits}

-- an engine at rest has nothing queued
rested_queue : (n : NodeView) → IsRestingWhereRunning n.engine → HasEmptyQueue n
rested_queue n h = λ e is. (let r : IsResting e = subst IsRestingWhereRunning is h in r.queue)

-- so it is the same without a snapshot's data
rested_bare : (o : Option EngineView) → ((e : EngineView) → o ≡ Some e → e.machine.core.output.items ≡ []) → option_map bare_engine o ≡ o
rested_bare None h = refl
rested_bare (Some e) h = ap (λ x. Some x) (empty_queue_bare e (h e refl))

module _ {S : Type 0} (app : Application S) where
  module _ (n : NodeView) (shaped : Shaped entry_meaning n.store) (ordered : Ordered nat_cmp entry_meaning n.store) (h : IsAtRest n) where
    same_engine : option_map bare_engine n.engine ≡ n.engine
    same_engine = rested_bare n.engine (rested_queue n h.resting)

    -- entries that fit as a note fit packed, by their last id
    noted_packed : PackedNotedFits (packed_node app n).engine (packed_node app n).noted
    noted_packed e p is q = go n.noted refl q
      where
        go : (o : Option (List Entry)) → n.noted ≡ o → option_map (packed app) o ≡ Some p → PackedNoteFits e p
        go None noted r = cc
        go (Some es) noted r =
            let same : packed app es ≡ p = cc in
            let f : NoteFits e es = h.noted e es (sym same_engine ∙ is) noted in
            let g : PackedNoteFits e (packed app es) = record { fit = f.fit; committed = f.committed } in
            subst (PackedNoteFits e) same g

    node_packed : IsPackedAtRest app (packed_node app n)
    node_packed = record {
      resting = subst IsRestingWhereRunning (sym same_engine) h.resting;
      noted = noted_packed;
      starts = λ saved. (let k = packs_stores app in subst (IsSoundState nat_cmp) (k.starts saved n.store shaped ordered).1 (h.starts saved));
    }

  module _ (s : Setup Entry) (W : Ideal) (reached : Reached s W) (rs : Records (List Entry)) where
    each_packed : (ns : List NodeView) → AllByRecursion (NodeFollows s W rs) ns → AllByRecursion (IsPackedAtRest app) (map (packed_node app) ns)
    each_packed [] h = tt
    each_packed (n ∷ ns) h = (node_packed n h.0.shaped h.0.ordered (node_rests s W reached rs n h.0), each_packed ns h.1)

  -- the nodes of a run
  pub all_rest : (given : Given) → IsWellFormed given → (es : List Event) → All (IsPackedAtRest app) (packed_after app given es).nodes
  all_rest given wf es =
      let f = followed given wf es in
      let net = world_after given es in
      subst (λ (w : PackedNet S). All (IsPackedAtRest app) w.nodes) (world_kept app given wf es)
      (All-from_recursion (IsPackedAtRest app) (map (packed_node app) net.nodes)
      (each_packed _ f.world f.follows.reached net.records net.nodes f.follows.nodes))
