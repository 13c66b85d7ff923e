-- What packed servers do is what servers do, packed.
use Rattle.std.specs.Prelude.{ℕ, ◌≡◌, ◌<◌, List, [], ◌∷◌, length, map, Contains, refl}
use Rattle.std.specs.List.{slice_index_or}
use Rattle.std.proofs.Common.{◌∙◌, sym, ap, subst, arith, zero, suc}
use Rattle.proof_packed.specs.raft_node.declared.act.Act.{Act}
use Rattle.proof_packed.specs.raft_node.declared.act.Act.TheVariants.{Initialize, Elect, Take, Propose, SendHeartbeat, Fail, TriggerSnapshot, FinishSnapshot}
use Rattle.proof_packed.specs.raft_node.declared.act.Act.TheVariants.{TriggerPurge, Restart, ChangeLearners, ChangeMembership, Read, StepDown, Stop}
use Rattle.proof_packed.specs.raft_node.declared.given.Given.{Given}
use Rattle.proof_packed.specs.raft_node.WellFormed.{IsWellFormed}
use Rattle.proof_packed.specs.raft_calls.declared.message.Message.{Message}
use Rattle.proof_servers.specs.Servers as model
use Rattle.proof_servers.specs.Servers.{Action, AllMayAct, Cluster, MayAct, MayTake, Step, after_action, new_cluster}
use Rattle.proof_packed.specs.Nodes.{PackedMessage, of_no_entries, packed_message}
use Rattle.proof_packed.specs.Stores.{Application, Packed}
use Rattle.proof_packed_servers.specs.Laws.{IsPackedRun}
use Rattle.proof_packed_servers.specs.Servers.{Crashes, Flushes, PackedAction, PackedAllMayAct, PackedMayAct, PackedMayTake, Takes}
use Rattle.proof_packed_servers.specs.Servers.{action_packed, cluster_packed, packed_after_action, packed_after_actions, packed_new_cluster}
use Rattle.proof_packed_servers.specs.Servers.{step_packed}
use Rattle.proof_packed_servers.proofs.Clusters.{Made, action_kept, clusters_kept, made_more, new_made}

-- an element of a mapped list comes of one
pub unmapped : {A B : Type 0} (f : A → B) (xs : List A) (y : B) → Contains (map f xs) y → (x : A) × Contains xs x × (f x ≡ y)
unmapped f [] y h = absurd (let l : h.0 < 0 = h.1 in omega arith)
unmapped {A} f (x ∷ xs) y h = go h.0 h.1 h.2 (unmapped f xs y)
  where
    go : (k : ℕ) → k < length (map f (x ∷ xs)) → slice_index_or (map f (x ∷ xs)) k y ≡ y
        → (Contains (map f xs) y → (z : A) × Contains xs z × (f z ≡ y))
        → (z : A) × Contains (x ∷ xs) z × (f z ≡ y)
    go zero l e rest = (x, (0, omega arith, refl), e)
    go (suc k) l e rest =
        let r : (z : A) × Contains xs z × (f z ≡ y) = rest (k, omega arith, e) in
        let within : r.1.0 < length xs = r.1.1 in
        (r.0, (suc r.1.0, omega arith, r.1.2), r.2)

module _ {S : Type 0} (app : Application S) where
  -- a step that may be taken is one, packed
  module _ (bag : List Message) (id at : ℕ) (brought : Packed S) where
    abbrev Unpacked : Act → Type 0
    Unpacked act = (theirs : Step) × MayTake bag id theirs.act × (step_packed app theirs ≡ record { act = act; brought = brought; at = at })

    plain : (act : Act) → step_packed app (record { act = act; at = at }) ≡ record { act = act; brought = of_no_entries app; at = at }
        → brought ≡ of_no_entries app → step_packed app (record { act = act; at = at }) ≡ record { act = act; brought = brought; at = at }
    plain act e h = e ∙ ap (λ (b : Packed S). record { act = act; brought = b; at = at }) (sym h)

    unpacked : (act : Act) → PackedMayTake app (map (packed_message app) bag) id brought act → Unpacked act
    unpacked Initialize h = (record { act = Initialize; at = at }, tt, plain Initialize refl h)
    unpacked (Elect candidates) h = (record { act = Elect candidates; at = at }, tt, plain (Elect candidates) refl h)
    unpacked (Take m) h =
        let r : (x : Message) × Contains bag x × (packed_message app x ≡ record { message = m; brought = brought }) =
        unmapped (packed_message app) bag _ h.0 in (
          record { act = Take r.0; at = at },
          (r.1, ap (λ (x : PackedMessage S). x.message.to) r.2 ∙ h.1),
          ap (λ (x : PackedMessage S). record { act = Take x.message; brought = x.brought; at = at }) r.2,
        )
    unpacked (Propose values) h = (record { act = Propose values; at = at }, tt, plain (Propose values) refl h)
    unpacked SendHeartbeat h = (record { act = SendHeartbeat; at = at }, tt, plain SendHeartbeat refl h)
    unpacked (Fail target) h = (record { act = Fail target; at = at }, tt, plain (Fail target) refl h)
    unpacked TriggerSnapshot h = (record { act = TriggerSnapshot; at = at }, tt, plain TriggerSnapshot refl h)
    unpacked FinishSnapshot h = (record { act = FinishSnapshot; at = at }, tt, plain FinishSnapshot refl h)
    unpacked (TriggerPurge i) h = (record { act = TriggerPurge i; at = at }, tt, plain (TriggerPurge i) refl h)
    unpacked (Restart start) h = (record { act = Restart start; at = at }, tt, plain (Restart start) refl h)
    unpacked (ChangeLearners learners) h = (record { act = ChangeLearners learners; at = at }, tt, plain (ChangeLearners learners) refl h)
    unpacked (ChangeMembership groups learners) h =
        (record { act = ChangeMembership groups learners; at = at }, tt, plain (ChangeMembership groups learners) refl h)
    unpacked Read h = (record { act = Read; at = at }, tt, plain Read refl h)
    unpacked StepDown h = (record { act = StepDown; at = at }, tt, plain StepDown refl h)
    unpacked Stop h = (record { act = Stop; at = at }, tt, plain Stop refl h)

  module _ (given : Given) where
    -- and so is an action
    action_unpacked : (a : PackedAction S) (c : Cluster) → PackedMayAct app given a (cluster_packed app c)
        → (theirs : Action) × MayAct given theirs c × (action_packed app theirs ≡ a)
    action_unpacked (Takes id step) c may =
        let r = unpacked c.released.bag id step.at step.brought step.act may.1 in
        (model.Takes id r.0, (may.0, r.1), ap (Takes id) r.2)
    action_unpacked (Flushes id) c may = (model.Flushes id, may, refl)
    action_unpacked (Crashes id k at) c may = (model.Crashes id k at, may, refl)

    module _ (wf : IsWellFormed given) where
      all_unpacked : (actions : List (PackedAction S)) (c : Cluster) → PackedAllMayAct app given actions (cluster_packed app c) → Made given c
          → (theirs : List Action) × AllMayAct given theirs c × (map (action_packed app) theirs ≡ actions)
      all_unpacked [] c may m = ([], tt, refl)
      all_unpacked (a ∷ rest) c may m =
          let one : (x : Action) × MayAct given x c × (action_packed app x ≡ a) = action_unpacked a c may.0 in
          let d : Cluster = after_action given one.0 c in
          let next : cluster_packed app d ≡ packed_after_action app given a (cluster_packed app c) =
          action_kept given wf app one.0 c one.1 m ∙ ap (λ x. packed_after_action app given x (cluster_packed app c)) one.2 in
          let later : (theirs : List Action) × AllMayAct given theirs d × (map (action_packed app) theirs ≡ rest) =
          all_unpacked rest d (subst (PackedAllMayAct app given rest) (sym next) may.1) (made_more given c one.0 m one.1) in
          (one.0 ∷ later.0, (one.1, later.1), λ i. one.2 i ∷ later.2 i)

      pub runs_unpacked : (actions : List (PackedAction S)) → PackedAllMayAct app given actions (packed_new_cluster app given)
          → (theirs : List Action) × IsPackedRun app given theirs actions
      runs_unpacked actions may =
          let r : (theirs : List Action) × AllMayAct given theirs (new_cluster given) × (map (action_packed app) theirs ≡ actions) =
          all_unpacked actions (new_cluster given) may (new_made given) in (
            r.0,
            record {
              may = r.1;
              acts = r.2;
              ends = clusters_kept given wf app r.0 r.1 ∙ ap (λ xs. packed_after_actions app given xs (packed_new_cluster app given)) r.2;
            },
          )
