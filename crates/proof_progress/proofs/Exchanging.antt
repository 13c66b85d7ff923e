-- Nodes of a reached world, and the requests that were sent to them.
use Rattle.std.proofs.Common.{ℕ, zero, suc, ◌+◌, ◌-◌, ◌<◌, ◌≡◌, Bool, true, false, List, [], ◌∷◌, length, arith, refl, sym, subst, Option, None, Some}
use Rattle.std.specs.Prelude.{◌^◌, Contains, IfSome, if◌then◌else◌, nat_eq, nat_le, slice_get}
use Rattle.std.specs.List.{list_any}
use Rattle.std.proofs.lemmas.Bool.Decides.{nat_tests}
use Rattle.proof_deeds.specs.raft_state.declared.ids.LogId.{LogId}
use Rattle.proof_deeds.specs.raft_state.LogLaws.{IsRun}
use Rattle.proof_deeds.specs.raft_steps.Refusals.{is_at_end}
use Rattle.proof_deeds.specs.raft_store.declared.entry.Entry.{Entry}
use Rattle.proof_deeds.specs.raft_store.Types.{EngineView}
use Rattle.proof_deeds.specs.raft_schedule.declared.event.Event.{Event}
use Rattle.proof_deeds.specs.raft_node.declared.given.Given.{Given}
use Rattle.proof_deeds.specs.raft_calls.declared.message.Body.TheVariants as body
use Rattle.proof_deeds.specs.raft_calls.declared.message.Message.{Message}
use Rattle.proof_deeds.specs.raft_calls.declared.message.Origin.{Origin}
use Rattle.proof_deeds.specs.raft_node.declared.node.Turn.{Turn}
use Rattle.proof_deeds.specs.raft_calls.Deliveries.{take_append}
use Rattle.proof_deeds.specs.raft_node.Events.{message_at}
use Rattle.proof_deeds.specs.raft_node.Net.{Net, NodeView}
use Rattle.proof_deeds.specs.raft_node.Runs.{world_after}
use Rattle.proof_deeds.specs.raft_node.Safety.{IsOtherRefusal}
use Rattle.proof_deeds.specs.raft_node.WellFormed.{IsWellFormed}
use Rattle.proof_deeds.specs.Follows.{AppendSent, MessageIs}
use Rattle.proof_deeds.specs.Images.{Ideal, setup_of}
use Rattle.proof_deeds.specs.Knows.{Delivered}
use Rattle.proof_deeds.specs.Nets.{EngineFollows, NodeFollows}
use Rattle.proof_deeds.proofs.AllLaws.{all_laws}
use Rattle.proof_deeds.proofs.AppendFitting.{Settled}
use Rattle.proof_deeds.proofs.Drains.{EngineWorks}
use Rattle.proof_deeds.proofs.Events.{rests_works}
use Rattle.proof_deeds.proofs.Joined.{ExtraAt}
use Rattle.proof_deeds.proofs.NeverRefused.{deliver_number}
use Rattle.proof_deeds.proofs.Promised.{one_of}
use Rattle.proof_deeds.proofs.Proved.{followed}
use Rattle.proof_progress.specs.Continuations.{At}
use Rattle.proof_progress.proofs.Campaigns.{at_id}
use Rattle.proof_progress.proofs.Chosen.{at_contains}

-- a message with a number is in the bag
pub message_contains : (bag : List Message) (k : ℕ) (m : Message) → message_at bag k ≡ Some m → Contains bag m
message_contains bag zero m h = cc
message_contains bag (suc k) m h = has bag k m (subst (λ j. slice_get bag j ≡ Some m) (less k) (found (nat_eq (suc k) 0) (busy k) h))
  where
    less : (k : ℕ) → suc k - 1 ≡ k
    less k = omega arith

    busy : (k : ℕ) → nat_eq (suc k) 0 ≡ false
    busy k = grind (arith, nat_tests)

    found : (b : Bool) → b ≡ false → ◌≡◌ {A = Option Message} (if b then None else slice_get bag (suc k - 1)) (Some m) → slice_get bag (suc k - 1) ≡ Some m
    found true e h = cc
    found false e h = h

    has : (xs : List Message) (i : ℕ) (m : Message) → slice_get xs i ≡ Some m → Contains xs m
    has [] i m h = cc
    has (x ∷ xs) zero m h = let z : x ≡ m = cc in (zero, omega arith, z)
    has (x ∷ xs) (suc i) m h = let c = has xs i m h in (suc c.0, (let l = c.1 in omega (arith, l)), c.2)

-- ids that run from one on lie below their last
pub ids_below : (n : ℕ) (ids : List (LogId ℕ)) → IsRun n ids → n + length ids < 2 ^ 64 → list_any is_at_end ids ≡ false
ids_below n [] r h = refl
ids_below n (y ∷ ys) r h =
    let t : nat_le 18446744073709551615 y.index ≡ false = low y.index n (length ys) r.0 h in
    rw t (ids_below (n + 1) ys r.1 (shift n (length ys) h))
  where
    low : (i n k : ℕ) → i ≡ n → n + suc k < 2 ^ 64 → nat_le 18446744073709551615 i ≡ false
    low i n k e h = let l : i < 18446744073709551615 = omega (arith, e, h) in grind (arith, nat_tests)

    shift : (n k : ℕ) → n + suc k < 2 ^ 64 → (n + 1) + k < 2 ^ 64
    shift n k h = omega (arith, h)

module _ (given : Given) (wf : IsWellFormed given) (past : List Event) where
  abbrev net : Net (List Entry)
  net = world_after given past

  abbrev ideal : Ideal
  ideal = (followed given wf past).world

  -- a node of the world, and its engine
  module _ (id : ℕ) (N : NodeView) (at : At (world_after given past).nodes id N) where
    pub node_follows : NodeFollows (setup_of given.membership) (followed given wf past).world (world_after given past).records N
    node_follows = one_of (NodeFollows (setup_of given.membership) (followed given wf past).world (world_after given past).records) (world_after given past).nodes N (followed given wf past).follows.nodes (at_contains (world_after given past).nodes id N at)

    module _ (e : EngineView) (runs : N.engine ≡ Some e) where
      pub engine_follows : EngineFollows (setup_of given.membership) N (followed given wf past).world e
      engine_follows = subst (λ p. IfSome p (EngineFollows (setup_of given.membership) N (followed given wf past).world)) runs node_follows.engine

      settled : Settled (setup_of given.membership) (followed given wf past).world e.machine.core.state
      settled =
          subst (λ p. IfSome p (λ (e : EngineView). Settled (setup_of given.membership) (followed given wf past).world e.machine.core.state)) runs
          (one_of (ExtraAt given (Settled (setup_of given.membership)) (followed given wf past).world) (world_after given past).nodes N (followed given wf past).extra (at_contains (world_after given past).nodes id N at))

      -- a request that was sent to it
      module _ (k from now : ℕ) (o : Origin) (prev : Option (LogId ℕ)) (es : List Entry) (told : Option (LogId ℕ)) (there : message_at (world_after given past).records.bag k ≡ Some (record { from = from; to = id; body = body.AppendRequest o prev es told })) where
        abbrev msg : Message
        msg = record { from = from; to = id; body = body.AppendRequest o prev es told }

        pub append_sent : AppendSent (setup_of given.membership) id o prev es told (followed given wf past).world
        append_sent = one_of (MessageIs (setup_of given.membership) (followed given wf past).world) (world_after given past).records.bag msg (followed given wf past).follows.records.bag (message_contains (world_after given past).records.bag k msg there)

        -- it isn't refused for what the node has
        pub taken_plain : IfSome (take_append o.session_id.vote prev es told now e).0 IsOtherRefusal
        taken_plain =
            let t : Turn = record { id = N.id; moment = now; request = Some msg } in
            let d : Delivered (setup_of given.membership) t (followed given wf past).world msg = record { request = refl; here = sym (at_id (world_after given past).nodes id N at); is = append_sent } in
            let w : EngineWorks given.membership (Settled (setup_of given.membership)) t N.store (followed given wf past).world e =
            rests_works given.membership (Settled (setup_of given.membership)) (all_laws given.membership) t node_follows.node N.store (followed given wf past).world (followed given wf past).follows.reached node_follows.ordered N e refl refl node_follows.shaped node_follows.store engine_follows settled in
            deliver_number given.membership (Settled (setup_of given.membership)) (all_laws given.membership) t node_follows.node N.store (followed given wf past).world (followed given wf past).follows.reached node_follows.ordered e w engine_follows.queue msg d (body.AppendRequest o prev es told) refl
