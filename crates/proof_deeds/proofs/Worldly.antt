-- The world after any events: followed from the empty one on.
use Rattle.std.proofs.Common.{ℕ, ◌<◌, ◌≡◌, ◌≢◌, true, false, List, [], ◌∷◌, map, arith, refl, sym, ◌∙◌, true≢false}
use Rattle.std.specs.Prelude.{nat_eq}
use Rattle.std.specs.List.{AllByRecursion, list_any}
use Rattle.std.specs.Ordering.{nat_cmp}
use Rattle.std.proofs.lemmas.Bool.Decides.{nat_tests}
use Rattle.std.proofs.lemmas.List.Elements.{recursion_from_All}
use Rattle.raft_node.specs.raft_state.State.{empty}
use Rattle.raft_node.specs.raft_command.declared.config.EngineConfig.{EngineConfig}
use Rattle.proof_agreement.specs.Stores as stores
use Rattle.raft_node.proofs.raft_steps_proofs.Unrefused.{or_fails}
use Rattle.raft_node.specs.raft_store.Entries.{entry_meaning}
use Rattle.raft_node.specs.raft_store.Store.{no_store}
use Rattle.proof_mirror.proofs.Restarting.{new_in_step, new_ordered}
use Rattle.proof_mirror.proofs.Shape.{shaped_of}
use Rattle.raft_node.specs.raft_schedule.declared.event.Event.{Event}
use Rattle.raft_node.specs.Net.{NodeView, empty_net, new_node, no_records}
use Rattle.raft_node.specs.declared.given.Given.{Given}
use Rattle.raft_node.specs.Runs.{moment, start, world_after}
use Rattle.raft_node.specs.WellFormed.{IsWellFormed, has_twice}
use Rattle.raft_node.proofs.raft_calls_proofs.Ready.{new_resting}
use Rattle.proof_deeds.specs.Images.{Ideal, setup_of}
use Rattle.proof_deeds.specs.Nets.{AllApart, NodeFollows}
use Rattle.proof_deeds.proofs.Calls.{CallLaws, WorldState}
use Rattle.proof_deeds.proofs.Joined.{ExtraAt, Followed, run_followed}
use Rattle.proof_deeds.proofs.Moments.{Passed, run_passed}
use Rattle.proof_deeds.proofs.Worlds.{does_self}

-- ids, each once
abbrev pub Once : List ℕ → Type 0
Once [] = Unit {0}
Once (id ∷ ids) = AllByRecursion (λ i. i ≢ id) ids × Once ids

none_is : (id : ℕ) (ids : List ℕ) → list_any (λ other. nat_eq other id) ids ≡ false → AllByRecursion (λ i. i ≢ id) ids
none_is id [] e = tt
none_is id (i ∷ ids) e =
    let p : (nat_eq i id ≡ false) × (list_any (λ other. nat_eq other id) ids ≡ false) = or_fails (nat_eq i id) (list_any (λ other. nat_eq other id) ids) e in
    (λ q. other i id q p.0, none_is id ids p.1)
  where
    other : (a b : ℕ) → a ≡ b → nat_eq a b ≡ false → ⊥
    other a b q e = let z : nat_eq a b ≡ true = grind (arith, nat_tests) in true≢false (sym z ∙ e)

pub once_of : (ids : List ℕ) → has_twice ids ≡ false → Once ids
once_of [] e = tt
once_of (id ∷ ids) e =
    let p : (list_any (λ other. nat_eq other id) ids ≡ false) × (has_twice ids ≡ false) = or_fails (list_any (λ other. nat_eq other id) ids) (has_twice ids) e in
    (none_is id ids p.0, once_of ids p.1)

module _ (given : Given) (Extra : Ideal → WorldState → Type 0) (new : Extra (stores.empty (setup_of given.membership)) (empty 0)) (settings : EngineConfig ℕ) where
  new_follows : (id : ℕ) → id < 18446744073709551616 → NodeFollows (setup_of given.membership) (stores.empty (setup_of given.membership)) no_records (new_node settings id)
  new_follows id node = record {
    node = node;
    store = record { vote = refl; vote_committed = refl; front = refl; entries = refl; snapshot = refl; saved = refl; saved_leader = refl; applied = refl; vote_named = omega arith; front_is = tt; saved_named = tt; entries_fit = tt; snapshot_fit = tt };
    shaped = shaped_of entry_meaning (no_store 0) (empty 0) (new_in_step entry_meaning 0);
    ordered = new_ordered nat_cmp entry_meaning 0;
    rest = record { session = refl; targets = tt; noted = tt; records = record { bag = tt; executed = tt; installed = tt; decided = tt; established = tt } };
    engine = record {
      id = refl;
      sound = (new_resting settings id).ready.sound;
      queue = refl;
      in_step = new_in_step entry_meaning 0;
      knows = record { state = tt; leader = tt; candidate = tt; alone = tt };
    };
  }

  new_nodes : (ids : List ℕ) → AllByRecursion (λ id. id < 18446744073709551616) ids → AllByRecursion (NodeFollows (setup_of given.membership) (stores.empty (setup_of given.membership)) no_records) (map (new_node settings) ids)
  new_nodes [] h = tt
  new_nodes (id ∷ ids) h = (new_follows id h.0, new_nodes ids h.1)

  new_other : (id : ℕ) (ids : List ℕ) → AllByRecursion (λ i. i ≢ id) ids → AllByRecursion (λ (m : NodeView). m.id ≢ id) (map (new_node settings) ids)
  new_other id [] h = tt
  new_other id (i ∷ ids) h = (h.0, new_other id ids h.1)

  new_apart : (ids : List ℕ) → Once ids → AllApart (setup_of given.membership) (map (new_node settings) ids)
  new_apart [] h = tt
  new_apart (id ∷ ids) h = (new_other id ids h.0, new_apart ids h.1)

  new_extras : (ids : List ℕ) → AllByRecursion (ExtraAt given Extra (stores.empty (setup_of given.membership))) (map (new_node settings) ids)
  new_extras [] = tt
  new_extras (id ∷ ids) = (new, new_extras ids)

  -- the empty world is followed by the empty stores
  pub empty_followed : (ids : List ℕ) → AllByRecursion (λ id. id < 18446744073709551616) ids → Once ids → Followed given Extra (stores.empty (setup_of given.membership)) (empty_net settings ids)
  empty_followed ids h once = record {
    world = stores.empty (setup_of given.membership);
    came = does_self (setup_of given.membership) (stores.empty (setup_of given.membership));
    follows = record {
      reached = does_self (setup_of given.membership) (stores.empty (setup_of given.membership));
      apart = new_apart ids once;
      nodes = new_nodes ids h;
      records = record { bag = tt; executed = tt; installed = tt; decided = tt; established = tt };
    };
    fit = record { installed = tt; decided = tt; established = tt; answers = tt; accepted = λ n q last upto i. absurd i; recorded = λ c i. absurd i };
    extra = new_extras ids;
  }

-- a well-formed world
module _ (given : Given) (wf : IsWellFormed given) (Extra : Ideal → WorldState → Type 0) (laws : CallLaws given.membership Extra) (es : List Event) where
  pub start_followed : Followed given Extra (stores.empty (setup_of given.membership)) (empty_net given.settings given.ids)
  start_followed = empty_followed given Extra laws.extra_new given.settings given.ids (recursion_from_All (λ id. id < 18446744073709551616) given.ids wf.named) (once_of given.ids wf.once)

  -- the world after any events is followed
  pub world_followed : Followed given Extra (stores.empty (setup_of given.membership)) (world_after given es)
  world_followed = run_followed given Extra laws (stores.empty (setup_of given.membership)) es (start given) start_followed

  -- so it is at each moment between two commands, and what comes later comes of the ideal world then
  pub world_passed : (k n : ℕ) → Passed given Extra laws n (stores.empty (setup_of given.membership)) (moment given es k n) (world_after given es)
  world_passed k n = run_passed given Extra laws es k n (stores.empty (setup_of given.membership)) (start given) start_followed
