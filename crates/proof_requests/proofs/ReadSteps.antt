-- A step that reads, at a node that runs: it records the leader's answer, if there is one, and does nothing else. And whose quorum it asks
-- for: the groups that the engine knows are those of its store.
use Rattle.std.proofs.Common.{ℕ, ◌≡◌, true, List, [], ◌++◌, length, refl, ap, ◌∙◌, Option, None, Some}
use Rattle.std.specs.Prelude.{Contains, max, nat_eq}
use Rattle.std.specs.Option.{option_to_list}
use Rattle.std.proofs.lemmas.List.Elements.{All-contains_itself, recursion_from_All}
use Rattle.raft_state.specs.declared.membership.StoredMembership.{StoredMembership}
use Rattle.raft_store.specs.declared.entry.Entry.{Entry}
use Rattle.raft_store.specs.Types.{EngineView, WorldCommand}
use Rattle.raft_schedule.specs.declared.event.Event.{Event}
use Rattle.raft_schedule.specs.declared.event.Outcome.{Outcome}
use Rattle.raft_schedule.specs.declared.event.Outcome.TheVariants.{Skipped}
use Rattle.raft_schedule.specs.declared.event.SkipReason.{SkipReason}
use Rattle.raft_calls.specs.declared.lead.Answer.{Answer}
use Rattle.raft_calls.specs.LeaderCalls.{read_answer}
use Rattle.raft_node.specs.declared.act.Act.TheVariants.{Read}
use Rattle.raft_node.specs.declared.given.Given.{Given}
use Rattle.raft_node.specs.Chosen.{effective_in}
use Rattle.raft_node.specs.Events.{Scene, calls, finish, played, scene, scene_of, skip_reason, turn_of, with_answer, work_of}
use Rattle.raft_node.specs.Net.{NodeView, no_records, node_at}
use Rattle.raft_node.specs.Runs.{whole_logs, world_after}
use Rattle.raft_node.specs.WellFormed.{IsWellFormed}
use Rattle.raft_node.specs.Work.{Work, weight}
use Rattle.raft_node.proofs.Worked.{worked-idle}
use Rattle.proof_deeds.proofs.Nodes.{node_found}
use Rattle.proof_deeds.proofs.Proved.{after_mirrored}
use Rattle.proof_servers.specs.Follows.{Follows}
use Rattle.proof_servers.specs.Servers.{Action, AllMayAct, Step, after_actions, called_node, new_cluster, node_after, outputs_of, played_alone, step_work}
use Rattle.proof_servers.proofs.Follow.{ahead, servers_follow}
use Rattle.proof_answers.specs.Answers.{node_within}
use Rattle.proof_requests.specs.Requests.{server_after}

abbrev node_in : Outcome × Scene (List Entry) → NodeView
node_in p = p.1.node

abbrev scene_in : Outcome × Scene (List Entry) → Scene (List Entry)
scene_in p = p.1

-- a step at a node, with so much fuel, by whether it is skipped
abbrev in_step : (Work (List Entry) → ℕ) → Given → NodeView → Step → Option SkipReason → Outcome × Scene (List Entry)
in_step fuel given n s o =
    elim o as (λ _. Outcome × Scene (List Entry)) [
      | Some reason ↦ (Skipped reason, scene n no_records)
      | None ↦ finish whole_logs fuel (turn_of s.act (called_node s n)) None (calls {L = List Entry} given s.act (scene (called_node s n) no_records)).0
          (calls {L = List Entry} given s.act (scene (called_node s n) no_records)).1
    ]

-- within a step the node after all its commands is the node after it
pub all_within : (given : Given) (n : NodeView) (s : Step) → node_within given n s (weight (step_work given n s)) ≡ node_after given n s
unfolding played finish
all_within given n s = go (skip_reason s.act n)
  where
    go : (o : Option SkipReason) → node_in (in_step (λ _. weight (step_work given n s)) given n s o) ≡ node_in (in_step weight given n s o)
    go None = refl
    go (Some reason) = refl

module _ (given : Given) (n : NodeView) (at : ℕ) where
  abbrev asks : Step
  asks = record { act = Read; at = at }

  abbrev then : NodeView
  then = record n { moment = max at n.moment }

  -- the answer of an engine, if it runs
  abbrev answer_of : Option EngineView → Option Answer
  answer_of o = elim o [ None ↦ None | Some e ↦ read_answer n.id e ]

  read_played : (e : EngineView) → n.engine ≡ Some e → e.machine.core.output.items ≡ [] → (played_alone given n asks).1 ≡ scene then (with_answer (answer_of (Some e)) no_records)
  unfolding played finish
  read_played e runs rests = go n.engine runs ∙ ap (λ (o : Option EngineView). scene {L = List Entry} then (with_answer (answer_of o) no_records)) runs
    where
      idle : (x : EngineView) → x ≡ e → nat_eq (length x.machine.core.output.items) 0 ≡ true
      idle x z = ap (λ (y : EngineView). nat_eq (length y.machine.core.output.items) 0) z ∙ ap (λ (cs : List WorldCommand). nat_eq (length cs) 0) rests

      go : (o : Option EngineView) → o ≡ Some e → (played_alone given (record n { engine = o }) asks).1 ≡ scene (record then { engine = o }) (with_answer (answer_of o) no_records)
      go None q = cc
      go (Some x) q =
          let z : x ≡ e = cc in
          let s : Scene (List Entry) = scene (record then { engine = Some x }) (with_answer (answer_of (Some x)) no_records) in
          ap (scene_of s.node) (worked-idle whole_logs (turn_of Read s.node) (work_of None s) (idle x z))

  -- a step that reads changes the node's moment at most
  pub read_node : (e : EngineView) → n.engine ≡ Some e → e.machine.core.output.items ≡ [] → node_after given n asks ≡ then
  read_node e runs rests = ap (λ (s : Scene (List Entry)). s.node) (read_played e runs rests)

  -- and says the leader's answer alone, if there is one
  pub read_says : (e : EngineView) → n.engine ≡ Some e → e.machine.core.output.items ≡ [] → outputs_of given n asks ≡ record no_records { answers = option_to_list (read_answer n.id e) }
  read_says e runs rests = ap (λ (s : Scene (List Entry)). s.records) (read_played e runs rests)

-- the groups that a server's engine counts by are those of its store
pub groups_are : (given : Given) → IsWellFormed given → (actions : List Action) → AllMayAct given actions (new_cluster given) → (id : ℕ) → Contains given.ids id
    → (e : EngineView) → (server_after given actions id).node.engine ≡ Some e → e.machine.core.state.em.membership ≡ effective_in (server_after given actions id).node.store
groups_are given wf actions may id member e runs =
    let follows : (es : List Event) × Follows given es (after_actions given actions (new_cluster given)) = servers_follow given actions may in
    let a : (more : List Event) × (node_at (world_after given (follows.0 ++ more)).nodes id ≡ Some (server_after given actions id).node) =
    ahead given follows.0 (after_actions given actions (new_cluster given)) id member follows.1 in
    let ns : List NodeView = (world_after given (follows.0 ++ a.0)).nodes in
    let there = node_found ns id (server_after given actions id).node (Contains ns) (recursion_from_All (Contains ns) ns (All-contains_itself ns)) a.1 in
    ap (λ (m : StoredMembership ℕ (Unit {0})). m.membership) (after_mirrored given wf (follows.0 ++ a.0) (server_after given actions id).node e there.0 runs).em
