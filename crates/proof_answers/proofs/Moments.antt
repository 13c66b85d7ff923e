-- At the moments of an event its node is what the server's node is within the step.
use Rattle.std.specs.Prelude.{◌≡◌, ◌+◌, ◌++◌, max, ℕ, List, take, slice_get, slice_set, Option, None, Some, refl}
use Rattle.std.proofs.Common.{◌∙◌, sym, ap, subst}
use Rattle.proof_deeds.specs.raft_store.declared.entry.Entry.{Entry}
use Rattle.proof_deeds.specs.raft_store.Store.{whole}
use Rattle.proof_deeds.specs.raft_schedule.declared.event.Event.{Event}
use Rattle.proof_deeds.specs.raft_schedule.declared.event.EventKind.{EventKind}
use Rattle.proof_deeds.specs.raft_schedule.declared.event.Outcome.{Outcome}
use Rattle.proof_deeds.specs.raft_schedule.declared.event.Outcome.TheVariants.{Skipped}
use Rattle.proof_deeds.specs.raft_schedule.declared.event.SkipReason.{SkipReason}
use Rattle.proof_deeds.specs.raft_schedule.declared.event.SkipReason.TheVariants.{NoMessage, NotRunning}
use Rattle.proof_deeds.specs.raft_node.declared.act.Aim.{Aim}
use Rattle.proof_deeds.specs.raft_node.declared.given.Given.{Given}
use Rattle.proof_deeds.specs.raft_node.declared.node.Turn.{Turn}
use Rattle.proof_deeds.specs.raft_node.Events.{Scene, aim_of, answer_at, at_node, at_place, calls, calls_at, finish, happens, played, scene, scene_of, skip_reason, turn_of, with_answer, work_of}
use Rattle.proof_deeds.specs.raft_node.Net.{Net, NodeView, Records, no_records, node_at}
use Rattle.proof_deeds.specs.raft_node.Runs.{moment, net_of, whole_logs, world_after}
use Rattle.proof_deeds.specs.raft_node.Work.{Work}
use Rattle.proof_clients.specs.Appends.{Appended}
use Rattle.proof_clients.proofs.Proposals.{moment_is}
use Rattle.proof_servers.specs.Recorded.{scene_behind}
use Rattle.proof_servers.specs.Servers.{Step, event_at}
use Rattle.proof_servers.proofs.AtNode.{Spot, behind_none, calls_id, node_of, own_set, spot_of}
use Rattle.proof_servers.proofs.Frame.{worked_behind}
use Rattle.proof_answers.specs.Answers.{StepAppends, node_within}

module _ (given : Given) where
  -- what was recorded before changes nothing at the node
  module _ (t : Turn) (stop refusal : Option ℕ) (commands : ℕ) where
    finish_behind : (r : Records (List Entry)) (s : Scene (List Entry)) → (finish whole_logs (λ _. commands) t stop refusal (scene_behind (λ es. es) r s)).1.node ≡ (finish whole_logs (λ _. commands) t stop refusal s).1.node
    unfolding finish
    finish_behind r s = ap (λ (w : Work (List Entry)). (scene_of s.node w).node) (worked_behind (λ es. es) r whole_logs t commands (work_of stop s))

    finish_alone : (m : NodeView) (r : Records (List Entry)) → (finish whole_logs (λ _. commands) t stop refusal (scene m r)).1.node ≡ (finish whole_logs (λ _. commands) t stop refusal (scene m no_records)).1.node
    finish_alone m r =
        subst (λ (x : Records (List Entry)). (finish whole_logs (λ _. commands) t stop refusal (scene m x)).1.node ≡ (finish whole_logs (λ _. commands) t stop refusal (scene m no_records)).1.node) (behind_none r)
        (finish_behind r (scene m no_records))

  abbrev within : Step → NodeView → EventKind → Records (List Entry) → ℕ → NodeView
  within s n kind r commands = (played whole_logs (λ _. commands) given s.act (event_at kind s.at) (scene n r)).1.node

  abbrev in_step : Step → NodeView → ℕ → Records (List Entry) → Option SkipReason → Outcome × Scene (List Entry)
  in_step s n commands r o =
      elim o as (λ _. Outcome × Scene (List Entry)) [
        | Some reason ↦ (Skipped reason, scene n r)
        | None ↦ finish whole_logs (λ _. commands) (turn_of s.act (record n { moment = max s.at n.moment })) None
            (calls {L = List Entry} given s.act (scene (record n { moment = max s.at n.moment }) r)).0 (calls {L = List Entry} given s.act (scene (record n { moment = max s.at n.moment }) r)).1
      ]

  within_alone : (s : Step) (n : NodeView) (kind : EventKind) (r : Records (List Entry)) (commands : ℕ) → within s n kind r commands ≡ node_within given n s commands
  unfolding played
  within_alone s n kind r commands = go (skip_reason s.act n)
    where
      go : (o : Option SkipReason) → (in_step s n commands r o).1.node ≡ (in_step s n commands no_records o).1.node
      go (Some reason) = refl
      go None =
          let t : Turn = turn_of s.act (record n { moment = max s.at n.moment }) in
          let c : Option ℕ × NodeView = calls_at given s.act (record n { moment = max s.at n.moment }) in
          finish_alone t None c.0 commands c.1 (with_answer (answer_at s.act c.1) r)
          ∙ sym (finish_alone t None c.0 commands c.1 (with_answer (answer_at s.act c.1) no_records))

  within_id : (s : Step) (n : NodeView) (commands : ℕ) → (node_within given n s commands).id ≡ n.id
  unfolding played finish
  within_id s n commands = go (skip_reason s.act n)
    where
      go : (o : Option SkipReason)
          → (node_of (elim o as (λ _. Outcome × Scene (List Entry)) [
            | Some reason ↦ (Skipped reason, scene n no_records)
            | None ↦ finish whole_logs (λ _. commands) (turn_of s.act (record n { moment = max s.at n.moment })) None
                (calls {L = List Entry} given s.act (scene (record n { moment = max s.at n.moment }) no_records)).0 (calls {L = List Entry} given s.act (scene (record n { moment = max s.at n.moment }) no_records)).1
          ])).id
          ≡ n.id
      go (Some reason) = refl
      go None = calls_id given s.act (record n { moment = max s.at n.moment })

  abbrev net_after : Outcome × Net (List Entry) → Net (List Entry)
  net_after r = r.1

  -- an event after so many commands, at a node that is there
  happens_within : (event : Event) (net : Net (List Entry)) (f : Work (List Entry) → ℕ) (aim : Aim) → aim_of net.records.bag event.kind ≡ Some aim → (n : NodeView) → (s : Spot net.nodes aim.id n)
      → (happens whole_logs f given event net).1
      ≡ (let r = played whole_logs f given aim.act event (scene n net.records) in net_of (slice_set net.nodes s.place r.1.node) r.1.records)
  unfolding happens
  happens_within event net f aim q n s =
      ap (λ (o : Option Aim). net_after (elim o as (λ _. Outcome × Net (List Entry)) [ None ↦ (Skipped NoMessage, net) | Some aim ↦ at_node net aim.id (played whole_logs f given aim.act event) ])) q
      ∙ ap (λ (o : Option ℕ). net_after (elim o as (λ _. Outcome × Net (List Entry)) [ None ↦ (Skipped NotRunning, net) | Some i ↦ at_place net i (played whole_logs f given aim.act event) ])) s.there
      ∙ ap (λ (o : Option NodeView). net_after (elim o as (λ _. Outcome × Net (List Entry)) [
        | None ↦ (Skipped NotRunning, net)
        | Some n ↦ (let r = played whole_logs f given aim.act event (record { node = n; records = net.records }) in (r.0, record { nodes = slice_set net.nodes s.place r.1.node; records = r.1.records }))
      ])) s.is

  module _ (es : List Event) (k : ℕ) (e : Event) (slot : slice_get es k ≡ Some e) (id : ℕ) (step : Step) (node : NodeView) (kind : EventKind) (is : e ≡ event_at kind step.at)
      (aims : aim_of (world_after given (take k es)).records.bag kind ≡ Some (record { id = id; act = step.act }))
      (there : node_at (world_after given (take k es)).nodes id ≡ Some node) (was : node.id ≡ id) where
    abbrev net : Net (List Entry)
    net = world_after given (take k es)

    spot : Spot net.nodes id node
    spot = spot_of net.nodes id node there

    -- so it is at each moment
    pub node_moment : (commands : ℕ) → node_at (moment given es k commands).nodes id ≡ Some (node_within given node step commands)
    node_moment commands =
        ap (λ (x : Net (List Entry)). node_at x.nodes id) (moment_is given es k commands e slot)
        ∙ (ap (λ (x : Event). node_at (happens whole_logs (λ _. commands) given x net).1.nodes id) is
        ∙ (ap (λ (x : Net (List Entry)). node_at x.nodes id) (happens_within (event_at kind step.at) net (λ _. commands) (record { id = id; act = step.act }) aims node spot)
        ∙ (ap (λ (x : NodeView). node_at (slice_set net.nodes spot.place x) id) (within_alone step node kind net.records commands)
        ∙ own_set net.nodes id node (node_within given node step commands) spot (within_id step node commands ∙ was))))

    some_node : (a b : NodeView) → Some a ≡ Some b → a ≡ b
    some_node a b q = cc

    -- what the step appends is appended in the event, and the other way round
    pub to_world : (place : ℕ) (x : Entry) → id ≡ x.log_id.leader_id.node_id → StepAppends given node step place x → Appended given es k place x
    to_world place x q a = record {
      commands = 0;
      entries = a.entries;
      slot = a.slot;
      before = node_within given node step 0;
      after = node_within given node step 1;
      is = subst (λ d. node_at (moment given es k 0).nodes d ≡ Some (node_within given node step 0)) q (node_moment 0);
      is_after = subst (λ d. node_at (moment given es k 1).nodes d ≡ Some (node_within given node step 1)) q (node_moment 1);
      leads = a.leads;
      appended = a.appended;
    }

    pub to_step : (place : ℕ) (x : Entry) → id ≡ x.log_id.leader_id.node_id → (a : Appended given es k place x) → a.commands ≡ 0 → StepAppends given node step place x
    to_step place x q a first =
        let is : node_at (moment given es k 0).nodes x.log_id.leader_id.node_id ≡ Some a.before = subst (λ c. node_at (moment given es k c).nodes x.log_id.leader_id.node_id ≡ Some a.before) first a.is in
        let is_after : node_at (moment given es k 1).nodes x.log_id.leader_id.node_id ≡ Some a.after = subst (λ c. node_at (moment given es k (c + 1)).nodes x.log_id.leader_id.node_id ≡ Some a.after) first a.is_after in
        let before : a.before ≡ node_within given node step 0 =
        some_node a.before (node_within given node step 0) (sym is ∙ subst (λ d. node_at (moment given es k 0).nodes d ≡ Some (node_within given node step 0)) q (node_moment 0)) in
        let after : a.after ≡ node_within given node step 1 =
        some_node a.after (node_within given node step 1) (sym is_after ∙ subst (λ d. node_at (moment given es k 1).nodes d ≡ Some (node_within given node step 1)) q (node_moment 1)) in
        record {
          entries = a.entries;
          slot = a.slot;
          leads = ap (λ (n : NodeView). n.store.vote) (sym before) ∙ a.leads;
          appended = ap (λ (n : NodeView). whole n.store) (sym after) ∙ (a.appended ∙ ap (λ (n : NodeView). whole n.store ++ a.entries) before);
        }
