-- No event of a world is refused for a message that doesn't fit.
use Rattle.std.proofs.Common.{ℕ, ◌≡◌, List, [], ◌∷◌, refl, sym, subst, Option, None, Some}
use Rattle.std.specs.Prelude.{All, IfSome, slice_get, slice_set}
use Rattle.std.specs.List.{AllByRecursion}
use Rattle.std.proofs.lemmas.List.Elements.{All-from_recursion}
use Rattle.proof_agreement.specs.Stores as stores
use Rattle.raft_node.specs.raft_store.declared.entry.Entry.{Entry}
use Rattle.raft_node.specs.raft_store.Types.{EngineView}
use Rattle.raft_node.specs.raft_schedule.declared.event.Event.{Event}
use Rattle.raft_node.specs.raft_schedule.declared.event.Outcome.{Outcome}
use Rattle.raft_node.specs.raft_schedule.declared.event.Outcome.TheVariants.{Skipped}
use Rattle.raft_node.specs.raft_schedule.declared.event.AppliedEvent.{AppliedEvent}
use Rattle.raft_node.specs.raft_schedule.declared.event.SkipReason.{SkipReason}
use Rattle.raft_node.specs.raft_schedule.declared.event.SkipReason.TheVariants.{NoMessage, NotRunning}
use Rattle.raft_node.specs.declared.act.Act.{Act}
use Rattle.raft_node.specs.declared.act.Aim.{Aim}
use Rattle.raft_node.specs.declared.node.Turn.{Turn}
use Rattle.raft_node.specs.Events.{Scene, aim_of, at_node, at_place, called_at, calls, finish, happens, moment_of, outcome_of, place_of, played, skip_reason, turn_of}
use Rattle.raft_node.specs.Net.{Net, NodeView}
use Rattle.raft_node.specs.declared.given.Given.{Given}
use Rattle.raft_node.specs.Runs.{History, run, start, with_event, whole_logs}
use Rattle.raft_node.specs.Work.{weight}
use Rattle.raft_node.specs.Safety.{IsOtherRefusal, IsUnrefused}
use Rattle.raft_node.specs.WellFormed.{IsWellFormed}
use Rattle.proof_deeds.proofs.AppendFitting.{Settled}
use Rattle.proof_deeds.specs.Chains.{Reached}
use Rattle.proof_deeds.specs.Images.{Ideal, setup_of}
use Rattle.proof_deeds.specs.Nets.{NodeFollows}
use Rattle.proof_deeds.proofs.AllLaws.{all_laws}
use Rattle.proof_deeds.proofs.Calls.{CallLaws, WorldState}
use Rattle.proof_deeds.proofs.Events.{ActFits}
use Rattle.proof_deeds.proofs.Joined.{ExtraAt, Followed, aimed, tell_followed}
use Rattle.proof_deeds.proofs.NeverRefused.{calls_number}
use Rattle.proof_deeds.proofs.Nodes.{each_at, moved_follows, placed_id}
use Rattle.proof_deeds.proofs.Worldly.{start_followed}
use Rattle.proof_deeds.proofs.Worlds.{each_more}

outcome_fits : (r : Option ℕ) (e : Option EngineView) → IfSome r IsOtherRefusal → IsUnrefused (outcome_of r e)
outcome_fits (Some k) e h = h
outcome_fits None (Some e) h = tt
outcome_fits None None h = tt

abbrev outcome_in : {X : Type 0} → Outcome × X → Outcome
outcome_in p = p.0

finish_fits : (t : Turn) (stop refusal : Option ℕ) (s : Scene (List Entry)) → IfSome refusal IsOtherRefusal → IsUnrefused (finish whole_logs weight t stop refusal s).0
unfolding finish
finish_fits t stop refusal s h = outcome_fits refusal _ h

module _ (given : Given) (Extra : Ideal → WorldState → Type 0) (laws : CallLaws given.membership Extra) where
  -- an event at a node
  played_fits : (W : Ideal) → Reached (setup_of given.membership) W → (act : Act) (event : Event) (s : Scene (List Entry)) → ActFits given.membership W s.node.id act → NodeFollows (setup_of given.membership) W s.records s.node → ExtraAt given Extra W s.node
      → IsUnrefused (played whole_logs weight given act event s).0
  unfolding played
  played_fits W r act event s told h a = go (skip_reason act s.node) where
    now : Scene (List Entry)
    now = called_at (moment_of event s.node) s

    go : (o : Option SkipReason) → IsUnrefused
        (outcome_in {X = Scene (List Entry)} (elim o [
          | Some reason ↦ (Skipped reason, s)
          | None ↦ finish whole_logs weight (turn_of act now.node) event.stop (calls given act now).0 (calls given act now).1
        ]))
    go (Some reason) = tt
    go None =
        finish_fits (turn_of act now.node) event.stop (calls given act now).0 (calls given act now).1
        (calls_number given Extra laws W r s.records now.node act told (moved_follows (setup_of given.membership) W s.records s.node (moment_of event s.node) h) a)

  module _ (since : Ideal) where
    place_fits : (act : Act) (event : Event) (net : Net (List Entry)) (i : ℕ) → (h : Followed given Extra since net) → ((n : NodeView) → slice_get net.nodes i ≡ Some n → ActFits given.membership h.world n.id act) → IsUnrefused (at_place net i (played whole_logs weight given act event)).0
    place_fits act event net i h told = go (slice_get net.nodes i) refl where
      go : (o : Option NodeView) → slice_get net.nodes i ≡ o → IsUnrefused
          (outcome_in {X = Net (List Entry)} (elim o [
            | None ↦ (Skipped NotRunning, net)
            | Some n ↦
                (let r = played whole_logs weight given act event (record { node = n; records = net.records }) in
                (r.0, record { nodes = slice_set net.nodes i r.1.node; records = r.1.records }))
          ]))
      go None is = tt
      go (Some n) is =
          played_fits h.world h.follows.reached act event (record { node = n; records = net.records }) (told n is) (each_at (NodeFollows (setup_of given.membership) h.world net.records) net.nodes i n is h.follows.nodes) (each_at (ExtraAt given Extra h.world) net.nodes i n is h.extra)

    node_fits : (act : Act) (event : Event) (net : Net (List Entry)) (id : ℕ) → (h : Followed given Extra since net) → ActFits given.membership h.world id act → IsUnrefused (at_node net id (played whole_logs weight given act event)).0
    node_fits act event net id h told = go (place_of net.nodes id) refl where
      go : (o : Option ℕ) → place_of net.nodes id ≡ o → IsUnrefused (outcome_in {X = Net (List Entry)} (elim o [ None ↦ (Skipped NotRunning, net) | Some i ↦ at_place net i (played whole_logs weight given act event) ]))
      go None is = tt
      go (Some i) is = place_fits act event net i h (λ n e. subst (λ d. ActFits given.membership h.world d act) (sym (placed_id net.nodes id i n is e)) told)

    -- an event
    pub happens_fits : (event : Event) (net : Net (List Entry)) → Followed given Extra since net → IsUnrefused (happens whole_logs weight given event net).0
    unfolding happens
    happens_fits event net h = go (aim_of net.records.bag event.kind) refl where
      go : (o : Option Aim) → aim_of net.records.bag event.kind ≡ o → IsUnrefused (outcome_in {X = Net (List Entry)} (elim o [ None ↦ (Skipped NoMessage, net) | Some aim ↦ at_node net aim.id (played whole_logs weight given aim.act event) ]))
      go None is = tt
      go (Some aim) is = node_fits aim.act event net aim.id h (aimed given Extra laws since net h event.kind aim is)

    tell_fits : (x : History (List Entry)) (e : Event) → Followed given Extra since x.net → AllByRecursion (λ (p : AppliedEvent). IsUnrefused p.outcome) x.past → AllByRecursion (λ (p : AppliedEvent). IsUnrefused p.outcome) (with_event whole_logs given x e).past
    unfolding with_event
    tell_fits x e h k = each_more (λ (p : AppliedEvent). IsUnrefused p.outcome) x.past _ k (happens_fits e x.net h, tt)

    pub run_fits : (es : List Event) (x : History (List Entry)) → Followed given Extra since x.net → AllByRecursion (λ (p : AppliedEvent). IsUnrefused p.outcome) x.past → AllByRecursion (λ (p : AppliedEvent). IsUnrefused p.outcome) (run whole_logs given es x).past
    run_fits [] x h k = k
    run_fits (e ∷ es) x h k = run_fits es (with_event whole_logs given x e) (tell_followed given Extra laws since x e h) (tell_fits x e h k)

module _ (given : Given) (wf : IsWellFormed given) (es : List Event) where
  laws : CallLaws given.membership (Settled (setup_of given.membership))
  laws = all_laws given.membership

  -- the events of a run
  pub world_fits : All (λ (p : AppliedEvent). IsUnrefused p.outcome) (run whole_logs given es (start given)).past
  world_fits =
      All-from_recursion (λ (p : AppliedEvent). IsUnrefused p.outcome) (run whole_logs given es (start given)).past
      (run_fits given (Settled (setup_of given.membership)) laws (stores.empty (setup_of given.membership)) es (start given)
      (start_followed given wf (Settled (setup_of given.membership)) (all_laws given.membership) es) tt)
