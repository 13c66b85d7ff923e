-- What holds of each node's id, store and engine holds after each event, if the calls of events and all commands keep it.
use Rattle.std.proofs.Common.{ℕ, ◌<◌, ◌≡◌, ◌-◌, append-nil, append_assoc, List, [], ◌∷◌, ◌++◌, refl, sym, ◌∙◌, subst, Option, None, Some}
use Rattle.std.specs.Prelude.{Contains, map, slice_get, slice_set}
use Rattle.std.specs.List.{AllByRecursion}
use Rattle.std.proofs.lemmas.List.Elements.{All-contains_itself, recursion_from_All}
use Rattle.proof_deeds.proofs.raft_state_proofs.LogLists.{each_append}
use Rattle.proof_deeds.specs.raft_store.declared.entry.Entry.{Entry}
use Rattle.proof_deeds.specs.raft_store.Store.{no_store}
use Rattle.proof_deeds.specs.raft_store.Types.{EngineView, WorldStore}
use Rattle.proof_deeds.specs.raft_schedule.declared.event.Event.{Event}
use Rattle.proof_deeds.specs.raft_schedule.declared.event.Outcome.{Outcome}
use Rattle.proof_deeds.specs.raft_schedule.declared.event.Outcome.TheVariants.{Skipped}
use Rattle.proof_deeds.specs.raft_schedule.declared.event.SkipReason.{SkipReason}
use Rattle.proof_deeds.specs.raft_schedule.declared.event.SkipReason.TheVariants.{NoMessage, NotRunning}
use Rattle.proof_deeds.specs.raft_calls.declared.lead.Answer.{Answer}
use Rattle.proof_deeds.specs.raft_calls.Starts.{new_engine}
use Rattle.proof_deeds.specs.raft_node.declared.act.Act.{Act}
use Rattle.proof_deeds.specs.raft_node.declared.act.Aim.{Aim}
use Rattle.proof_deeds.specs.raft_node.declared.given.Given.{Given}
use Rattle.proof_deeds.specs.raft_node.declared.node.Turn.{Turn}
use Rattle.proof_deeds.specs.raft_node.Events.{Scene, aim_of, answer_at, at_node, called_at, calls, calls_at, finish, happens, moment_of, place_of, played, skip_reason, turn_of, with_answer, work_of}
use Rattle.proof_deeds.specs.raft_node.Net.{Net, NodeView, Records, new_node}
use Rattle.proof_deeds.specs.raft_node.Runs.{whole_logs, world_after}
use Rattle.proof_deeds.specs.raft_node.WellFormed.{IsWellFormed}
use Rattle.proof_deeds.specs.raft_node.Work.{Work, weight, work_step, worked}
use Rattle.proof_deeds.proofs.raft_node_proofs.Ready.{net_after, scene_after, skip_moved}
use Rattle.proof_deeds.proofs.raft_node_proofs.Worked.{worked-keeps}
use Rattle.proof_deeds.specs.Chains.{Reached}
use Rattle.proof_deeds.specs.Images.{Ideal, setup_of}
use Rattle.proof_deeds.specs.Nets.{NodeFollows}
use Rattle.proof_deeds.proofs.AllLaws.{all_laws}
use Rattle.proof_deeds.proofs.AppendFitting.{Settled}
use Rattle.proof_deeds.proofs.Called.{calls_same, calls_work}
use Rattle.proof_deeds.proofs.Calls.{CallLaws, WorldState}
use Rattle.proof_deeds.proofs.Drains.{Works, step_works}
use Rattle.proof_deeds.proofs.Events.{ActFits}
use Rattle.proof_deeds.proofs.Joined.{ExtraAt, Followed, aimed}
use Rattle.proof_deeds.proofs.Nodes.{each_at, each_set, moved_follows, placed_id}
use Rattle.proof_deeds.proofs.Proved.{followed}
use Rattle.proof_deeds.proofs.ReadAnswers.{answer_known, answered_fits, answered_follows}
use Rattle.proof_deeds.proofs.Runs.{RecordsFit}
use Rattle.proof_progress.proofs.CanElect.{goes_after}

-- a node at work, in a world that an ideal one follows
abbrev pub AtWork : Given → Turn → Ideal → Work (List Entry) → Type 0
AtWork given t since w = Works given.membership (Settled (setup_of given.membership)) t since w

module _ (given : Given) (P : ℕ → WorldStore → Option EngineView → Type 0) where
  abbrev pub Holds : NodeView → Type 0
  Holds n = P n.id n.store n.engine

  -- so it is of all nodes
  abbrev pub AllHold : Net (List Entry) → Type 0
  AllHold net = AllByRecursion Holds net.nodes

  -- each command keeps it at a node at work, which is at work after it
  abbrev pub CommandsKeep : Type 0
  CommandsKeep =
      (t : Turn) (since : Ideal) (w : Work (List Entry)) → AtWork given t since w → AtWork given t since (work_step whole_logs t w) → P t.id w.effects.store w.engine → P t.id (work_step whole_logs t w).effects.store (work_step whole_logs t w).engine

  -- the calls of an event keep it at the event's node, which is at work after them
  abbrev pub CallsKeep : Net (List Entry) → Event → Type 0
  CallsKeep net event =
      (n : NodeView) (aim : Aim) → Contains net.nodes n → aim_of net.records.bag event.kind ≡ Some aim → n.id ≡ aim.id → skip_reason aim.act n ≡ None → Holds n
      → (now : ℕ) (since : Ideal) (rs : Records (List Entry))
      → AtWork given (turn_of aim.act (record n { moment = now })) since (work_of event.stop (record { node = (calls_at given aim.act (record n { moment = now })).1; records = rs }))
      → P n.id (calls_at given aim.act (record n { moment = now })).1.store (calls_at given aim.act (record n { moment = now })).1.engine

  module _ (commands : CommandsKeep) where
    abbrev Extra : Ideal → WorldState → Type 0
    Extra = Settled (setup_of given.membership)

    laws : CallLaws given.membership (Settled (setup_of given.membership))
    laws = all_laws given.membership

    -- the queue is worked off
    finish_holds : (t : Turn) (stop refusal : Option ℕ) (W : Ideal) (s : Scene (List Entry)) → s.node.id ≡ t.id → t.id < 18446744073709551616
        → AtWork given t W (work_of stop s) → Holds s.node → Holds (finish whole_logs weight t stop refusal s).1.node
    unfolding finish
    finish_holds t stop refusal W s i node h k =
        let both : AtWork given t W (worked whole_logs (weight (work_of stop s)) t (work_of stop s)) × P t.id (worked whole_logs (weight (work_of stop s)) t (work_of stop s)).effects.store (worked whole_logs (weight (work_of stop s)) t (work_of stop s)).engine =
        worked-keeps whole_logs t (λ w. AtWork given t W w × P t.id w.effects.store w.engine) (weight (work_of stop s)) (λ w busy p. let next : AtWork given t W (work_step whole_logs t w) = step_works given.membership Extra t laws node W w p.0 in (next, commands t W w p.0 next p.1)) (work_of stop s) (h, subst (λ d. P d s.node.store s.node.engine) i k) in
        subst (λ d. P d (worked whole_logs (weight (work_of stop s)) t (work_of stop s)).effects.store (worked whole_logs (weight (work_of stop s)) t (work_of stop s)).engine) (sym i) both.1

    module _ (W : Ideal) (r : Reached (setup_of given.membership) W) where
      -- an event at a node
      played_holds : (act : Act) (event : Event) (s : Scene (List Entry)) → ActFits given.membership W s.node.id act
          → NodeFollows (setup_of given.membership) W s.records s.node → RecordsFit (setup_of given.membership) W s.records
          → ExtraAt given Extra W s.node
          → Holds s.node
          → (skip_reason act s.node ≡ None → (now : ℕ) (since : Ideal) (rs : Records (List Entry)) → AtWork given (turn_of act (record s.node { moment = now })) since (work_of event.stop (record { node = (calls_at given act (record s.node { moment = now })).1; records = rs }))
          → P s.node.id (calls_at given act (record s.node { moment = now })).1.store (calls_at given act (record s.node { moment = now })).1.engine)
          → Holds (played whole_logs weight given act event s).1.node
      unfolding played
      played_holds act event s told h f a k called = go (skip_reason act s.node) refl
        where
          now : Scene (List Entry)
          now = called_at (moment_of event s.node) s

          go : (o : Option SkipReason) → skip_reason act s.node ≡ o → Holds
              (scene_after {L = List Entry} (elim o as (λ _. Outcome × Scene (List Entry)) [
                | Some reason ↦ (Skipped reason, s)
                | None ↦ finish whole_logs weight (turn_of act now.node) event.stop (calls given act now).0 (calls given act now).1
              ])).node
          go (Some reason) is = k
          go None is =
              let moved : NodeFollows (setup_of given.membership) W s.records now.node =
              moved_follows (setup_of given.membership) W s.records s.node (moment_of event s.node) h in
              let answer : Option Answer = answer_at act (calls_at given act now.node).1 in
              let fits : RecordsFit (setup_of given.membership) W (with_answer answer s.records) =
              answered_fits (setup_of given.membership) W s.records f answer (answer_known given W s.records act now.node moved) in
              let same : (calls given act now).1.node.id ≡ s.node.id =
              calls_same given Extra laws W r (with_answer answer s.records) fits act now.node in
              let w : AtWork given (turn_of act now.node) W (work_of event.stop (calls given act now).1) =
              calls_work given Extra laws W r (with_answer answer s.records) fits act event.stop now.node (skip_moved act s.node (moment_of event s.node) ∙ is) told (answered_follows (setup_of given.membership) W s.records now.node answer moved) a in
              finish_holds (turn_of act now.node) event.stop (calls given act now).0 W (calls given act now).1 same h.node w
              (subst (λ d. P d (calls given act now).1.node.store (calls given act now).1.node.engine) (sym same) (called is (moment_of event s.node) W (with_answer answer s.records) w))

    module _ (since : Ideal) (net : Net (List Entry)) (f : Followed given (Settled (setup_of given.membership)) since net) (event : Event) (called : CallsKeep net event) (h : AllHold net) where
      happens_holds : AllHold (happens whole_logs weight given event net).1
      unfolding happens
      happens_holds = by_aim (aim_of net.records.bag event.kind) refl
        where
          by_place : (aim : Aim) → aim_of net.records.bag event.kind ≡ Some aim → (i : ℕ) → place_of net.nodes aim.id ≡ Some i → (o : Option NodeView)
              → slice_get net.nodes i ≡ o
              → AllHold (net_after {L = List Entry} (elim o as (λ _. Outcome × Net (List Entry)) [
                | None ↦ (Skipped NotRunning, net)
                | Some n ↦ (let r = played whole_logs weight given aim.act event (record { node = n; records = net.records }) in (r.0, record { nodes = slice_set net.nodes i r.1.node; records = r.1.records }))
              ]))
          by_place aim q i place None z = h
          by_place aim q i place (Some n) z =
              let own : n.id ≡ aim.id = placed_id net.nodes aim.id i n place z in
              let there : Contains net.nodes n =
              each_at (Contains net.nodes) net.nodes i n z (recursion_from_All (Contains net.nodes) net.nodes (All-contains_itself net.nodes)) in
              let k : Holds n = each_at Holds net.nodes i n z h in
              each_set Holds net.nodes i (played whole_logs weight given aim.act event (record { node = n; records = net.records })).1.node
              (played_holds f.world f.follows.reached aim.act event (record { node = n; records = net.records })
              (subst (λ d. ActFits given.membership f.world d aim.act) (sym own) (aimed given (Settled (setup_of given.membership)) laws since net f event.kind aim q))
              (each_at (NodeFollows (setup_of given.membership) f.world net.records) net.nodes i n z f.follows.nodes) f.fit
              (each_at (ExtraAt given (Settled (setup_of given.membership)) f.world) net.nodes i n z f.extra) k (λ s. called n aim there q own s k)) h

          by_id : (aim : Aim) → aim_of net.records.bag event.kind ≡ Some aim → (o : Option ℕ) → place_of net.nodes aim.id ≡ o
              → AllHold (net_after {L = List Entry} (elim o as (λ _. Outcome × Net (List Entry)) [
                | None ↦ (Skipped NotRunning, net)
                | Some i ↦ elim (slice_get net.nodes i) as (λ _. Outcome × Net (List Entry)) [
                  | None ↦ (Skipped NotRunning, net)
                  | Some n ↦ (let r = played whole_logs weight given aim.act event (record { node = n; records = net.records }) in (r.0, record { nodes = slice_set net.nodes i r.1.node; records = r.1.records }))
                ]
              ]))
          by_id aim q None p = h
          by_id aim q (Some i) p = by_place aim q i p (slice_get net.nodes i) refl

          by_aim : (o : Option Aim) → aim_of net.records.bag event.kind ≡ o
              → AllHold (net_after {L = List Entry} (elim o as (λ _. Outcome × Net (List Entry)) [ None ↦ (Skipped NoMessage, net) | Some aim ↦ at_node net aim.id (played whole_logs weight given aim.act event) ]))
          by_aim None q = h
          by_aim (Some aim) q = by_id aim q (place_of net.nodes aim.id) refl

    -- in each world that such events make
    module _ (wf : IsWellFormed given) (Allowed : Event → Type 0) (called : (done : List Event) (event : Event) → AllByRecursion Allowed done → Allowed event → CallsKeep (world_after given done) event)
        (new : (id : ℕ) → P id (no_store 0) (Some (new_engine given.settings id))) where
      more : (done rest : List Event) → AllByRecursion Allowed done → AllHold (world_after given done) → AllByRecursion Allowed rest
          → AllHold (world_after given (done ++ rest))
      more done [] d h v = subst (λ es. AllHold (world_after given es)) (sym (append-nil done)) h
      more done (e ∷ es) d h v =
          subst (λ xs. AllHold (world_after given xs)) (append_assoc done (e ∷ []) es)
          (more (done ++ e ∷ []) es (each_append Allowed done (e ∷ []) d (v.0, tt))
          (subst AllHold (sym (goes_after given done (e ∷ []))) (happens_holds _ (world_after given done) (followed given wf done) e (called done e d v.0) h)) v.1)

      begin : (ids : List ℕ) → AllByRecursion Holds (map (new_node given.settings) ids)
      begin [] = tt
      begin (x ∷ xs) = (new x, begin xs)

      pub run_holds : (past : List Event) → AllByRecursion Allowed past → AllHold (world_after given past)
      run_holds past v = more [] past tt (begin given.ids) v
