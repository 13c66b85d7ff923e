-- What is decided in a run was chosen at a moment of it.
use Rattle.std.proofs.Common.{ℕ, zero, suc, ◌≡◌, ◌≢◌, ◌⊎◌, true, false, List, [], ◌∷◌, ◌++◌, take, arith, refl, sym, ap, ◌∙◌, subst, append-nil, append_assoc, Option, None, Some}
use Rattle.std.specs.Prelude.{Contains, nat_eq, slice_get, slice_set}
use Rattle.std.specs.List.{AllByRecursion}
use Rattle.std.proofs.lemmas.Bool.Decides.{nat_tests}
use Rattle.std.proofs.lemmas.List.Elements.{All-from_recursion}
use Rattle.raft_node.specs.raft_store.declared.entry.Entry.{Entry}
use Rattle.raft_node.specs.raft_schedule.declared.event.Event.{Event}
use Rattle.raft_node.specs.raft_schedule.declared.event.Outcome.{Outcome}
use Rattle.raft_node.specs.raft_schedule.declared.event.Outcome.TheVariants.{Skipped}
use Rattle.raft_node.specs.raft_schedule.declared.event.SkipReason.{SkipReason}
use Rattle.raft_node.specs.raft_schedule.declared.event.SkipReason.TheVariants.{NoMessage, NotRunning}
use Rattle.raft_node.specs.declared.act.Act.{Act}
use Rattle.raft_node.specs.declared.act.Aim.{Aim}
use Rattle.raft_node.specs.raft_calls.declared.message.Message.{Message}
use Rattle.raft_node.specs.declared.node.Turn.{Turn}
use Rattle.raft_node.specs.declared.given.Given.{Given}
use Rattle.raft_node.specs.raft_calls.declared.lead.Answer.{Answer}
use Rattle.raft_node.specs.declared.record.Decided.{Decided}
use Rattle.raft_node.specs.Chosen.{DecidedAreChosen, AcknowledgedUpTo}
use Rattle.raft_node.specs.Events.{Scene, aim_of, answer_at, at_node, at_place, called_at, calls, calls_at, finish, happens, moment_of, place_of, played, skip_reason, turn_of, with_answer, work_of}
use Rattle.raft_node.specs.Net.{Net, NodeView, node_at}
use Rattle.raft_node.specs.Runs.{History, run, start, with_event, whole_logs, world_after}
use Rattle.raft_node.specs.WellFormed.{IsWellFormed}
use Rattle.raft_node.specs.Work.{Work, weight, worked}
use Rattle.raft_node.proofs.Ready.{net_after, scene_after, skip_moved}
use Rattle.proof_agreement.specs.Stores as stores
use Rattle.proof_deeds.specs.Chains.{Reached}
use Rattle.proof_deeds.specs.Images.{Ideal, setup_of}
use Rattle.proof_deeds.specs.Nets.{AllApart, NodeFollows}
use Rattle.proof_deeds.proofs.AllLaws.{all_laws}
use Rattle.proof_deeds.proofs.AppendFitting.{Settled}
use Rattle.proof_deeds.proofs.Called.{calls_same, calls_work}
use Rattle.proof_deeds.proofs.Calls.{CallLaws, WorldState}
use Rattle.proof_deeds.proofs.ChosenBy.{ChosenBy, chosen_on}
use Rattle.proof_deeds.proofs.Deciding.{ChosenIn, Decides, worked_decides}
use Rattle.proof_deeds.proofs.Drains.{Works}
use Rattle.proof_deeds.proofs.Events.{ActFits}
use Rattle.proof_deeds.proofs.Joined.{ExtraAt, Followed, aimed, tell_followed}
use Rattle.proof_deeds.proofs.Nodes.{each_at, moved_follows, placed_id}
use Rattle.proof_deeds.proofs.Promised.{one_of}
use Rattle.proof_deeds.proofs.ReadAnswers.{answer_known, answered_fits, answered_follows}
use Rattle.proof_deeds.proofs.Runs.{RecordsFit}
use Rattle.proof_deeds.proofs.Told.{Decisions}
use Rattle.proof_deeds.proofs.Worldly.{start_followed}
use Rattle.proof_deeds.proofs.Worlds.{each_more, each_on}

-- what was decided between two worlds, each of which is so; the bag grows
pub record NewDecisions (P : List Message → Decided (List Entry) → Type 0) (old new : Decisions) (before after : List Message) : Type 0 where
  pub kept : (m : Message) → Contains before m → Contains after m
  pub more : Decisions
  pub are : new ≡ old ++ more
  pub each : AllByRecursion (P after) more

nothing_in : (P : List Message → Decided (List Entry) → Type 0) (old : Decisions) (bag : List Message) → NewDecisions P old old bag bag
nothing_in P old bag = record { kept = λ m c. c; more = []; are = sym (append-nil old); each = tt }

itself : (k : ℕ) → nat_eq k k ≡ true
itself k = grind (arith, nat_tests)

other : (j k : ℕ) → j ≢ k → nat_eq j k ≡ false
other j k d = grind (arith, nat_tests)

-- the node that was put in the place of another is found by its id
put_found : (given : Given) (xs : List NodeView) (i : ℕ) (n m : NodeView) → slice_get xs i ≡ Some n → m.id ≡ n.id → AllApart (setup_of given.membership) xs → node_at (slice_set xs i m) m.id ≡ Some m
put_found given [] i n m e same a = cc
put_found given (x ∷ xs) zero n m e same a = let q : nat_eq m.id m.id ≡ true = itself m.id in rw q refl
put_found given (x ∷ xs) (suc i) n m e same a =
    let d : n.id ≢ x.id = each_at (λ (y : NodeView). y.id ≢ x.id) xs i n e a.0 in
    let q : nat_eq x.id m.id ≡ false = other x.id m.id (λ z. d (sym same ∙ sym z)) in
    rw q (put_found given xs i n m e same a.1)

module _ (given : Given) (Extra : Ideal → WorldState → Type 0) (laws : CallLaws given.membership Extra) where
  -- chosen after so many commands of an event at a node
  abbrev ChosenOn : Act → Event → Scene (List Entry) → List Message → Decided (List Entry) → Type 0
  ChosenOn act event s bag r = (j : ℕ) × ((played whole_logs (λ _. j) given act event s).1.node.id ≡ s.node.id) × (s.node.id ≡ r.leader_id.node_id) × ChosenBy bag (played whole_logs (λ _. j) given act event s).1.node.store r

  module _ (W : Ideal) (reached : Reached (setup_of given.membership) W) where
    -- chosen after so many commands of the queue
    abbrev ChosenInTurn : Turn → Option ℕ → Option ℕ → Scene (List Entry) → List Message → Decided (List Entry) → Type 0
    ChosenInTurn t stop refusal s bag r = (j : ℕ) × ((finish whole_logs (λ _. j) t stop refusal s).1.node.id ≡ t.id) × (t.id ≡ r.leader_id.node_id) × ChosenBy bag (finish whole_logs (λ _. j) t stop refusal s).1.node.store r

    finish_decides : (t : Turn) (stop refusal : Option ℕ) (s : Scene (List Entry)) → s.node.id ≡ t.id → Decides t (work_of stop s) (worked whole_logs (weight (work_of stop s)) t (work_of stop s))
        → NewDecisions (ChosenInTurn t stop refusal s)
        s.records.decided (finish whole_logs weight t stop refusal s).1.records.decided s.records.bag (finish whole_logs weight t stop refusal s).1.records.bag
    unfolding finish
    finish_decides t stop refusal s i p = record {
      kept = p.kept;
      more = p.new;
      are = p.are;
      each = each_on (ChosenIn t (work_of stop s) (worked whole_logs (weight (work_of stop s)) t (work_of stop s)).effects.records.bag) (ChosenInTurn t stop refusal s (worked whole_logs (weight (work_of stop s)) t (work_of stop s)).effects.records.bag) (λ r k. (k.1, i, sym k.0, k.2)) p.new p.each;
    }

    -- an event at a node
    played_decides : (act : Act) (event : Event) (s : Scene (List Entry)) → ActFits given.membership W s.node.id act → NodeFollows (setup_of given.membership) W s.records s.node → RecordsFit (setup_of given.membership) W s.records → ExtraAt given Extra W s.node
        → NewDecisions (ChosenOn act event s) s.records.decided (played whole_logs weight given act event s).1.records.decided s.records.bag (played whole_logs weight given act event s).1.records.bag
    unfolding played
    played_decides act event s told h f a = go (skip_reason act s.node) refl where
      now : Scene (List Entry)
      now = called_at (moment_of event s.node) s

      after : (Work (List Entry) → ℕ) → Option SkipReason → Scene (List Entry)
      after fuel o =
          scene_after {L = List Entry} (elim o as (λ _. Outcome × Scene (List Entry)) [
            | Some reason ↦ (Skipped reason, s)
            | None ↦ finish whole_logs fuel (turn_of act now.node) event.stop (calls given act now).0 (calls given act now).1
          ])

      go : (o : Option SkipReason) → skip_reason act s.node ≡ o
          → NewDecisions (λ bag r. (j : ℕ) × ((after (λ _. j) o).node.id ≡ s.node.id) × (s.node.id ≡ r.leader_id.node_id) × ChosenBy bag (after (λ _. j) o).node.store r) s.records.decided (after weight o).records.decided s.records.bag (after weight o).records.bag
      go (Some reason) is = nothing_in _ s.records.decided s.records.bag
      go None is =
          let moved : NodeFollows (setup_of given.membership) W s.records now.node = moved_follows (setup_of given.membership) W s.records s.node (moment_of event s.node) h in
          let answer : Option Answer = answer_at act (calls_at given act now.node).1 in
          let fits : RecordsFit (setup_of given.membership) W (with_answer answer s.records) = answered_fits (setup_of given.membership) W s.records f answer (answer_known given W s.records act now.node moved) in
          let same : (calls given act now).1.node.id ≡ s.node.id = calls_same given Extra laws W reached (with_answer answer s.records) fits act now.node in
          let w : Works given.membership Extra (turn_of act now.node) W (work_of event.stop (calls given act now).1) =
          calls_work given Extra laws W reached (with_answer answer s.records) fits act event.stop now.node (skip_moved act s.node (moment_of event s.node) ∙ is) told (answered_follows (setup_of given.membership) W s.records now.node answer moved) a in
          finish_decides (turn_of act now.node) event.stop (calls given act now).0 (calls given act now).1 same
          (worked_decides given.membership Extra (turn_of act now.node) laws h.node W (weight (work_of event.stop (calls given act now).1)) (work_of event.stop (calls given act now).1) w)

  -- chosen after so many commands of an event
  abbrev ChosenAmid : (ℕ → Net (List Entry)) → List Message → Decided (List Entry) → Type 0
  ChosenAmid amid bag r = (j : ℕ) × (n : NodeView) × (node_at (amid j).nodes r.leader_id.node_id ≡ Some n) × ChosenBy bag n.store r

  module _ (since : Ideal) where
    place_decides : (act : Act) (event : Event) (net : Net (List Entry)) (i : ℕ) → (h : Followed given Extra since net) → ((m : NodeView) → slice_get net.nodes i ≡ Some m → ActFits given.membership h.world m.id act)
        → NewDecisions (ChosenAmid (λ j. (at_place net i (played whole_logs (λ _. j) given act event)).1)) net.records.decided (at_place net i (played whole_logs weight given act event)).1.records.decided net.records.bag (at_place net i (played whole_logs weight given act event)).1.records.bag
    place_decides act event net i h told = go (slice_get net.nodes i) refl where
      after : (Work (List Entry) → ℕ) → Option NodeView → Net (List Entry)
      after fuel o =
          net_after {L = List Entry} (elim o [
            | None ↦ (Skipped NotRunning, net)
            | Some m ↦
                (let r = played whole_logs fuel given act event (record { node = m; records = net.records }) in
                (r.0, record { nodes = slice_set net.nodes i r.1.node; records = r.1.records }))
          ])

      go : (o : Option NodeView) → slice_get net.nodes i ≡ o → NewDecisions (ChosenAmid (λ j. after (λ _. j) o)) net.records.decided (after weight o).records.decided net.records.bag (after weight o).records.bag
      go None is = nothing_in _ net.records.decided net.records.bag
      go (Some m) is =
          let s : Scene (List Entry) = record { node = m; records = net.records } in
          let k : NodeFollows (setup_of given.membership) h.world net.records m = each_at (NodeFollows (setup_of given.membership) h.world net.records) net.nodes i m is h.follows.nodes in
          let p : NewDecisions (ChosenOn act event s) net.records.decided (played whole_logs weight given act event s).1.records.decided net.records.bag (played whole_logs weight given act event s).1.records.bag =
          played_decides h.world h.follows.reached act event s (told m is) k h.fit (each_at (ExtraAt given Extra h.world) net.nodes i m is h.extra) in
          record {
            kept = p.kept;
            more = p.more;
            are = p.are;
            each = each_on (ChosenOn act event s (played whole_logs weight given act event s).1.records.bag) (ChosenAmid (λ j. after (λ _. j) (Some m)) (played whole_logs weight given act event s).1.records.bag)
                (λ r c.
                let y : NodeView = (played whole_logs (λ _. c.0) given act event s).1.node in (
                  c.0,
                  y,
                  subst (λ d. node_at (slice_set net.nodes i y) d ≡ Some y) (c.1 ∙ c.2) (put_found given net.nodes i m y is c.1 h.follows.apart),
                  c.3,
                )) p.more p.each;
          }

    node_decides : (act : Act) (event : Event) (net : Net (List Entry)) (id : ℕ) → (h : Followed given Extra since net) → ActFits given.membership h.world id act
        → NewDecisions (ChosenAmid (λ j. (at_node net id (played whole_logs (λ _. j) given act event)).1)) net.records.decided (at_node net id (played whole_logs weight given act event)).1.records.decided net.records.bag (at_node net id (played whole_logs weight given act event)).1.records.bag
    node_decides act event net id h told = go (place_of net.nodes id) refl where
      after : (Work (List Entry) → ℕ) → Option ℕ → Net (List Entry)
      after fuel o = net_after {L = List Entry} (elim o [ None ↦ (Skipped NotRunning, net) | Some i ↦ at_place net i (played whole_logs fuel given act event) ])

      go : (o : Option ℕ) → place_of net.nodes id ≡ o → NewDecisions (ChosenAmid (λ j. after (λ _. j) o)) net.records.decided (after weight o).records.decided net.records.bag (after weight o).records.bag
      go None is = nothing_in _ net.records.decided net.records.bag
      go (Some i) is = place_decides act event net i h (λ m e. subst (λ d. ActFits given.membership h.world d act) (sym (placed_id net.nodes id i m is e)) told)

    -- an event
    happens_decides : (event : Event) (net : Net (List Entry)) → Followed given Extra since net
        → NewDecisions (ChosenAmid (λ j. (happens whole_logs (λ _. j) given event net).1)) net.records.decided (happens whole_logs weight given event net).1.records.decided net.records.bag (happens whole_logs weight given event net).1.records.bag
    unfolding happens
    happens_decides event net h = go (aim_of net.records.bag event.kind) refl where
      after : (Work (List Entry) → ℕ) → Option Aim → Net (List Entry)
      after fuel o = net_after {L = List Entry} (elim o [ None ↦ (Skipped NoMessage, net) | Some aim ↦ at_node net aim.id (played whole_logs fuel given aim.act event) ])

      go : (o : Option Aim) → aim_of net.records.bag event.kind ≡ o → NewDecisions (ChosenAmid (λ j. after (λ _. j) o)) net.records.decided (after weight o).records.decided net.records.bag (after weight o).records.bag
      go None is = nothing_in _ net.records.decided net.records.bag
      go (Some aim) is = node_decides aim.act event net aim.id h (aimed given Extra laws since net h event.kind aim is)

    tell_decides : (x : History (List Entry)) (e : Event) → Followed given Extra since x.net
        → NewDecisions (ChosenAmid (λ j. (happens whole_logs (λ _. j) given e x.net).1)) x.net.records.decided (with_event whole_logs given x e).net.records.decided x.net.records.bag (with_event whole_logs given x e).net.records.bag
    unfolding with_event
    tell_decides x e h = happens_decides e x.net h

    -- a run: after so many of its events, and so many commands of the next one
    abbrev amid : List Event → History (List Entry) → ℕ → ℕ → Net (List Entry)
    amid es x i j = elim (slice_get es i) [ None ↦ (run whole_logs given (take i es) x).net | Some e ↦ (happens whole_logs (λ _. j) given e (run whole_logs given (take i es) x).net).1 ]

    abbrev ChosenAlong : List Event → History (List Entry) → List Message → Decided (List Entry) → Type 0
    ChosenAlong es x bag r = (i : ℕ) × ChosenAmid (amid es x i) bag r

    pub run_decides : (es : List Event) (x : History (List Entry)) → Followed given Extra since x.net
        → NewDecisions (ChosenAlong es x) x.net.records.decided (run whole_logs given es x).net.records.decided x.net.records.bag (run whole_logs given es x).net.records.bag
    run_decides [] x h = nothing_in _ x.net.records.decided x.net.records.bag
    run_decides (e ∷ es) x h =
        let p : NewDecisions (ChosenAmid (λ j. (happens whole_logs (λ _. j) given e x.net).1)) x.net.records.decided (with_event whole_logs given x e).net.records.decided x.net.records.bag (with_event whole_logs given x e).net.records.bag = tell_decides x e h in
        let q : NewDecisions (ChosenAlong es (with_event whole_logs given x e)) (with_event whole_logs given x e).net.records.decided (run whole_logs given es (with_event whole_logs given x e)).net.records.decided (with_event whole_logs given x e).net.records.bag (run whole_logs given es (with_event whole_logs given x e)).net.records.bag =
        run_decides es (with_event whole_logs given x e) (tell_followed given Extra laws since x e h) in
        record {
          kept = λ m c. q.kept m (p.kept m c);
          more = p.more ++ q.more;
          are = q.are ∙ (ap (λ rs. rs ++ q.more) p.are ∙ append_assoc x.net.records.decided p.more q.more);
          each = each_more (ChosenAlong (e ∷ es) x (run whole_logs given es (with_event whole_logs given x e)).net.records.bag) p.more q.more
              (each_on (ChosenAmid (λ j. (happens whole_logs (λ _. j) given e x.net).1) (with_event whole_logs given x e).net.records.bag) (ChosenAlong (e ∷ es) x (run whole_logs given es (with_event whole_logs given x e)).net.records.bag)
              (λ r c. (0, (c.0, c.1, c.2, chosen_on (with_event whole_logs given x e).net.records.bag (run whole_logs given es (with_event whole_logs given x e)).net.records.bag c.1.store r q.kept c.3))) p.more p.each)
              (each_on (ChosenAlong es (with_event whole_logs given x e) (run whole_logs given es (with_event whole_logs given x e)).net.records.bag) (ChosenAlong (e ∷ es) x (run whole_logs given es (with_event whole_logs given x e)).net.records.bag)
              (λ r c. (suc c.0, c.1)) q.more q.each);
        }

-- what is decided in a run was chosen in it
pub run_decides_chosen : (given : Given) → IsWellFormed given → (es : List Event) → DecidedAreChosen given es
run_decides_chosen given wf es r found =
    let Extra = Settled (setup_of given.membership) in
    let p : NewDecisions (ChosenAlong given Extra (all_laws given.membership) (stores.empty (setup_of given.membership)) es (start given)) [] (world_after given es).records.decided [] (world_after given es).records.bag =
    run_decides given (Settled (setup_of given.membership)) (all_laws given.membership) (stores.empty (setup_of given.membership)) es (start given) (start_followed given wf (Settled (setup_of given.membership)) (all_laws given.membership) es) in
    let c : ChosenAlong given Extra (all_laws given.membership) (stores.empty (setup_of given.membership)) es (start given) (world_after given es).records.bag r =
    one_of (ChosenAlong given Extra (all_laws given.membership) (stores.empty (setup_of given.membership)) es (start given) (world_after given es).records.bag) p.more r p.each (subst (λ rs. Contains rs r) p.are found) in
    let k : ChosenBy (world_after given es).records.bag c.1.1.store r = c.1.3 in
    record {
      events = c.0;
      commands = c.1.0;
      node = c.1.1;
      is = c.1.2;
      vote = k.vote;
      own = k.own;
      holds_it = k.holds_it;
      nodes = k.nodes;
      quorum = k.quorum;
      each = All-from_recursion (λ n. (n ≡ r.leader_id.node_id) ⊎ AcknowledgedUpTo (world_after given es).records.bag n r.leader_id r.log_id) k.nodes k.each;
    }
