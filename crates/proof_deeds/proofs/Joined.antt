-- A world's run is followed: by each event, and from the empty one on.
use Rattle.std.proofs.Common.{ℕ, ◌-◌, ◌<◌, ◌≡◌, ◌≢◌, Bool, true, false, List, [], ◌∷◌, length, arith, refl, sym, ◌∙◌, subst, Option, None, Some}
use Rattle.std.specs.Prelude.{IfSome, nat_eq, slice_get, slice_set, if◌then◌else◌}
use Rattle.std.specs.List.{AllByRecursion}
use Rattle.std.specs.Option.{option_map}
use Rattle.std.specs.Ordering.{nat_cmp}
use Rattle.std.proofs.lemmas.Bool.Decides.{nat_tests}
use Rattle.raft_node.specs.raft_store.declared.entry.Entry.{Entry}
use Rattle.raft_node.specs.raft_store.Entries.{entry_meaning}
use Rattle.raft_node.specs.raft_store.Types.{WorldCommand, WorldStore, EngineView}
use Rattle.proof_mirror.specs.Ready.{Awaits, InStep}
use Rattle.raft_node.specs.raft_schedule.declared.event.Event.{Event}
use Rattle.raft_node.specs.raft_schedule.declared.event.EventKind.{EventKind}
use Rattle.raft_node.specs.raft_schedule.declared.event.EventKind.TheVariants as event
use Rattle.raft_node.specs.raft_schedule.declared.event.EventKind.TheVariants.{Built, Deliver, Heartbeat, Init, Purge, Snapshot, Stand, Timeout}
use Rattle.raft_node.specs.raft_schedule.declared.event.Outcome.{Outcome}
use Rattle.raft_node.specs.raft_schedule.declared.event.Outcome.TheVariants.{Skipped}
use Rattle.raft_node.specs.raft_schedule.declared.event.SkipReason.{SkipReason}
use Rattle.raft_node.specs.raft_schedule.declared.event.SkipReason.TheVariants.{NoMessage, NotRunning}
use Rattle.raft_node.specs.declared.act.Act.{Act}
use Rattle.raft_node.specs.declared.act.Act.TheVariants.{ChangeLearners, ChangeMembership, Elect, Fail, FinishSnapshot, Initialize, Propose, Read, Restart, SendHeartbeat, StepDown, Stop, Take, TriggerPurge, TriggerSnapshot}
use Rattle.raft_node.specs.declared.act.Aim.{Aim}
use Rattle.raft_node.specs.raft_calls.declared.elections.Candidates.TheVariants.{AllMembers, Voters}
use Rattle.raft_node.specs.raft_calls.declared.message.Message.{Message}
use Rattle.raft_node.specs.raft_calls.declared.lead.Answer.{Answer}
use Rattle.raft_node.specs.declared.node.Turn.{Turn}
use Rattle.raft_node.specs.declared.given.Given.{Given}
use Rattle.raft_node.specs.Events.{Scene, aim_of, answer_at, at_node, at_place, called_at, calls, calls_at, finish, happens, message_at, moment_of, place_of, played, skip_reason, turn_of, with_answer, work_of}
use Rattle.raft_node.specs.Net.{Net, NodeView}
use Rattle.raft_node.specs.Runs.{History, run, with_event, whole_logs}
use Rattle.raft_node.specs.Work.{is_idle, weight, worked}
use Rattle.raft_node.proofs.Ready.{net_after, scene_after, skip_moved}
use Rattle.raft_node.proofs.Worked.{worked-ends}
use Rattle.proof_deeds.specs.Chains.{Carried, Does, Reached}
use Rattle.proof_deeds.specs.Follows.{MessageIs, RestIs, StoreIs}
use Rattle.proof_deeds.specs.Images.{Ideal, setup_of}
use Rattle.proof_deeds.specs.Knows.{Knows}
use Rattle.proof_deeds.specs.Nets.{EngineFollows, NodeFollows, NetFollows}
use Rattle.proof_deeds.proofs.Calls.{CallLaws, WorldState}
use Rattle.proof_deeds.proofs.Called.{calls_same, calls_work}
use Rattle.proof_deeds.proofs.Drains.{EffectsWork, EngineWorks, Works, worked_works}
use Rattle.proof_deeds.proofs.Events.{ActFits}
use Rattle.proof_deeds.proofs.Nodes.{apart_put, each_at, each_put, moved_follows, node_on, placed_id}
use Rattle.proof_deeds.proofs.ReadAnswers.{answer_known, answered_fits, answered_follows}
use Rattle.proof_deeds.proofs.Runs.{RecordsFit}
use Rattle.proof_deeds.proofs.Worlds.{does_self, if_some, does_then}

pub no_items : (cs : List WorldCommand) → nat_eq (length cs) 0 ≡ true → cs ≡ []
no_items [] h = refl
no_items (c ∷ cs) h = let other : nat_eq (length (c ∷ cs)) 0 ≡ false = grind (arith, nat_tests) in cc

module _ (given : Given) (Extra : Ideal → WorldState → Type 0) where
  -- what else holds of a node's engine
  abbrev pub ExtraAt : Ideal → NodeView → Type 0
  ExtraAt W n = IfSome n.engine (λ e. Extra W e.machine.core.state)

  -- a world that an ideal one follows, which came of an earlier one; what the ideal records don't say is so too
  pub record Followed (since : Ideal) (net : Net (List Entry)) : Type 0 where
    pub world : Ideal
    pub came : Does (setup_of given.membership) since world
    pub follows : NetFollows (setup_of given.membership) net world
    pub fit : RecordsFit (setup_of given.membership) world net.records
    pub extra : AllByRecursion (ExtraAt world) net.nodes

  -- an event's node after it, and the records: followed by an ideal world in which others' stores are as before
  pub record PlayedOn (W : Ideal) (n : NodeView) (x : Scene (List Entry)) : Type 0 where
    pub world : Ideal
    pub reached : Reached (setup_of given.membership) world
    pub does : Does (setup_of given.membership) W world
    pub others : (m : ℕ) → m ≢ n.id → world.store m ≡ W.store m
    pub same : x.node.id ≡ n.id
    pub node : NodeFollows (setup_of given.membership) world x.records x.node
    pub fit : RecordsFit (setup_of given.membership) world x.records
    pub extra : ExtraAt world x.node

  module _ (laws : CallLaws given.membership Extra) where
    -- a node that is at work no more is at rest
    at_rest : (t : Turn) (u : WorldStore) (W : Ideal) (n : NodeView) → n.id ≡ t.id → n.store ≡ u → (o : Option EngineView) → is_idle o ≡ true → IfSome o (EngineWorks given.membership Extra t u W) → IfSome o (EngineFollows (setup_of given.membership) n W)
    at_rest t u W n i q None d h = tt
    at_rest t u W n i q (Some e) d h =
        let none : e.machine.core.output.items ≡ [] = no_items e.machine.core.output.items d in
        let a : Awaits nat_cmp entry_meaning (λ es. es) u [] e.machine.core.state = subst (λ cs. Awaits nat_cmp entry_meaning (λ es. es) u cs e.machine.core.state) none h.pending.core in
        let c : Carried (setup_of given.membership) t e.machine.core.state.vote.leader_id u W [] (Knows (setup_of given.membership) t.id e.machine) = subst (λ cs. Carried (setup_of given.membership) t e.machine.core.state.vote.leader_id u W cs (Knows (setup_of given.membership) t.id e.machine)) none h.carried in
        record {
          id = h.id ∙ sym i;
          sound = h.ready.sound;
          queue = none;
          in_step = subst (λ w. InStep entry_meaning w e.machine.core.state) (sym q) a.in_step;
          knows = subst (λ d. Knows (setup_of given.membership) d e.machine W) (sym i) (subst (Knows (setup_of given.membership) t.id e.machine) (sym c.chain) c.knows);
        }

    -- once the queue is worked off
    pub finished_of : (t : Turn) (stop : Option ℕ) (W : Ideal) (s : Scene (List Entry)) → s.node.id ≡ t.id → t.id < 18446744073709551616 → (refusal : Option ℕ) → Works given.membership Extra t W (worked whole_logs (weight (work_of stop s)) t (work_of stop s))
        → PlayedOn W s.node (finish whole_logs weight t stop refusal s).1
    unfolding finish
    finished_of t stop W s i node refusal x =
        let y : EffectsWork given.membership Extra t W (worked whole_logs (weight (work_of stop s)) t (work_of stop s)).effects x.world = x.effects in
        record {
          world = x.world;
          reached = y.reached;
          does = y.came.does;
          others = λ m d. y.came.others m (λ e. d (e ∙ sym i));
          same = refl;
          node = record {
            node = subst (λ d. d < 18446744073709551616) (sym i) node;
            store = subst (λ d. StoreIs (setup_of given.membership) (worked whole_logs (weight (work_of stop s)) t (work_of stop s)).effects.store (x.world.store d)) (sym i) y.store;
            shaped = y.shaped;
            ordered = y.ordered;
            rest = subst (λ d. RestIs (setup_of given.membership) d (worked whole_logs (weight (work_of stop s)) t (work_of stop s)).effects x.world) (sym i) y.rest;
            engine = at_rest t (worked whole_logs (weight (work_of stop s)) t (work_of stop s)).effects.store x.world _ i refl (worked whole_logs (weight (work_of stop s)) t (work_of stop s)).engine (worked-ends whole_logs t (work_of stop s)) x.engine;
          };
          fit = y.fit;
          extra = if_some (EngineWorks given.membership Extra t (worked whole_logs (weight (work_of stop s)) t (work_of stop s)).effects.store x.world) (λ (e : EngineView). Extra x.world e.machine.core.state) (λ e k. k.extra) (worked whole_logs (weight (work_of stop s)) t (work_of stop s)).engine x.engine;
        }

    finished : (t : Turn) (stop refusal : Option ℕ) (W : Ideal) (s : Scene (List Entry)) → s.node.id ≡ t.id → t.id < 18446744073709551616 → Works given.membership Extra t W (work_of stop s) → PlayedOn W s.node (finish whole_logs weight t stop refusal s).1
    finished t stop refusal W s i node h = finished_of t stop W s i node refusal (worked_works given.membership Extra t laws node W (weight (work_of stop s)) (work_of stop s) h)

    module _ (W : Ideal) (r : Reached (setup_of given.membership) W) where
      unchanged : (s : Scene (List Entry)) → NodeFollows (setup_of given.membership) W s.records s.node → RecordsFit (setup_of given.membership) W s.records → ExtraAt W s.node → PlayedOn W s.node s
      unchanged s h f a = record { extra = a; world = W; reached = r; does = does_self (setup_of given.membership) W; others = λ m d. refl; same = refl; node = h; fit = f }

      -- an event at a node
      pub played_on : (act : Act) (event : Event) (s : Scene (List Entry)) → ActFits given.membership W s.node.id act → NodeFollows (setup_of given.membership) W s.records s.node → RecordsFit (setup_of given.membership) W s.records → ExtraAt W s.node → PlayedOn W s.node (played whole_logs weight given act event s).1
      unfolding played
      played_on act event s told h f a = go (skip_reason act s.node) refl where
        now : Scene (List Entry)
        now = called_at (moment_of event s.node) s

        go : (o : Option SkipReason) → skip_reason act s.node ≡ o → PlayedOn W s.node
            (scene_after {L = List Entry} (elim o as (λ _. Outcome × Scene (List Entry)) [
              | Some reason ↦ (Skipped reason, s)
              | None ↦ finish whole_logs weight (turn_of act now.node) event.stop (calls given act now).0 (calls given act now).1
            ]))
        go (Some reason) is = unchanged s h f a
        go None is =
            let moved : NodeFollows (setup_of given.membership) W s.records now.node = moved_follows (setup_of given.membership) W s.records s.node (moment_of event s.node) h in
            let answer : Option Answer = answer_at act (calls_at given act now.node).1 in
            let fits : RecordsFit (setup_of given.membership) W (with_answer answer s.records) = answered_fits (setup_of given.membership) W s.records f answer (answer_known given W s.records act now.node moved) in
            let same : (calls given act now).1.node.id ≡ s.node.id = calls_same given Extra laws W r (with_answer answer s.records) fits act now.node in
            let w : Works given.membership Extra (turn_of act now.node) W (work_of event.stop (calls given act now).1) =
            calls_work given Extra laws W r (with_answer answer s.records) fits act event.stop now.node (skip_moved act s.node (moment_of event s.node) ∙ is) told (answered_follows (setup_of given.membership) W s.records now.node answer moved) a in
            let x : PlayedOn W (calls given act now).1.node (finish whole_logs weight (turn_of act now.node) event.stop (calls given act now).0 (calls given act now).1).1 =
            finished (turn_of act now.node) event.stop (calls given act now).0 W (calls given act now).1 same h.node w in
            record { world = x.world; reached = x.reached; does = x.does; others = λ m d. x.others m (λ e. d (e ∙ same)); same = x.same ∙ same; node = x.node; fit = x.fit; extra = x.extra }

    module _ (since : Ideal) where
      -- one node's part of the world
      place_followed : (act : Act) (event : Event) (net : Net (List Entry)) (i : ℕ) → (h : Followed since net) → ((n : NodeView) → slice_get net.nodes i ≡ Some n → ActFits given.membership h.world n.id act) → Followed since (at_place net i (played whole_logs weight given act event)).1
      place_followed act event net i h told = go (slice_get net.nodes i) refl where
        go : (o : Option NodeView) → slice_get net.nodes i ≡ o → Followed since
            (net_after {L = List Entry} (elim o [
              | None ↦ (Skipped NotRunning, net)
              | Some n ↦
                  (let r = played whole_logs weight given act event (record { node = n; records = net.records }) in
                  (r.0, record { nodes = slice_set net.nodes i r.1.node; records = r.1.records }))
            ]))
        go None is = h
        go (Some n) is =
            let W : Ideal = h.world in
            let k : NodeFollows (setup_of given.membership) h.world net.records n = each_at (NodeFollows (setup_of given.membership) h.world net.records) net.nodes i n is h.follows.nodes in
            let x : PlayedOn h.world n (played whole_logs weight given act event (record { node = n; records = net.records })).1 = played_on h.world h.follows.reached act event (record { node = n; records = net.records }) (told n is) k h.fit (each_at (ExtraAt h.world) net.nodes i n is h.extra) in
            record {
              world = x.world;
              came = does_then (setup_of given.membership) since h.world x.world h.came x.does;
              follows = record {
                reached = x.reached;
                apart = apart_put (setup_of given.membership) net.nodes i n _ is x.same h.follows.apart;
                nodes = each_put (setup_of given.membership) (NodeFollows (setup_of given.membership) h.world net.records) (NodeFollows (setup_of given.membership) x.world (played whole_logs weight given act event (record { node = n; records = net.records })).1.records) net.nodes i n _ is h.follows.apart x.node
                    (λ m d p. node_on (setup_of given.membership) h.world x.world net.records (played whole_logs weight given act event (record { node = n; records = net.records })).1.records m x.does (x.others m.id d) x.node.rest.records p) h.follows.nodes;
                records = x.node.rest.records;
              };
              fit = x.fit;
              extra = each_put (setup_of given.membership) (ExtraAt h.world) (ExtraAt x.world) net.nodes i n _ is h.follows.apart x.extra
                  (λ m d p. if_some (λ (e : EngineView). Extra h.world e.machine.core.state) (λ (e : EngineView). Extra x.world e.machine.core.state) (λ e q. laws.extra_on h.world x.world e.machine.core.state x.does q) m.engine p) h.extra;
            }

      node_followed : (act : Act) (event : Event) (net : Net (List Entry)) (id : ℕ) → (h : Followed since net) → ActFits given.membership h.world id act → Followed since (at_node net id (played whole_logs weight given act event)).1
      node_followed act event net id h told = go (place_of net.nodes id) refl where
        go : (o : Option ℕ) → place_of net.nodes id ≡ o → Followed since (net_after {L = List Entry} (elim o [ None ↦ (Skipped NotRunning, net) | Some i ↦ at_place net i (played whole_logs weight given act event) ]))
        go None is = h
        go (Some i) is = place_followed act event net i h (λ n e. subst (λ d. ActFits given.membership h.world d act) (sym (placed_id net.nodes id i n is e)) told)

      -- what an event aims at is told
      pub aimed : (net : Net (List Entry)) (h : Followed since net) (kind : EventKind) (aim : Aim) → aim_of net.records.bag kind ≡ Some aim → ActFits given.membership h.world aim.id aim.act
      aimed net h (Init n) aim e = let q : record { id = n; act = Initialize } ≡ aim = cc in subst (λ (a : Aim). ActFits given.membership h.world a.id a.act) q tt
      aimed net h (Timeout n) aim e = let q : record { id = n; act = Elect Voters } ≡ aim = cc in subst (λ (a : Aim). ActFits given.membership h.world a.id a.act) q tt
      aimed net h (Stand n) aim e = let q : record { id = n; act = Elect AllMembers } ≡ aim = cc in subst (λ (a : Aim). ActFits given.membership h.world a.id a.act) q tt
      aimed net h (event.Propose n values) aim e = let q : record { id = n; act = Propose values } ≡ aim = cc in subst (λ (a : Aim). ActFits given.membership h.world a.id a.act) q tt
      aimed net h (Heartbeat n) aim e = let q : record { id = n; act = SendHeartbeat } ≡ aim = cc in subst (λ (a : Aim). ActFits given.membership h.world a.id a.act) q tt
      aimed net h (event.Fail n target) aim e = let q : record { id = n; act = Fail target } ≡ aim = cc in subst (λ (a : Aim). ActFits given.membership h.world a.id a.act) q tt
      aimed net h (Snapshot n) aim e = let q : record { id = n; act = TriggerSnapshot } ≡ aim = cc in subst (λ (a : Aim). ActFits given.membership h.world a.id a.act) q tt
      aimed net h (Built n) aim e = let q : record { id = n; act = FinishSnapshot } ≡ aim = cc in subst (λ (a : Aim). ActFits given.membership h.world a.id a.act) q tt
      aimed net h (Purge n i) aim e = let q : record { id = n; act = TriggerPurge i } ≡ aim = cc in subst (λ (a : Aim). ActFits given.membership h.world a.id a.act) q tt
      aimed net h (event.Member n learners) aim e = let q : record { id = n; act = ChangeLearners learners } ≡ aim = cc in subst (λ (a : Aim). ActFits given.membership h.world a.id a.act) q tt
      aimed net h (event.Change n groups learners) aim e = let q : record { id = n; act = ChangeMembership groups learners } ≡ aim = cc in subst (λ (a : Aim). ActFits given.membership h.world a.id a.act) q tt
      aimed net h (event.Read n) aim e = let q : record { id = n; act = Read } ≡ aim = cc in subst (λ (a : Aim). ActFits given.membership h.world a.id a.act) q tt
      aimed net h (event.Down n) aim e = let q : record { id = n; act = StepDown } ≡ aim = cc in subst (λ (a : Aim). ActFits given.membership h.world a.id a.act) q tt
      aimed net h (event.Stop n) aim e = let q : record { id = n; act = Stop } ≡ aim = cc in subst (λ (a : Aim). ActFits given.membership h.world a.id a.act) q tt
      aimed net h (event.Restart n start) aim e = let q : record { id = n; act = Restart start } ≡ aim = cc in subst (λ (a : Aim). ActFits given.membership h.world a.id a.act) q tt
      aimed net h (Deliver k) aim e = sent (message_at net.records.bag k) refl e where
        within : (b : Bool) (m : Message) → ◌≡◌ {A = Option Message} (if b then None else slice_get net.records.bag (k - 1)) (Some m) → MessageIs (setup_of given.membership) h.world m
        within true m q = cc
        within false m q = each_at (MessageIs (setup_of given.membership) h.world) net.records.bag (k - 1) m q h.follows.records.bag

        sent : (o : Option Message) → message_at net.records.bag k ≡ o → option_map (λ (m : Message). let a : Aim = record { id = m.to; act = Take m } in a) o ≡ Some aim → ActFits given.membership h.world aim.id aim.act
        sent None is q = cc
        sent (Some m) is q = let z : record { id = m.to; act = Take m } ≡ aim = cc in subst (λ (a : Aim). ActFits given.membership h.world a.id a.act) z (refl, within (nat_eq k 0) m is)

      -- each event keeps a world followed
      pub happens_followed : (event : Event) (net : Net (List Entry)) → Followed since net → Followed since (happens whole_logs weight given event net).1
      unfolding happens
      happens_followed event net h = go (aim_of net.records.bag event.kind) refl where
        go : (o : Option Aim) → aim_of net.records.bag event.kind ≡ o → Followed since (net_after {L = List Entry} (elim o [ None ↦ (Skipped NoMessage, net) | Some aim ↦ at_node net aim.id (played whole_logs weight given aim.act event) ]))
        go None is = h
        go (Some aim) is = node_followed aim.act event net aim.id h (aimed net h event.kind aim is)

      pub tell_followed : (x : History (List Entry)) (e : Event) → Followed since x.net → Followed since (with_event whole_logs given x e).net
      unfolding with_event
      tell_followed x e h = happens_followed e x.net h

      pub run_followed : (es : List Event) (x : History (List Entry)) → Followed since x.net → Followed since (run whole_logs given es x).net
      run_followed [] x h = h
      run_followed (e ∷ es) x h = run_followed es (with_event whole_logs given x e) (tell_followed x e h)
