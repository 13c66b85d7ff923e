-- The world at any moment between two commands: stores and records are followed, and what comes of it later comes of
-- the ideal world then.
use Rattle.std.proofs.Common.{ℕ, zero, suc, ◌+◌, ◌<◌, ◌≡◌, ◌≢◌, Bool, true, false, List, [], ◌∷◌, take, arith, refl, sym, ap, ◌∙◌, subst, Option, None, Some}
use Rattle.std.specs.Prelude.{IfSome, slice_get, slice_set, if◌then◌else◌}
use Rattle.raft_node.specs.raft_store.declared.entry.Entry.{Entry}
use Rattle.raft_node.specs.raft_store.Types.{EngineView, WorldStore}
use Rattle.raft_node.specs.raft_schedule.declared.event.Event.{Event}
use Rattle.raft_node.specs.raft_schedule.declared.event.Outcome.{Outcome}
use Rattle.raft_node.specs.raft_schedule.declared.event.Outcome.TheVariants.{Skipped}
use Rattle.raft_node.specs.raft_schedule.declared.event.SkipReason.{SkipReason}
use Rattle.raft_node.specs.raft_schedule.declared.event.SkipReason.TheVariants.{NoMessage, NotRunning}
use Rattle.raft_node.specs.raft_calls.declared.lead.Answer.{Answer}
use Rattle.raft_node.specs.declared.act.Act.{Act}
use Rattle.raft_node.specs.declared.act.Aim.{Aim}
use Rattle.raft_node.specs.declared.node.Turn.{Turn}
use Rattle.raft_node.specs.declared.given.Given.{Given}
use Rattle.raft_node.specs.Events.{Scene, aim_of, at_node, at_place, called_at, calls, finish, happens, moment_of, place_of, played, skip_reason, turn_of, work_of, answer_at, calls_at, with_answer}
use Rattle.raft_node.specs.MayKeep.{CanStoreFirst, CanStoreNext}
use Rattle.raft_node.specs.Net.{Net, NodeView, Records}
use Rattle.raft_node.specs.Runs.{History, run, with_event, whole_logs}
use Rattle.raft_node.specs.Until.{until}
use Rattle.raft_node.specs.Work.{Work, idle, weight, work_step, worked}
use Rattle.raft_node.proofs.Falls.{falls}
use Rattle.raft_node.proofs.Ready.{net_after, scene_after, skip_moved}
use Rattle.raft_node.proofs.UntilLaws.{until-done, until-enough}
use Rattle.proof_deeds.specs.Chains.{Does, Reached}
use Rattle.proof_deeds.specs.Follows.{RecordsAre, StoreIs}
use Rattle.proof_deeds.specs.Images.{Ideal, setup_of}
use Rattle.proof_deeds.specs.Nets.{EngineFollows, NodeFollows}
use Rattle.proof_deeds.proofs.Calls.{CallLaws, WorldState}
use Rattle.proof_deeds.proofs.Drains.{EffectsWork, EngineWorks, Works, came_self, worked_works}
use Rattle.proof_deeds.proofs.Called.{calls_same, calls_work}
use Rattle.proof_deeds.proofs.Events.{ActFits}
use Rattle.proof_deeds.proofs.Joined.{ExtraAt, Followed, PlayedOn, aimed, finished_of, tell_followed, run_followed}
use Rattle.proof_deeds.proofs.Nodes.{each_at, each_put, moved_follows, node_on, apart_put, placed_id}
use Rattle.proof_deeds.proofs.Promised.{NetStands, NodeStands}
use Rattle.proof_deeds.proofs.ReadAnswers.{answer_known, answered_fits, answered_follows}
use Rattle.proof_deeds.proofs.Runs.{RecordsFit}
use Rattle.proof_deeds.proofs.Storing.{ready_store}
use Rattle.proof_deeds.proofs.Worlds.{if_some, does_self, does_then, each_on}

-- a queue that is worked off in two parts is worked off
module _ (t : Turn) where
  pub parted : (n m : ℕ) (w : Work (List Entry)) → until idle (work_step whole_logs t) (n + m) w ≡ until idle (work_step whole_logs t) m (until idle (work_step whole_logs t) n w)
  parted zero m w = let e : 0 + m ≡ m = omega arith in ap (λ k. until idle (work_step whole_logs t) k w) e
  parted (suc n) m w = ap (λ k. until idle (work_step whole_logs t) k w) (let e : suc n + m ≡ suc (n + m) = omega arith in e) ∙ go (idle w) refl (parted n m (work_step whole_logs t w)) where
    go : (b : Bool) → idle w ≡ b → until idle (work_step whole_logs t) (n + m) (work_step whole_logs t w) ≡ until idle (work_step whole_logs t) m (until idle (work_step whole_logs t) n (work_step whole_logs t w))
        → (if b then w else until idle (work_step whole_logs t) (n + m) (work_step whole_logs t w)) ≡ until idle (work_step whole_logs t) m (if b then w else until idle (work_step whole_logs t) n (work_step whole_logs t w))
    go true d later = sym (until-done idle (work_step whole_logs t) m w d)
    go false d later = later

  pub worked_on : (n : ℕ) (w : Work (List Entry)) → worked whole_logs (weight w) t (worked whole_logs n t w) ≡ worked whole_logs (weight w) t w
  unfolding worked
  worked_on n w = sym (parted n (weight w) w) ∙ until-enough idle (work_step whole_logs t) weight (falls whole_logs t) (n + weight w) (weight w) w (omega arith) (omega arith)

module _ (given : Given) (Extra : Ideal → WorldState → Type 0) where
  -- a world at a moment
  pub record Stood (since : Ideal) (net : Net (List Entry)) : Type 0 where
    pub world : Ideal
    pub came : Does (setup_of given.membership) since world
    pub stands : NetStands (setup_of given.membership) net world

  -- an event's node and the records, in the midst of the event, and after it
  pub record Midst (W : Ideal) (n : NodeView) (x y : Scene (List Entry)) : Type 0 where
    pub world : Ideal
    pub reached : Reached (setup_of given.membership) world
    pub does : Does (setup_of given.membership) W world
    pub others : (m : ℕ) → m ≢ n.id → world.store m ≡ W.store m
    pub node : NodeStands (setup_of given.membership) world x.node
    pub records : RecordsAre (setup_of given.membership) x.records world
    pub fit : RecordsFit (setup_of given.membership) world x.records
    pub after : PlayedOn given Extra world n y

  stands_on : (W V : Ideal) (n : NodeView) → V.store n.id ≡ W.store n.id → NodeStands (setup_of given.membership) W n → NodeStands (setup_of given.membership) V n
  stands_on W V n e h = record { node = h.node; store = subst (StoreIs (setup_of given.membership) n.store) (sym e) h.store; shaped = h.shaped; next = h.next }

  follows_stand : (W : Ideal) (r : Records (List Entry)) (n : NodeView) → NodeFollows (setup_of given.membership) W r n → NodeStands (setup_of given.membership) W n
  follows_stand W r n h = record { node = h.node; store = h.store; shaped = h.shaped; next = go n.engine h.engine }
    where
      go : (o : Option EngineView) → IfSome o (EngineFollows (setup_of given.membership) n W) → CanStoreNext o n.store
      go None k = tt
      go (Some e) k = subst (CanStoreFirst n.store) (sym k.queue) tt

  -- the store of a node at work can take its next command
  works_next : (t : Turn) (u : WorldStore) (W : Ideal) (o : Option EngineView) → IfSome o (EngineWorks given.membership Extra t u W) → CanStoreNext o u
  works_next t u W None h = tt
  works_next t u W (Some e) h = ready_store u e.machine.core.output.items h.pending.core.ready

  -- between two events
  pub stood_of : (since : Ideal) (net : Net (List Entry)) → Followed given Extra since net → Stood since net
  stood_of since net h = record {
    world = h.world;
    came = h.came;
    stands = record {
      reached = h.follows.reached;
      nodes = each_on (NodeFollows (setup_of given.membership) h.world net.records) (NodeStands (setup_of given.membership) h.world) (follows_stand h.world net.records) net.nodes h.follows.nodes;
      records = h.follows.records;
      fit = h.fit;
    };
  }

  since_now : (since : Ideal) (net : Net (List Entry)) → (h : Followed given Extra since net) → Followed given Extra h.world net
  since_now since net h = record { world = h.world; came = does_self (setup_of given.membership) h.world; follows = h.follows; fit = h.fit; extra = h.extra }

  module _ (laws : CallLaws given.membership Extra) (k : ℕ) where
    -- k commands of the queue, and then the rest
    midst : (t : Turn) (stop refusal : Option ℕ) (W : Ideal) (s : Scene (List Entry)) → s.node.id ≡ t.id → t.id < 18446744073709551616 → Works given.membership Extra t W (work_of stop s)
        → Midst W s.node (finish whole_logs (λ _. k) t stop refusal s).1 (finish whole_logs weight t stop refusal s).1
    unfolding finish
    midst t stop refusal W s i node h =
        let x : Works given.membership Extra t W (worked whole_logs k t (work_of stop s)) = worked_works given.membership Extra t laws node W k (work_of stop s) h in
        let y : EffectsWork given.membership Extra t W (worked whole_logs k t (work_of stop s)).effects x.world = x.effects in
        let z : Works given.membership Extra t x.world (worked whole_logs k t (work_of stop s)) = record {
          world = x.world;
          effects = record { came = came_self given.membership Extra t x.world; reached = y.reached; store = y.store; shaped = y.shaped; ordered = y.ordered; rest = y.rest; fit = y.fit };
          engine = x.engine;
          builds = x.builds;
        } in
        let w : Works given.membership Extra t x.world (worked whole_logs (weight (work_of stop s)) t (worked whole_logs k t (work_of stop s))) = worked_works given.membership Extra t laws node x.world (weight (work_of stop s)) (worked whole_logs k t (work_of stop s)) z in
        record {
          world = x.world;
          reached = y.reached;
          does = y.came.does;
          others = λ m d. y.came.others m (λ e. d (e ∙ sym i));
          node = record {
            node = subst (λ d. d < 18446744073709551616) (sym i) node;
            store = subst (λ d. StoreIs (setup_of given.membership) (worked whole_logs k t (work_of stop s)).effects.store (x.world.store d)) (sym i) y.store;
            shaped = y.shaped;
            next = works_next t (worked whole_logs k t (work_of stop s)).effects.store x.world (worked whole_logs k t (work_of stop s)).engine x.engine;
          };
          records = y.rest.records;
          fit = y.fit;
          after = finished_of given Extra laws t stop x.world s i node refusal (subst (Works given.membership Extra t x.world) (worked_on t k (work_of stop s)) w);
        }

    module _ (W : Ideal) (r : Reached (setup_of given.membership) W) where
      still : (s : Scene (List Entry)) → NodeFollows (setup_of given.membership) W s.records s.node → RecordsFit (setup_of given.membership) W s.records → ExtraAt given Extra W s.node → Midst W s.node s s
      still s h f a = record {
        world = W;
        reached = r;
        does = does_self (setup_of given.membership) W;
        others = λ m d. refl;
        node = follows_stand W s.records s.node h;
        records = h.rest.records;
        fit = f;
        after = record { world = W; reached = r; does = does_self (setup_of given.membership) W; others = λ m d. refl; same = refl; node = h; fit = f; extra = a };
      }

      renamed : (n m : NodeView) (x y : Scene (List Entry)) → m.id ≡ n.id → Midst W n x y → Midst W m x y
      renamed n m x y e h =
          let a : PlayedOn given Extra h.world n y = h.after in
          record {
            world = h.world;
            reached = h.reached;
            does = h.does;
            others = λ i d. h.others i (λ q. d (q ∙ sym e));
            node = h.node;
            records = h.records;
            fit = h.fit;
            after = record { world = a.world; reached = a.reached; does = a.does; others = λ i d. a.others i (λ q. d (q ∙ sym e)); same = a.same ∙ sym e; node = a.node; fit = a.fit; extra = a.extra };
          }

      played_midst : (act : Act) (event : Event) (s : Scene (List Entry)) → ActFits given.membership W s.node.id act → NodeFollows (setup_of given.membership) W s.records s.node → RecordsFit (setup_of given.membership) W s.records → ExtraAt given Extra W s.node
          → Midst W s.node (played whole_logs (λ _. k) given act event s).1 (played whole_logs weight given act event s).1
      unfolding played
      played_midst act event s told h f a = go (skip_reason act s.node) refl where
        now : Scene (List Entry)
        now = called_at (moment_of event s.node) s

        go : (o : Option SkipReason) → skip_reason act s.node ≡ o → Midst W s.node
            (scene_after {L = List Entry} (elim o as (λ _. Outcome × Scene (List Entry)) [
              | Some reason ↦ (Skipped reason, s)
              | None ↦ finish whole_logs (λ _. k) (turn_of act now.node) event.stop (calls given act now).0 (calls given act now).1
            ]))
            (scene_after {L = List Entry} (elim o as (λ _. Outcome × Scene (List Entry)) [
              | Some reason ↦ (Skipped reason, s)
              | None ↦ finish whole_logs weight (turn_of act now.node) event.stop (calls given act now).0 (calls given act now).1
            ]))
        go (Some reason) is = still s h f a
        go None is =
            let moved : NodeFollows (setup_of given.membership) W s.records now.node = moved_follows (setup_of given.membership) W s.records s.node (moment_of event s.node) h in
            let answer : Option Answer = answer_at act (calls_at given act now.node).1 in
            let fits : RecordsFit (setup_of given.membership) W (with_answer answer s.records) = answered_fits (setup_of given.membership) W s.records f answer (answer_known given W s.records act now.node moved) in
            let same : (calls given act now).1.node.id ≡ s.node.id = calls_same given Extra laws W r (with_answer answer s.records) fits act now.node in
            renamed (calls given act now).1.node s.node _ _ (sym same)
            (midst (turn_of act now.node) event.stop (calls given act now).0 W (calls given act now).1 same h.node
            (calls_work given Extra laws W r (with_answer answer s.records) fits act event.stop now.node (skip_moved act s.node (moment_of event s.node) ∙ is) told (answered_follows (setup_of given.membership) W s.records now.node answer moved) a))

    -- a world in the midst of an event, and after it
    pub record Passed (since : Ideal) (half net : Net (List Entry)) : Type 0 where
      pub stood : Stood since half
      pub after : Followed given Extra stood.world net

    passed_still : (since : Ideal) (net : Net (List Entry)) → Followed given Extra since net → Passed since net net
    unfolding stood_of since_now
    passed_still since net h = record { stood = stood_of since net h; after = since_now since net h }

    place_passed : (since : Ideal) (act : Act) (event : Event) (net : Net (List Entry)) (i : ℕ) → (h : Followed given Extra since net) → ((n : NodeView) → slice_get net.nodes i ≡ Some n → ActFits given.membership h.world n.id act)
        → Passed since (at_place net i (played whole_logs (λ _. k) given act event)).1 (at_place net i (played whole_logs weight given act event)).1
    place_passed since act event net i h told = go (slice_get net.nodes i) refl where
      go : (o : Option NodeView) → slice_get net.nodes i ≡ o → Passed since
          (net_after {L = List Entry} (elim o [
            | None ↦ (Skipped NotRunning, net)
            | Some n ↦
                (let r = played whole_logs (λ _. k) given act event (record { node = n; records = net.records }) in
                (r.0, record { nodes = slice_set net.nodes i r.1.node; records = r.1.records }))
          ]))
          (net_after {L = List Entry} (elim o [
            | None ↦ (Skipped NotRunning, net)
            | Some n ↦
                (let r = played whole_logs weight given act event (record { node = n; records = net.records }) in
                (r.0, record { nodes = slice_set net.nodes i r.1.node; records = r.1.records }))
          ]))
      go None is = passed_still since net h
      go (Some n) is =
          let q : NodeFollows (setup_of given.membership) h.world net.records n = each_at (NodeFollows (setup_of given.membership) h.world net.records) net.nodes i n is h.follows.nodes in
          let x : Midst h.world n (played whole_logs (λ _. k) given act event (record { node = n; records = net.records })).1 (played whole_logs weight given act event (record { node = n; records = net.records })).1 =
          played_midst h.world h.follows.reached act event (record { node = n; records = net.records }) (told n is) q h.fit (each_at (ExtraAt given Extra h.world) net.nodes i n is h.extra) in
          let y : PlayedOn given Extra x.world n (played whole_logs weight given act event (record { node = n; records = net.records })).1 = x.after in
          record {
            stood = record {
              world = x.world;
              came = does_then (setup_of given.membership) since h.world x.world h.came x.does;
              stands = record {
                reached = x.reached;
                nodes = each_put (setup_of given.membership) (NodeFollows (setup_of given.membership) h.world net.records) (NodeStands (setup_of given.membership) x.world) net.nodes i n _ is h.follows.apart x.node
                    (λ m d p. stands_on h.world x.world m (x.others m.id d) (follows_stand h.world net.records m p)) h.follows.nodes;
                records = x.records;
                fit = x.fit;
              };
            };
            after = record {
              world = y.world;
              came = y.does;
              follows = record {
                reached = y.reached;
                apart = apart_put (setup_of given.membership) net.nodes i n _ is y.same h.follows.apart;
                nodes = each_put (setup_of given.membership) (NodeFollows (setup_of given.membership) h.world net.records) (NodeFollows (setup_of given.membership) y.world (played whole_logs weight given act event (record { node = n; records = net.records })).1.records) net.nodes i n _ is h.follows.apart y.node
                    (λ m d p. node_on (setup_of given.membership) h.world y.world net.records (played whole_logs weight given act event (record { node = n; records = net.records })).1.records m
                    (does_then (setup_of given.membership) h.world x.world y.world x.does y.does) (y.others m.id d ∙ x.others m.id d) y.node.rest.records p) h.follows.nodes;
                records = y.node.rest.records;
              };
              fit = y.fit;
              extra = each_put (setup_of given.membership) (ExtraAt given Extra h.world) (ExtraAt given Extra y.world) net.nodes i n _ is h.follows.apart y.extra
                  (λ m d p. if_some (λ (e : EngineView). Extra h.world e.machine.core.state) (λ (e : EngineView). Extra y.world e.machine.core.state) (λ e z. laws.extra_on h.world y.world e.machine.core.state (does_then (setup_of given.membership) h.world x.world y.world x.does y.does) z) m.engine p) h.extra;
            };
          }

    node_passed : (since : Ideal) (act : Act) (event : Event) (net : Net (List Entry)) (id : ℕ) → (h : Followed given Extra since net) → ActFits given.membership h.world id act
        → Passed since (at_node net id (played whole_logs (λ _. k) given act event)).1 (at_node net id (played whole_logs weight given act event)).1
    node_passed since act event net id h told = go (place_of net.nodes id) refl where
      go : (o : Option ℕ) → place_of net.nodes id ≡ o → Passed since (net_after {L = List Entry} (elim o [ None ↦ (Skipped NotRunning, net) | Some i ↦ at_place net i (played whole_logs (λ _. k) given act event) ]))
          (net_after {L = List Entry} (elim o [ None ↦ (Skipped NotRunning, net) | Some i ↦ at_place net i (played whole_logs weight given act event) ]))
      go None is = passed_still since net h
      go (Some i) is = place_passed since act event net i h (λ n e. subst (λ d. ActFits given.membership h.world d act) (sym (placed_id net.nodes id i n is e)) told)

    -- k commands of an event, and the event
    pub happens_passed : (since : Ideal) (event : Event) (net : Net (List Entry)) → Followed given Extra since net → Passed since (happens whole_logs (λ _. k) given event net).1 (happens whole_logs weight given event net).1
    unfolding happens
    happens_passed since event net h = go (aim_of net.records.bag event.kind) refl where
      go : (o : Option Aim) → aim_of net.records.bag event.kind ≡ o → Passed since (net_after {L = List Entry} (elim o [ None ↦ (Skipped NoMessage, net) | Some aim ↦ at_node net aim.id (played whole_logs (λ _. k) given aim.act event) ]))
          (net_after {L = List Entry} (elim o [ None ↦ (Skipped NoMessage, net) | Some aim ↦ at_node net aim.id (played whole_logs weight given aim.act event) ]))
      go None is = passed_still since net h
      go (Some aim) is = node_passed since aim.act event net aim.id h (aimed given Extra laws since net h event.kind aim is)

  module _ (laws : CallLaws given.membership Extra) where
    told_passed : (k : ℕ) (since : Ideal) (x : History (List Entry)) (e : Event) → Followed given Extra since x.net → Passed laws k since (happens whole_logs (λ _. k) given e x.net).1 (with_event whole_logs given x e).net
    unfolding with_event
    told_passed k since x e h = happens_passed laws k since e x.net h

    -- the world of a run at a moment of it, and after it
    pub run_passed : (es : List Event) (i k : ℕ) (since : Ideal) (x : History (List Entry)) → Followed given Extra since x.net
        → Passed laws k since (elim (slice_get es i) [ None ↦ (run whole_logs given (take i es) x).net | Some e ↦ (happens whole_logs (λ _. k) given e (run whole_logs given (take i es) x).net).1 ]) (run whole_logs given es x).net
    run_passed [] zero k since x h = passed_still laws k since x.net h
    run_passed [] (suc i) k since x h = passed_still laws k since x.net h
    run_passed (e ∷ es) zero k since x h =
        let p : Passed laws k since (happens whole_logs (λ _. k) given e x.net).1 (with_event whole_logs given x e).net = told_passed k since x e h in
        record { stood = p.stood; after = run_followed given Extra laws p.stood.world es (with_event whole_logs given x e) p.after }
    run_passed (e ∷ es) (suc i) k since x h = run_passed es i k since (with_event whole_logs given x e) (tell_followed given Extra laws since x e h)
