-- Skipped events change nothing: without them events make the same world, and none of the others is skipped.
use Rattle.std.proofs.Common.{ℕ, suc, ◌≡◌, ◌≤◌, ◌∙◌, Bool, false, true, All, List, [], ◌∷◌, ◌++◌, append-nil, append_assoc, length, drop, arith, refl, sym, ap, subst, None, Option, Some}
use Rattle.std.specs.Prelude.{filter, if◌then◌else◌, slice_get, slice_set}
use Rattle.std.proofs.lemmas.List.{drop_at, length-map, set-get_or}
use Rattle.std.proofs.lemmas.List.Elements.{filter_passes}
use Rattle.std.proofs.lemmas.List.Sums.{count_by-le-length, length-filter}
use Rattle.std.proofs.lemmas.Option.{get_or_from_slice_get}
use Rattle.raft_store.specs.declared.entry.Entry.{Entry}
use Rattle.raft_store.specs.declared.entry.Value.{Value}
use Rattle.raft_store.specs.Types.{EngineView}
use Rattle.raft_schedule.specs.declared.event.AppliedEvent.{AppliedEvent}
use Rattle.raft_schedule.specs.declared.event.Event.{Event}
use Rattle.raft_schedule.specs.declared.event.Outcome.{Outcome}
use Rattle.raft_schedule.specs.declared.event.Outcome.TheVariants.{Skipped}
use Rattle.raft_schedule.specs.declared.event.SkipReason.{SkipReason}
use Rattle.raft_schedule.specs.declared.event.SkipReason.TheVariants.{NoMessage, NotRunning}
use Rattle.raft_node.specs.declared.act.Act.{Act}
use Rattle.raft_node.specs.declared.act.Aim.{Aim}
use Rattle.raft_node.specs.declared.given.Given.{Given}
use Rattle.raft_node.specs.declared.node.Turn.{Turn}
use Rattle.raft_node.specs.Events.{Scene, aim_of, at_node, at_place, called_at, calls, finish, happens, moment_of, outcome_of, place_of, played as played_at, scene, skip_reason, turn_of, work_of}
use Rattle.raft_node.specs.Net.{Net, NodeView}
use Rattle.raft_node.specs.Runs.{History, events_of, run, start, whole_logs, with_event}
use Rattle.raft_node.specs.Work.{weight, worked}
use Rattle.raft_world.specs.Worlds.{IsWorldOfRun, WorldView, events_in, new_world, run_in}
use Rattle.proof_progress.specs.Continuations.{goes_on}
use Rattle.proof_progress.proofs.CanElect.{goes_run}
use Rattle.raft_recovery.specs.declared.recovery.Recovery.{Recovery}
use Rattle.raft_recovery.specs.Recoveries.{GoesBy, GoesOnBy, Recovers, RecoversBehind, happened, is_happened}
use Rattle.raft_recovery.specs.Ways.{played}
use Rattle.raft_recovery.proofs.Played.{events_after}
use Rattle.raft_recovery.proofs.Trying.{anew_goes, anew_net, goes_on_by}

-- One event

-- what a node's commands come to isn't that the event is skipped
never : (refusal : Option ℕ) (engine : Option EngineView) → is_happened (outcome_of refusal engine) ≡ false → ⊥
never (Some r) engine h = let z : true ≡ false = h in cc
never None (Some e) h = let z : true ≡ false = h in cc
never None None h = let z : true ≡ false = h in cc

finished : (t : Turn) (stop refusal : Option ℕ) (s : Scene (List Entry)) → is_happened (finish whole_logs weight t stop refusal s).0 ≡ false → ⊥
unfolding finish
finished t stop refusal s h = never refusal (worked whole_logs (weight (work_of stop s)) t (work_of stop s)).engine h

set_same : (nodes : List NodeView) (i : ℕ) (n : NodeView) → slice_get nodes i ≡ Some n → slice_set nodes i n ≡ nodes
set_same nodes i n e = ap (slice_set nodes i) (sym (get_or_from_slice_get nodes i n n e)) ∙ set-get_or nodes i n

module _ (given : Given) (event : Event) where
  stays_at : (act : Act) (s : Scene (List Entry)) → is_happened (played_at whole_logs weight given act event s).0 ≡ false
      → (played_at whole_logs weight given act event s).1 ≡ s
  unfolding played_at
  stays_at act s = go (skip_reason act s.node)
    where
      now : Scene (List Entry)
      now = called_at (moment_of event s.node) s

      go : (o : Option SkipReason)
          → is_happened (elim o as (λ _. Outcome × Scene (List Entry)) [
            | Some reason ↦ (Skipped reason, s)
            | None ↦ finish whole_logs weight (turn_of act now.node) event.stop (calls given act now).0 (calls given act now).1
          ]).0 ≡ false
          → (elim o as (λ _. Outcome × Scene (List Entry)) [
            | Some reason ↦ (Skipped reason, s)
            | None ↦ finish whole_logs weight (turn_of act now.node) event.stop (calls given act now).0 (calls given act now).1
          ]).1 ≡ s
      go (Some reason) h = refl
      go None h = absurd (finished (turn_of act now.node) event.stop (calls given act now).0 (calls given act now).1 h)

  module _ (net : Net (List Entry)) where
    stays_there : (act : Act) (i : ℕ) → is_happened (at_place net i (played_at whole_logs weight given act event)).0 ≡ false
        → (at_place net i (played_at whole_logs weight given act event)).1 ≡ net
    stays_there act i = go (slice_get net.nodes i) refl
      where
        f : Scene (List Entry) → Outcome × Scene (List Entry)
        f = played_at whole_logs weight given act event

        go : (o : Option NodeView) → slice_get net.nodes i ≡ o
            → is_happened (elim o as (λ _. Outcome × Net (List Entry)) [
              | None ↦ (Skipped NotRunning, net)
              | Some n ↦ (let r = f (record { node = n; records = net.records }) in (r.0, record { nodes = slice_set net.nodes i r.1.node; records = r.1.records }))
            ]).0 ≡ false
            → (elim o as (λ _. Outcome × Net (List Entry)) [
              | None ↦ (Skipped NotRunning, net)
              | Some n ↦ (let r = f (record { node = n; records = net.records }) in (r.0, record { nodes = slice_set net.nodes i r.1.node; records = r.1.records }))
            ]).1 ≡ net
        go None is h = refl
        go (Some n) is h =
            let still : (f (scene n net.records)).1 ≡ scene n net.records = stays_at act (scene n net.records) h in
            (λ j. let r : Net (List Entry) = record { nodes = slice_set net.nodes i (still j).node; records = (still j).records } in r)
            ∙ (λ j. let r : Net (List Entry) = record { nodes = set_same net.nodes i n is j; records = net.records } in r)

    stays_with : (aim : Aim) → is_happened (at_node net aim.id (played_at whole_logs weight given aim.act event)).0 ≡ false
        → (at_node net aim.id (played_at whole_logs weight given aim.act event)).1 ≡ net
    stays_with aim = go (place_of net.nodes aim.id)
      where
        f : Scene (List Entry) → Outcome × Scene (List Entry)
        f = played_at whole_logs weight given aim.act event

        go : (o : Option ℕ) → is_happened (elim o as (λ _. Outcome × Net (List Entry)) [ None ↦ (Skipped NotRunning, net) | Some i ↦ at_place net i f ]).0 ≡ false
            → (elim o as (λ _. Outcome × Net (List Entry)) [ None ↦ (Skipped NotRunning, net) | Some i ↦ at_place net i f ]).1 ≡ net
        go None h = refl
        go (Some i) h = stays_there aim.act i h

    -- a skipped event leaves the world as it is
    pub skipped_stays : is_happened (happens whole_logs weight given event net).0 ≡ false → (happens whole_logs weight given event net).1 ≡ net
    unfolding happens
    skipped_stays = go (aim_of net.records.bag event.kind)
      where
        go : (o : Option Aim)
            → is_happened (elim o as (λ _. Outcome × Net (List Entry)) [
              | None ↦ (Skipped NoMessage, net)
              | Some aim ↦ at_node net aim.id (played_at whole_logs weight given aim.act event)
            ]).0 ≡ false
            → (elim o as (λ _. Outcome × Net (List Entry)) [
              | None ↦ (Skipped NoMessage, net)
              | Some aim ↦ at_node net aim.id (played_at whole_logs weight given aim.act event)
            ]).1 ≡ net
        go None h = refl
        go (Some aim) h = stays_with aim h

-- Events

module _ (given : Given) where
  -- an event with what comes of it, and the world after it
  abbrev applied : Event → Net (List Entry) → AppliedEvent
  applied e net = let r = happens whole_logs weight given e net in record { event = e; outcome = r.0; sent = length r.1.records.bag }

  abbrev net_by : Event → Net (List Entry) → Net (List Entry)
  net_by e net = (happens whole_logs weight given e net).1

  -- events with what comes of them
  abbrev past_of : List Event → Net (List Entry) → List AppliedEvent
  past_of [] net = []
  past_of (e ∷ es) net = applied e net ∷ past_of es (net_by e net)

  past_is : (es : List Event) (t : History (List Entry)) → (run whole_logs given es t).past ≡ t.past ++ past_of es t.net
  unfolding with_event
  past_is [] t = sym (append-nil t.past)
  past_is (e ∷ es) t = past_is es (with_event whole_logs given t e) ∙ append_assoc t.past (applied e t.net ∷ []) (past_of es (net_by e t.net))

  -- those that aren't skipped
  abbrev others : List Event → Net (List Entry) → List Event
  others es net = events_of (filter happened (past_of es net))

  -- make the same world, and nothing else comes of them
  others_go : (es : List Event) (net : Net (List Entry)) → goes_on given (others es net) net ≡ goes_on given es net
  others_go [] net = refl
  others_go (e ∷ es) net = go (is_happened (applied e net).outcome) refl (others_go es (net_by e net))
    where
      rest : List AppliedEvent
      rest = past_of es (net_by e net)

      go : (b : Bool) → is_happened (applied e net).outcome ≡ b
          → goes_on given (others es (net_by e net)) (net_by e net) ≡ goes_on given es (net_by e net)
          → goes_on given (events_of (if b then applied e net ∷ filter happened rest else filter happened rest)) net ≡ goes_on given es (net_by e net)
      go true h more = more
      go false h more =
          let still : net_by e net ≡ net = skipped_stays given e net h in
          ap (goes_on given (others es (net_by e net))) (sym still) ∙ more

  others_past : (es : List Event) (net : Net (List Entry)) → past_of (others es net) net ≡ filter happened (past_of es net)
  others_past [] net = refl
  others_past (e ∷ es) net = go (is_happened (applied e net).outcome) refl (others_past es (net_by e net))
    where
      rest : List AppliedEvent
      rest = past_of es (net_by e net)

      go : (b : Bool) → is_happened (applied e net).outcome ≡ b
          → past_of (others es (net_by e net)) (net_by e net) ≡ filter happened rest
          → past_of (events_of (if b then applied e net ∷ filter happened rest else filter happened rest)) net
          ≡ (if b then applied e net ∷ filter happened rest else filter happened rest)
      go true h more = ap (λ ps. applied e net ∷ ps) more
      go false h more =
          let still : net_by e net ≡ net = skipped_stays given e net h in
          ap (past_of (others es (net_by e net))) (sym still) ∙ more

  others_few : (es : List Event) (net : Net (List Entry)) → length (others es net) ≤ length es
  others_few es net =
      let p = past_of es net in
      omega (
        arith,
        length-map (filter happened p) (λ (x : AppliedEvent). x.event),
        length-filter happened p,
        count_by-le-length happened p,
        as_many es net,
      )
    where
      as_many : (es : List Event) (net : Net (List Entry)) → length (past_of es net) ≡ length es
      as_many [] net = refl
      as_many (e ∷ es) net = ap suc (as_many es (net_by e net))

-- a run is one of more events behind another
run_behind : (given : Given) (xs ys : List Event) (t : History (List Entry)) → run whole_logs given (xs ++ ys) t ≡ run whole_logs given ys (run whole_logs given xs t)
run_behind given [] ys t = refl
run_behind given (x ∷ xs) ys t = run_behind given xs ys (with_event whole_logs given t x)

-- Worlds

module _ (w tried new : WorldView) (es : List Event) (goes : GoesBy w es tried) (of : IsWorldOfRun tried)
    (is : new ≡ played (events_of (filter happened (drop (length w.history.past) tried.history.past))) (played (events_in w) (new_world tried.given))) where
  abbrev before : History (List Entry)
  before = run_in w

  -- what was tried is the run of its events behind the world's
  tried_is : tried.history ≡ run whole_logs w.given es before
  tried_is =
      of.is goes.unspent
      ∙ ((λ i. run whole_logs (goes.given i) (goes.events i) (start (goes.given i)))
      ∙ run_behind w.given (events_in w) es (start w.given))

  as_long : length before.past ≡ length w.history.past
  as_long =
      sym (length-map before.past (λ (p : AppliedEvent). p.event))
      ∙ (ap length (events_after w.given (events_in w) (start w.given)) ∙ length-map w.history.past (λ (p : AppliedEvent). p.event))

  -- a run's past behind the world's
  behind_is : (fs : List Event) → drop (length w.history.past) (run whole_logs w.given fs before).past ≡ past_of w.given fs before.net
  behind_is fs =
      ap (drop (length w.history.past)) (past_is w.given fs before)
      ∙ drop_at before.past (past_of w.given fs before.net) (length w.history.past) as_long

  tail_is : drop (length w.history.past) tried.history.past ≡ past_of w.given es before.net
  tail_is = ap (λ (t : History (List Entry)). drop (length w.history.past) t.past) tried_is ∙ behind_is es

  abbrev kept : List Event
  kept = others w.given es before.net

  anew : new ≡ played kept (played (events_in w) (new_world w.given))
  anew = is ∙ (λ i. played (events_of (filter happened (tail_is i))) (played (events_in w) (new_world (goes.given i))))

  kept_goes : GoesBy w kept new
  kept_goes = anew_goes w (played (events_in w) (new_world w.given)) new (λ given net. kept) refl anew

  kept_net : new.history.net ≡ tried.history.net
  kept_net =
      anew_net w (played (events_in w) (new_world w.given)) new (λ given net. kept) refl anew
      ∙ (others_go w.given es before.net
      ∙ (sym (goes_run w.given es before) ∙ ap (λ (t : History (List Entry)). t.net) (sym tried_is)))

  kept_history : new.history ≡ run whole_logs w.given kept before
  unfolding played
  kept_history =
      ap (λ (v : WorldView). v.history) anew

  -- so nodes recover without skipped events, too
  pub kept_on : (up : List ℕ) (value : Value) (r : Recovery) → r.events ≡ events_of (drop (length w.history.past) new.history.past)
      → Recovers w.given w.history.net tried.history.net up r.log_id value (length es) → GoesOnBy w up value r new
  kept_on up value r events rec =
      let by : RecoversBehind w up value r new = goes_on_by w new up value r kept kept_goes events fewer in
      record {
        goes = by.goes;
        recovers = by.recovers;
        happened = subst (All (λ p. happened p ≡ true)) (sym kept_past) (filter_passes happened (past_of w.given es before.net));
      }
    where
      kept_past : drop (length w.history.past) new.history.past ≡ filter happened (past_of w.given es before.net)
      kept_past =
          ap (λ (t : History (List Entry)). drop (length w.history.past) t.past) kept_history
          ∙ (behind_is kept ∙ others_past w.given es before.net)

      count : length r.events ≤ length es
      count = subst (λ xs. length xs ≤ length es) (sym (events ∙ ap events_of kept_past)) (others_few w.given es before.net)

      fewer : Recovers w.given w.history.net new.history.net up r.log_id value (length r.events)
      fewer =
          let there : Recovers w.given w.history.net new.history.net up r.log_id value (length es) =
          subst (λ (m : Net (List Entry)). Recovers w.given w.history.net m up r.log_id value (length es)) (sym kept_net) rec in
          record {
            one = there.one;
            node = there.node;
            at = there.at;
            votes = there.votes;
            others = there.others;
            all = there.all;
            new = there.new;
            first = there.first;
            entry = there.entry;
            each = there.each;
            few = let few = there.few in omega (arith, few, count);
          }
