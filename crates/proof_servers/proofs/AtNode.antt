-- An event of a world at one node: what it makes of the world, of the node's id and of its moment.
use Rattle.std.specs.Prelude.{◌≡◌, ◌≢◌, ◌<◌, max, ℕ, Bool, true, false, List, [], ◌∷◌, ◌++◌, length, nat_eq, nat_lt, slice_get, slice_set, Option, None, Some, refl}
use Rattle.std.specs.List.{position_or_len}
use Rattle.std.proofs.Common.{◌∙◌, sym, ap, subst, arith, cond}
use Rattle.std.proofs.lemmas.Bool.{eq-eqb, eqb-true, ne_eqb}
use Rattle.std.proofs.lemmas.Bool.Decides.{nat_tests}
use Rattle.std.proofs.lemmas.List.{append-nil}
use Rattle.std.proofs.lemmas.List.Folds.{find_at, find-set, find_past}
use Rattle.std.proofs.lemmas.List.Sums.{fold-append}
use Rattle.std.proofs.lemmas.Option.{get_or_from_slice_get, slice_get_within}
use Rattle.proof_deeds.specs.raft_error.declared.error.EngineError.{EngineError}
use Rattle.proof_deeds.specs.raft_steps.SnapshotCalls.{finish_building_snapshot}
use Rattle.proof_deeds.specs.raft_steps.Refusals.{refusals_of_spent}
use Rattle.std.specs.Ordering.{nat_cmp}
use Rattle.proof_deeds.specs.raft_store.declared.entry.Entry.{Entry}
use Rattle.proof_deeds.specs.raft_store.Built.{meta_of}
use Rattle.proof_deeds.specs.raft_store.Entries.{entry_meaning}
use Rattle.proof_deeds.specs.raft_store.Types.{EngineView}
use Rattle.proof_deeds.specs.raft_schedule.declared.event.Event.{Event}
use Rattle.proof_deeds.specs.raft_schedule.declared.event.EventKind.{EventKind}
use Rattle.proof_deeds.specs.raft_schedule.declared.event.Outcome.{Outcome}
use Rattle.proof_deeds.specs.raft_schedule.declared.event.Outcome.TheVariants.{Skipped}
use Rattle.proof_deeds.specs.raft_schedule.declared.event.SkipReason.{SkipReason}
use Rattle.proof_deeds.specs.raft_schedule.declared.event.SkipReason.TheVariants.{NoMessage, NotRunning}
use Rattle.proof_deeds.specs.raft_schedule.declared.event.Start.TheVariants.{Plain, Saved, Bare}
use Rattle.proof_deeds.specs.raft_node.declared.act.Act.{Act}
use Rattle.proof_deeds.specs.raft_node.declared.act.Act.TheVariants.{Initialize, Elect, Take, Propose, SendHeartbeat, Fail, TriggerSnapshot, FinishSnapshot, TriggerPurge, Restart, ChangeLearners, ChangeMembership, Read, StepDown, Stop}
use Rattle.proof_deeds.specs.raft_node.declared.act.Aim.{Aim}
use Rattle.proof_deeds.specs.raft_node.declared.given.Given.{Given}
use Rattle.proof_deeds.specs.raft_calls.Deliveries.{answered, deliver, with_machine}
use Rattle.proof_deeds.specs.raft_node.Events.{Scene, aim_of, at_node, at_place, calls, calls_at, finish, happens, on_engine, place_of, played, scene, skip_reason, turn_of}
use Rattle.proof_deeds.specs.raft_calls.Elections.{elected, initialized}
use Rattle.proof_deeds.specs.raft_calls.LeaderCalls.{failed, heartbeats_sent, proposed, read_asked, stepped_down}
use Rattle.proof_deeds.specs.raft_calls.Memberships.{learners_changed, membership_changed}
use Rattle.proof_deeds.specs.raft_node.Net.{Net, NodeView, Records, no_records, node_at}
use Rattle.proof_deeds.specs.raft_node.Runs.{net_of, whole_logs, with_event, world_after, start}
use Rattle.proof_deeds.specs.raft_node.Snapshots.{finish_snapshot, kept_built}
use Rattle.proof_deeds.specs.raft_calls.Snapshots.{purge_triggered, snapshot_triggered, told_built}
use Rattle.proof_deeds.specs.raft_node.Work.{weight}
use Rattle.proof_servers.specs.Recorded.{records_behind}
use Rattle.proof_servers.specs.Servers.{Step, node_after, event_at, played_alone}
use Rattle.proof_servers.proofs.Frame.{played_behind}

-- the world after one more event
pub world_more : (given : Given) (es : List Event) (e : Event) → world_after given (es ++ e ∷ []) ≡ (happens whole_logs weight given e (world_after given es)).1
unfolding with_event
world_more given es e = ap (λ h. h.net) (fold-append (with_event whole_logs given) (start given) es (e ∷ []))

-- the place of the node with an id
abbrev has_id : ℕ → NodeView → Bool
has_id id n = nat_eq n.id id

abbrev chosen : Bool → ℕ → Option ℕ
chosen b place = cond b (Some place) None

pub record Spot (nodes : List NodeView) (id : ℕ) (n : NodeView) : Type 0 where
  pub place : ℕ
  pub first : place ≡ position_or_len (has_id id) nodes
  pub there : place_of nodes id ≡ Some place
  pub is : slice_get nodes place ≡ Some n

pub spot_of : (nodes : List NodeView) (id : ℕ) (n : NodeView) → node_at nodes id ≡ Some n → Spot nodes id n
unfolding place_of
spot_of nodes id n e =
    let place : ℕ = position_or_len (has_id id) nodes in
    let is : slice_get nodes place ≡ Some n = sym (find_at (has_id id) nodes) ∙ e in
    let within : place < length nodes = slice_get_within nodes place n is in
    let lt : nat_lt place (length nodes) ≡ true = less place (length nodes) within in
    record { place = place; first = refl; there = ap (λ b. chosen b place) lt; is = is }
  where
    less : (a b : ℕ) → a < b → nat_lt a b ≡ true
    less a b h = grind (arith, nat_tests)

pub node_id : (nodes : List NodeView) (id : ℕ) (n : NodeView) → node_at nodes id ≡ Some n → n.id ≡ id
node_id [] id n e = cc
node_id (m ∷ ms) id n e = go (has_id id m) refl e (node_id ms id n)
  where
    go : (b : Bool) → has_id id m ≡ b → ◌≡◌ {A = Option NodeView} (cond b (Some m) (node_at ms id)) (Some n) → (node_at ms id ≡ Some n → n.id ≡ id) → n.id ≡ id
    go true q k rest = let same : m ≡ n = cc in ap (λ (x : NodeView). x.id) (sym same) ∙ eqb-true m.id id q
    go false q k rest = rest k

abbrev net_after : Outcome × Net (List Entry) → Net (List Entry)
net_after r = r.1

module _ (given : Given) (event : Event) (net : Net (List Entry)) where
  -- an event at a node that is there
  pub happens_at : (aim : Aim) → aim_of net.records.bag event.kind ≡ Some aim → (n : NodeView) → (s : Spot net.nodes aim.id n)
      → (happens whole_logs weight given event net).1
      ≡ (let r = played whole_logs weight given aim.act event (scene n net.records) in net_of (slice_set net.nodes s.place r.1.node) r.1.records)
  unfolding happens
  happens_at aim q n s =
      ap (λ (o : Option Aim). net_after (elim o as (λ _. Outcome × Net (List Entry)) [ None ↦ (Skipped NoMessage, net) | Some aim ↦ at_node net aim.id (played whole_logs weight given aim.act event) ])) q
      ∙ ap (λ (o : Option ℕ). net_after (elim o as (λ _. Outcome × Net (List Entry)) [ None ↦ (Skipped NotRunning, net) | Some i ↦ at_place net i (played whole_logs weight given aim.act event) ])) s.there
      ∙ ap (λ (o : Option NodeView). net_after (elim o as (λ _. Outcome × Net (List Entry)) [
        | None ↦ (Skipped NotRunning, net)
        | Some n ↦ (let r = played whole_logs weight given aim.act event (record { node = n; records = net.records }) in (r.0, record { nodes = slice_set net.nodes s.place r.1.node; records = r.1.records }))
      ])) s.is

-- another node of the same id in its place is found there, and under each other id the node that was found before
pub own_set : (nodes : List NodeView) (id : ℕ) (n m : NodeView) → (s : Spot nodes id n) → m.id ≡ id → node_at (slice_set nodes s.place m) id ≡ Some m
own_set nodes id n m s same = find-set (has_id id) nodes s.place m s.first (slice_get_within nodes s.place n s.is) (eq-eqb m.id id same)

pub other_set : (nodes : List NodeView) (id other : ℕ) (n m : NodeView) → (s : Spot nodes id n) → n.id ≡ id → m.id ≡ id → id ≢ other → node_at (slice_set nodes s.place m) other ≡ node_at nodes other
other_set nodes id other n m s was is d =
    find_past (has_id other) nodes s.place m n
    (ap (has_id other) (get_or_from_slice_get nodes s.place n n s.is) ∙ ne_eqb n.id other (λ e. d (sym was ∙ e)))
    (ne_eqb m.id other (λ e. d (sym is ∙ e)))

-- no records behind these
pub behind_none : (r : Records (List Entry)) → records_behind (λ es. es) r no_records ≡ r
behind_none r = λ i. record {
  bag = append-nil r.bag i;
  executed = append-nil r.executed i;
  installed = append-nil r.installed i;
  decided = append-nil r.decided i;
  established = append-nil r.established i;
  answers = append-nil r.answers i;
}

-- a step in a world does what it does with records of its own, and those go behind the world's
pub played_at : (given : Given) (kind : EventKind) (s : Step) (n : NodeView) (r : Records (List Entry))
    → (played whole_logs weight given s.act (event_at kind s.at) (scene n r)).1 ≡ scene (node_after given n s) (records_behind (λ es. es) r (played_alone given n s).1.records)
unfolding played
played_at given kind s n r =
    subst (λ (x : Records (List Entry)). (played whole_logs weight given s.act (event_at kind s.at) (scene n x)).1 ≡ scene (node_after given n s) (records_behind (λ es. es) r (played_alone given n s).1.records)) (behind_none r)
    (ap (λ (p : Outcome × Scene (List Entry)). p.1) (played_behind (λ es. es) r whole_logs given (event_at kind s.at) s.act (scene n no_records)))

-- calls keep a node's id
abbrev SameId : NodeView → NodeView → Type 0
SameId n m = m.id ≡ n.id

abbrev pub node_in : Option ℕ × NodeView → NodeView
node_in r = r.1

on_engine_id : (f : EngineView → Option ℕ × EngineView) (n : NodeView) → SameId n (on_engine f n).1
on_engine_id f n = go n.engine
  where
    go : (o : Option EngineView) → SameId n (node_in (elim o as (λ _. Option ℕ × NodeView) [ None ↦ (None, n) | Some e ↦ (let r = f e in (r.0, record n { engine = Some r.1 })) ]))
    go None = refl
    go (Some e) = refl

finish_id : (n : NodeView) → SameId n (finish_snapshot n).1
finish_id n = go n.engine n.noted
  where
    told : (es : List Entry) (e : EngineView) (o : Option (EngineError ℕ (Unit {0})))
        → SameId n (node_in (kept_built es n (answered o e (with_machine e (finish_building_snapshot nat_cmp e.config (meta_of entry_meaning es) e.machine)))))
    told es e None = refl
    told es e (Some k) = refl

    go : (o : Option EngineView) (p : Option (List Entry))
        → SameId n (node_in (elim o as (λ _. Option ℕ × NodeView) [ None ↦ (None, n) | Some e ↦ elim p as (λ _. Option ℕ × NodeView) [ None ↦ (None, n) | Some es ↦ kept_built es n (told_built es e) ] ]))
    go None p = refl
    go (Some e) None = refl
    go (Some e) (Some es) = told es e (refusals_of_spent e.machine)

pub calls_id : (given : Given) (act : Act) (n : NodeView) → SameId n (calls_at given act n).1
calls_id given Initialize n = on_engine_id (initialized given.membership n.moment) n
calls_id given (Elect candidates) n = on_engine_id (elected n.moment) n
calls_id given (Take m) n = on_engine_id (deliver m.from m.body n.moment) n
calls_id given (Propose values) n = on_engine_id (proposed values) n
calls_id given SendHeartbeat n = on_engine_id heartbeats_sent n
calls_id given (Fail target) n = on_engine_id (failed target) n
calls_id given TriggerSnapshot n = on_engine_id snapshot_triggered n
calls_id given FinishSnapshot n = finish_id n
calls_id given (TriggerPurge i) n = on_engine_id (purge_triggered i) n
calls_id given (Restart Plain) n = refl
calls_id given (Restart Saved) n = refl
calls_id given (Restart Bare) n = refl
calls_id given (ChangeLearners learners) n = on_engine_id (learners_changed learners) n
calls_id given (ChangeMembership groups learners) n = on_engine_id (membership_changed groups learners) n
calls_id given Read n = on_engine_id read_asked n
calls_id given StepDown n = on_engine_id stepped_down n
calls_id given Stop n = refl

abbrev pub node_of : Outcome × Scene (List Entry) → NodeView
node_of p = p.1.node

-- a step keeps the node's id
pub step_id : (given : Given) (n : NodeView) (s : Step) → (node_after given n s).id ≡ n.id
unfolding played finish
step_id given n s = go (skip_reason s.act n)
  where
    go : (o : Option SkipReason)
        → (node_of (elim o as (λ _. Outcome × Scene (List Entry)) [
          | Some reason ↦ (Skipped reason, scene n no_records)
          | None ↦ finish whole_logs weight (turn_of s.act (record n { moment = max s.at n.moment })) None
              (calls {L = List Entry} given s.act (scene (record n { moment = max s.at n.moment }) no_records)).0 (calls {L = List Entry} given s.act (scene (record n { moment = max s.at n.moment }) no_records)).1
        ])).id
        ≡ n.id
    go (Some reason) = refl
    go None = calls_id given s.act (record n { moment = max s.at n.moment })
