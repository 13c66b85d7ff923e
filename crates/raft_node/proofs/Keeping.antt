-- What holds along a node's commands, as what its records may be told.
use Rattle.std.specs.Prelude.{ℕ, ◌≡◌, ◌<◌, Bool, true, false, List, Option, None, Some, if◌then◌else◌, length, refl, slice_get, slice_set}
use Rattle.std.specs.List.{slice_index_or}
use Rattle.std.proofs.Common.{◌∙◌, arith, sym, subst, suc}
use Rattle.std.proofs.lemmas.List.{get_or-set_same, length-set}
use Rattle.std.proofs.lemmas.Option.{slice_get_read}
use Rattle.raft_command.specs.Queue.{Queue, popped}
use Rattle.raft_store.specs.declared.entry.Entry.{Entry}
use Rattle.raft_store.specs.Types.{EngineView, WorldCommand}
use Rattle.raft_node.specs.declared.act.Act.{Act}
use Rattle.raft_node.specs.declared.given.Given.{Given}
use Rattle.raft_calls.specs.declared.message.Message.{Message}
use Rattle.raft_node.specs.declared.node.Turn.{Turn}
use Rattle.raft_schedule.specs.declared.event.Event.{Event}
use Rattle.raft_schedule.specs.declared.event.Outcome.{Outcome}
use Rattle.raft_schedule.specs.declared.event.Outcome.TheVariants.{Skipped}
use Rattle.raft_schedule.specs.declared.event.SkipReason.{SkipReason}
use Rattle.raft_schedule.specs.declared.event.SkipReason.TheVariants.{NoMessage, NotRunning}
use Rattle.raft_node.specs.declared.act.Aim.{Aim}
use Rattle.raft_node.specs.Events.{Scene, aim_of, at_node, at_place, called_at, calls, finish, happens, moment_of, place_of, played, requested, scene, scene_of, skip_reason, turn_of, work_of}
use Rattle.raft_node.specs.Execute.{exec}
use Rattle.raft_calls.specs.Feeds.{feed}
use Rattle.raft_node.specs.MayKeep.{AllMayKeep, KeepsDuring, KeepsThrough}
use Rattle.raft_node.specs.Net.{Net, NodeView, Records}
use Rattle.raft_node.specs.Runs.{net_of, whole_logs}
use Rattle.raft_node.specs.Work.{Work, done_of, idle, one_less, step_of, stopped, stops, work_step, worked}
use Rattle.raft_calls.specs.Engines.{with_queue}

abbrev work_of_choice : {L : Type 0} → Work L → Work L
work_of_choice w = w

-- what a command records, by a step
module _ {L : Type 0} (keep : List Entry → L) (P : Records L → Type 0) (t : Turn) where
  done_told : (w : Work L) (e : EngineView) (c : WorldCommand) → P (done_of keep t w e c).effects.records → P (exec keep t e c w.effects).records
  done_told w e c = go (stops w.left)
    where
      go : (b : Bool)
          → P (work_of_choice (if b then stopped (exec keep t e c w.effects)
          else record { engine = Some (feed t.moment c e); effects = exec keep t e c w.effects; left = one_less w.left })).effects.records
          → P (exec keep t e c w.effects).records
      go true h = h
      go false h = h

  pub step_told : (w : Work L) (e : EngineView) (r : Option WorldCommand) (q : Queue WorldCommand) (c : WorldCommand) → w.engine ≡ Some e
      → r ≡ (popped e.machine.core.output).0 → q ≡ (popped e.machine.core.output).1 → r ≡ Some c
      → P (work_step keep t w).effects.records → P (exec keep t (with_queue e q) c w.effects).records
  step_told w e r q c running first rest some h =
      let stepped : P (step_of keep t w e (popped e.machine.core.output)).effects.records =
      subst
      (λ (o : Option EngineView). P (work_of_choice (elim o as (λ _. Work L) [ None ↦ w | Some e ↦ step_of keep t w e (popped e.machine.core.output) ])).effects.records)
      running h in
      let done : P (done_of keep t w (with_queue e (popped e.machine.core.output).1) c).effects.records =
      subst
      (λ (o : Option WorldCommand). P (work_of_choice (elim o as (λ _. Work L) [
        | None ↦ w
        | Some c ↦ done_of keep t w (with_queue e (popped e.machine.core.output).1) c
      ])).effects.records)
      (sym first ∙ some) stepped in
      subst (λ (q : Queue WorldCommand). P (exec keep t (with_queue e q) c w.effects).records) (sym rest)
      (done_told w (with_queue e (popped e.machine.core.output).1) c done)

-- what holds after any number of commands holds now
module _ {L : Type 0} (keep : List Entry → L) (t : Turn) (P : Work L → Type 0) where
  pub at_once : (w : Work L) → ((n : ℕ) → P (worked keep n t w)) → P w
  unfolding worked
  at_once w h = h 0

  -- and after the next command
  pub later : (w : Work L) → idle w ≡ false → ((n : ℕ) → P (worked keep n t w)) → (n : ℕ) → P (worked keep n t (work_step keep t w))
  unfolding worked
  later w busy h n =
      let e : worked keep (suc n) t w ≡ worked keep n t (work_step keep t w) = rw busy refl in
      subst P e (h (suc n))

  pub later_along : (w v : Work L) → v ≡ work_step keep t w → idle w ≡ false → ((n : ℕ) → P (worked keep n t w)) → (n : ℕ) → P (worked keep n t v)
  later_along w v is busy h = subst (λ (u : Work L). (n : ℕ) → P (worked keep n t u)) (sym is) (later w busy h)

module _ {L : Type 0} (keep : List Entry → L) (given : Given) (act : Act) (event : Event) (s : Scene L) where
  abbrev now : Scene L
  now = called_at (moment_of event s.node) s

  abbrev made : Scene L
  made = (calls given act now).1

  -- along the commands of an event
  pub through_along : (P : Scene L → Type 0) → skip_reason act s.node ≡ None → ((n : ℕ) → P (played keep (λ _. n) given act event s).1)
      → (n : ℕ) → P (scene_of made.node (worked keep n (turn_of act now.node) (work_of event.stop made)))
  unfolding played finish
  through_along P none h n =
      subst
      (λ (o : Option SkipReason). P (elim o as (λ _. Outcome × Scene L) [
        | Some reason ↦ (Skipped reason, s)
        | None ↦ finish keep (λ _. n) (turn_of act now.node) event.stop (calls given act now).0 made
      ]).1)
      none (h n)

  -- the same of a turn and calls that were made so
  pub turn_along : (P : Turn → Work L → Type 0) (id moment : ℕ) (request : Option Message) (r : Option ℕ × Scene L)
      → id ≡ s.node.id → moment ≡ moment_of event s.node → request ≡ requested act → r ≡ calls given act (called_at moment s)
      → P (turn_of act now.node) (work_of event.stop made) → P (record { id = id; moment = moment; request = request }) (work_of event.stop r.1)
  turn_along P id moment request r named at asked is h =
      let timed : P (turn_of act (called_at moment s).node) (work_of event.stop (calls given act (called_at moment s)).1) =
      subst (λ (m : ℕ). P (turn_of act (called_at m s).node) (work_of event.stop (calls given act (called_at m s)).1)) (sym at) h in
      let called : P (turn_of act (called_at moment s).node) (work_of event.stop r.1) =
      subst (λ (p : Option ℕ × Scene L). P (turn_of act (called_at moment s).node) (work_of event.stop p.1)) (sym is) timed in
      subst (λ (k : ℕ). P (record { id = k; moment = moment; request = request }) (work_of event.stop r.1)) (sym named)
      (subst (λ (q : Option Message). P (record { id = s.node.id; moment = moment; request = q }) (work_of event.stop r.1)) (sym asked) called)

-- an event at a place of the world, and of the world
module _ (given : Given) (act : Act) (event : Event) (nodes : List NodeView) (records : Records (List Entry)) (i : ℕ) (n : NodeView)
    (h : (k : ℕ) → AllMayKeep (at_place (net_of nodes records) i (played whole_logs (λ _. k) given act event)).1) where
  pub place_along : n ≡ slice_index_or nodes i n → i < length nodes → KeepsThrough given act event (scene n records)
  place_along is within k =
      let found : slice_get nodes i ≡ Some n = slice_get_read nodes (length nodes) i n refl within is in
      let s : Scene (List Entry) = (played whole_logs (λ _. k) given act event (scene n records)).1 in
      let p : AllMayKeep (record { nodes = slice_set nodes i s.node; records = s.records }) =
      subst
      (λ (o : Option NodeView). AllMayKeep (elim o as (λ _. Outcome × Net (List Entry)) [
        | None ↦ (Skipped NotRunning, net_of nodes records)
        | Some n ↦ (let r = played whole_logs (λ _. k) given act event (scene n records) in (r.0, record { nodes = slice_set nodes i r.1.node; records = r.1.records }))
      ]).1)
      found (h k) in
      record {
        gapless = p.gapless s.node (i, omega (arith, length-set nodes i s.node, within), get_or-set_same nodes i s.node s.node within);
        grows = p.grows;
        next = p.next s.node (i, omega (arith, length-set nodes i s.node, within), get_or-set_same nodes i s.node s.node within);
      }

pub aim_along : (given : Given) (event : Event) (net : Net (List Entry)) (aim : Aim) (i : ℕ) → aim_of net.records.bag event.kind ≡ Some aim → place_of net.nodes aim.id ≡ Some i
    → KeepsDuring given event net → (k : ℕ) → AllMayKeep (at_place net i (played whole_logs (λ _. k) given aim.act event)).1
unfolding happens
aim_along given event net aim i aimed placed h k =
    subst
    (λ (o : Option ℕ). AllMayKeep (elim o as (λ _. Outcome × Net (List Entry)) [
      | None ↦ (Skipped NotRunning, net)
      | Some i ↦ at_place net i (played whole_logs (λ _. k) given aim.act event)
    ]).1)
    placed
    (subst
    (λ (o : Option Aim). AllMayKeep (elim o as (λ _. Outcome × Net (List Entry)) [
      | None ↦ (Skipped NoMessage, net)
      | Some aim ↦ at_node net aim.id (played whole_logs (λ _. k) given aim.act event)
    ]).1)
    aimed (h k))
