-- A read's answer has all that its leader decided since it was last started.
use Rattle.std.proofs.Common.{ℕ, ◌<◌, ◌≤◌, ◌≡◌, ◌≢◌, ◌⊎◌, inl, inr, true, List, [], ◌∷◌, ◌++◌, length, arith, refl, sym, ap, ◌∙◌, subst, append-nil, append_assoc, Option, None, Some}
use Rattle.std.specs.Prelude.{IfSome, is_some, slice_get, slice_set, nat_lt}
use Rattle.std.specs.List.{AllByRecursion}
use Rattle.std.specs.Ordering.{nat_cmp}
use Rattle.std.proofs.lemmas.Bool.{cond_both}
use Rattle.raft_node.specs.raft_store.declared.entry.Entry.{Entry}
use Rattle.raft_node.specs.raft_store.Entries.{entry_meaning}
use Rattle.raft_node.specs.raft_store.Types.{EngineView, WorldStore}
use Rattle.proof_mirror.proofs.Queued.{applied_on}
use Rattle.raft_node.specs.raft_schedule.declared.event.Event.{Event}
use Rattle.raft_node.specs.raft_schedule.declared.event.EventKind.{EventKind}
use Rattle.raft_node.specs.raft_schedule.declared.event.EventKind.TheVariants as event
use Rattle.raft_node.specs.raft_schedule.declared.event.Outcome.{Outcome}
use Rattle.raft_node.specs.raft_schedule.declared.event.Outcome.TheVariants.{Skipped}
use Rattle.raft_node.specs.raft_schedule.declared.event.SkipReason.{SkipReason}
use Rattle.raft_node.specs.raft_schedule.declared.event.Start.{Start}
use Rattle.raft_node.specs.raft_schedule.declared.event.SkipReason.TheVariants.{NoMessage, NotRunning}
use Rattle.raft_node.specs.declared.act.Act.{Act}
use Rattle.raft_node.specs.declared.act.Act.TheVariants.{ChangeLearners, ChangeMembership, Elect, Fail, FinishSnapshot, Initialize, Propose, Read, Restart, SendHeartbeat, StepDown, Stop, Take, TriggerPurge, TriggerSnapshot}
use Rattle.raft_node.specs.declared.act.Aim.{Aim}
use Rattle.raft_node.specs.raft_calls.declared.elections.Candidates.TheVariants.{AllMembers, Voters}
use Rattle.raft_node.specs.raft_calls.declared.message.Message.{Message}
use Rattle.raft_node.specs.declared.node.Turn.{Turn}
use Rattle.raft_node.specs.declared.given.Given.{Given}
use Rattle.raft_node.specs.raft_calls.declared.lead.Answer.{Answer}
use Rattle.raft_node.specs.Events.{Scene, aim_of, answer_at, at_node, at_place, called_at, calls, calls_at, finish, happens, message_at, moment_of, place_of, played, skip_reason, skip_stopped, turn_of, with_answer, work_of}
use Rattle.raft_node.specs.Snapshots.{kept_built}
use Rattle.raft_node.specs.raft_calls.Snapshots.{told_built}
use Rattle.raft_node.specs.Net.{Net, NodeView}
use Rattle.raft_node.specs.Runs.{History, run, with_event, whole_logs}
use Rattle.raft_node.specs.Work.{is_idle, weight, worked}
use Rattle.raft_node.proofs.Ready.{net_after, scene_after, skip_moved}
use Rattle.raft_node.proofs.Worked.{worked-ends}
use Rattle.proof_deeds.specs.Chains.{Reached}
use Rattle.proof_deeds.specs.Images.{Ideal, setup_of}
use Rattle.proof_deeds.specs.Nets.{NodeFollows}
use Rattle.proof_deeds.specs.OwnReads.{IsDecidedAt, Leaves}
use Rattle.proof_deeds.proofs.Calls.{CallLaws, WorldState}
use Rattle.proof_deeds.proofs.Called.{calls_work}
use Rattle.proof_deeds.proofs.Drains.{EngineWorks, Works}
use Rattle.proof_deeds.proofs.Events.{ActFits}
use Rattle.proof_deeds.proofs.Joined.{ExtraAt, Followed, PlayedOn, aimed, no_items, played_on, tell_followed}
use Rattle.proof_deeds.proofs.Nodes.{each_at, each_put, moved_follows, placed_id}
use Rattle.proof_deeds.proofs.ReadAnswers.{answer_known, answered_fits, answered_follows}
use Rattle.proof_deeds.proofs.Runs.{RecordsFit}
use Rattle.proof_deeds.proofs.Told.{Decisions, EachBelow, EachIn, Tells, applied_by, worked_tells}
use Rattle.proof_deeds.proofs.Worlds.{each_more, if_some}

or_right : {A B C : Type 0} → (B → C) → A ⊎ B → A ⊎ C
or_right f (inl a) = inl a
or_right f (inr b) = inr (f b)

abbrev pub Starts : Act → Type 0
Starts act = (start : Start) × (act ≡ Restart start)

abbrev applied_at : NodeView → ℕ
applied_at n = length n.store.applied

-- only a start changes what is applied before the queue is worked off
calls_applied : (given : Given) (act : Act) (n : NodeView) → ((start : Start) → act ≢ Restart start) → applied_at (calls_at given act n).1 ≡ applied_at n
calls_applied given act n h = go act n.engine h where
  kept : (es : List Entry) (m : NodeView) (p : Option ℕ × EngineView) → applied_at (kept_built es m p).1 ≡ applied_at m
  kept es m (Some k, f) = refl
  kept es m (None, f) = cond_both (nat_lt (length m.store.snap) (length es)) _ m.store (λ (t : WorldStore). length t.applied ≡ length m.store.applied) (λ _. refl) (λ _. refl)

  noted : (e : EngineView) (o : Option (List Entry)) → (let m : NodeView = (elim o as (λ _. Option ℕ × NodeView) [ None ↦ (None, record n { engine = Some e }) | Some es ↦ kept_built es (record n { engine = Some e }) (told_built es e) ]).1 in applied_at m) ≡ applied_at n
  noted e None = refl
  noted e (Some es) = kept es (record n { engine = Some e }) (told_built es e)

  go : (act : Act) (o : Option EngineView) → ((start : Start) → act ≢ Restart start) → applied_at (calls_at given act (record n { engine = o })).1 ≡ applied_at n
  go Initialize None h = refl
  go Initialize (Some e) h = refl
  go (Elect candidates) None h = refl
  go (Elect candidates) (Some e) h = refl
  go (Take m) None h = refl
  go (Take m) (Some e) h = refl
  go (Propose values) None h = refl
  go (Propose values) (Some e) h = refl
  go SendHeartbeat None h = refl
  go SendHeartbeat (Some e) h = refl
  go (Fail target) None h = refl
  go (Fail target) (Some e) h = refl
  go TriggerSnapshot None h = refl
  go TriggerSnapshot (Some e) h = refl
  go FinishSnapshot None h = refl
  go FinishSnapshot (Some e) h = noted e n.noted
  go (TriggerPurge i) None h = refl
  go (TriggerPurge i) (Some e) h = refl
  go (Restart start) o h = absurd (h start refl)
  go (ChangeLearners learners) None h = refl
  go (ChangeLearners learners) (Some e) h = refl
  go (ChangeMembership groups learners) None h = refl
  go (ChangeMembership groups learners) (Some e) h = refl
  go Read None h = refl
  go Read (Some e) h = refl
  go StepDown None h = refl
  go StepDown (Some e) h = refl
  go Stop None h = refl
  go Stop (Some e) h = refl

-- at a stopped node each other act is skipped
pub runs : (act : Act) (n : NodeView) → ((start : Start) → act ≢ Restart start) → skip_reason act n ≡ None → is_some n.engine ≡ true
runs act n h e = go n.engine e where
  stays : (act : Act) → ((start : Start) → act ≢ Restart start) → skip_stopped act ≢ None
  stays Initialize h q = cc
  stays (Elect candidates) h q = cc
  stays (Take m) h q = cc
  stays (Propose values) h q = cc
  stays SendHeartbeat h q = cc
  stays (Fail target) h q = cc
  stays TriggerSnapshot h q = cc
  stays FinishSnapshot h q = cc
  stays (TriggerPurge i) h q = cc
  stays (Restart start) h q = h start refl
  stays (ChangeLearners learners) h q = cc
  stays (ChangeMembership groups learners) h q = cc
  stays Read h q = cc
  stays StepDown h q = cc
  stays Stop h q = cc

  go : (o : Option EngineView) → skip_reason act (record n { engine = o }) ≡ None → is_some o ≡ true
  go None q = absurd (stays act h q)
  go (Some f) q = refl

-- an event's act starts the node that it aims at only if the event does
pub aims : (bag : List Message) (kind : EventKind) (n : ℕ) (aim : Aim) → ((start : Start) → kind ≢ event.Restart n start) → aim_of bag kind ≡ Some aim → aim.id ≡ n → (start : Start) → aim.act ≢ Restart start
aims bag (event.Init m) n aim h e i start q = let z : record { id = m; act = Initialize } ≡ aim = cc in let y : Initialize ≡ Restart start = ap (λ (a : Aim). a.act) z ∙ q in cc
aims bag (event.Timeout m) n aim h e i start q = let z : record { id = m; act = Elect Voters } ≡ aim = cc in let y : Elect Voters ≡ Restart start = ap (λ (a : Aim). a.act) z ∙ q in cc
aims bag (event.Stand m) n aim h e i start q = let z : record { id = m; act = Elect AllMembers } ≡ aim = cc in let y : Elect AllMembers ≡ Restart start = ap (λ (a : Aim). a.act) z ∙ q in cc
aims bag (event.Propose m values) n aim h e i start q = let z : record { id = m; act = Propose values } ≡ aim = cc in let y : Propose values ≡ Restart start = ap (λ (a : Aim). a.act) z ∙ q in cc
aims bag (event.Heartbeat m) n aim h e i start q = let z : record { id = m; act = SendHeartbeat } ≡ aim = cc in let y : SendHeartbeat ≡ Restart start = ap (λ (a : Aim). a.act) z ∙ q in cc
aims bag (event.Fail m target) n aim h e i start q = let z : record { id = m; act = Fail target } ≡ aim = cc in let y : Fail target ≡ Restart start = ap (λ (a : Aim). a.act) z ∙ q in cc
aims bag (event.Snapshot m) n aim h e i start q = let z : record { id = m; act = TriggerSnapshot } ≡ aim = cc in let y : TriggerSnapshot ≡ Restart start = ap (λ (a : Aim). a.act) z ∙ q in cc
aims bag (event.Built m) n aim h e i start q = let z : record { id = m; act = FinishSnapshot } ≡ aim = cc in let y : FinishSnapshot ≡ Restart start = ap (λ (a : Aim). a.act) z ∙ q in cc
aims bag (event.Purge m i2) n aim h e i start q = let z : record { id = m; act = TriggerPurge i2 } ≡ aim = cc in let y : TriggerPurge i2 ≡ Restart start = ap (λ (a : Aim). a.act) z ∙ q in cc
aims bag (event.Member m learners) n aim h e i start q = let z : record { id = m; act = ChangeLearners learners } ≡ aim = cc in let y : ChangeLearners learners ≡ Restart start = ap (λ (a : Aim). a.act) z ∙ q in cc
aims bag (event.Change m groups learners) n aim h e i start q = let z : record { id = m; act = ChangeMembership groups learners } ≡ aim = cc in let y : ChangeMembership groups learners ≡ Restart start = ap (λ (a : Aim). a.act) z ∙ q in cc
aims bag (event.Read m) n aim h e i start q = let z : record { id = m; act = Read } ≡ aim = cc in let y : Read ≡ Restart start = ap (λ (a : Aim). a.act) z ∙ q in cc
aims bag (event.Down m) n aim h e i start q = let z : record { id = m; act = StepDown } ≡ aim = cc in let y : StepDown ≡ Restart start = ap (λ (a : Aim). a.act) z ∙ q in cc
aims bag (event.Stop m) n aim h e i start q = let z : record { id = m; act = Stop } ≡ aim = cc in let y : Stop ≡ Restart start = ap (λ (a : Aim). a.act) z ∙ q in cc
aims bag (event.Restart m b) n aim h e i start q = let z : record { id = m; act = Restart b } ≡ aim = cc in let y : m ≡ n = ap (λ (a : Aim). a.id) z ∙ i in h b (ap (λ (k : ℕ). event.Restart k b) y)
aims bag (event.Deliver k) n aim h e i start q = go (message_at bag k) e where
  go : (o : Option Message) → (elim o as (λ _. Option Aim) [ None ↦ None | Some m ↦ Some (record { id = m.to; act = Take m }) ]) ≡ Some aim → ⊥
  go None e = cc
  go (Some m) e = let z : record { id = m.to; act = Take m } ≡ aim = cc in let y : Take m ≡ Restart start = ap (λ (a : Aim). a.act) z ∙ q in cc

-- An event at a node: what it decided there, all of which was applied, if the node still runs; and unless it started, what
-- was applied before still is.
pub record Grown (act : Act) (s x : Scene (List Entry)) : Type 0 where
  pub new : Decisions
  pub are : x.records.decided ≡ s.records.decided ++ new
  pub own : EachIn s.node.id new
  pub seen : IfSome x.node.engine (λ e. EachBelow (applied_at x.node) new)
  pub low : ((start : Start) → act ≢ Restart start) → IfSome x.node.engine (λ e. (is_some s.node.engine ≡ true) × (applied_at s.node ≤ applied_at x.node))

module _ (given : Given) (Extra : Ideal → WorldState → Type 0) (laws : CallLaws given.membership Extra) where
  -- once the queue is worked off
  finished_tells : (t : Turn) (stop refusal : Option ℕ) (before : Decisions) (low : ℕ) (s : Scene (List Entry)) → Tells t before low (worked whole_logs (weight (work_of stop s)) t (work_of stop s))
      → (new : Decisions) × ((finish whole_logs weight t stop refusal s).1.records.decided ≡ before ++ new) × EachIn t.id new
      × IfSome (finish whole_logs weight t stop refusal s).1.node.engine (λ e. (low ≤ applied_at (finish whole_logs weight t stop refusal s).1.node) × EachBelow (applied_at (finish whole_logs weight t stop refusal s).1.node) new)
  unfolding finish
  finished_tells t stop refusal before low s p = (p.new, p.are, p.own, go (worked whole_logs (weight (work_of stop s)) t (work_of stop s)).engine (worked-ends whole_logs t (work_of stop s)) p.seen) where
    u : WorldStore
    u = (worked whole_logs (weight (work_of stop s)) t (work_of stop s)).effects.store

    go : (o : Option EngineView) → is_idle o ≡ true → IfSome o (λ e. (low ≤ applied_by (worked whole_logs (weight (work_of stop s)) t (work_of stop s)).effects.store e.machine.core.output.items) × EachBelow (applied_by (worked whole_logs (weight (work_of stop s)) t (work_of stop s)).effects.store e.machine.core.output.items) p.new)
        → IfSome o (λ e. (low ≤ length (worked whole_logs (weight (work_of stop s)) t (work_of stop s)).effects.store.applied) × EachBelow (length (worked whole_logs (weight (work_of stop s)) t (work_of stop s)).effects.store.applied) p.new)
    go None d h = tt
    go (Some e) d h =
        subst (λ cs. (low ≤ applied_by (worked whole_logs (weight (work_of stop s)) t (work_of stop s)).effects.store cs) × EachBelow (applied_by (worked whole_logs (weight (work_of stop s)) t (work_of stop s)).effects.store cs) p.new) (no_items e.machine.core.output.items d) h

  module _ (W : Ideal) (r : Reached (setup_of given.membership) W) where
    skipped : (act : Act) (s : Scene (List Entry)) → Grown act s s
    skipped act s = record { new = []; are = sym (append-nil s.records.decided); own = tt; seen = go s.node.engine; low = λ _. low s.node.engine } where
      go : (o : Option EngineView) → IfSome o (λ e. EachBelow (applied_at s.node) [])
      go None = tt
      go (Some e) = tt

      low : (o : Option EngineView) → IfSome o (λ e. (is_some o ≡ true) × (applied_at s.node ≤ applied_at s.node))
      low None = tt
      low (Some e) = (refl, omega arith)

    grown : (act : Act) (event : Event) (s : Scene (List Entry)) → ActFits given.membership W s.node.id act → NodeFollows (setup_of given.membership) W s.records s.node → RecordsFit (setup_of given.membership) W s.records → ExtraAt given Extra W s.node → Grown act s (played whole_logs weight given act event s).1
    unfolding played
    grown act event s told h f a = go (skip_reason act s.node) refl where
      now : Scene (List Entry)
      now = called_at (moment_of event s.node) s

      go : (o : Option SkipReason) → skip_reason act s.node ≡ o → Grown act s
          (scene_after {L = List Entry} (elim o as (λ _. Outcome × Scene (List Entry)) [
            | Some reason ↦ (Skipped reason, s)
            | None ↦ finish whole_logs weight (turn_of act now.node) event.stop (calls given act now).0 (calls given act now).1
          ]))
      go (Some reason) is = skipped act s
      go None is =
          let moved : NodeFollows (setup_of given.membership) W s.records now.node = moved_follows (setup_of given.membership) W s.records s.node (moment_of event s.node) h in
          let answer : Option Answer = answer_at act (calls_at given act now.node).1 in
          let fits : RecordsFit (setup_of given.membership) W (with_answer answer s.records) = answered_fits (setup_of given.membership) W s.records f answer (answer_known given W s.records act now.node moved) in
          let t : Turn = turn_of act now.node in
          let at : NodeView = (calls_at given act now.node).1 in
          let w : Works given.membership Extra t W (work_of event.stop (calls given act now).1) =
          calls_work given Extra laws W r (with_answer answer s.records) fits act event.stop now.node (skip_moved act s.node (moment_of event s.node) ∙ is) told (answered_follows (setup_of given.membership) W s.records now.node answer moved) a in
          let begun : Tells t s.records.decided (applied_at at) (work_of event.stop (calls given act now).1) = record {
            new = [];
            are = sym (append-nil s.records.decided);
            own = tt;
            seen = if_some (EngineWorks given.membership Extra t at.store w.world) (λ e. (applied_at at ≤ applied_by at.store e.machine.core.output.items) × EachBelow (applied_by at.store e.machine.core.output.items) [])
                (λ e k. (applied_on nat_cmp entry_meaning (λ es. es) at.store e.machine.core.output.items k.pending.core.ready, tt)) at.engine w.engine;
          } in
          let z = finished_tells t event.stop (calls given act now).0 s.records.decided (applied_at at) (calls given act now).1
          (worked_tells given.membership Extra t laws h.node s.records.decided (applied_at at) W (weight (work_of event.stop (calls given act now).1)) (work_of event.stop (calls given act now).1) w begun) in
          let x : NodeView = (finish whole_logs weight t event.stop (calls given act now).0 (calls given act now).1).1.node in
          record {
            new = z.0;
            are = z.1;
            own = z.2;
            seen = if_some (λ (e : EngineView). (applied_at at ≤ applied_at x) × EachBelow (applied_at x) z.0) (λ (e : EngineView). EachBelow (applied_at x) z.0) (λ e k. k.1) x.engine z.3;
            low = λ n. if_some (λ (e : EngineView). (applied_at at ≤ applied_at x) × EachBelow (applied_at x) z.0) (λ (e : EngineView). (is_some s.node.engine ≡ true) × (applied_at s.node ≤ applied_at x))
                (λ e k. (runs act s.node n is, (let q : applied_at at ≡ applied_at s.node = calls_applied given act now.node n in omega (arith, q, k.0)))) x.engine z.3;
          }

-- Over a run

-- all that this node's leaders decided is below
abbrev EachSeen : ℕ → ℕ → Decisions → Type 0
EachSeen n k rs = AllByRecursion (λ r. IsDecidedAt n r → r.log_id.index < k) rs

seen_more : (n j k : ℕ) (rs : Decisions) → j ≤ k → EachSeen n j rs → EachSeen n k rs
seen_more n j k [] l h = tt
seen_more n j k (r ∷ rs) l h = ((λ d. let q : r.log_id.index < j = h.0 d in omega (arith, l, q)), seen_more n j k rs l h.1)

seen_here : (n k : ℕ) (rs : Decisions) → EachBelow k rs → EachSeen n k rs
seen_here n k [] h = tt
seen_here n k (r ∷ rs) h = ((λ d. h.0), seen_here n k rs h.1)

seen_elsewhere : (n m k : ℕ) (rs : Decisions) → m ≢ n → EachIn m rs → EachSeen n k rs
seen_elsewhere n m k [] d h = tt
seen_elsewhere n m k (r ∷ rs) d h = ((λ q. absurd (d (sym h.0 ∙ q))), seen_elsewhere n m k rs d h.1)

-- what was decided since then, and of it what a node decided: the node has applied it, if it runs
pub record Sees (n : ℕ) (before : Decisions) (net : Net (List Entry)) : Type 0 where
  pub new : Decisions
  pub are : net.records.decided ≡ before ++ new
  pub nodes : AllByRecursion (λ m. m.id ≡ n → IfSome m.engine (λ e. EachSeen n (applied_at m) new)) net.nodes

abbrev SeenAt : ℕ → Decisions → NodeView → Type 0
SeenAt n rs m = m.id ≡ n → IfSome m.engine (λ e. EachSeen n (applied_at m) rs)

pub sees_now : (n : ℕ) (net : Net (List Entry)) → Sees n net.records.decided net
sees_now n net = record { new = []; are = sym (append-nil net.records.decided); nodes = all net.nodes } where
  one : (m : NodeView) (o : Option EngineView) → IfSome o (λ e. EachSeen n (applied_at m) [])
  one m None = tt
  one m (Some e) = tt

  all : (ms : List NodeView) → AllByRecursion (SeenAt n []) ms
  all [] = tt
  all (m ∷ ms) = ((λ i. one m m.engine), all ms)

pub sees_nothing : (n : ℕ) (net : Net (List Entry)) → (sees_now n net).new ≡ []
unfolding sees_now
sees_nothing n net = refl

module _ (given : Given) (Extra : Ideal → WorldState → Type 0) (laws : CallLaws given.membership Extra) (n : ℕ) (before : Decisions) (since : Ideal) where
  -- one node's part of the world; it may start only where nothing was decided yet
  place_sees : (act : Act) (event : Event) (net : Net (List Entry)) (i : ℕ) → (h : Followed given Extra since net) → ((m : NodeView) → slice_get net.nodes i ≡ Some m → ActFits given.membership h.world m.id act)
      → (p : Sees n before net) → (p.new ≡ []) ⊎ ((m : NodeView) → slice_get net.nodes i ≡ Some m → m.id ≡ n → (start : Start) → act ≢ Restart start) → Sees n before (at_place net i (played whole_logs weight given act event)).1
  place_sees act event net i h told p up = go (slice_get net.nodes i) refl where
    go : (o : Option NodeView) → slice_get net.nodes i ≡ o → Sees n before
        (net_after {L = List Entry} (elim o [
          | None ↦ (Skipped NotRunning, net)
          | Some m ↦
              (let r = played whole_logs weight given act event (record { node = m; records = net.records }) in
              (r.0, record { nodes = slice_set net.nodes i r.1.node; records = r.1.records }))
        ]))
    go None is = p
    go (Some m) is =
        let s : Scene (List Entry) = record { node = m; records = net.records } in
        let k : NodeFollows (setup_of given.membership) h.world net.records m = each_at (NodeFollows (setup_of given.membership) h.world net.records) net.nodes i m is h.follows.nodes in
        let a : ExtraAt given Extra h.world m = each_at (ExtraAt given Extra h.world) net.nodes i m is h.extra in
        let x : PlayedOn given Extra h.world m (played whole_logs weight given act event s).1 = played_on given Extra laws h.world h.follows.reached act event s (told m is) k h.fit a in
        let g : Grown act s (played whole_logs weight given act event s).1 = grown given Extra laws h.world h.follows.reached act event s (told m is) k h.fit a in
        let y : NodeView = (played whole_logs weight given act event s).1.node in
        let was : SeenAt n p.new m = each_at (SeenAt n p.new) net.nodes i m is p.nodes in
        record {
          new = p.new ++ g.new;
          are = g.are ∙ (ap (λ rs. rs ++ g.new) p.are ∙ append_assoc before p.new g.new);
          nodes = each_put (setup_of given.membership) (SeenAt n p.new) (SeenAt n (p.new ++ g.new)) net.nodes i m y is h.follows.apart
              (λ q. here m y p.new g.new g.seen (or_right (λ f. g.low (f m is (sym x.same ∙ q))) up) (was (sym x.same ∙ q)))
              (λ z d f q. if_some (λ (e : EngineView). EachSeen n (applied_at z) p.new) (λ (e : EngineView). EachSeen n (applied_at z) (p.new ++ g.new))
              (λ e b. each_more (λ r. IsDecidedAt n r → r.log_id.index < applied_at z) p.new g.new b (seen_elsewhere n m.id (applied_at z) g.new (λ w. d (q ∙ sym w)) g.own)) z.engine (f q))
              p.nodes;
        }
      where
        before_it : (m : NodeView) (rs : Decisions) (o : Option EngineView) → is_some o ≡ true → IfSome o (λ e. EachSeen n (applied_at m) rs) → EachSeen n (applied_at m) rs
        before_it m rs None e f = cc
        before_it m rs (Some x) e f = f

        here : (m y : NodeView) (rs more : Decisions) → IfSome y.engine (λ e. EachBelow (applied_at y) more) → (rs ≡ []) ⊎ IfSome y.engine (λ e. (is_some m.engine ≡ true) × (applied_at m ≤ applied_at y)) → IfSome m.engine (λ e. EachSeen n (applied_at m) rs)
            → IfSome y.engine (λ e. EachSeen n (applied_at y) (rs ++ more))
        here m y rs more a (inl q) c =
            subst (λ zs. IfSome y.engine (λ e. EachSeen n (applied_at y) (zs ++ more))) (sym q) (if_some (λ (e : EngineView). EachBelow (applied_at y) more) (λ (e : EngineView). EachSeen n (applied_at y) more) (λ e k. seen_here n (applied_at y) more k) y.engine a)
        here m y rs more a (inr b) c = by y.engine a b where
          by : (o : Option EngineView) → IfSome o (λ e. EachBelow (applied_at y) more) → IfSome o (λ e. (is_some m.engine ≡ true) × (applied_at m ≤ applied_at y)) → IfSome o (λ e. EachSeen n (applied_at y) (rs ++ more))
          by None a b = tt
          by (Some e) a b = each_more (λ r. IsDecidedAt n r → r.log_id.index < applied_at y) rs more (seen_more n (applied_at m) (applied_at y) rs b.1 (before_it m rs m.engine b.0 c)) (seen_here n (applied_at y) more a)

  node_sees : (act : Act) (event : Event) (net : Net (List Entry)) (id : ℕ) → (h : Followed given Extra since net) → ActFits given.membership h.world id act → (p : Sees n before net) → (p.new ≡ []) ⊎ (id ≡ n → (start : Start) → act ≢ Restart start)
      → Sees n before (at_node net id (played whole_logs weight given act event)).1
  node_sees act event net id h told p up = go (place_of net.nodes id) refl where
    go : (o : Option ℕ) → place_of net.nodes id ≡ o → Sees n before (net_after {L = List Entry} (elim o [ None ↦ (Skipped NotRunning, net) | Some i ↦ at_place net i (played whole_logs weight given act event) ]))
    go None is = p
    go (Some i) is =
        place_sees act event net i h (λ m e. subst (λ d. ActFits given.membership h.world d act) (sym (placed_id net.nodes id i m is e)) told) p (or_right (λ f m e q. f (sym (placed_id net.nodes id i m is e) ∙ q)) up)

  happens_sees : (event : Event) (net : Net (List Entry)) → Followed given Extra since net → (p : Sees n before net) → (p.new ≡ []) ⊎ Leaves n event → Sees n before (happens whole_logs weight given event net).1
  unfolding happens
  happens_sees event net h p up = go (aim_of net.records.bag event.kind) refl where
    go : (o : Option Aim) → aim_of net.records.bag event.kind ≡ o → Sees n before (net_after {L = List Entry} (elim o [ None ↦ (Skipped NoMessage, net) | Some aim ↦ at_node net aim.id (played whole_logs weight given aim.act event) ]))
    go None is = p
    go (Some aim) is = node_sees aim.act event net aim.id h (aimed given Extra laws since net h event.kind aim is) p (or_right (λ f q. aims net.records.bag event.kind n aim f is q) up)

  tell_sees : (x : History (List Entry)) (e : Event) → Followed given Extra since x.net → (p : Sees n before x.net) → (p.new ≡ []) ⊎ Leaves n e → Sees n before (with_event whole_logs given x e).net
  unfolding with_event
  tell_sees x e h p up = happens_sees e x.net h p up

  later_sees : (es : List Event) (x : History (List Entry)) → Followed given Extra since x.net → AllByRecursion (Leaves n) es → Sees n before x.net → Sees n before (run whole_logs given es x).net
  later_sees [] x h up p = p
  later_sees (e ∷ es) x h up p = later_sees es (with_event whole_logs given x e) (tell_followed given Extra laws since x e h) up.1 (tell_sees x e h p (inr up.0))

  -- only the first event may start the node
  pub run_sees : (first : Event) (es : List Event) (x : History (List Entry)) → Followed given Extra since x.net → AllByRecursion (Leaves n) es → (p : Sees n before x.net) → p.new ≡ [] → Sees n before (run whole_logs given (first ∷ es) x).net
  run_sees first es x h up p none = later_sees es (with_event whole_logs given x first) (tell_followed given Extra laws since x first h) up (tell_sees x first h p (inl none))
