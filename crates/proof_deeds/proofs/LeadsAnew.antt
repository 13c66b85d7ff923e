-- A node that was started bare leads only in later terms until it is started again.
use Rattle.std.proofs.Common.{ℕ, zero, suc, ◌<◌, ◌≤◌, ◌≡◌, ◌≢◌, inl, inr, Bool, true, false, true≢false, cond, List, [], ◌∷◌, ◌++◌, length, take, arith, refl, sym, ap, ◌∙◌, subst, Option, None, Some}
use Rattle.std.specs.Prelude.{IfSome, nat_eq, slice_get, slice_set}
use Rattle.std.specs.List.{AllByRecursion}
use Rattle.std.proofs.lemmas.Bool.Decides.{nat_tests}
use Rattle.raft_node.specs.raft_state.declared.ids.Vote.{Vote}
use Rattle.raft_node.specs.raft_store.declared.entry.Entry.{Entry}
use Rattle.raft_node.specs.raft_store.Types.{EngineView, WorldLeader, WorldStore}
use Rattle.raft_node.specs.raft_schedule.declared.event.Event.{Event}
use Rattle.raft_node.specs.raft_schedule.declared.event.EventKind.TheVariants as kind
use Rattle.raft_node.specs.raft_schedule.declared.event.Outcome.{Outcome}
use Rattle.raft_node.specs.raft_schedule.declared.event.Outcome.TheVariants.{Skipped}
use Rattle.raft_node.specs.raft_schedule.declared.event.SkipReason.{SkipReason}
use Rattle.raft_node.specs.raft_schedule.declared.event.SkipReason.TheVariants.{NoMessage, NotRunning}
use Rattle.raft_node.specs.raft_schedule.declared.event.Start.{Start}
use Rattle.raft_node.specs.raft_schedule.declared.event.Start.TheVariants.{Bare}
use Rattle.raft_node.specs.raft_calls.declared.lead.Answer.{Answer}
use Rattle.raft_node.specs.declared.act.Act.{Act}
use Rattle.raft_node.specs.declared.act.Act.TheVariants.{Restart}
use Rattle.raft_node.specs.declared.act.Aim.{Aim}
use Rattle.raft_node.specs.declared.given.Given.{Given}
use Rattle.raft_node.specs.declared.node.Turn.{Turn}
use Rattle.raft_node.specs.Events.{Scene, aim_of, answer_at, at_node, at_place, called_at, calls, calls_at, finish, happens, moment_of, place_of, played, skip_reason, turn_of, with_answer, work_of}
use Rattle.raft_node.specs.Net.{Net, NodeView, node_at}
use Rattle.raft_node.specs.Runs.{History, moment, run, start, whole_logs, with_event, world_after}
use Rattle.raft_node.specs.WellFormed.{IsWellFormed}
use Rattle.raft_node.specs.Work.{Work, weight, worked}
use Rattle.raft_node.proofs.InTurnStarts.{calls_id}
use Rattle.raft_node.proofs.Ready.{net_after, scene_after, skip_moved}
use Rattle.raft_node.proofs.Worked.{worked-keeps}
use Rattle.proof_agreement.specs.LeaderNumbers.{leader_number}
use Rattle.proof_agreement.specs.Stores as stores
use Rattle.proof_deeds.specs.BareStarts.{BareStartsNeverLeadOn}
use Rattle.proof_deeds.specs.Chains.{Reached, left_by}
use Rattle.proof_deeds.specs.Follows.{StoreIs}
use Rattle.proof_deeds.specs.Images.{Ideal, number, setup_of}
use Rattle.proof_deeds.specs.Knows.{KnowsLed}
use Rattle.proof_deeds.specs.Nets.{EngineFollows, NodeFollows}
use Rattle.proof_deeds.specs.OwnReads.{Leaves}
use Rattle.proof_deeds.proofs.AllLaws.{all_laws}
use Rattle.proof_deeds.proofs.AppendFitting.{Settled}
use Rattle.proof_deeds.proofs.BareStarts.{begins_anew}
use Rattle.proof_deeds.proofs.Called.{calls_work}
use Rattle.proof_deeds.proofs.Calls.{CallLaws, WorldState}
use Rattle.proof_deeds.proofs.Drains.{EngineWorks, Works, both_some, carried_named, worked_works}
use Rattle.proof_deeds.proofs.Events.{ActFits}
use Rattle.proof_deeds.proofs.Joined.{ExtraAt, Followed, aimed, tell_followed}
use Rattle.proof_deeds.proofs.Nodes.{each_at, each_put, each_set, found_at_place, moved_follows, node_found, placed_id}
use Rattle.proof_deeds.proofs.OwnAnswers.{run_both}
use Rattle.proof_deeds.proofs.OwnReads.{aims, runs}
use Rattle.proof_deeds.proofs.Proved.{followed}
use Rattle.proof_deeds.proofs.Pushes.{chain_within}
use Rattle.proof_deeds.proofs.ReadAnswers.{answer_known, answered_fits, answered_follows}
use Rattle.proof_deeds.proofs.Runs.{RecordsFit}
use Rattle.proof_deeds.proofs.Tails.{tail_vote}
use Rattle.proof_deeds.proofs.Unled.{Anew, AnewAt, Stays, calls_stay, step_anew}
use Rattle.proof_deeds.proofs.Worlds.{if_some, within_of}

-- a leader id that isn't below another one is of no earlier term
term_at_most : (t n u m : ℕ) → m < 18446744073709551616 → leader_number t n ≤ leader_number u m → t ≤ u
term_at_most t n u m h l = omega arith

-- an engine's leader leads by the engine's vote
abbrev LedByVote : EngineView → Type 0
LedByVote e = IfSome e.machine.leader (λ l. l.vote ≡ e.machine.core.state.vote)

-- a node leads only in later terms
abbrev LeadsAnew : ℕ → NodeView → Type 0
LeadsAnew term n = IfSome n.engine (λ e. Anew term e × LedByVote e)

-- in a world the node with this id does so
abbrev NetAnew : ℕ → ℕ → Net (List Entry) → Type 0
NetAnew n term net = AllByRecursion (λ m. m.id ≡ n → LeadsAnew term m) net.nodes

module _ (given : Given) where
  -- an event leaves its node's id
  played_same : (fuel : Work (List Entry) → ℕ) (act : Act) (event : Event) (s : Scene (List Entry)) → (played whole_logs fuel given act event s).1.node.id ≡ s.node.id
  unfolding played finish
  played_same fuel act event s = go (skip_reason act s.node)
    where
      go : (o : Option SkipReason)
          → (scene_after {L = List Entry} (elim o as (λ _. Outcome × Scene (List Entry)) [
            | Some reason ↦ (Skipped reason, s)
            | None ↦
                finish whole_logs fuel (turn_of act (called_at (moment_of event s.node) s).node) event.stop (calls given act (called_at (moment_of event s.node) s)).0
                (calls given act (called_at (moment_of event s.node) s)).1
          ])).node.id
          ≡ s.node.id
      go (Some reason) = refl
      go None = calls_id given act (called_at (moment_of event s.node) s).node

  module _ (fuel : Work (List Entry) → ℕ) where
    -- an event leaves what holds of each node, if its own node keeps it
    happens_each : (P : NodeView → Type 0) (event : Event) (net : Net (List Entry))
        → ((aim : Aim) → aim_of net.records.bag event.kind ≡ Some aim → (i : ℕ) (m : NodeView) → slice_get net.nodes i ≡ Some m → m.id ≡ aim.id → P m → P (played whole_logs fuel given aim.act event (record { node = m; records = net.records })).1.node)
        → AllByRecursion P net.nodes → AllByRecursion P (happens whole_logs fuel given event net).1.nodes
    unfolding happens
    happens_each P event net keeps p = go (aim_of net.records.bag event.kind) refl
      where
        slot : (aim : Aim) → aim_of net.records.bag event.kind ≡ Some aim → (i : ℕ) → place_of net.nodes aim.id ≡ Some i → (o : Option NodeView) → slice_get net.nodes i ≡ o → AllByRecursion P
            (net_after {L = List Entry} (elim o [
              | None ↦ (Skipped NotRunning, net)
              | Some m ↦
                  (let r = played whole_logs fuel given aim.act event (record { node = m; records = net.records }) in
                  (r.0, record { nodes = slice_set net.nodes i r.1.node; records = r.1.records }))
            ])).nodes
        slot aim e i f None is = p
        slot aim e i f (Some m) is = each_set P net.nodes i (played whole_logs fuel given aim.act event (record { node = m; records = net.records })).1.node (keeps aim e i m is (placed_id net.nodes aim.id i m f is) (each_at P net.nodes i m is p)) p

        placed : (aim : Aim) → aim_of net.records.bag event.kind ≡ Some aim → (o : Option ℕ) → place_of net.nodes aim.id ≡ o → AllByRecursion P
            (net_after {L = List Entry} (elim o [ None ↦ (Skipped NotRunning, net) | Some i ↦ at_place net i (played whole_logs fuel given aim.act event) ])).nodes
        placed aim e None f = p
        placed aim e (Some i) f = slot aim e i f (slice_get net.nodes i) refl

        go : (o : Option Aim) → aim_of net.records.bag event.kind ≡ o → AllByRecursion P
            (net_after {L = List Entry} (elim o [ None ↦ (Skipped NoMessage, net) | Some aim ↦ at_node net aim.id (played whole_logs fuel given aim.act event) ])).nodes
        go None e = p
        go (Some aim) e = placed aim e (place_of net.nodes aim.id) refl

module _ (given : Given) (Extra : Ideal → WorldState → Type 0) (laws : CallLaws given.membership Extra) where
  -- a node at work has a vote of no earlier term than its store had
  risen : (t : Turn) (W : Ideal) (u : WorldStore) → StoreIs (setup_of given.membership) u (W.store t.id) → (w : Work (List Entry)) → Works given.membership Extra t W w
      → IfSome w.engine (λ f. u.vote.leader_id.term ≤ f.machine.core.state.vote.leader_id.term)
  risen t W u h w k = if_some (EngineWorks given.membership Extra t w.effects.store k.world) (λ f. u.vote.leader_id.term ≤ f.machine.core.state.vote.leader_id.term) one w.engine k.engine
    where
      one : (f : EngineView) → EngineWorks given.membership Extra t w.effects.store k.world f → u.vote.leader_id.term ≤ f.machine.core.state.vote.leader_id.term
      one f x =
          let v : (W.store t.id).vote ≡ number u.vote.leader_id = h.vote in
          let a : (W.store t.id).vote ≤ (k.world.store t.id).vote = (within_of (setup_of given.membership) W k.world k.effects.came.does).votes t.id in
          let b : (k.world.store t.id).vote ≤ (x.carried.end.store t.id).vote =
          (chain_within (setup_of given.membership) t f.machine.core.state.vote.leader_id w.effects.store f.machine.core.output.items k.world x.carried.end x.carried.chain).votes t.id in
          let c : (x.carried.end.store t.id).vote ≡ number f.machine.core.state.vote.leader_id =
          tail_vote (setup_of given.membership) (left_by w.effects.store f.machine.core.output.items) (x.carried.end.store t.id) f.machine.core.state x.carried.store x.pending.core.in_step in
          let l : number u.vote.leader_id ≤ number f.machine.core.state.vote.leader_id = omega (arith, v, a, b, c) in
          term_at_most u.vote.leader_id.term u.vote.leader_id.node_id f.machine.core.state.vote.leader_id.term f.machine.core.state.vote.leader_id.node_id (carried_named given.membership Extra t w.effects.store k.world f x) l

  -- its leader leads by its engine's vote
  led_by_vote : (t : Turn) (W : Ideal) (w : Work (List Entry)) → Works given.membership Extra t W w → IfSome w.engine LedByVote
  led_by_vote t W w k =
      if_some (EngineWorks given.membership Extra t w.effects.store k.world) LedByVote
      (λ f x. if_some (λ l. KnowsLed (setup_of given.membership) t.id f.machine.core.state l x.carried.end) (λ l. l.vote ≡ f.machine.core.state.vote) (λ l q. q.vote) f.machine.leader x.carried.knows.leader) w.engine k.engine

  module _ (fuel : Work (List Entry) → ℕ) (W : Ideal) (r : Reached (setup_of given.membership) W) (event : Event) (s : Scene (List Entry)) (h : NodeFollows (setup_of given.membership) W s.records s.node) (fit : RecordsFit (setup_of given.membership) W s.records) (extra : ExtraAt given Extra W s.node) where
    abbrev now : Scene (List Entry)
    now = called_at (moment_of event s.node) s

    moved : NodeFollows (setup_of given.membership) W s.records now.node
    moved = moved_follows (setup_of given.membership) W s.records s.node (moment_of event s.node) h

    -- an act that isn't skipped
    module _ (act : Act) (none : skip_reason act s.node ≡ None) (told : ActFits given.membership W s.node.id act) where
      abbrev made : Scene (List Entry)
      made = (calls given act now).1

      works : Works given.membership Extra (turn_of act now.node) W (work_of event.stop made)
      works =
          let answer : Option Answer = answer_at act (calls_at given act now.node).1 in
          calls_work given Extra laws W r (with_answer answer s.records) (answered_fits (setup_of given.membership) W s.records fit answer (answer_known given W s.records act now.node moved)) act event.stop now.node
          (skip_moved act s.node (moment_of event s.node) ∙ none) told (answered_follows (setup_of given.membership) W s.records now.node answer moved) extra

      -- some of its commands
      finished_anew : (term : ℕ) → IfSome made.node.engine (Anew term) → LeadsAnew term (finish whole_logs fuel (turn_of act now.node) event.stop (calls given act now).0 made).1.node
      unfolding finish
      finished_anew term a =
          let t : Turn = turn_of act now.node in
          let w : Work (List Entry) = work_of event.stop made in
          both_some (Anew term) LedByVote (λ e. Anew term e × LedByVote e) (λ e x y. (x, y)) (worked whole_logs (fuel w) t w).engine
          (worked-keeps whole_logs t (AnewAt term) (fuel w) (λ v busy k. step_anew term t v k) w a)
          (led_by_vote t W (worked whole_logs (fuel w) t w) (worked_works given.membership Extra t laws h.node W (fuel w) w works))

      -- its calls, if it starts no node
      called_anew : (term : ℕ) → ((start : Start) → act ≢ Restart start) → LeadsAnew term s.node → IfSome made.node.engine (Anew term)
      called_anew term other was =
          go s.node.engine (skip_moved act s.node (moment_of event s.node) ∙ none) moved.engine was (risen (turn_of act now.node) W s.node.store h.store (work_of event.stop made) works)
        where
          later : (e : EngineView) → e.machine.core.state.vote ≡ s.node.store.vote → term < e.machine.core.state.vote.leader_id.term → (f : EngineView) → s.node.store.vote.leader_id.term ≤ f.machine.core.state.vote.leader_id.term → Anew term f
          later e v d f l = let q : e.machine.core.state.vote.leader_id.term ≡ s.node.store.vote.leader_id.term = ap (λ (x : Vote ℕ). x.leader_id.term) v in inr (omega (arith, q, d, l))

          stays : (e : EngineView) → e.machine.core.state.vote ≡ s.node.store.vote → term ≤ e.machine.core.state.vote.leader_id.term → (f : EngineView) → Stays e f → s.node.store.vote.leader_id.term ≤ f.machine.core.state.vote.leader_id.term → Anew term f
          stays e v d f (inl c) l = let q : e.machine.core.state.vote.leader_id.term ≡ s.node.store.vote.leader_id.term = ap (λ (x : Vote ℕ). x.leader_id.term) v in inl (c, omega (arith, q, d, l))
          stays e v d f (inr c) l = inr (omega (arith, d, c))

          go : (o : Option EngineView) → skip_reason act (record now.node { engine = o }) ≡ None → IfSome o (EngineFollows (setup_of given.membership) now.node W) → IfSome o (λ e. Anew term e × LedByVote e)
              → IfSome (calls_at given act (record now.node { engine = o })).1.engine (λ f. s.node.store.vote.leader_id.term ≤ f.machine.core.state.vote.leader_id.term)
              → IfSome (calls_at given act (record now.node { engine = o })).1.engine (Anew term)
          go None q f a l = let z : ◌≡◌ {A = Bool} false true = runs act (record now.node { engine = None }) other q in absurd (true≢false (sym z))
          go (Some e) q f (inl d, y) l =
              both_some (Stays e) (λ g. s.node.store.vote.leader_id.term ≤ g.machine.core.state.vote.leader_id.term) (Anew term) (λ g c m. stays e f.in_step.mirrors.log.vote_is d.1 g c m)
              (calls_at given act (record now.node { engine = Some e })).1.engine (calls_stay e d.0 given W now.node act other q told) l
          go (Some e) q f (inr d, y) l =
              if_some (λ g. s.node.store.vote.leader_id.term ≤ g.machine.core.state.vote.leader_id.term) (Anew term) (λ g m. later e f.in_step.mirrors.log.vote_is d g m) (calls_at given act (record now.node { engine = Some e })).1.engine l

    played_anew : (act : Act) (term : ℕ) → ((start : Start) → act ≢ Restart start) → ActFits given.membership W s.node.id act → LeadsAnew term s.node → LeadsAnew term (played whole_logs fuel given act event s).1.node
    unfolding played
    played_anew act term other told was = go (skip_reason act s.node) refl
      where
        go : (o : Option SkipReason) → skip_reason act s.node ≡ o → LeadsAnew term
            (scene_after {L = List Entry} (elim o as (λ _. Outcome × Scene (List Entry)) [
              | Some reason ↦ (Skipped reason, s)
              | None ↦ finish whole_logs fuel (turn_of act now.node) event.stop (calls given act now).0 (calls given act now).1
            ])).node
        go (Some reason) is = was
        go None is = finished_anew act is told term (called_anew act is told term other was)

    -- the start itself
    started_anew : LeadsAnew s.node.store.vote.leader_id.term (played whole_logs fuel given (Restart Bare) event s).1.node
    unfolding played
    started_anew = go (skip_reason (Restart Bare) s.node) refl
      where
        unskipped : (o : Option EngineView) → skip_reason (Restart Bare) (record s.node { engine = o }) ≡ None
        unskipped None = refl
        unskipped (Some e) = refl

        go : (o : Option SkipReason) → skip_reason (Restart Bare) s.node ≡ o → LeadsAnew s.node.store.vote.leader_id.term
            (scene_after {L = List Entry} (elim o as (λ _. Outcome × Scene (List Entry)) [
              | Some reason ↦ (Skipped reason, s)
              | None ↦ finish whole_logs fuel (turn_of (Restart Bare) now.node) event.stop (calls given (Restart Bare) now).0 (calls given (Restart Bare) now).1
            ])).node
        go (Some reason) is = let z : ◌≡◌ {A = Option SkipReason} None (Some reason) = sym (unskipped s.node.engine) ∙ is in cc
        go None is = finished_anew (Restart Bare) is tt s.node.store.vote.leader_id.term (begins_anew given now.node)

  module _ (fuel : Work (List Entry) → ℕ) (n : ℕ) (since : Ideal) where
    happens_anew : (term : ℕ) (event : Event) (net : Net (List Entry)) → Followed given Extra since net → Leaves n event → NetAnew n term net → NetAnew n term (happens whole_logs fuel given event net).1
    happens_anew term event net h leaves p =
        happens_each given fuel (λ m. m.id ≡ n → LeadsAnew term m) event net
        (λ aim e i m is same was q.
        let s : Scene (List Entry) = record { node = m; records = net.records } in
        let mine : m.id ≡ n = sym (played_same given fuel aim.act event s) ∙ q in
        played_anew fuel h.world h.follows.reached event s (each_at (NodeFollows (setup_of given.membership) h.world net.records) net.nodes i m is h.follows.nodes) h.fit (each_at (ExtraAt given Extra h.world) net.nodes i m is h.extra) aim.act term
        (aims net.records.bag event.kind n aim leaves e (sym same ∙ mine)) (subst (λ d. ActFits given.membership h.world d aim.act) (sym same) (aimed given Extra laws since net h event.kind aim e)) (was mine))
        p

    -- the node starts
    starts_anew : (event : Event) (net : Net (List Entry)) (old : NodeView) → Followed given Extra since net → event.kind ≡ kind.Restart n Bare → node_at net.nodes n ≡ Some old
        → NetAnew n old.store.vote.leader_id.term (happens whole_logs fuel given event net).1
    unfolding happens
    starts_anew event net old h is found =
        subst
        (λ k. NetAnew n old.store.vote.leader_id.term (net_after {L = List Entry} (elim (aim_of net.records.bag k) [ None ↦ (Skipped NoMessage, net) | Some aim ↦ at_node net aim.id (played whole_logs fuel given aim.act event) ])))
        (sym is) (placed (place_of net.nodes n) (found_at_place net.nodes n old found))
      where
        at_slot : (i : ℕ) → slice_get net.nodes i ≡ Some old → (o : Option NodeView) → slice_get net.nodes i ≡ o → NetAnew n old.store.vote.leader_id.term
            (net_after {L = List Entry} (elim o [
              | None ↦ (Skipped NotRunning, net)
              | Some m ↦
                  (let r = played whole_logs fuel given (Restart Bare) event (record { node = m; records = net.records }) in
                  (r.0, record { nodes = slice_set net.nodes i r.1.node; records = r.1.records }))
            ]))
        at_slot i there None e = let z : ◌≡◌ {A = Option NodeView} None (Some old) = sym e ∙ there in cc
        at_slot i there (Some m) e =
            let s : Scene (List Entry) = record { node = m; records = net.records } in
            let one : m ≡ old = (let z : ◌≡◌ {A = Option NodeView} (Some m) (Some old) = sym e ∙ there in cc) in
            let mine : old.id ≡ n = (node_found net.nodes n old (λ _. Unit {0}) (anything net.nodes) found).1 in
            each_put (setup_of given.membership) (λ _. Unit {0}) (λ y. y.id ≡ n → LeadsAnew old.store.vote.leader_id.term y) net.nodes i m (played whole_logs fuel given (Restart Bare) event s).1.node e h.follows.apart
            (λ q. subst (λ (k : NodeView). LeadsAnew k.store.vote.leader_id.term (played whole_logs fuel given (Restart Bare) event s).1.node) one
            (started_anew fuel h.world h.follows.reached event s (each_at (NodeFollows (setup_of given.membership) h.world net.records) net.nodes i m e h.follows.nodes) h.fit (each_at (ExtraAt given Extra h.world) net.nodes i m e h.extra)))
            (λ y d f q. absurd (d (q ∙ sym (ap (λ (k : NodeView). k.id) one ∙ mine)))) (anything net.nodes)
          where
            anything : (ms : List NodeView) → AllByRecursion (λ _. Unit {0}) ms
            anything [] = tt
            anything (m ∷ ms) = (tt, anything ms)

        placed : (o : Option ℕ) → (i : ℕ) × (o ≡ Some i) × (slice_get net.nodes i ≡ Some old)
            → NetAnew n old.store.vote.leader_id.term (net_after {L = List Entry} (elim o [ None ↦ (Skipped NotRunning, net) | Some i ↦ at_place net i (played whole_logs fuel given (Restart Bare) event) ]))
        placed None f = let z : ◌≡◌ {A = Option ℕ} None (Some f.0) = f.1 in cc
        placed (Some j) f = let z : j ≡ f.0 = (let y : ◌≡◌ {A = Option ℕ} (Some j) (Some f.0) = f.1 in cc) in at_slot j (ap (slice_get net.nodes) z ∙ f.2) (slice_get net.nodes j) refl

  -- A run, from a world on

  module _ (n : ℕ) (since : Ideal) where
    -- the world at a moment
    abbrev at_moment : History (List Entry) → List Event → ℕ → ℕ → Net (List Entry)
    at_moment x es i j =
        elim (slice_get es i) [
          | None ↦ (run whole_logs given (take i es) x).net
          | Some e ↦ (happens whole_logs (λ _. j) given e (run whole_logs given (take i es) x).net).1
        ]

    tell_anew : (term : ℕ) (x : History (List Entry)) (e : Event) → Followed given Extra since x.net → Leaves n e → NetAnew n term x.net → NetAnew n term (with_event whole_logs given x e).net
    unfolding with_event
    tell_anew term x e h leaves p = happens_anew weight n since term e x.net h leaves p

    told_start : (x : History (List Entry)) (e : Event) (old : NodeView) → Followed given Extra since x.net → e.kind ≡ kind.Restart n Bare → node_at x.net.nodes n ≡ Some old
        → NetAnew n old.store.vote.leader_id.term (with_event whole_logs given x e).net
    unfolding with_event
    told_start x e old h is found = starts_anew weight n since e x.net old h is found

    after_start : (term : ℕ) (es : List Event) (x : History (List Entry)) → Followed given Extra since x.net → AllByRecursion (Leaves n) es → NetAnew n term x.net → (i j : ℕ) → NetAnew n term (at_moment x es i j)
    after_start term [] x h leaves p zero j = p
    after_start term [] x h leaves p (suc i) j = p
    after_start term (e ∷ es) x h leaves p zero j = happens_anew (λ _. j) n since term e x.net h leaves.0 p
    after_start term (e ∷ es) x h leaves p (suc i) j =
        after_start term es (with_event whole_logs given x e) (tell_followed given Extra laws since x e h) leaves.1 (tell_anew term x e h leaves.0 p) i j

    module _ (first : Event) (es : List Event) (old : NodeView) (is : first.kind ≡ kind.Restart n Bare) (leaves : AllByRecursion (Leaves n) es) where
      from_start : (x : History (List Entry)) → Followed given Extra since x.net → node_at x.net.nodes n ≡ Some old → (i j : ℕ) → NetAnew n old.store.vote.leader_id.term (at_moment x (first ∷ es) i j)
      from_start x h found zero j = starts_anew (λ _. j) n since first x.net old h is found
      from_start x h found (suc i) j =
          after_start old.store.vote.leader_id.term es (with_event whole_logs given x first) (tell_followed given Extra laws since x first h) leaves (told_start x first old h is found) i j

      from_before : (before : List Event) (x : History (List Entry)) → Followed given Extra since x.net → node_at (run whole_logs given before x).net.nodes n ≡ Some old → (i j : ℕ) → length before ≤ i
          → NetAnew n old.store.vote.leader_id.term (at_moment x (before ++ (first ∷ es)) i j)
      from_before [] x h found i j l = from_start x h found i j
      from_before (e ∷ before) x h found zero j l = absurd (omega (arith, l))
      from_before (e ∷ before) x h found (suc i) j l = from_before before (with_event whole_logs given x e) (tell_followed given Extra laws since x e h) found i j (omega (arith, l))

-- a node that isn't there stays away
nowhere : (nodes : List NodeView) (n : ℕ) → node_at nodes n ≡ None → AllByRecursion (λ m. m.id ≢ n) nodes
nowhere [] n e = tt
nowhere (m ∷ ms) n e = go (nat_eq m.id n) refl e (nowhere ms n)
  where
    same : (a b : ℕ) → a ≡ b → nat_eq a b ≡ true
    same a b q = grind (arith, nat_tests)

    go : (b : Bool) → nat_eq m.id n ≡ b → ◌≡◌ {A = Option NodeView} (cond b (Some m) (node_at ms n)) None → (node_at ms n ≡ None → AllByRecursion (λ m. m.id ≢ n) ms) → AllByRecursion (λ m. m.id ≢ n) (m ∷ ms)
    go true q k f = cc
    go false q k f = ((λ z. true≢false (sym (same m.id n z) ∙ q)), f k)

module _ (given : Given) (n : ℕ) where
  tell_away : (x : History (List Entry)) (e : Event) → AllByRecursion (λ m. m.id ≢ n) x.net.nodes → AllByRecursion (λ m. m.id ≢ n) (with_event whole_logs given x e).net.nodes
  unfolding with_event
  tell_away x e p =
      happens_each given weight (λ m. m.id ≢ n) e x.net (λ aim is i m there same away q. away (sym (played_same given weight aim.act e (record { node = m; records = x.net.records })) ∙ q)) p

  stays_away : (es : List Event) (x : History (List Entry)) → AllByRecursion (λ m. m.id ≢ n) x.net.nodes → AllByRecursion (λ m. m.id ≢ n) (run whole_logs given es x).net.nodes
  stays_away [] x p = p
  stays_away (e ∷ es) x p = stays_away es (with_event whole_logs given x e) (tell_away x e p)

-- so a node that is there was there before
pub was_there : (given : Given) (before es : List Event) (n : ℕ) (m : NodeView) → node_at (world_after given (before ++ es)).nodes n ≡ Some m → (old : NodeView) × (node_at (world_after given before).nodes n ≡ Some old)
was_there given before es n m is = go (node_at (world_after given before).nodes n) refl
  where
    away : node_at (world_after given before).nodes n ≡ None → AllByRecursion (λ (m : NodeView). m.id ≢ n) (world_after given (before ++ es)).nodes
    away none =
        subst (λ (x : History (List Entry)). AllByRecursion (λ (m : NodeView). m.id ≢ n) x.net.nodes) (sym (run_both given before es (start given)))
        (stays_away given n es (run whole_logs given before (start given)) (nowhere (world_after given before).nodes n none))

    go : (o : Option NodeView) → node_at (world_after given before).nodes n ≡ o → (old : NodeView) × (node_at (world_after given before).nodes n ≡ Some old)
    go None none = let q = node_found (world_after given (before ++ es)).nodes n m (λ m. m.id ≢ n) (away none) is in absurd (q.0 q.1)
    go (Some old) found = (old, found)

-- a leader of an engine that leads only in later terms
leads_later : (term : ℕ) (e : EngineView) → Anew term e × LedByVote e → IfSome e.machine.leader (λ l. term < l.vote.leader_id.term)
leads_later term e a = go e.machine.leader refl a.0 a.1
  where
    go : (o : Option WorldLeader) → e.machine.leader ≡ o → Anew term e → IfSome o (λ l. l.vote ≡ e.machine.core.state.vote) → IfSome o (λ l. term < l.vote.leader_id.term)
    go None is a v = tt
    go (Some l) is (inl h) v = let z : ◌≡◌ {A = Option WorldLeader} None (Some l) = sym h.0.0 ∙ is in cc
    go (Some l) is (inr h) v = subst (λ (w : Vote ℕ). term < w.leader_id.term) (sym v) h

pub never_lead_on : (given : Given) → IsWellFormed given → (all : List Event) → BareStartsNeverLeadOn given all
never_lead_on given wf all before since first n part is leaves old found i j new l there =
    let Extra = Settled (setup_of given.membership) in
    let p : NetAnew n old.store.vote.leader_id.term (moment given all i j) =
    subst (λ es. NetAnew n old.store.vote.leader_id.term (moment given es i j)) (sym part)
    (from_before given Extra (all_laws given.membership) n (stores.empty (setup_of given.membership)) first since old is leaves before (start given) (followed given wf []) found i j l) in
    let q = node_found (moment given all i j).nodes n new (λ m. m.id ≡ n → LeadsAnew old.store.vote.leader_id.term m) p there in
    if_some (λ e. Anew old.store.vote.leader_id.term e × LedByVote e) (λ e. IfSome e.machine.leader (λ l. old.store.vote.leader_id.term < l.vote.leader_id.term)) (leads_later old.store.vote.leader_id.term) new.engine (q.0 q.1)
