-- A node starts: it works off its queue, runs at rest, and has its stored vote and the log with which it started.
use Rattle.std.proofs.Common.{ℕ, suc, ◌≤◌, ◌≡◌, Bool, true, false, ◌&&◌, List, [], ◌∷◌, length, arith, refl, sym, ap, ◌∙◌, subst, Option, None, Some}
use Rattle.std.specs.Prelude.{◌==◌, if◌then◌else◌, nat_eq, slice_get}
use Rattle.std.specs.Ordering.{is_eq, nat_cmp}
use Rattle.std.proofs.lemmas.Bool.Decides.{nat_tests}
use Rattle.proof_deeds.specs.raft_state.declared.ids.LogId.{LogId}
use Rattle.proof_deeds.specs.raft_state.declared.ids.Vote.{Vote}
use Rattle.proof_deeds.specs.raft_state.Log.{last}
use Rattle.proof_deeds.specs.raft_state.Order.{next, vote_cmp}
use Rattle.proof_deeds.specs.raft_state.State.{is_leader, is_leading}
use Rattle.proof_deeds.specs.raft_error.declared.error.EngineError.{EngineError}
use Rattle.proof_deeds.specs.raft_proposer.Joint.{u64_max}
use Rattle.proof_deeds.specs.raft_command.declared.command.Command.TheVariants as command
use Rattle.proof_deeds.specs.raft_command.Queue.{popped}
use Rattle.proof_deeds.specs.raft_steps.Parts.{led_of, leading}
use Rattle.proof_deeds.specs.raft_steps.Refusals.{refusals_of_local_progress}
use Rattle.proof_deeds.specs.raft_steps.ReplicationHandler.{update_local_progress}
use Rattle.proof_deeds.specs.raft_store.declared.entry.Entry.{Entry}
use Rattle.proof_deeds.specs.raft_store.Entries.{entry_meaning}
use Rattle.proof_deeds.specs.raft_store.Restart.{restarted, started}
use Rattle.proof_deeds.specs.raft_store.Types.{EngineView, WorldCommand, WorldLeader}
use Rattle.proof_deeds.specs.raft_schedule.declared.event.Outcome.{Outcome}
use Rattle.proof_deeds.specs.raft_schedule.declared.event.Outcome.TheVariants.{Skipped}
use Rattle.proof_deeds.specs.raft_schedule.declared.event.SkipReason.{SkipReason}
use Rattle.proof_deeds.specs.raft_node.declared.act.Act.TheVariants.{Restart}
use Rattle.proof_deeds.specs.raft_node.declared.given.Given.{Given}
use Rattle.proof_deeds.specs.raft_node.declared.node.Turn.{Turn}
use Rattle.proof_deeds.specs.raft_node.Events.{Scene, called_at, calls, finish, happens, moment_of, outcome_of, played, scene, with_answer}
use Rattle.proof_deeds.specs.raft_node.Execute.{effects}
use Rattle.proof_deeds.specs.raft_calls.Feeds.{last_sent, called, feed, hold_own}
use Rattle.proof_deeds.specs.raft_node.Net.{Net, NodeView, Records, no_streams}
use Rattle.proof_deeds.specs.raft_node.Runs.{whole_logs}
use Rattle.proof_deeds.specs.raft_node.Starts.{engine_on}
use Rattle.proof_deeds.specs.raft_calls.Starts.{resumed}
use Rattle.proof_deeds.specs.raft_node.Work.{Work, step_of, weight, work_step, worked}
use Rattle.proof_deeds.specs.raft_calls.Engines.{with_queue}
use Rattle.proof_deeds.proofs.raft_node_proofs.Worked.{worked-ends, worked-keeps, worked-step}
use Rattle.proof_progress.specs.Choices.{engine_at_start}
use Rattle.proof_progress.specs.Continuations.{At, LeadsIn, start_by, restart as restart_at}
use Rattle.proof_progress.proofs.Campaigns.{at_id}
use Rattle.proof_progress.proofs.KeptVotes.{KeepsCore, KeepsState, local_keeps, same_state, state_then}
use Rattle.proof_progress.proofs.LeaderStarts.{LeadsAtOnce, Starts, leads_at_once, starts, starts_under}
use Rattle.proof_progress.proofs.Leading.{LeadsAtWork, get_end, leads_on, parts, record_of}
use Rattle.proof_progress.proofs.Places.{Changed, changes}
use Rattle.proof_progress.proofs.Plays.{latest}
use Rattle.proof_progress.proofs.Restarts.{resumes_by}
use Rattle.proof_progress.proofs.Works.{Effected, at_work}

-- What its work keeps

-- an engine that asks for no votes, with the settings, the vote, the log and the membership of an earlier one
pub record GoesOn (e f : EngineView) : Type 0 where
  pub config : f.config ≡ e.config
  pub state : KeepsState e.machine.core.state f.machine.core.state
  pub spent : f.machine.core.output.spent ≡ e.machine.core.output.spent
  pub alone : f.machine.candidate ≡ None

module _ (e f : EngineView) (h : GoesOn e f) where
  held : (x : Option (LogId ℕ)) (l : WorldLeader) → GoesOn e (hold_own x l f)
  held x l = go (refusals_of_local_progress nat_cmp f.config x (led_of l f.machine.core.state f.machine.core.output))
    where
      go : (r : Option (EngineError ℕ (Unit {0}))) → GoesOn e (called r f (leading f.machine (update_local_progress nat_cmp f.config x (led_of l f.machine.core.state f.machine.core.output))))
      go None =
          let k : KeepsCore (led_of l f.machine.core.state f.machine.core.output).core (update_local_progress nat_cmp f.config x (led_of l f.machine.core.state f.machine.core.output)).core = local_keeps f.config x (led_of l f.machine.core.state f.machine.core.output) in
          record { config = h.config; state = state_then e.machine.core.state f.machine.core.state _ h.state k.state; spent = k.spent ∙ h.spent; alone = h.alone }
      go (Some r) = h

  pub fed_on : (now : ℕ) (c : WorldCommand) → GoesOn e (feed now c f)
  fed_on now (command.SaveVote v) = rw h.alone h
  fed_on now (command.AppendInputEntries v es) = go f.machine.leader
    where
      of : (b : Bool) (l : WorldLeader) → GoesOn e (if b then hold_own (last_sent None es) l f else f)
      of true l = held (last_sent None es) l
      of false l = h

      go : (o : Option WorldLeader) → GoesOn e (elim o [ None ↦ f | Some l ↦ (if is_eq (vote_cmp nat_cmp l.vote v) then hold_own (last_sent None es) l f else f) ])
      go None = h
      go (Some l) = of (is_eq (vote_cmp nat_cmp l.vote v)) l
  fed_on now (command.DeleteConflictLog since) = h
  fed_on now (command.PurgeLog upto) = h
  fed_on now (command.Commit seq already upto) = h
  fed_on now (command.StateMachine c) = h
  fed_on now (command.SendVote req) = h
  fed_on now (command.RebuildReplicationStreams targets) = h
  fed_on now (command.Replicate target req) = h
  fed_on now (command.ReplicateCommitted committed) = h
  fed_on now (command.Respond when reply) = h
  fed_on now command.BecomeLeader = h
  fed_on now command.QuitLeader = h

-- a node at work that doesn't stop, and whose engine goes on so
pub record WorksOn (e : EngineView) (w : Work (List Entry)) : Type 0 where
  pub engine : EngineView
  pub runs : w.engine ≡ Some engine
  pub goes : GoesOn e engine
  pub left : w.left ≡ None

-- with other items queued
requeued : (e f : EngineView) (cs : List WorldCommand) → GoesOn e f → GoesOn e (with_queue f (record f.machine.core.output { items = cs }))
requeued e f cs h = record { config = h.config; state = record { vote = h.state.vote; ids = h.state.ids; em = h.state.em; time = h.state.time; purge_to = h.state.purge_to }; spent = h.spent; alone = h.alone }

module _ (e : EngineView) (t : Turn) where
  step_at : (f : EngineView) (E : Effected) → GoesOn e f → WorksOn e (work_step whole_logs t (at_work f E))
  step_at f E h = of f.machine.core.output.items
    where
      of : (cs : List WorldCommand) → WorksOn e (step_of whole_logs t (at_work f E) f (popped (record f.machine.core.output { items = cs })))
      of [] = record { engine = f; runs = refl; goes = h; left = refl }
      of (c ∷ cs) = record {
        engine = feed t.moment c (with_queue f (record f.machine.core.output { items = cs }));
        runs = refl;
        goes = fed_on e (with_queue f (record f.machine.core.output { items = cs })) (requeued e f cs h) t.moment c;
        left = refl;
      }

  step_on : (w : Work (List Entry)) → WorksOn e w → WorksOn e (work_step whole_logs t w)
  step_on w h =
      subst (λ (u : Work (List Entry)). WorksOn e (work_step whole_logs t u))
      (sym (ap (λ (o : Option EngineView). let u : Work (List Entry) = record { engine = o; effects = w.effects; left = w.left } in u) h.runs ∙ ap (λ (o : Option ℕ). let u : Work (List Entry) = record { engine = Some h.engine; effects = w.effects; left = o } in u) h.left))
      (step_at h.engine w.effects h.goes)

  works_on : (fuel : ℕ) (w : Work (List Entry)) → WorksOn e w → WorksOn e (worked whole_logs fuel t w)
  works_on fuel w h = worked-keeps whole_logs t (WorksOn e) fuel (λ w _ h. step_on w h) w h

nothing_left : (cs : List WorldCommand) → nat_eq (length cs) 0 ≡ true → cs ≡ []
nothing_left [] e = refl
nothing_left (c ∷ cs) e = let z : nat_eq (suc (length cs)) 0 ≡ false = busy (length cs) in cc
  where
    busy : (n : ℕ) → nat_eq (suc n) 0 ≡ false
    busy n = grind (arith, nat_tests)

-- One that leads by its vote

module _ (v : Vote ℕ) (t : Turn) (E : Effected) where
  busy : (n : ℕ) → nat_eq (suc n) 0 ≡ false
  busy n = grind (arith, nat_tests)

  at_once : (e : EngineView) (l : WorldLeader) (ys : List WorldCommand) → l.vote ≡ v
      → LeadsAtWork v (record_of v t E) (worked whole_logs (weight (at_work (parts v t E e (command.BecomeLeader ∷ ys) (Some l) None v) E)) t (at_work (parts v t E e (command.BecomeLeader ∷ ys) (Some l) None v) E))
  at_once e l ys by =
      let w : Work (List Entry) = at_work (parts v t E e (command.BecomeLeader ∷ ys) (Some l) None v) E in
      subst (λ (u : Work (List Entry)). LeadsAtWork v (record_of v t E) u) (worked-step whole_logs t w (busy (length ys)))
      (leads_on v (record_of v t E) t (weight (work_step whole_logs t w)) (work_step whole_logs t w)
      (record { engine = _; runs = refl; leads = record { leader = l; leads = refl; by = by; alone = refl }; left = refl; recorded = (length E.records.established, get_end E.records.established (record_of v t E) []) }))

  pub works_at_once : (e : EngineView) → LeadsAtOnce v e → e.machine.candidate ≡ None → e.machine.core.state.vote ≡ v → LeadsAtWork v (record_of v t E) (worked whole_logs (weight (at_work e E)) t (at_work e E))
  works_at_once e h alone vote =
      subst (λ (f : EngineView). LeadsAtWork v (record_of v t E) (worked whole_logs (weight (at_work f E)) t (at_work f E)))
      (sym (ap (λ cs. parts v t E e cs e.machine.leader e.machine.candidate e.machine.core.state.vote) h.items
      ∙ (ap (λ l. parts v t E e (command.BecomeLeader ∷ command.RebuildReplicationStreams h.streams ∷ h.more) l e.machine.candidate e.machine.core.state.vote) h.leads
      ∙ (ap (λ c. parts v t E e (command.BecomeLeader ∷ command.RebuildReplicationStreams h.streams ∷ h.more) (Some h.leader) c e.machine.core.state.vote) alone
      ∙ ap (λ w. parts v t E e (command.BecomeLeader ∷ command.RebuildReplicationStreams h.streams ∷ h.more) (Some h.leader) None w) vote))))
      (at_once e h.leader (command.RebuildReplicationStreams h.streams ∷ h.more) h.by)

-- In a world

-- the node has started: it runs at rest, as its engine started
pub record HasStarted (e : EngineView) (now : ℕ) (m : NodeView) : Type 0 where
  pub moment : m.moment ≡ now
  pub engine : EngineView
  pub runs : m.engine ≡ Some engine
  pub rest : engine.machine.core.output.items ≡ []
  pub goes : GoesOn e engine

module _ (given : Given) (saved : Bool) (now : ℕ) (N : NodeView) where
  abbrev pub turn : Turn
  turn = record { id = N.id; moment = now; request = None }

  -- what its work begins with
  abbrev pub taken_up : Records (List Entry) → Effected
  taken_up rs = effects (restarted nat_cmp entry_meaning saved N.store) no_streams None (with_answer None rs)

  abbrev pub done : Records (List Entry) → Work (List Entry)
  done rs = worked whole_logs (weight (at_work (engine_at_start given.settings saved N) (taken_up rs))) turn (at_work (engine_at_start given.settings saved N) (taken_up rs))

  -- the node after it
  abbrev pub node_left : Records (List Entry) → NodeView
  node_left rs = record N { moment = now; store = (done rs).effects.store; engine = (done rs).engine; streams = (done rs).effects.streams; noted = (done rs).effects.noted }

  abbrev outcome : Records (List Entry) → Outcome
  outcome rs = outcome_of (resumed (engine_on given.settings saved N)).0 (done rs).engine

  plays_start : (n : ℕ) (rs : Records (List Entry)) → N.moment ≤ now
      → ◌≡◌ {A = Outcome × Scene (List Entry)} (played whole_logs weight given (Restart (start_by saved)) (restart_at n saved now) (record { node = N; records = rs })) (outcome rs, record { node = node_left rs; records = (done rs).effects.records })
  unfolding played finish
  plays_start n rs l =
      ap (λ (o : Option SkipReason). after o (moment_of (restart_at n saved now) N)) (unskipped N.engine)
      ∙ ap (after None) (latest now N.moment l)
      ∙ ap (λ (p : Option ℕ × NodeView). finish whole_logs weight turn None p.0 (scene p.1 (with_answer None rs))) (resumes_by given.settings saved (record N { moment = now }))
    where
      after : Option SkipReason → ℕ → Outcome × Scene (List Entry)
      after o k = elim o as (λ _. Outcome × Scene (List Entry)) [
        | Some reason ↦ (Skipped reason, record { node = N; records = rs })
        | None ↦ finish whole_logs weight (record { id = N.id; moment = k; request = None }) None (calls given (Restart (start_by saved)) (called_at k (record { node = N; records = rs }))).0 (calls given (Restart (start_by saved)) (called_at k (record { node = N; records = rs }))).1
      ]

      unskipped : (o : Option EngineView) → ◌≡◌ {A = Option SkipReason} (elim o [ None ↦ None | Some e ↦ None ]) None
      unskipped None = refl
      unskipped (Some e) = refl

  -- the node becomes this one, and all others stay
  pub restarts : (net : Net (List Entry)) (n : ℕ) → At net.nodes n N → N.moment ≤ now → Changed net (happens whole_logs weight given (restart_at n saved now) net).1 n (node_left net.records) (done net.records).effects.records
  restarts net n at l =
      changes given net (restart_at n saved now) n (Restart (start_by saved)) N (outcome net.records) (record { node = node_left net.records; records = (done net.records).effects.records }) at refl (plays_start n net.records l) (at_id net.nodes n N at)

  -- it has started
  pub has_started : (rs : Records (List Entry)) → HasStarted (engine_at_start given.settings saved N) now (node_left rs)
  has_started rs =
      let s : Starts given.settings N (engine_at_start given.settings saved N) = starts given.settings saved N in
      let w : WorksOn (engine_at_start given.settings saved N) (done rs) =
      works_on (engine_at_start given.settings saved N) turn (weight (at_work (engine_at_start given.settings saved N) (taken_up rs))) (at_work (engine_at_start given.settings saved N) (taken_up rs))
      (record { engine = engine_at_start given.settings saved N; runs = refl; goes = record { config = refl; state = same_state (engine_at_start given.settings saved N).machine.core.state; spent = refl; alone = s.alone }; left = refl }) in
      let i : nat_eq (length w.engine.machine.core.output.items) 0 ≡ true = subst (λ (o : Option EngineView). Rattle.proof_deeds.specs.raft_node.Work.is_idle o ≡ true) w.runs (worked-ends whole_logs turn (at_work (engine_at_start given.settings saved N) (taken_up rs))) in
      record { moment = refl; engine = w.engine; runs = w.runs; rest = nothing_left w.engine.machine.core.output.items i; goes = w.goes }

  -- by a vote of its own it leads, and is recorded as established
  module _ (lead : is_leader nat_cmp (started nat_cmp entry_meaning saved N.store) N.id ≡ true) (room : (next (last (started nat_cmp entry_meaning saved N.store).ids) == u64_max) ≡ false) where
    pub own_vote : N.store.vote ≡ record { leader_id = N.store.vote.leader_id; committed = true }
    own_vote =
        ap (λ b. let v : Vote ℕ = record { leader_id = N.store.vote.leader_id; committed = b } in v)
        (sym (ap (λ (v : Vote ℕ). v.committed) (starts_under given.settings saved N)) ∙ second (is_leading nat_cmp (started nat_cmp entry_meaning saved N.store) N.id) (started nat_cmp entry_meaning saved N.store).vote.committed lead)
      where
        second : (a b : Bool) → (a && b) ≡ true → b ≡ true
        second true b e = e
        second false b e = cc

    pub leads_again : (net : Net (List Entry)) (n : ℕ) → At net.nodes n N → N.moment ≤ now → LeadsIn (happens whole_logs weight given (restart_at n saved now) net).1 N.store.vote.leader_id n
    leads_again net n at l =
        let c : Changed net (happens whole_logs weight given (restart_at n saved now) net).1 n (node_left net.records) (done net.records).effects.records = restarts net n at l in
        let s : Starts given.settings N (engine_at_start given.settings saved N) = starts given.settings saved N in
        let w : LeadsAtWork N.store.vote (record_of N.store.vote turn (taken_up net.records)) (done net.records) =
        works_at_once N.store.vote turn (taken_up net.records) (engine_at_start given.settings saved N) (leads_at_once given.settings saved N lead room) s.alone s.vote in
        record {
          node = node_left net.records;
          at = c.here;
          engine = w.engine;
          runs = w.runs;
          leader = w.leads.leader;
          leads = w.leads.leads;
          vote = w.leads.by ∙ own_vote;
          log = _;
          number = w.recorded.0;
          established = ap (λ (r : Records (List Entry)). slice_get r.established w.recorded.0) c.records ∙ w.recorded.1;
        }
