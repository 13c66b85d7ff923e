-- A start leaves a node at work: its store is taken up anew, and its engine starts on it, or refuses to, or waits.
use Rattle.std.proofs.Common.{ℕ, ◌<◌, ◌≡◌, Bool, false, List, refl, sym, ◌∙◌, subst, Option, Some, None}
use Rattle.std.specs.Ordering.{nat_cmp}
use Rattle.std.proofs.lemmas.Cmp.{nat_cmp_total}
use Rattle.raft_node.specs.raft_state.Same.{nat_same}
use Rattle.raft_node.specs.raft_state.declared.membership.Members.{Members}
use Rattle.raft_node.specs.raft_error.declared.error.EngineError.{EngineError}
use Rattle.raft_node.specs.raft_command.declared.config.EngineConfig.{EngineConfig}
use Rattle.raft_node.specs.raft_steps.Starts.{refusals_of_startup, startup}
use Rattle.raft_node.specs.raft_store.declared.entry.Entry.{Entry}
use Rattle.raft_node.specs.raft_store.Entries.{entry_meaning}
use Rattle.raft_node.specs.raft_store.Restart.{forgotten, restarted}
use Rattle.raft_node.specs.raft_store.Types.{EngineView, WorldStore}
use Rattle.proof_agreement.specs.Deeds.{ForgetSaved, put}
use Rattle.proof_agreement.proofs.Logs.{updated_other}
use Rattle.proof_mirror.specs.Ready.{Ordered, Shaped}
use Rattle.proof_mirror.proofs.Starting.{pending_startup}
use Rattle.raft_node.specs.declared.node.Turn.{Turn}
use Rattle.raft_node.specs.raft_calls.Deliveries.{answered, with_machine}
use Rattle.raft_node.specs.Events.{work_of}
use Rattle.raft_node.specs.raft_calls.Held.{IsReady}
use Rattle.raft_node.specs.Net.{NodeView, Records}
use Rattle.raft_node.specs.raft_calls.Starts.{begun_anew, resumed}
use Rattle.raft_node.specs.Starts.{engine_on, resumed_on, started_with, unsaved}
use Rattle.raft_node.proofs.raft_calls_proofs.StartReady.{begun_one}
use Rattle.proof_deeds.specs.Chains.{Does, Reached}
use Rattle.proof_deeds.specs.Follows.{RecordsAre, StoreIs}
use Rattle.proof_deeds.specs.Images.{Ideal, IdealStore, setup_of}
use Rattle.proof_deeds.specs.Knows.{Stands}
use Rattle.proof_deeds.specs.Nets.{NodeFollows}
use Rattle.proof_deeds.specs.SnapshotDeeds.{TakenUp}
use Rattle.proof_deeds.proofs.BuildsCalled.{begun_builds, resumed_builds}
use Rattle.proof_deeds.proofs.Calls.{CallLaws, WorldState}
use Rattle.proof_deeds.proofs.Drains.{EngineWorks, Works, takes}
use Rattle.proof_deeds.proofs.Acceptances.{quiet_answered}
use Rattle.proof_deeds.proofs.Events.{elected_works}
use Rattle.proof_deeds.proofs.LedBuilds.{BuildsLed}
use Rattle.proof_deeds.proofs.Runs.{RecordsFit, fit_on, quiet_recorded}
use Rattle.proof_deeds.proofs.SnapshotsDone.{snapshots_done}
use Rattle.proof_deeds.proofs.Starts.{full_of}
use Rattle.proof_deeds.proofs.Worlds.{at_put, does_one, does_then, records_on, stopped_rest, within_of}

abbrev turn_at : ℕ → NodeView → Turn
turn_at moment n = record { id = n.id; moment = moment; request = None }

-- an engine on a store that is taken up
module _ (first : Members ℕ (Unit {0})) (Extra : Ideal → WorldState → Type 0) (laws : CallLaws first Extra) (moment : ℕ) (settings : EngineConfig ℕ) (W : Ideal) (rs : Records (List Entry)) (n : NodeView)
    (node : n.id < 18446744073709551616) (records : RecordsAre (setup_of first) rs W) (fit : RecordsFit (setup_of first) W rs) (saved : Bool) (up : TakenUp first (engine_on settings saved n).config (turn_at moment n) saved n.store W)
  where
    abbrev turn : Turn
    turn = turn_at moment n

    abbrev e : EngineView
    e = engine_on settings saved n

    abbrev taken : WorldStore
    taken = restarted nat_cmp entry_meaning saved n.store

    stood : Stands (setup_of first) turn (engine_on settings saved n).config (restarted nat_cmp entry_meaning saved n.store) up.end (engine_on settings saved n).machine
    stood = up.stands

    extra : Extra up.end (engine_on settings saved n).machine.core.state
    extra = laws.extra_started turn e.config saved n.store up.end up.stands

    abbrev WorksOn : EngineView → Type 0
    WorksOn f = EngineWorks first Extra turn (restarted nat_cmp entry_meaning saved n.store) up.end f

    -- before it resumes it has nothing to do
    waits : WorksOn (engine_on settings saved n)
    waits = record { id = refl; ready = record { sound = stood.sound; held = tt }; pending = stood.pending; carried = stood.carried; extra = extra }

    -- the engine, started or not
    resumed_works : IsReady (resumed (engine_on settings saved n)).1 → WorksOn (resumed (engine_on settings saved n)).1
    resumed_works k = go (refusals_of_startup nat_cmp e.config e.machine) refl k where
      go : (a : Option (EngineError ℕ (Unit {0}))) → refusals_of_startup nat_cmp e.config e.machine ≡ a → IsReady (answered a e (with_machine e (startup nat_cmp entry_meaning e.config e.machine))).1
          → EngineWorks first Extra turn taken up.end (answered a e (with_machine e (startup nat_cmp entry_meaning e.config e.machine))).1
      go (Some x) asks k = waits
      go None asks k =
          let started = laws.by_startup turn e.config taken up.end e.machine stood refl asks extra in
          record {
            id = refl;
            ready = k;
            pending = pending_startup nat_cmp nat_cmp_total nat_same entry_meaning takes (λ es. es) e.config taken e.machine stood.pending stood.sound (full_of e.config e.machine asks);
            carried = started.0;
            extra = started.1;
          }

    -- one that doesn't lead on
    begun_works : IsReady (begun_anew moment (engine_on settings saved n)).1 → WorksOn (begun_anew moment (engine_on settings saved n)).1
    begun_works =
        begun_one (λ r. IsReady r.1 → WorksOn r.1) moment e (λ voter. elected_works first Extra laws turn node taken up.end stood.reached stood.ordered e waits refl refl) (λ k. waits) resumed_works

    -- so the node is at work
    started_works : (r : Option ℕ × EngineView) → WorksOn r.1 → BuildsLed r.1.machine → (stop : Option ℕ) → Works first Extra turn W (work_of stop (record { node = (started_with saved n r).1; records = rs }))
    started_works r k builds stop = record {
      world = up.end;
      effects = record {
        came = record { does = up.came; others = up.apart };
        reached = stood.reached;
        store = up.store;
        shaped = up.shaped;
        ordered = stood.ordered;
        rest = stopped_rest (setup_of first) n.id taken rs up.end up.session (records_on (setup_of first) W up.end (within_of (setup_of first) W up.end up.came) rs records);
        fit = fit_on (setup_of first) W up.end up.came rs (quiet_answered W up.end rs.bag up.quiet.messages fit.accepted) (quiet_recorded W up.end rs.decided up.quiet.decided fit.recorded) fit;
      };
      engine = k;
      builds = builds;
    }

module _ (first : Members ℕ (Unit {0})) (Extra : Ideal → WorldState → Type 0) (laws : CallLaws first Extra) (moment : ℕ) (settings : EngineConfig ℕ) (W : Ideal) (reached : Reached (setup_of first) W) (rs : Records (List Entry)) (n : NodeView)
    (h : NodeFollows (setup_of first) W rs n) (fit : RecordsFit (setup_of first) W rs)
  where
    -- a node resumes
    pub resumes_works : (saved : Bool) (stop : Option ℕ) → IsReady (resumed (engine_on settings saved n)).1 → Works first Extra (turn_at moment n) W (work_of stop (record { node = (resumed_on settings saved n).1; records = rs }))
    resumes_works saved stop k =
        let up : TakenUp first (engine_on settings saved n).config (turn_at moment n) saved n.store W =
        (snapshots_done first).by_start (engine_on settings saved n).config (turn_at moment n) saved n.store W refl h.node h.store h.shaped h.ordered reached in
        started_works first Extra laws moment settings W rs n h.node h.rest.records fit saved up (resumed (engine_on settings saved n))
        (resumed_works first Extra laws moment settings W rs n h.node h.rest.records fit saved up k) (resumed_builds settings saved n) stop

    -- its store is taken up without the saved committed id
    forgotten_up : TakenUp first (engine_on settings false (unsaved n)).config (turn_at moment (unsaved n)) false (forgotten n.store) W
    forgotten_up =
        let S : IdealStore = record (W.store n.id) { saved = 0; saved_leader = 0 } in
        let V : Ideal = put W n.id S in
        let d : Does (setup_of first) W V = does_one (setup_of first) W (ForgetSaved n.id) tt tt in
        let k : StoreIs (setup_of first) n.store (W.store n.id) = h.store in
        let at : StoreIs (setup_of first) (forgotten n.store) (V.store n.id) = subst (StoreIs (setup_of first) (forgotten n.store)) (sym (at_put W n.id S))
        (record {
          vote = k.vote;
          vote_committed = k.vote_committed;
          front = k.front;
          entries = k.entries;
          snapshot = k.snapshot;
          saved = refl;
          saved_leader = refl;
          applied = k.applied;
          front_is = k.front_is;
          vote_named = k.vote_named;
          saved_named = tt;
          entries_fit = k.entries_fit;
          snapshot_fit = k.snapshot_fit;
        }) in
        let z : Shaped entry_meaning n.store = h.shaped in
        let o : Ordered nat_cmp entry_meaning n.store = h.ordered in
        let up : TakenUp first (engine_on settings false (unsaved n)).config (turn_at moment (unsaved n)) false (forgotten n.store) V =
        (snapshots_done first).by_start (engine_on settings false (unsaved n)).config (turn_at moment (unsaved n)) false (forgotten n.store) V refl h.node at
        (record { keys = z.keys; run = z.run; front = z.front; tells = z.tells; snap_run = z.snap_run; applied = z.applied; recorded = z.recorded })
        (record { log = o.log; snapshot = o.snapshot; front = o.front }) (does_then (setup_of first) _ W V reached d) in
        record {
          end = up.end;
          came = does_then (setup_of first) W V up.end d up.came;
          quiet = record { messages = up.quiet.messages; decided = up.quiet.decided };
          apart = λ m f. up.apart m f ∙ updated_other W.store n.id S m f;
          session = up.session;
          store = up.store;
          shaped = up.shaped;
          stands = up.stands;
          starts = up.starts;
        }

    -- and it doesn't lead on
    pub begins_works : (stop : Option ℕ) → IsReady (begun_anew moment (engine_on settings false (unsaved n))).1
        → Works first Extra (turn_at moment n) W (work_of stop (record { node = (started_with false (unsaved n) (begun_anew moment (engine_on settings false (unsaved n)))).1; records = rs }))
    begins_works stop k =
        started_works first Extra laws moment settings W rs (unsaved n) h.node h.rest.records fit false forgotten_up (begun_anew moment (engine_on settings false (unsaved n)))
        (begun_works first Extra laws moment settings W rs (unsaved n) h.node h.rest.records fit false forgotten_up k) (begun_builds moment settings false (unsaved n)) stop
