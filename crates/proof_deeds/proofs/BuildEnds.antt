-- A build that ends leaves a node at work.
use Rattle.std.proofs.Common.{ℕ, ◌≡◌, List, refl, ap, ◌∙◌, Option, Some, None}
use Rattle.std.specs.Ordering.{nat_cmp}
use Rattle.raft_node.specs.raft_state.declared.membership.Members.{Members}
use Rattle.raft_node.specs.raft_steps.SnapshotCalls.{finish_building_snapshot}
use Rattle.raft_node.specs.raft_store.declared.entry.Entry.{Entry}
use Rattle.raft_node.specs.raft_store.Built.{keep_snapshot, meta_of}
use Rattle.raft_node.specs.raft_store.Entries.{entry_meaning}
use Rattle.raft_node.specs.raft_store.Types.{EngineView}
use Rattle.raft_node.specs.raft_calls.declared.message.Message.{Message}
use Rattle.raft_node.specs.declared.node.Turn.{Turn}
use Rattle.raft_node.specs.raft_calls.Deliveries.{with_machine}
use Rattle.raft_node.specs.Events.{work_of}
use Rattle.raft_node.specs.raft_calls.Held.{IsReady}
use Rattle.raft_node.specs.Net.{NodeView, Records}
use Rattle.proof_deeds.specs.Chains.{Reached}
use Rattle.proof_deeds.specs.Images.{Ideal, images, setup_of}
use Rattle.proof_deeds.specs.Knows.{Stands}
use Rattle.proof_deeds.specs.Nets.{EngineFollows, NodeFollows}
use Rattle.proof_deeds.specs.SnapshotDeeds.{StandsOn}
use Rattle.proof_deeds.proofs.BuildsCalled.{free}
use Rattle.proof_deeds.proofs.Calls.{CallLaws, WorldState}
use Rattle.proof_deeds.proofs.Drains.{Works, stands}
use Rattle.proof_deeds.proofs.Events.{rests_works}
use Rattle.proof_deeds.proofs.LedBuilds.{finish_builds}
use Rattle.proof_deeds.proofs.Acceptances.{quiet_answered}
use Rattle.proof_deeds.proofs.Runs.{RecordsFit, fit_on, quiet_recorded}
use Rattle.proof_deeds.proofs.SnapshotsDone.{snapshots_done}
use Rattle.proof_deeds.proofs.Worlds.{records_on, streams_on, within_of}

module _ (first : Members ℕ (Unit {0})) (Extra : Ideal → WorldState → Type 0) (laws : CallLaws first Extra) (moment : ℕ) (request : Option Message) (W : Ideal) (reached : Reached (setup_of first) W) (rs : Records (List Entry)) (n : NodeView)
    (h : NodeFollows (setup_of first) W rs n) (fit : RecordsFit (setup_of first) W rs) (e : EngineView) (g : EngineFollows (setup_of first) n W e) (x : Extra W e.machine.core.state) (es : List Entry) (noted : (W.store n.id).noted ≡ images es)
  where
    abbrev turn : Turn
    turn = record { id = n.id; moment = moment; request = request }

    abbrev after : EngineView
    after = with_machine e (finish_building_snapshot nat_cmp e.config (meta_of entry_meaning es) e.machine)

    stood : StandsOn first e.config turn (keep_snapshot entry_meaning es n.store) W after.machine
    stood =
        (snapshots_done first).by_finish e.config turn n.store W e.machine
        (stands first Extra turn laws h.node n.store W e reached h.ordered (rests_works first Extra laws turn h.node n.store W reached h.ordered n e refl refl h.shaped h.store g x)) g.queue es noted

    pub finished_works : (stop : Option ℕ) → IsReady after → Works first Extra turn W (work_of stop (record { node = record n { store = keep_snapshot entry_meaning es n.store; engine = Some after; noted = None }; records = rs }))
    finished_works stop k =
        let q : Stands (setup_of first) turn e.config (keep_snapshot entry_meaning es n.store) stood.end after.machine = stood.stands in
        record {
          world = stood.end;
          effects = record {
            came = record { does = stood.came; others = stood.apart };
            reached = q.reached;
            store = stood.store;
            shaped = stood.shaped;
            ordered = q.ordered;
            rest = record {
              session = streams_on n.id n.streams.session_id (W.store n.id) (stood.end.store n.id) stood.session h.rest.session;
              targets = h.rest.targets;
              noted = tt;
              records = records_on (setup_of first) W stood.end (within_of (setup_of first) W stood.end stood.came) rs h.rest.records;
            };
            fit = fit_on (setup_of first) W stood.end stood.came rs (quiet_answered W stood.end rs.bag stood.quiet.messages fit.accepted) (quiet_recorded W stood.end rs.decided stood.quiet.decided fit.recorded) fit;
          };
          engine = record { id = g.id; ready = k; pending = q.pending; carried = q.carried; extra = laws.extra_finished stood.end e.config (meta_of entry_meaning es) e.machine (laws.extra_on W stood.end e.machine.core.state stood.came x) };
          builds = finish_builds e.config (meta_of entry_meaning es) e.machine (free e g.queue);
        }
