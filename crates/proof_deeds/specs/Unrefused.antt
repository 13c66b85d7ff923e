-- No leader's request of a run is refused because it doesn't fit what its node has (refusals 11 to 16).
use Rattle.std.specs.Prelude.{ℕ, ◌≡◌, false, All, Contains, IfSome, List, None, Option, Some, map}
use Rattle.std.specs.Ordering.{nat_cmp}
use Rattle.raft_node.specs.raft_state.declared.ids.LogId.{LogId}
use Rattle.raft_node.specs.raft_state.LogLaws.{IsRun}
use Rattle.raft_node.specs.raft_error.Number.{number_of}
use Rattle.raft_node.specs.raft_steps.InstallRefusals.{refusals_of_install}
use Rattle.raft_node.specs.raft_steps.RequestRefusals.{refusals_of_append}
use Rattle.raft_node.specs.raft_steps.VoteHandler.{rejects_vote, update_vote}
use Rattle.raft_node.specs.raft_store.declared.entry.Entry.{Entry}
use Rattle.raft_node.specs.raft_store.Entries.{entry_meaning}
use Rattle.raft_node.specs.raft_store.Mirror.{Tells}
use Rattle.raft_node.specs.raft_store.Types.{WorldSnapshot, EngineView}
use Rattle.proof_mirror.specs.Ready.{AppendFits}
use Rattle.raft_node.specs.raft_calls.declared.message.Body.TheVariants as body
use Rattle.raft_node.specs.raft_calls.declared.message.Message.{Message}
use Rattle.raft_node.specs.raft_calls.declared.message.Origin.{Origin}
use Rattle.raft_node.specs.Net.{Net, NodeView}
use Rattle.raft_node.specs.Runs.{run, start, whole_logs, world_after}
use Rattle.raft_node.specs.Safety.{IsOtherRefusal, IsUnrefused}
use Rattle.proof_deeds.specs.WorldLaws.{OfEachWorld}

-- no event of a world is refused for such a request
abbrev pub MessagesFit : Type 0
MessagesFit = OfEachWorld (λ given es. All (λ p. IsUnrefused p.outcome) (run whole_logs given es (start given)).past)

-- a snapshot request that was sent would not be refused so by the node that it is for
abbrev pub TakesSnapshots : {L : Type 0} → Net L → Type 0
TakesSnapshots net =
    (n : NodeView) (e : EngineView) (m : Message) (o : Origin) (snapshot : WorldSnapshot) → Contains net.nodes n → n.engine ≡ Some e → Contains net.records.bag m → m.to ≡ n.id → m.body ≡ body.SnapshotRequest o snapshot
    → IfSome (refusals_of_install nat_cmp e.config o.session_id.vote snapshot.meta e.machine) (λ r. IsOtherRefusal (number_of r))

-- nor at any time between two events
abbrev pub SnapshotsFit : Type 0
SnapshotsFit = OfEachWorld (λ given es. TakesSnapshots (world_after given es))

-- a snapshot's meta tells of its entries, whose ids run from index 0 on
pub record IsTold (snapshot : WorldSnapshot) : Type 0 where
  pub tells : Tells entry_meaning snapshot.meta snapshot.snapshot
  pub run : IsRun 0 (map entry_meaning.id_of snapshot.snapshot)

-- each snapshot that was sent is such
abbrev pub SnapshotsTell : {L : Type 0} → Net L → Type 0
SnapshotsTell net = (m : Message) (o : Origin) (snapshot : WorldSnapshot) → Contains net.records.bag m → m.body ≡ body.SnapshotRequest o snapshot → IsTold snapshot

abbrev pub SnapshotsTold : Type 0
SnapshotsTold = OfEachWorld (λ given es. SnapshotsTell (world_after given es))

-- where a node takes an append request that was sent, what it cuts leaves its committed membership
abbrev pub CutsLeaveMemberships : {L : Type 0} → Net L → Type 0
CutsLeaveMemberships net =
    (n : NodeView) (e : EngineView) (m : Message) (o : Origin) (prev : Option (LogId ℕ)) (es : List Entry) (told : Option (LogId ℕ)) (now : ℕ) → Contains net.nodes n → n.engine ≡ Some e → Contains net.records.bag m → m.to ≡ n.id → m.body ≡ body.AppendRequest o prev es told
    → refusals_of_append nat_cmp e.config o.session_id.vote prev (map (λ (x : Entry). x.log_id) es) e.machine ≡ None → rejects_vote nat_cmp e.machine.core.state o.session_id.vote ≡ false
    → AppendFits nat_cmp entry_meaning (update_vote nat_cmp entry_meaning e.config o.session_id.vote now e.machine).core.state prev es

abbrev pub CutsFit : Type 0
CutsFit = OfEachWorld (λ given es. CutsLeaveMemberships (world_after given es))
