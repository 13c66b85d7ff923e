-- When ideal stores, messages and records follow those of the world.
use Rattle.std.specs.Prelude.{ℕ, suc, ◌≡◌, ◌≢◌, ◌≤◌, ◌⊎◌, true, false, List, Option, None, Some, IfSome, length, map}
use Rattle.std.specs.List.{AllByRecursion}
use Rattle.std.specs.Map.{values_of}
use Rattle.std.specs.Ordering.{is_gt, nat_cmp}
use Rattle.raft_node.specs.raft_state.LogLaws.{IsRun}
use Rattle.raft_node.specs.raft_state.declared.ids.LeaderId.{LeaderId}
use Rattle.raft_node.specs.raft_state.declared.ids.LogId.{LogId}
use Rattle.raft_node.specs.raft_state.declared.ids.Vote.{Vote}
use Rattle.raft_node.specs.raft_state.Order.{next, vote_cmp}
use Rattle.raft_node.specs.raft_command.Message.{is_success}
use Rattle.raft_node.specs.raft_command.declared.message.AppendEntriesResponse.{AppendEntriesResponse}
use Rattle.raft_node.specs.raft_command.declared.message.AppendEntriesResponse.TheVariants.{HigherVote, PartialSuccess}
use Rattle.raft_node.specs.raft_command.declared.message.SnapshotResponse.{SnapshotResponse}
use Rattle.raft_node.specs.raft_command.declared.message.VoteRequest.{VoteRequest}
use Rattle.raft_node.specs.raft_command.declared.message.VoteResponse.{VoteResponse}
use Rattle.raft_node.specs.raft_command.declared.replication.ReplicationSessionId.{ReplicationSessionId}
use Rattle.proof_agreement.specs.Machine.{Setup, Includes}
use Rattle.proof_agreement.specs.Stores.{Accepted, Append, Session, entry_at, VoteRequest as AskVote, VoteGranted, AppendRequest as Sent, SnapshotRequest as SentSnapshot}
use Rattle.raft_node.specs.raft_store.declared.entry.Entry.{Entry}
use Rattle.raft_node.specs.raft_store.Entries.{entry_meaning}
use Rattle.raft_node.specs.raft_store.Types.{WorldStore, WorldSnapshot}
use Rattle.proof_mirror.specs.Ready.{SnapshotTells}
use Rattle.raft_node.specs.raft_calls.declared.message.Body.{Body}
use Rattle.raft_node.specs.raft_calls.declared.message.Body.TheVariants as body
use Rattle.raft_node.specs.raft_calls.declared.message.Message.{Message}
use Rattle.raft_node.specs.raft_calls.declared.message.Origin.{Origin}
use Rattle.raft_node.specs.declared.record.Decided.{Decided}
use Rattle.raft_node.specs.declared.record.Established.{Established}
use Rattle.raft_node.specs.declared.record.Executed.{Executed}
use Rattle.raft_node.specs.declared.record.Installed.{Installed}
use Rattle.raft_node.specs.Execute.{Effects}
use Rattle.raft_node.specs.Net.{Records}
use Rattle.proof_deeds.specs.Images.{Ideal, IdealStore, IdealEntry, IsNamed, IdNamed, EntriesFit, number, last_number, image, images}

-- Stores

-- the last purged id is that of the snapshot's entry at its index
abbrev pub FrontIs : Setup Entry → Option (LogId ℕ) → List IdealEntry → Type 0
FrontIs s None es = Unit {0}
FrontIs s (Some x) es = IsNamed x.leader_id × ((entry_at s es x.index).leader ≡ number x.leader_id)

-- an ideal store is that of a node; the leaders of its vote and of its saved id are named by u64s, and its entries fit
pub record StoreIs (s : Setup Entry) (t : WorldStore) (S : IdealStore) : Type 0 where
  pub vote : S.vote ≡ number t.vote.leader_id
  pub vote_committed : S.vote_committed ≡ t.vote.committed
  pub front : S.front ≡ next t.front
  pub entries : S.entries ≡ images (values_of t.log)
  pub snapshot : S.snapshot ≡ images t.snap
  pub saved : S.saved ≡ next t.saved
  pub saved_leader : S.saved_leader ≡ last_number t.saved
  pub applied : S.committed ≡ length t.applied
  pub front_is : FrontIs s t.front S.snapshot
  pub vote_named : IsNamed t.vote.leader_id
  pub saved_named : IdNamed t.saved
  pub entries_fit : EntriesFit s (values_of t.log)
  pub snapshot_fit : EntriesFit s t.snap

-- Messages. The ideal world doesn't know for whom a message is, and no condition reads where a session's membership
-- stands.

-- a leader's vote: committed, of a node that isn't the addressee
pub record IsLeaders (to : ℕ) (v : Vote ℕ) : Type 0 where
  pub committed : v.committed ≡ true
  pub named : IsNamed v.leader_id
  pub away : v.leader_id.node_id ≢ to

-- an ideal append request is one of the world
pub record AppendIs (o : Origin) (prev : Option (LogId ℕ)) (es : List Entry) (told : Option (LogId ℕ)) (r : Append Entry) : Type 0 where
  pub session : r.session.leader ≡ number o.session_id.vote.leader_id
  pub from : r.from ≡ next prev
  pub previous : r.previous ≡ last_number prev
  pub entries : r.entries ≡ images es
  pub committed : r.committed ≡ next told
  pub committed_leader : r.committed_leader ≡ last_number told

-- an append request was sent in the ideal world; the leaders that it names are u64s, and its entries follow on from the
-- previous id
pub record AppendSent (s : Setup Entry) (to : ℕ) (o : Origin) (prev : Option (LogId ℕ)) (es : List Entry) (told : Option (LogId ℕ)) (W : Ideal) : Type 0 where
  pub leaders : IsLeaders to o.session_id.vote
  pub prev_named : IdNamed prev
  pub run : IsRun (next prev) (map (λ (e : Entry). e.log_id) es)
  pub entries_fit : EntriesFit s es
  pub told_named : IdNamed told
  pub request : Append Entry
  pub is : AppendIs o prev es told request
  pub sent : Includes W.messages (Sent request)

-- a snapshot was sent, whose meta tells of its entries
pub record SnapshotSent (s : Setup Entry) (to : ℕ) (o : Origin) (snapshot : WorldSnapshot) (W : Ideal) : Type 0 where
  pub leaders : IsLeaders to o.session_id.vote
  pub entries_fit : EntriesFit s snapshot.snapshot
  pub tells : SnapshotTells nat_cmp entry_meaning snapshot.meta snapshot.snapshot
  pub session : Session
  pub leader : session.leader ≡ number o.session_id.vote.leader_id
  pub sent : Includes W.messages (SentSnapshot session (images snapshot.snapshot))

-- a request for votes was sent, by a candidate to another node
pub record VoteAsked (to : ℕ) (req : VoteRequest ℕ) (W : Ideal) : Type 0 where
  pub pending : req.vote.committed ≡ false
  pub named : IsNamed req.vote.leader_id
  pub last_named : IdNamed req.last_log_id
  pub away : req.vote.leader_id.node_id ≢ to
  pub sent : Includes W.messages (AskVote (number req.vote.leader_id) (last_number req.last_log_id) (next req.last_log_id))

-- a vote that a reply tells: it names a u64, and the node that it names has stored it, or a greater one
pub record VoteTold (v : Vote ℕ) (W : Ideal) : Type 0 where
  pub named : IsNamed v.leader_id
  pub claimed : number v.leader_id ≤ (W.store v.leader_id.node_id).vote

-- a vote that isn't committed and that a node may save: its own, or one that the node that it names has stored
abbrev pub MayBeSaved : ℕ → Vote ℕ → Ideal → Type 0
MayBeSaved n v W = (v.leader_id.node_id ≡ n) ⊎ (number v.leader_id ≤ (W.store v.leader_id.node_id).vote)

-- a reply to such a request: where it grants, the vote was granted
pub record VoteAnswered (from : ℕ) (resp : VoteResponse ℕ) (W : Ideal) : Type 0 where
  pub told : VoteTold resp.vote W
  pub granted : resp.vote_granted ≡ true → Includes W.messages (VoteGranted from (number resp.vote.leader_id))

-- node n has accepted all of leader d's log up to this very id
pub record AcceptedId (n : ℕ) (d : LeaderId ℕ) (x : LogId ℕ) (W : Ideal) : Type 0 where
  pub named : IsNamed x.leader_id
  pub session : Session
  pub leader : session.leader ≡ number d
  pub sent : Includes W.messages (Accepted n session (number x.leader_id) (suc x.index))

-- up to this id, if any
abbrev pub AcceptedUpTo : ℕ → Vote ℕ → Option (LogId ℕ) → Ideal → Type 0
AcceptedUpTo from v upto W = IfSome upto (λ x. AcceptedId from v.leader_id x W)

-- a reply to an append request: a success acknowledges the id that it names, none is partial, and a rejection tells a
-- vote
pub record AppendAnswered (from : ℕ) (o : Origin) (reply : AppendEntriesResponse ℕ) (upto : Option (LogId ℕ)) (W : Ideal) : Type 0 where
  pub success : is_success reply ≡ true → AcceptedUpTo from o.session_id.vote upto W
  pub whole : (x : Option (LogId ℕ)) → reply ≢ PartialSuccess x
  pub rejected : (v : Vote ℕ) → reply ≡ HigherVote v → VoteTold v W

-- a reply to a snapshot tells the node's vote; where that isn't above the leader's, it acknowledges the id that it names
pub record SnapshotAnswered (from : ℕ) (o : Origin) (reply : SnapshotResponse ℕ) (upto : Option (LogId ℕ)) (W : Ideal) : Type 0 where
  pub told : VoteTold reply.vote W
  pub success : is_gt (vote_cmp nat_cmp reply.vote o.session_id.vote) ≡ false → AcceptedUpTo from o.session_id.vote upto W

-- what a message says was said in the ideal world
abbrev pub BodyIs : Setup Entry → ℕ → ℕ → Body → Ideal → Type 0
BodyIs s from to (body.VoteRequest req) W = VoteAsked to req W
BodyIs s from to (body.VoteReply resp) W = VoteAnswered from resp W
BodyIs s from to (body.AppendRequest o prev es told) W = AppendSent s to o prev es told W
BodyIs s from to (body.AppendReply o reply prev upto) W = AppendAnswered from o reply upto W
BodyIs s from to (body.SnapshotRequest o snapshot) W = SnapshotSent s to o snapshot W
BodyIs s from to (body.SnapshotReply o reply upto) W = SnapshotAnswered from o reply upto W

abbrev pub MessageIs : Setup Entry → Ideal → Message → Type 0
MessageIs s W m = BodyIs s m.from m.to m.body W

-- Records

abbrev pub ExecutedIs : Ideal → Executed → Type 0
ExecutedIs W x = Includes W.executed (record { node = x.node; index = x.entry.log_id.index; entry = image x.entry })

abbrev pub InstalledIs : Ideal → Installed → Type 0
InstalledIs W x = Includes W.installed (record { node = x.node; entries = images x.entries })

-- what a leader decides is of its own
pub record DecidedIs (W : Ideal) (x : Decided (List Entry)) : Type 0 where
  pub own : x.log_id.leader_id ≡ x.leader_id
  pub there : Includes W.decided (record { leader = number x.leader_id; index = x.log_id.index; entries = images x.log })

abbrev pub EstablishedIs : Ideal → Established (List Entry) → Type 0
EstablishedIs W x = Includes W.established (record { leader = number x.leader_id; entries = images x.log })

-- each message of the bag, and each record, is in the ideal world
pub record RecordsAre (s : Setup Entry) (r : Records (List Entry)) (W : Ideal) : Type 0 where
  pub bag : AllByRecursion (MessageIs s W) r.bag
  pub executed : AllByRecursion (ExecutedIs W) r.executed
  pub installed : AllByRecursion (InstalledIs W) r.installed
  pub decided : AllByRecursion (DecidedIs W) r.decided
  pub established : AllByRecursion (EstablishedIs W) r.established

-- What commands change besides the store

-- a node's streams are the ideal ones: under a committed vote of its own
pub record SessionIs (n : ℕ) (q : ReplicationSessionId ℕ) (S : IdealStore) : Type 0 where
  pub leader : S.session.leader ≡ number q.vote.leader_id
  pub committed : q.vote.committed ≡ true
  pub own : q.vote.leader_id.node_id ≡ n
  pub named : IsNamed q.vote.leader_id

-- a node has streams just where it has ideal ones
abbrev pub StreamsAre : ℕ → Option (ReplicationSessionId ℕ) → IdealStore → Type 0
StreamsAre n None S = S.session.leader ≡ 0
StreamsAre n (Some q) S = SessionIs n q S

-- the streams go to other nodes; the note, the messages and the records are those of the ideal world
pub record RestIs (s : Setup Entry) (n : ℕ) (w : Effects (List Entry)) (W : Ideal) : Type 0 where
  pub session : StreamsAre n w.streams.session_id (W.store n)
  pub targets : AllByRecursion (λ x. x ≢ n) w.streams.targets
  pub noted : IfSome w.noted (λ es. (W.store n).noted ≡ images es)
  pub records : RecordsAre s w.records W
