-- What a contract sees of a server.
use Rattle.std.specs.Prelude.{ℕ, List, Option}
use Rattle.raft_chunks.specs.Assembled.{Assembled}
use Rattle.raft_answers.specs.Requests.{Open}
use Rattle.raft_peers.specs.proof_packed.Nodes.{PackedMessage}
use Rattle.raft_peers.specs.raft_packed_server.Views.{ServerView}
use Rattle.raft_peers.specs.Parts.{Outgoing}
use Rattle.raft_reads.specs.Reads.{ReadsView}

-- A server: its id, the moment of its start, its clock, the server of `raft_packed_server`, its clients' requests without an answer, the index of the
-- last entry that it has handed out since its start, if no snapshot was installed with it or after it, and its clients' reads that need no
-- entry; the messages whose snapshots it encodes, those whose snapshots it sends in parts, and what it has of one that comes so. Its policy is not
-- seen: it chooses, and no promise rests on what.
pub record CoreView (S : Type 0) : Type 0 where
  pub id : ℕ
  pub start : ℕ
  pub clock : ℕ
  pub server : ServerView S
  pub requests : Open
  pub executed : Option ℕ
  pub reads : ReadsView
  pub preparing : List (PackedMessage S)
  pub outgoing : List Outgoing
  pub incoming : Assembled
