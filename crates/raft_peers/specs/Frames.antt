-- What servers send one another: packets; and beside them, which no node takes, questions whether a server would be elected, and where parts of
-- snapshots are to go on.
use Rattle.std.specs.Prelude.{ℕ, ◌≡◌, List, ◌∷◌, ◌++◌, Some, slice_get}
use Rattle.raft_codec.specs.Codec.{Codec, flag, number, optional, raw}
use Rattle.raft_chunks.specs.Form.{cursor, sealed}
use Rattle.raft_wire.specs.Values.{log_id}
use Rattle.raft_packed_server.specs.raft_packed_wire.Messages.{packed_packet}
use Rattle.raft_packed_server.specs.raft_packed_wire.Values.{kept}
use Rattle.raft_peers.specs.declared.frame.Frame.{Frame}
use Rattle.raft_peers.specs.declared.frame.Frame.TheVariants as frames
use Rattle.raft_peers.specs.declared.frame.PartReply.{PartReply}
use Rattle.raft_peers.specs.declared.frame.PreVote.{PreVote}
use Rattle.raft_peers.specs.declared.frame.PreVoteReply.{PreVoteReply}
use Rattle.raft_peers.specs.declared.output.Output.{Output}
use Rattle.raft_peers.specs.declared.output.Output.TheVariants as outputs

-- a frame begins with its kind; a packet's snapshot stands there by its machine's form
abbrev pub IsFrame : {S : Type 0} → Codec S → List ℕ → Frame S → Type 0
IsFrame c bytes (frames.Packet p) = (packed_packet (kept c)).fits p × (bytes ≡ 0 ∷ (packed_packet (kept c)).bytes p)
IsFrame c bytes (frames.PreVote ask) = slice_get bytes 0 ≡ Some 1
IsFrame c bytes (frames.PreVoteReply reply) = slice_get bytes 0 ≡ Some 2
IsFrame c bytes (frames.PartReply reply) = slice_get bytes 0 ≡ Some 3

abbrev pub ask_bytes : PreVote → List ℕ
ask_bytes a = 1 ∷ (number.bytes a.from ++ (number.bytes a.to ++ (number.bytes a.term ++ (optional log_id).bytes a.last_log_id)))

abbrev pub grant_bytes : PreVoteReply → List ℕ
grant_bytes r = 2 ∷ (number.bytes r.from ++ (number.bytes r.to ++ (number.bytes r.term ++ flag.bytes r.granted)))

abbrev pub part_reply_bytes : PartReply → List ℕ
part_reply_bytes r = 3 ∷ (number.bytes r.from ++ (number.bytes r.to ++ raw.bytes (sealed cursor r.cursor)))

-- they leave
abbrev pub asked : {S : Type 0} → PreVote → Output S
asked a = outputs.Send a.to (ask_bytes a)

abbrev pub granted : {S : Type 0} → PreVoteReply → Output S
granted r = outputs.Send r.to (grant_bytes r)

abbrev pub answered : {S : Type 0} → PartReply → Output S
answered r = outputs.Send r.to (part_reply_bytes r)
