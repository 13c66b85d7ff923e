-- The bytes of messages, of chunks of snapshots, and of packets.
use Rattle.std.specs.Prelude.{ℕ, ◌==◌, List, [], ◌∷◌, length, Option, Result, Ok, Err, if◌then◌else◌}
use Rattle.raft_state.specs.declared.ids.LogId.{LogId}
use Rattle.raft_command.specs.declared.message.AppendEntriesResponse.{AppendEntriesResponse}
use Rattle.raft_command.specs.declared.message.SnapshotResponse.{SnapshotResponse}
use Rattle.raft_store.specs.declared.entry.Entry.{Entry}
use Rattle.raft_store.specs.Types.{WorldSnapshot}
use Rattle.raft_calls.specs.declared.message.Body.{Body}
use Rattle.raft_calls.specs.declared.message.Body.TheVariants.{VoteRequest, VoteReply, AppendRequest, AppendReply, SnapshotRequest, SnapshotReply}
use Rattle.raft_calls.specs.declared.message.Message.{Message}
use Rattle.raft_calls.specs.declared.message.Origin.{Origin}
use Rattle.raft_codec.specs.declared.error.DecodeError.{DecodeError}
use Rattle.raft_codec.specs.declared.error.DecodeError.TheVariants.{Malformed}
use Rattle.raft_codec.specs.declared.error.Fault.TheVariants.{UnknownVersion}
use Rattle.raft_wire.specs.declared.packet.Chunk.{Chunk}
use Rattle.raft_wire.specs.declared.packet.Content.{Content}
use Rattle.raft_wire.specs.declared.packet.Content.TheVariants as carried
use Rattle.raft_wire.specs.declared.packet.Packet.{Packet}
use Rattle.raft_wire.specs.declared.packet.Version.{Version}
use Rattle.raft_wire.specs.declared.packet.TheConstants.{VERSION}
use Rattle.raft_codec.specs.Codec.{Codec, ◌>>=◌, number, raw, optional, list, pair, by_parts, tag_at, unknown_tag}
use Rattle.raft_wire.specs.Values.{log_id, snapshot_meta}
use Rattle.raft_wire.specs.Requests.{session, request_id, vote_request, vote_response, append_response, snapshot_response}
use Rattle.raft_wire.specs.Entries.{entry, snapshot}

-- where a request comes from: the session, the request's id, the moment of sending
unfoldable pub origin : Codec Origin
origin = by_parts
    (λ o. (o.session_id, (o.request_id, o.sent_at)))
    (λ p. record { session_id = p.0; request_id = p.1.0; sent_at = p.1.1 })
    (pair session (pair request_id number))

-- an append request behind its origin: the id before the entries, the entries, the leader's committed id
abbrev pub AppendParts : Type 0
AppendParts = Origin × (Option (LogId ℕ) × (List Entry × Option (LogId ℕ)))

abbrev pub append_request : Codec AppendParts
append_request = pair origin (pair (optional log_id) (pair (list entry) (optional log_id)))

-- an append reply behind its origin: the reply, the request's previous id, the id up to which a success acknowledges
abbrev pub ReplyParts : Type 0
ReplyParts = Origin × (AppendEntriesResponse ℕ × (Option (LogId ℕ) × Option (LogId ℕ)))

abbrev pub append_reply : Codec ReplyParts
append_reply = pair origin (pair append_response (pair (optional log_id) (optional log_id)))

abbrev pub snapshot_request : Codec (Origin × WorldSnapshot)
snapshot_request = pair origin snapshot

-- a snapshot reply behind its origin: the reply, the snapshot's last id
abbrev pub snapshot_reply : Codec (Origin × (SnapshotResponse ℕ × Option (LogId ℕ)))
snapshot_reply = pair origin (pair snapshot_response (optional log_id))

-- a body: 0 a vote request, 1 its reply, 2 an append request, 3 its reply, 4 a snapshot request, 5 its reply
unfoldable pub body : Codec Body
body = record { fits = fits; bytes = bytes; read = read } where
  fits : Body → Type 0
  fits (VoteRequest r) = vote_request.fits r
  fits (VoteReply r) = vote_response.fits r
  fits (AppendRequest o prev entries commit) = append_request.fits (o, (prev, (entries, commit)))
  fits (AppendReply o reply prev upto) = append_reply.fits (o, (reply, (prev, upto)))
  fits (SnapshotRequest o s) = snapshot_request.fits (o, s)
  fits (SnapshotReply o reply upto) = snapshot_reply.fits (o, (reply, upto))

  bytes : Body → List ℕ
  bytes (VoteRequest r) = 0 ∷ vote_request.bytes r
  bytes (VoteReply r) = 1 ∷ vote_response.bytes r
  bytes (AppendRequest o prev entries commit) = 2 ∷ append_request.bytes (o, (prev, (entries, commit)))
  bytes (AppendReply o reply prev upto) = 3 ∷ append_reply.bytes (o, (reply, (prev, upto)))
  bytes (SnapshotRequest o s) = 4 ∷ snapshot_request.bytes (o, s)
  bytes (SnapshotReply o reply upto) = 5 ∷ snapshot_reply.bytes (o, (reply, upto))

  read : List ℕ → Result (Body × List ℕ) DecodeError
  read front = do
    tag ← tag_at front
    if tag.0 == 0 then (vote_request.read tag.1 >>= λ r. Ok (VoteRequest r.0, r.1))
        else if tag.0 == 1 then (vote_response.read tag.1 >>= λ r. Ok (VoteReply r.0, r.1))
        else if tag.0 == 2 then (append_request.read tag.1 >>= λ p. Ok (AppendRequest p.0.0 p.0.1.0 p.0.1.1.0 p.0.1.1.1, p.1))
        else if tag.0 == 3 then (append_reply.read tag.1 >>= λ p. Ok (AppendReply p.0.0 p.0.1.0 p.0.1.1.0 p.0.1.1.1, p.1))
        else if tag.0 == 4 then (snapshot_request.read tag.1 >>= λ p. Ok (SnapshotRequest p.0.0 p.0.1, p.1))
        else if tag.0 == 5 then (snapshot_reply.read tag.1 >>= λ p. Ok (SnapshotReply p.0.0 p.0.1.0 p.0.1.1, p.1))
        else unknown_tag tag.1

-- a message: its sender, its addressee, its body
unfoldable pub message : Codec Message
message = by_parts
    (λ m. (m.from, (m.to, m.body)))
    (λ p. record { from = p.0; to = p.1.0; body = p.1.1 })
    (pair number (pair number body))

-- a chunk of a snapshot: sender, addressee, origin, meta, its place in the whole, the size of the whole, its bytes
unfoldable pub chunk : Codec Chunk
chunk = by_parts
    (λ c. (c.from, (c.to, (c.origin, (c.meta, (c.place, (c.total, c.bytes)))))))
    (λ p. record { from = p.0; to = p.1.0; origin = p.1.1.0; meta = p.1.1.1.0; place = p.1.1.1.1.0; total = p.1.1.1.1.1.0; bytes = p.1.1.1.1.1.1 })
    (pair number (pair number (pair origin (pair snapshot_meta (pair number (pair number raw))))))

-- what a packet carries: 0 a message, 1 a chunk
unfoldable pub content : Codec Content
content = record { fits = fits; bytes = bytes; read = read } where
  fits : Content → Type 0
  fits (carried.Message m) = message.fits m
  fits (carried.Chunk c) = chunk.fits c

  bytes : Content → List ℕ
  bytes (carried.Message m) = 0 ∷ message.bytes m
  bytes (carried.Chunk c) = 1 ∷ chunk.bytes c

  read : List ℕ → Result (Content × List ℕ) DecodeError
  read front = do
    tag ← tag_at front
    if tag.0 == 0 then (message.read tag.1 >>= λ m. Ok (carried.Message m.0, m.1))
        else if tag.0 == 1 then (chunk.read tag.1 >>= λ c. Ok (carried.Chunk c.0, c.1))
        else unknown_tag tag.1

-- a packet: the sender's start, what it carries
unfoldable pub packet : Codec Packet
packet = by_parts (λ p. (p.start, p.content)) (λ p. record { start = p.0; content = p.1 }) (pair number content)

-- the version of the format: one byte
unfoldable pub version : Codec Version
version = record {
  fits = λ _. Unit {0};
  bytes = λ _. VERSION ∷ [];
  read = λ front. do
    tag ← tag_at front
    if tag.0 == VERSION then Ok (record {}, tag.1) else Err (Malformed UnknownVersion (length front));
}
