-- The codecs of messages and packets are inverse to their writers.
use Rattle.std.proofs.Common.{ℕ, ◌≡◌, ◌<◌, eqb, List, ◌++◌, length, Ok, refl, inl, inr, arith}
use Rattle.raft_calls.specs.declared.message.Body.{Body}
use Rattle.raft_calls.specs.declared.message.Body.TheVariants.{VoteRequest, VoteReply, AppendRequest, AppendReply, SnapshotRequest, SnapshotReply}
use Rattle.raft_wire.specs.declared.packet.Content.{Content}
use Rattle.raft_wire.specs.declared.packet.Content.TheVariants as carried
use Rattle.raft_wire.specs.declared.packet.Version.{Version}
use Rattle.raft_codec.specs.Codec.{IsCodec, number, raw, optional, list, pair, tag_at}
use Rattle.raft_codec.specs.CodecLaws.{Stands, bind_ok, chosen, number_is, raw_is, pair_is, by_parts_is}
use Rattle.raft_codec.specs.VariantLaws.{bare_stands, variant_stands}
use Rattle.raft_wire.specs.Values.{log_id, snapshot_meta}
use Rattle.raft_wire.specs.ValueLaws.{snapshot_meta_is}
use Rattle.raft_wire.specs.Requests.{session, request_id, vote_request, vote_response, append_response, snapshot_response}
use Rattle.raft_wire.specs.RequestLaws.{optional_id_is, session_is, request_id_is, vote_request_is, vote_response_is, append_response_is, snapshot_response_is}
use Rattle.raft_wire.specs.Entries.{entry, snapshot}
use Rattle.raft_wire.specs.EntryLaws.{entries_is, snapshot_is}
use Rattle.raft_wire.specs.Messages.{origin, append_request, append_reply, snapshot_request, snapshot_reply, body, message, chunk, content, packet, version}

pub origin_is : IsCodec origin
unfolding origin
origin_is = by_parts_is _ _ _ (λ o. refl) (λ p. refl) (pair_is session (pair request_id number) session_is (pair_is request_id number request_id_is number_is))

append_request_is : IsCodec append_request
append_request_is = pair_is origin (pair (optional log_id) (pair (list entry) (optional log_id))) origin_is
    (pair_is (optional log_id) (pair (list entry) (optional log_id)) optional_id_is (pair_is (list entry) (optional log_id) entries_is optional_id_is))

append_reply_is : IsCodec append_reply
append_reply_is = pair_is origin (pair append_response (pair (optional log_id) (optional log_id))) origin_is
    (pair_is append_response (pair (optional log_id) (optional log_id)) append_response_is (pair_is (optional log_id) (optional log_id) optional_id_is optional_id_is))

snapshot_request_is : IsCodec snapshot_request
snapshot_request_is = pair_is origin snapshot origin_is snapshot_is

snapshot_reply_is : IsCodec snapshot_reply
snapshot_reply_is = pair_is origin (pair snapshot_response (optional log_id)) origin_is (pair_is snapshot_response (optional log_id) snapshot_response_is optional_id_is)

body_some : (b : Body) → 0 < length (body.bytes b)
unfolding body
body_some (VoteRequest r) = omega arith
body_some (VoteReply r) = omega arith
body_some (AppendRequest o prev entries commit) = omega arith
body_some (AppendReply o reply prev upto) = omega arith
body_some (SnapshotRequest o s) = omega arith
body_some (SnapshotReply o reply upto) = omega arith

body_back : (b : Body) (rest : List ℕ) → body.fits b → body.read (body.bytes b ++ rest) ≡ Ok (b, rest)
unfolding body tag_at
body_back (VoteRequest r) rest f = rw (vote_request_is.read_back r rest f) refl
body_back (VoteReply r) rest f = rw (vote_response_is.read_back r rest f) refl
body_back (AppendRequest o prev entries commit) rest f = rw (append_request_is.read_back (o, (prev, (entries, commit))) rest f) refl
body_back (AppendReply o reply prev upto) rest f = rw (append_reply_is.read_back (o, (reply, (prev, upto))) rest f) refl
body_back (SnapshotRequest o s) rest f = rw (snapshot_request_is.read_back (o, s) rest f) refl
body_back (SnapshotReply o reply upto) rest f = rw (snapshot_reply_is.read_back (o, (reply, upto)) rest f) refl

body_written : (front : List ℕ) (found : Body × List ℕ) → body.read front ≡ Ok found → Stands body front found
unfolding body
body_written front found e =
    let t = bind_ok (tag_at front) _ found e in
    elim (chosen (eqb t.0.0 0) _ _ _ t.2) [
      | inl k ↦ variant_stands body front found t.0 0 vote_request vote_request_is VoteRequest t.1 k.0 k.1 (λ x f. f) (λ x. refl)
      | inr k ↦ elim (chosen (eqb t.0.0 1) _ _ _ k.1) [
        | inl l ↦ variant_stands body front found t.0 1 vote_response vote_response_is VoteReply t.1 l.0 l.1 (λ x f. f) (λ x. refl)
        | inr l ↦ elim (chosen (eqb t.0.0 2) _ _ _ l.1) [
          | inl m ↦ variant_stands body front found t.0 2 append_request append_request_is (λ p. AppendRequest p.0 p.1.0 p.1.1.0 p.1.1.1) t.1 m.0 m.1 (λ x f. f) (λ x. refl)
          | inr m ↦ elim (chosen (eqb t.0.0 3) _ _ _ m.1) [
            | inl n ↦ variant_stands body front found t.0 3 append_reply append_reply_is (λ p. AppendReply p.0 p.1.0 p.1.1.0 p.1.1.1) t.1 n.0 n.1 (λ x f. f) (λ x. refl)
            | inr n ↦ elim (chosen (eqb t.0.0 4) _ _ _ n.1) [
              | inl o ↦ variant_stands body front found t.0 4 snapshot_request snapshot_request_is (λ p. SnapshotRequest p.0 p.1) t.1 o.0 o.1 (λ x f. f) (λ x. refl)
              | inr o ↦ elim (chosen (eqb t.0.0 5) _ _ _ o.1) [
                | inl p ↦ variant_stands body front found t.0 5 snapshot_reply snapshot_reply_is (λ p. SnapshotReply p.0 p.1.0 p.1.1) t.1 p.0 p.1 (λ x f. f) (λ x. refl)
                | inr p ↦ absurd cc
              ]
            ]
          ]
        ]
      ]
    ]

pub body_is : IsCodec body
body_is = record { written = body_written; some = body_some; read_back = body_back }

pub message_is : IsCodec message
unfolding message
message_is = by_parts_is _ _ _ (λ m. refl) (λ p. refl) (pair_is number (pair number body) number_is (pair_is number body number_is body_is))

pub chunk_is : IsCodec chunk
unfolding chunk
chunk_is = by_parts_is _ _ _ (λ c. refl) (λ p. refl)
    (pair_is number _ number_is (pair_is number _ number_is (pair_is origin _ origin_is (pair_is snapshot_meta _ snapshot_meta_is (pair_is number _ number_is (pair_is number raw number_is raw_is))))))

content_some : (c : Content) → 0 < length (content.bytes c)
unfolding content
content_some (carried.Message m) = omega arith
content_some (carried.Chunk c) = omega arith

content_back : (c : Content) (rest : List ℕ) → content.fits c → content.read (content.bytes c ++ rest) ≡ Ok (c, rest)
unfolding content tag_at
content_back (carried.Message m) rest f = rw (message_is.read_back m rest f) refl
content_back (carried.Chunk c) rest f = rw (chunk_is.read_back c rest f) refl

content_written : (front : List ℕ) (found : Content × List ℕ) → content.read front ≡ Ok found → Stands content front found
unfolding content
content_written front found e =
    let t = bind_ok (tag_at front) _ found e in
    elim (chosen (eqb t.0.0 0) _ _ _ t.2) [
      | inl k ↦ variant_stands content front found t.0 0 message message_is carried.Message t.1 k.0 k.1 (λ x f. f) (λ x. refl)
      | inr k ↦ elim (chosen (eqb t.0.0 1) _ _ _ k.1) [
        | inl l ↦ variant_stands content front found t.0 1 chunk chunk_is carried.Chunk t.1 l.0 l.1 (λ x f. f) (λ x. refl)
        | inr l ↦ absurd cc
      ]
    ]

pub content_is : IsCodec content
content_is = record { written = content_written; some = content_some; read_back = content_back }

pub packet_is : IsCodec packet
unfolding packet
packet_is = by_parts_is _ _ _ (λ p. refl) (λ p. refl) (pair_is number content number_is content_is)

version_back : (v : Version) (rest : List ℕ) → version.fits v → version.read (version.bytes v ++ rest) ≡ Ok (v, rest)
unfolding version tag_at
version_back v rest f = refl

version_written : (front : List ℕ) (found : Version × List ℕ) → version.read front ≡ Ok found → Stands version front found
unfolding version
version_written front found e =
    let t = bind_ok (tag_at front) _ found e in
    elim (chosen (eqb t.0.0 1) _ _ _ t.2) [
      | inl k ↦ bare_stands version front found t.0 1 (record {}) t.1 k.0 k.1 tt refl
      | inr k ↦ absurd cc
    ]

pub version_is : IsCodec version
unfolding version
version_is = record { written = version_written; some = λ v. omega arith; read_back = version_back }
