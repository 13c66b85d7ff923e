-- The codecs of requests and replies are inverse to their writers.
use Rattle.std.proofs.Common.{ℕ, ◌≡◌, ◌<◌, eqb, List, ◌++◌, length, Ok, refl, inl, inr, arith}
use Rattle.raft_command.specs.declared.message.AppendEntriesResponse.{AppendEntriesResponse}
use Rattle.raft_command.specs.declared.message.AppendEntriesResponse.TheVariants.{Success, PartialSuccess, Conflict, HigherVote}
use Rattle.raft_command.specs.declared.replication.RequestId.{RequestId}
use Rattle.raft_command.specs.declared.replication.RequestId.TheVariants.{HeartBeat, AppendEntries, Snapshot}
use Rattle.raft_codec.specs.Codec.{IsCodec, number, flag, optional, pair, tag_at}
use Rattle.raft_codec.specs.CodecLaws.{Stands, bind_ok, chosen, number_is, flag_is, optional_is, pair_is, by_parts_is}
use Rattle.raft_codec.specs.VariantLaws.{bare_stands, variant_stands}
use Rattle.raft_wire.specs.Values.{log_id, vote}
use Rattle.raft_wire.specs.ValueLaws.{log_id_is, vote_is}
use Rattle.raft_wire.specs.Requests.{session, request_id, vote_request, vote_response, append_response, snapshot_response}

pub optional_id_is : IsCodec (optional log_id)
optional_id_is = optional_is log_id log_id_is

pub session_is : IsCodec session
unfolding session
session_is = by_parts_is _ _ _ (λ s. refl) (λ p. refl) (pair_is vote (optional log_id) vote_is optional_id_is)

pub vote_request_is : IsCodec vote_request
unfolding vote_request
vote_request_is = by_parts_is _ _ _ (λ r. refl) (λ p. refl) (pair_is vote (optional log_id) vote_is optional_id_is)

pub vote_response_is : IsCodec vote_response
unfolding vote_response
vote_response_is = by_parts_is _ _ _ (λ r. refl) (λ p. refl) (pair_is vote (pair flag (optional log_id)) vote_is (pair_is flag (optional log_id) flag_is optional_id_is))

pub snapshot_response_is : IsCodec snapshot_response
unfolding snapshot_response
snapshot_response_is = by_parts_is _ _ _ (λ r. refl) (λ v. refl) vote_is

-- ---- the ids of requests

request_some : (id : RequestId) → 0 < length (request_id.bytes id)
unfolding request_id
request_some HeartBeat = omega arith
request_some (AppendEntries id) = omega arith
request_some (Snapshot id) = omega arith

request_back : (id : RequestId) (rest : List ℕ) → request_id.fits id → request_id.read (request_id.bytes id ++ rest) ≡ Ok (id, rest)
unfolding request_id tag_at
request_back HeartBeat rest f = refl
request_back (AppendEntries id) rest f = rw (number_is.read_back id rest f) refl
request_back (Snapshot id) rest f = rw (number_is.read_back id rest f) refl

request_written : (front : List ℕ) (found : RequestId × List ℕ) → request_id.read front ≡ Ok found → Stands request_id front found
unfolding request_id
request_written front found e =
    let t = bind_ok (tag_at front) _ found e in
    elim (chosen (eqb t.0.0 0) _ _ _ t.2) [
      | inl k ↦ bare_stands request_id front found t.0 0 HeartBeat t.1 k.0 k.1 tt refl
      | inr k ↦ elim (chosen (eqb t.0.0 1) _ _ _ k.1) [
        | inl l ↦ variant_stands request_id front found t.0 1 number number_is AppendEntries t.1 l.0 l.1 (λ x f. f) (λ x. refl)
        | inr l ↦ elim (chosen (eqb t.0.0 2) _ _ _ l.1) [
          | inl m ↦ variant_stands request_id front found t.0 2 number number_is Snapshot t.1 m.0 m.1 (λ x f. f) (λ x. refl)
          | inr m ↦ absurd cc
        ]
      ]
    ]

pub request_id_is : IsCodec request_id
request_id_is = record { written = request_written; some = request_some; read_back = request_back }

-- ---- replies to entries

append_some : (r : AppendEntriesResponse ℕ) → 0 < length (append_response.bytes r)
unfolding append_response
append_some Success = omega arith
append_some (PartialSuccess upto) = omega arith
append_some Conflict = omega arith
append_some (HigherVote v) = omega arith

append_back : (r : AppendEntriesResponse ℕ) (rest : List ℕ) → append_response.fits r → append_response.read (append_response.bytes r ++ rest) ≡ Ok (r, rest)
unfolding append_response tag_at
append_back Success rest f = refl
append_back (PartialSuccess upto) rest f = rw (optional_id_is.read_back upto rest f) refl
append_back Conflict rest f = refl
append_back (HigherVote v) rest f = rw (vote_is.read_back v rest f) refl

append_written : (front : List ℕ) (found : AppendEntriesResponse ℕ × List ℕ) → append_response.read front ≡ Ok found → Stands append_response front found
unfolding append_response
append_written front found e =
    let t = bind_ok (tag_at front) _ found e in
    elim (chosen (eqb t.0.0 0) _ _ _ t.2) [
      | inl k ↦ bare_stands append_response front found t.0 0 Success t.1 k.0 k.1 tt refl
      | inr k ↦ elim (chosen (eqb t.0.0 1) _ _ _ k.1) [
        | inl l ↦ variant_stands append_response front found t.0 1 (optional log_id) optional_id_is PartialSuccess t.1 l.0 l.1 (λ x f. f) (λ x. refl)
        | inr l ↦ elim (chosen (eqb t.0.0 2) _ _ _ l.1) [
          | inl m ↦ bare_stands append_response front found t.0 2 Conflict t.1 m.0 m.1 tt refl
          | inr m ↦ elim (chosen (eqb t.0.0 3) _ _ _ m.1) [
            | inl n ↦ variant_stands append_response front found t.0 3 vote vote_is HigherVote t.1 n.0 n.1 (λ x f. f) (λ x. refl)
            | inr n ↦ absurd cc
          ]
        ]
      ]
    ]

pub append_response_is : IsCodec append_response
append_response_is = record { written = append_written; some = append_some; read_back = append_back }
