-- The bytes of requests and replies between nodes.
use Rattle.std.specs.Prelude.{ℕ, ◌==◌, List, [], ◌∷◌, Result, Ok, if◌then◌else◌}
use Rattle.raft_command.specs.declared.message.AppendEntriesResponse.{AppendEntriesResponse}
use Rattle.raft_command.specs.declared.message.AppendEntriesResponse.TheVariants.{Success, PartialSuccess, Conflict, HigherVote}
use Rattle.raft_command.specs.declared.message.SnapshotResponse.{SnapshotResponse}
use Rattle.raft_command.specs.declared.message.VoteRequest.{VoteRequest}
use Rattle.raft_command.specs.declared.message.VoteResponse.{VoteResponse}
use Rattle.raft_command.specs.declared.replication.ReplicationSessionId.{ReplicationSessionId}
use Rattle.raft_command.specs.declared.replication.RequestId.{RequestId}
use Rattle.raft_command.specs.declared.replication.RequestId.TheVariants.{HeartBeat, AppendEntries, Snapshot}
use Rattle.raft_codec.specs.declared.error.DecodeError.{DecodeError}
use Rattle.raft_codec.specs.Codec.{Codec, ◌>>=◌, number, flag, optional, pair, by_parts, tag_at, unknown_tag}
use Rattle.raft_wire.specs.Values.{log_id, vote}

-- a session of replication: the leader's vote, the log id of the membership
unfoldable pub session : Codec (ReplicationSessionId ℕ)
session = by_parts
    (λ s. (s.vote, s.membership_log_id))
    (λ p. record { vote = p.0; membership_log_id = p.1 })
    (pair vote (optional log_id))

-- a request's id: 0 a heartbeat; 1, or 2 for a snapshot, and the number
unfoldable pub request_id : Codec RequestId
request_id = record { fits = fits; bytes = bytes; read = read } where
  fits : RequestId → Type 0
  fits HeartBeat = Unit {0}
  fits (AppendEntries id) = number.fits id
  fits (Snapshot id) = number.fits id

  bytes : RequestId → List ℕ
  bytes HeartBeat = 0 ∷ []
  bytes (AppendEntries id) = 1 ∷ number.bytes id
  bytes (Snapshot id) = 2 ∷ number.bytes id

  read : List ℕ → Result (RequestId × List ℕ) DecodeError
  read front = do
    tag ← tag_at front
    if tag.0 == 0 then Ok (HeartBeat, tag.1)
        else if tag.0 == 1 then (number.read tag.1 >>= λ id. Ok (AppendEntries id.0, id.1))
        else if tag.0 == 2 then (number.read tag.1 >>= λ id. Ok (Snapshot id.0, id.1))
        else unknown_tag tag.1

-- a request for a vote: the vote, the candidate's last log id
unfoldable pub vote_request : Codec (VoteRequest ℕ)
vote_request = by_parts
    (λ r. (r.vote, r.last_log_id))
    (λ p. record { vote = p.0; last_log_id = p.1 })
    (pair vote (optional log_id))

-- the reply: the vote of the node that answers, whether it granted, its last log id
unfoldable pub vote_response : Codec (VoteResponse ℕ)
vote_response = by_parts
    (λ r. (r.vote, (r.vote_granted, r.last_log_id)))
    (λ p. record { vote = p.0; vote_granted = p.1.0; last_log_id = p.1.1 })
    (pair vote (pair flag (optional log_id)))

-- the reply to entries: 0 all are held, 1 and up to which id, 2 the id before them isn't held, 3 and a higher vote
unfoldable pub append_response : Codec (AppendEntriesResponse ℕ)
append_response = record { fits = fits; bytes = bytes; read = read } where
  fits : AppendEntriesResponse ℕ → Type 0
  fits Success = Unit {0}
  fits (PartialSuccess upto) = (optional log_id).fits upto
  fits Conflict = Unit {0}
  fits (HigherVote v) = vote.fits v

  bytes : AppendEntriesResponse ℕ → List ℕ
  bytes Success = 0 ∷ []
  bytes (PartialSuccess upto) = 1 ∷ (optional log_id).bytes upto
  bytes Conflict = 2 ∷ []
  bytes (HigherVote v) = 3 ∷ vote.bytes v

  read : List ℕ → Result (AppendEntriesResponse ℕ × List ℕ) DecodeError
  read front = do
    tag ← tag_at front
    if tag.0 == 0 then Ok (Success, tag.1)
        else if tag.0 == 1 then ((optional log_id).read tag.1 >>= λ upto. Ok (PartialSuccess upto.0, upto.1))
        else if tag.0 == 2 then Ok (Conflict, tag.1)
        else if tag.0 == 3 then (vote.read tag.1 >>= λ v. Ok (HigherVote v.0, v.1))
        else unknown_tag tag.1

-- the reply to a snapshot: the vote of the node that answers
unfoldable pub snapshot_response : Codec (SnapshotResponse ℕ)
snapshot_response = by_parts (λ r. r.vote) (λ v. record { vote = v }) vote
