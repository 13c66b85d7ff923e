-- Requests without an answer, and what is proposed for them.
use Rattle.std.specs.Prelude.{ℕ, ◌≡◌, ◌+◌, ◌-◌, min, ◌^◌, List, [], ◌∷◌, ◌++◌, length, map, take, drop}
use Rattle.std.specs.List.{fold}
use Rattle.raft_state.specs.declared.ids.LogId.{LogId}
use Rattle.raft_answers.specs.declared.batch.Batch.{Batch}
use Rattle.raft_answers.specs.declared.batch.Place.{Place}
use Rattle.raft_answers.specs.declared.request.Operation.{Operation}
use Rattle.raft_answers.specs.declared.request.Operation.TheVariants.{Read, Write}
use Rattle.raft_answers.specs.declared.request.Proposal.{Proposal}
use Rattle.raft_answers.specs.declared.request.Request.{Request}
use Rattle.raft_answers.specs.declared.request.Token.{Token}

-- the requests without an answer, in the order in which they came: those that were proposed, and those that wait for it
pub record Open : Type 0 where
  pub proposed : List Proposal
  pub waiting : List Request

abbrev pub no_requests : Open
no_requests = record { proposed = []; waiting = [] }

-- their tokens
abbrev pub tokens_of : Open → List Token
tokens_of o = map (λ p. p.token) o.proposed ++ map (λ r. r.token) o.waiting

-- how many bytes a request has
abbrev pub len_of : Operation → ℕ
len_of (Write bytes) = length bytes
len_of Read = 0

-- Batches

pub record Batched : Type 0 where
  pub places : List Place
  pub values : List (List ℕ)

abbrev pub batched : Batch → Batched
batched b = record { places = b.places.items; values = b.values.items }

abbrev pub no_batch : Batched
no_batch = record { places = []; values = [] }

-- a write adds its value; a read waits for the value before it, and adds a marker without bytes if there is none
abbrev pub with_value : Operation → List (List ℕ) → List (List ℕ)
with_value (Write bytes) values = values ++ bytes ∷ []
with_value Read [] = [] ∷ []
with_value Read (value ∷ values) = value ∷ values

-- the place of the last value
abbrev pub place_of : List (List ℕ) → ℕ
place_of values = length values - 1

-- one more request, which waits for the last value then
abbrev pub with_request : Request → Batched → Batched
with_request r b =
    let values = with_value r.operation b.values in
    record { places = b.places ++ record { token = r.token; since = r.since; value = place_of values } ∷ []; values = values }

-- the batch of these requests
abbrev pub batch_of : List Request → Batched
batch_of rs = fold (λ b r. with_request r b) no_batch rs

-- the oldest requests that wait became a batch
pub record IsBatched (old new : Open) (b : Batched) : Type 0 where
  pub count : ℕ
  pub batch : b ≡ batch_of (take count old.waiting)
  pub left : new ≡ record old { waiting = drop count old.waiting }

-- the id of a value, by the id of the first
abbrev pub id_at : LogId ℕ → ℕ → LogId ℕ
id_at first value = record { leader_id = first.leader_id; index = min (first.index + value) (2 ^ 64 - 1) }

-- a request of a batch whose first value has this id: it waits for the entry of its value
abbrev pub proposal_at : LogId ℕ → Place → Proposal
proposal_at first p = record { token = p.token; since = p.since; log_id = id_at first p.value }
