-- How requests are written, and that they are read.
use Rattle.std.specs.Prelude.{◌≡◌, ◌≢◌, ℕ, ◌<◌, ◌≤◌, ◌^◌, List, ◌++◌, length, Ok, Err}
use Rattle.std.specs.List.{AllByRecursion, flat_map}
use Rattle.raft_resp.specs.declared.error.Stop.TheVariants.{Unfinished}
use Rattle.raft_resp.specs.declared.requests.Limits.{Limits}
use Rattle.raft_resp.specs.Replies.{array, bulk}
use Rattle.raft_resp.specs.Requests.{Found, request_at}

-- a request, as clients write it: an array of words
abbrev pub request_bytes : List (List ℕ) → List ℕ
request_bytes words = array (length words) ++ flat_map bulk words

-- it is within the limits
pub record Fits (limits : Limits) (words : List (List ℕ)) : Type 0 where
  pub count : length words ≤ limits.words
  pub small : length words < 2 ^ 63
  pub each : AllByRecursion (λ word. length word ≤ limits.word) words
  pub short : AllByRecursion (λ word. length word < 2 ^ 64) words

-- what is written is read, whatever follows it
abbrev pub RequestsAreRead : Type 0
RequestsAreRead = (limits : Limits) (words : List (List ℕ)) (rest : List ℕ) → Fits limits words → request_at limits (request_bytes words ++ rest) ≡ Ok (words, rest)

-- what was found, with more bytes behind
abbrev pub with_more : {X : Type 0} → List ℕ → Found X → Found X
with_more more (Ok x) = Ok (x.0, x.1 ++ more)
with_more more (Err e) = Err e

-- What is read doesn't depend on the pieces in which it comes: once it isn't unfinished, more bytes change nothing.
abbrev pub Stays : {X : Type 0} → (List ℕ → Found X) → Type 0
Stays read = (bytes more : List ℕ) → read bytes ≢ Err Unfinished → read (bytes ++ more) ≡ with_more more (read bytes)

abbrev pub RequestsComeInPieces : Type 0
RequestsComeInPieces = (limits : Limits) → Stays (request_at limits)
