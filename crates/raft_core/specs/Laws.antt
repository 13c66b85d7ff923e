-- Each client gets one answer, and a true one.
use Rattle.std.specs.Prelude.{ℕ, ◌≡◌, List, [], ◌∷◌, ◌++◌, map}
use Rattle.std.specs.List.{AllByRecursion}
use Rattle.raft_answers.specs.declared.answer.Answer.TheVariants as answers
use Rattle.raft_answers.specs.declared.answer.Reply.{Reply}
use Rattle.raft_answers.specs.declared.request.Operation.{Operation}
use Rattle.raft_answers.specs.declared.request.Token.{Token}
use Rattle.raft_answers.specs.Laws.{AnswersFirst}
use Rattle.raft_answers.specs.Requests.{tokens_of}
use Rattle.raft_codec.specs.Codec.{Codec}
use Rattle.raft_peers.specs.proof_packed.Stores.{Application}
use Rattle.raft_peers.specs.declared.output.Output.{Output}
use Rattle.raft_peers.specs.declared.output.Output.TheVariants as outputs
use Rattle.raft_core.specs.Views.{CoreView}
use Rattle.raft_reads.specs.Reads.{read_tokens}
use Rattle.raft_core.specs.Calls.{Admits, AdmitsRead, Receives, Releases, Ticks, Writes}

-- the replies that leave
abbrev pub replies_of : {S : Type 0} → List (Output S) → List Reply
replies_of [] = []
replies_of (outputs.Reply r ∷ out) = r ∷ replies_of out
replies_of (_ ∷ out) = replies_of out

-- What leaves answers the first of the requests without an answer, in their order, and leaves the others.
abbrev pub AnswersOnce : {S : Type 0} → CoreView S → List (Output S) → CoreView S → Type 0
AnswersOnce old out new = AnswersFirst old.requests (replies_of out) new.requests

-- A request that is taken gets a place behind the others; each call answers the first of them. So each request has at most one answer, and that
-- after it came.
pub record ClientsAreAnsweredOnce {S : Type 0} (app : Application S) (c : Codec S) : Type 0 where
  pub admits : (token : Token) (operation : Operation) (old new : CoreView S) → Admits token operation old new
      → tokens_of new.requests ≡ tokens_of old.requests ++ token ∷ []
  pub ticks : (old new : CoreView S) (out : List (Output S)) → Ticks app old out new → AnswersOnce old out new
  pub receives : (bytes : List ℕ) (old new : CoreView S) (out : List (Output S)) → Receives app c bytes old out new → AnswersOnce old out new
  pub writes : (old new : CoreView S) (out : List (Output S)) → Writes app c old out new → AnswersOnce old out new
  pub releases : (position : ℕ) (old new : CoreView S) (out : List (Output S)) → Releases app c position old out new → AnswersOnce old out new

-- Reads

-- the answers to reads that leave
abbrev pub read_replies_of : {S : Type 0} → List (Output S) → List Reply
read_replies_of [] = []
read_replies_of (outputs.Read r ∷ out) = r ∷ read_replies_of out
read_replies_of (_ ∷ out) = read_replies_of out

-- What leaves answers the first of the reads without an answer, in their order, and leaves the others.
abbrev pub AnswersReads : {S : Type 0} → CoreView S → List (Output S) → CoreView S → Type 0
AnswersReads old out new = read_tokens old.reads ≡ map (λ r. r.token) (read_replies_of out) ++ read_tokens new.reads

-- A read that is taken gets a place behind the others; each call answers the first of them. So each read has at most one answer, and that after
-- it came.
pub record ReadsAreAnsweredOnce {S : Type 0} (app : Application S) (c : Codec S) : Type 0 where
  pub admits : (token : Token) (old new : CoreView S) → AdmitsRead token old new → read_tokens new.reads ≡ read_tokens old.reads ++ token ∷ []
  pub ticks : (old new : CoreView S) (out : List (Output S)) → Ticks app old out new → AnswersReads old out new
  pub receives : (bytes : List ℕ) (old new : CoreView S) (out : List (Output S)) → Receives app c bytes old out new → AnswersReads old out new
  pub writes : (old new : CoreView S) (out : List (Output S)) → Writes app c old out new → AnswersReads old out new
  pub releases : (position : ℕ) (old new : CoreView S) (out : List (Output S)) → Releases app c position old out new → AnswersReads old out new

-- no `Ok`
abbrev pub IsNotOk : Reply → Type 0
IsNotOk r = (index : ℕ) → r.answer ≡ answers.Ok index → ⊥

abbrev pub NoneIsOk : {S : Type 0} → List (Output S) → Type 0
NoneIsOk out = AllByRecursion IsNotOk (replies_of out)

-- `Ok` leaves only when steps come on disk: with the entry for which the request waited (`Releases`, `said_outputs`)
pub record OnlyReleasesTellOk {S : Type 0} (app : Application S) (c : Codec S) : Type 0 where
  pub ticks : (old new : CoreView S) (out : List (Output S)) → Ticks app old out new → NoneIsOk out
  pub receives : (bytes : List ℕ) (old new : CoreView S) (out : List (Output S)) → Receives app c bytes old out new → NoneIsOk out
  pub writes : (old new : CoreView S) (out : List (Output S)) → Writes app c old out new → NoneIsOk out

-- Reads are told `Ok` only when a message comes, or when steps come on disk, by which the round is over (`is_over`).
pub record OnlyRoundsTellOk {S : Type 0} (app : Application S) (c : Codec S) : Type 0 where
  pub ticks : (old new : CoreView S) (out : List (Output S)) → Ticks app old out new → AllByRecursion IsNotOk (read_replies_of out)
  pub writes : (old new : CoreView S) (out : List (Output S)) → Writes app c old out new → AllByRecursion IsNotOk (read_replies_of out)
