-- When a call fails only if memory runs out, or the index behind the last entry that is applied has no 64 bits.
use Rattle.std.specs.Prelude.{ℕ, ◌<◌, ◌≤◌, ◌+◌, ◌^◌, IfSome, List, [], ◌∷◌, Option, length}
use Rattle.raft_frames.specs.Format.{after}
use Rattle.raft_frames.specs.declared.tail.Tail.{Tail}
use Rattle.raft_frames.specs.declared.tail.TheConstants.{MAX_FRAME}
use Rattle.raft_packed_wire.specs.raft_packed_node.Held.{RunsOut}
use Rattle.raft_packed_server.specs.declared.error.ServerError.{ServerError}
use Rattle.raft_packed_server.specs.declared.error.ServerError.TheVariants.{Step}

-- a step failed because memory or numbers ran out
abbrev pub StepRunsOut : ServerError → Type 0
StepRunsOut (Step e) = RunsOut e
StepRunsOut _ = ⊥

-- A payload fits a frame at the log's end: it has no more bytes than a frame may have, and the position behind it has a number.
pub record FitsAt (tail : Tail) (payload : List ℕ) : Type 0 where
  pub short : length payload ≤ MAX_FRAME
  pub place : tail.position + (12 + length payload) < 2 ^ 64

-- Payloads fit frames, one behind the other.
abbrev pub FitFrom : Tail → List (List ℕ) → Type 0
FitFrom tail [] = Unit {0}
FitFrom tail (payload ∷ payloads) = FitsAt tail payload × FitFrom (after tail payload) payloads

-- It fits at the end of the log, and at the end of the one that is on its way, if one is.
pub record FitsBoth (tail : Tail) (next : Option Tail) (payload : List ℕ) : Type 0 where
  pub here : FitsAt tail payload
  pub beside : IfSome next (λ t. FitsAt t payload)
