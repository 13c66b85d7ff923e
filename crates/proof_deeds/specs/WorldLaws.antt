-- What each run of a world promises, whatever its voters, whatever its events, and at each moment of it.
use Rattle.std.specs.Prelude.{List}
use Rattle.raft_node.specs.raft_schedule.declared.event.Event.{Event}
use Rattle.raft_node.specs.declared.given.Given.{Given}
use Rattle.raft_node.specs.Chosen.{DecidedAreChosen, KeepsChosen}
use Rattle.raft_node.specs.Held.{AllResting}
use Rattle.raft_node.specs.MayKeep.{AllMayKeep}
use Rattle.raft_node.specs.Runs.{world_after}
use Rattle.raft_node.specs.Safety.{Agrees, AppliedAgree, AppliedAreDecided, AppendsOnly, AtEachMoment, BeginsFirst, DecidedEnd, ExecutedAreDecided, IsComplete, Matches, Mirrored, ReadsSee, StandsAbove}
use Rattle.raft_node.specs.WellFormed.{IsWellFormed}

-- of each world that can be made, after any events
abbrev pub OfEachWorld : (Given → List Event → Type 0) → Type 0
OfEachWorld P = (given : Given) → IsWellFormed given → (es : List Event) → P given es

-- state machine safety; after the last event too
abbrev pub WorldsAgree : Type 0
WorldsAgree = OfEachWorld (λ given es. AtEachMoment Agrees given es × Agrees (world_after given es))

-- leader completeness
abbrev pub WorldsComplete : Type 0
WorldsComplete = OfEachWorld (AtEachMoment IsComplete)

-- a decided log ends with its id, which is the leader's own
abbrev pub WorldsEnd : Type 0
WorldsEnd = OfEachWorld (AtEachMoment DecidedEnd)

-- only what was decided is executed or installed
abbrev pub WorldsExecuteDecided : Type 0
WorldsExecuteDecided = OfEachWorld (AtEachMoment ExecutedAreDecided)

-- so is what state machines have taken
abbrev pub WorldsApplyDecided : Type 0
WorldsApplyDecided = OfEachWorld (AtEachMoment AppliedAreDecided)

-- each log begins with the first entry
abbrev pub WorldsBegin : Type 0
WorldsBegin = OfEachWorld (λ given. AtEachMoment (BeginsFirst given) given)

-- log matching
abbrev pub WorldsMatch : Type 0
WorldsMatch = OfEachWorld (AtEachMoment Matches)

-- leader append-only
abbrev pub WorldsAppendOnly : Type 0
WorldsAppendOnly = OfEachWorld (AtEachMoment AppendsOnly)

-- state machines take the same entries in the same order
abbrev pub WorldsApply : Type 0
WorldsApply = OfEachWorld (AtEachMoment AppliedAgree)

-- a leader's own entries stand above all that leaders of smaller ids ever decide
abbrev pub WorldsStandAbove : Type 0
WorldsStandAbove = OfEachWorld (AtEachMoment StandsAbove)

-- so a read misses nothing of that
abbrev pub WorldsRead : Type 0
WorldsRead = OfEachWorld (AtEachMoment ReadsSee)

-- running engines are what their stores say
abbrev pub WorldsMirror : Type 0
WorldsMirror = OfEachWorld (λ given es. Mirrored (world_after given es))

-- leader completeness, of what a quorum has acknowledged
abbrev pub WorldsKeepChosen : Type 0
WorldsKeepChosen = OfEachWorld KeepsChosen

-- what a leader decides, a quorum has acknowledged to it
abbrev pub WorldsDecideChosen : Type 0
WorldsDecideChosen = OfEachWorld DecidedAreChosen

-- between two events nodes are at rest: their engines are sound, with nothing queued, and
-- what they have noted for a snapshot fits
abbrev pub WorldsRest : Type 0
WorldsRest = OfEachWorld (λ given es. AllResting (world_after given es).nodes)

-- no store has a gap, each can take the command that is queued first, and what is recorded of a leader's whole log only
-- grows
abbrev pub WorldsMayKeep : Type 0
WorldsMayKeep = OfEachWorld (AtEachMoment AllMayKeep)
