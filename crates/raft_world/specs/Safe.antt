-- What each run of a world is: safe, whatever its voters and its events (Raft paper, sections 5 to 8, figure 3).
use Rattle.std.specs.Prelude.{ℕ, List, take}
use Rattle.raft_schedule.specs.declared.event.Event.{Event}
use Rattle.raft_node.specs.declared.given.Given.{Given}
use Rattle.raft_node.specs.Chosen.{DecidedAreChosen, KeepsChosen}
use Rattle.raft_node.specs.Held.{AllResting}
use Rattle.raft_node.specs.InTurn.{EndsInTurn, RepliesInTurn, StoresInTurn, WaitsInTurn}
use Rattle.raft_node.specs.Net.{Net}
use Rattle.raft_node.specs.Runs.{run, start, whole_logs, world_after}
use Rattle.raft_node.specs.Safety.{Agrees, AppendsOnly, AppliedAgree, AppliedAreDecided, AtEachMoment, BeginsFirst, DecidedEnd, ExecutedAreDecided, IsComplete, Matches, Mirrored, ReadsSee, StandsAbove}
use Rattle.raft_store.specs.declared.entry.Entry.{Entry}
use Rattle.proof_clients.specs.proof_deeds.OwnReads.{ReadsSeeOwn}
use Rattle.proof_clients.specs.Appends.{AppendsNew, AppendsOnce, AppliedBefore, ProposalsAppend}
use Rattle.proof_clients.specs.Learners.{LearnersKeepGroups}
use Rattle.proof_clients.specs.OneLog.{AppliedAreOne, DecidedAreOne, DecidedStay}
use Rattle.proof_clients.specs.Reads.{ReadsSeeAll, RepliesTell, TakersAreUnder}
use Rattle.proof_clients.specs.Validity.{OnlyProposed}
use Rattle.raft_world.specs.Worlds.{AllUnrefused}

-- after any number of the events
abbrev pub AfterEach : (Net (List Entry) → Type 0) → Given → List Event → Type 0
AfterEach P given es = (k : ℕ) → P (world_after given (take k es))

-- The run of these events is safe.
pub record IsSafe (given : Given) (es : List Event) : Type 0 where
  -- At each moment between two commands: state machine safety; leader completeness; what is recorded of a decided commit's
  -- log ends with its id; only what was decided is executed, installed and applied; log matching; leader append-only;
  -- state machines apply the same entries in the same order; each log begins with the one first entry; what a leader wrote
  -- stands above all that leaders of smaller ids ever decide, and so does the answer to a read.
  pub agree : AtEachMoment Agrees given es
  pub complete : AtEachMoment IsComplete given es
  pub ends : AtEachMoment DecidedEnd given es
  pub executed_decided : AtEachMoment ExecutedAreDecided given es
  pub matching : AtEachMoment Matches given es
  pub append_only : AtEachMoment AppendsOnly given es
  pub applied : AtEachMoment AppliedAgree given es
  pub applied_decided : AtEachMoment AppliedAreDecided given es
  pub begins : AtEachMoment (BeginsFirst given) given es
  pub above : AtEachMoment StandsAbove given es
  pub reads : AtEachMoment ReadsSee given es
  -- Between any two moments: what is decided is one log, and stays; so what is applied stays, whoever stops (durability).
  pub one_log : DecidedAreOne given es
  pub decided_stays : DecidedStay given es
  pub applied_stays : AppliedAreOne given es
  -- Only what was proposed is decided or applied; a proposal that runs is appended; an appended id is new, is appended once,
  -- and stands above all that was applied before.
  pub only_proposed : OnlyProposed given es
  pub proposals_append : ProposalsAppend given es
  pub appends_new : AppendsNew given es
  pub appends_once : AppendsOnce given es
  pub above_applied : AppliedBefore given es
  -- Reads: the answer is at or above what its leader decided since its node's last start; with a leader that leads on, and
  -- the log before that start, it has all that was applied before the read came; which requests and which replies tell so.
  pub reads_own : ReadsSeeOwn given es
  pub reads_all : ReadsSeeAll given es
  pub takers : TakersAreUnder given es
  pub replies_tell : RepliesTell given es
  -- What a quorum has acknowledged to a leader is in the log of each later leader; what is decided, a quorum has acknowledged.
  pub chosen : KeepsChosen given es
  pub decided_chosen : (k : ℕ) → DecidedAreChosen given (take k es)
  -- A change of the learners alone is never skipped because of the voter groups, which it keeps.
  pub learners_keep : LearnersKeepGroups given es
  -- After each event each running engine is what its store says, is sound, and has nothing queued; and no event was refused
  -- because a leader's request doesn't fit.
  pub mirrored : AfterEach Mirrored given es
  pub resting : AfterEach (λ net. AllResting net.nodes) given es
  pub unrefused : AllUnrefused (run whole_logs given es (start given)).past
  -- Within an event: its store is what its commands make of it, a reply is sent at its command's turn, what a reply waits for
  -- stands before it, and after its last command the event is over.
  pub stored : StoresInTurn given es
  pub replied : RepliesInTurn given es
  pub awaited : WaitsInTurn given es
  pub ended : EndsInTurn given es
