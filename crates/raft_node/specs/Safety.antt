-- What Raft promises of a world (Raft paper, section 5, figure 3).
use Rattle.std.specs.Prelude.{ℕ, ◌+◌, ◌<◌, ◌≤◌, ◌≡◌, ◌⊎◌, Bool, true, List, ◌++◌, Contains, flat_map, length, map, slice_get, take, Some}
use Rattle.std.specs.declared.cmp.Ordering.TheVariants.{Less}
use Rattle.std.specs.Ordering.{nat_cmp}
use Rattle.raft_state.specs.declared.ids.LeaderId.{LeaderId}
use Rattle.raft_state.specs.declared.ids.LogId.{LogId}
use Rattle.raft_state.specs.Fits.{is_within}
use Rattle.raft_state.specs.Log.{at, last}
use Rattle.raft_state.specs.Order.{leader_id_cmp}
use Rattle.raft_state.specs.State.{is_found}
use Rattle.raft_store.specs.declared.entry.Entry.{Entry}
use Rattle.raft_store.specs.Entries.{entry_meaning}
use Rattle.raft_store.specs.Mirror.{Mirrors}
use Rattle.raft_store.specs.Store.{whole}
use Rattle.raft_store.specs.Types.{EngineView}
use Rattle.raft_schedule.specs.declared.event.Event.{Event}
use Rattle.raft_schedule.specs.declared.event.Outcome.{Outcome}
use Rattle.raft_schedule.specs.declared.event.Outcome.TheVariants.{Refused}
use Rattle.raft_node.specs.declared.given.Given.{Given}
use Rattle.raft_calls.specs.declared.lead.Answer.{Answer}
use Rattle.raft_node.specs.declared.record.Decided.{Decided}
use Rattle.raft_node.specs.declared.record.Established.{Established}
use Rattle.raft_node.specs.declared.record.Executed.{Executed}
use Rattle.raft_node.specs.declared.record.Installed.{Installed}
use Rattle.raft_calls.specs.Elections.{first_entry}
use Rattle.raft_node.specs.Net.{Net, NodeView, Records}
use Rattle.raft_node.specs.Runs.{moment}

-- the entries of executed commits and of installed snapshots
abbrev pub entries_of : List Executed → List Installed → List Entry
entries_of executed installed = map (λ x. x.entry) executed ++ flat_map (λ x. x.entries) installed

-- entries of one index are the same entry
abbrev pub AllAgree : List Entry → Type 0
AllAgree es = (x y : Entry) → Contains es x → Contains es y → x.log_id.index ≡ y.log_id.index → x ≡ y

-- state machine safety: no two executed commits, or entries of installed snapshots, are different entries for one index
abbrev pub Agrees : {L : Type 0} → Net L → Type 0
Agrees net = AllAgree (entries_of net.records.executed net.records.installed)

-- leader completeness: an established leader's whole log begins with what each leader of a smaller leader id decided,
-- whichever came first
abbrev pub IsComplete : Net (List Entry) → Type 0
IsComplete net =
    (r : Decided (List Entry)) (l : Established (List Entry)) → Contains net.records.decided r → Contains net.records.established l
    → leader_id_cmp nat_cmp r.leader_id l.leader_id ≡ Less → take (length r.log) l.log ≡ r.log

-- a decided log ends with its id, which is the leader's own (Raft paper, section 5.4.2)
abbrev pub DecidedEnd : Net (List Entry) → Type 0
DecidedEnd net = (r : Decided (List Entry)) → Contains net.records.decided r → (last (map (λ e. e.log_id) r.log) ≡ Some r.log_id) × (r.log_id.leader_id ≡ r.leader_id)

-- only what was decided is executed or installed (Raft paper, section 5.3: state machines apply committed entries): each
-- such entry stands at its index in the recorded log of a decided commit
abbrev pub ExecutedAreDecided : Net (List Entry) → Type 0
ExecutedAreDecided net =
    (x : Entry) → Contains (entries_of net.records.executed net.records.installed) x
    → (r : Decided (List Entry)) × Contains net.records.decided r × (slice_get r.log x.log_id.index ≡ Some x)

-- and so is what a state machine has taken, also what a start gives it again: each entry stands at its place in the recorded
-- log of a decided commit
abbrev pub AppliedAreDecided : Net (List Entry) → Type 0
AppliedAreDecided net =
    (n : NodeView) (i : ℕ) (x : Entry) → Contains net.nodes n → slice_get n.store.applied i ≡ Some x
    → (r : Decided (List Entry)) × Contains net.records.decided r × (slice_get r.log i ≡ Some x)

-- each log begins with the one first entry, so that a log which isn't empty has a membership
abbrev pub BeginsFirst : Given → Net (List Entry) → Type 0
BeginsFirst given net = (n : NodeView) (x : Entry) → Contains net.nodes n → slice_get (whole n.store) 0 ≡ Some x → x ≡ first_entry given.membership

-- a whole log: that of a node, of an established leader, or of a decided commit
abbrev pub IsWholeLog : Net (List Entry) → List Entry → Type 0
IsWholeLog net es =
    ((n : NodeView) × Contains net.nodes n × (whole n.store ≡ es))
    ⊎ ((l : Established (List Entry)) × Contains net.records.established l × (l.log ≡ es))
    ⊎ ((r : Decided (List Entry)) × Contains net.records.decided r × (r.log ≡ es))

-- the entry at the id's index has the id
abbrev pub holds_id : List Entry → LogId ℕ → Bool
holds_id es x = is_found nat_cmp (at (map (λ e. e.log_id) es) x.index) x

-- log matching: two whole logs that hold one log id hold the same entries up to it
abbrev pub Matches : Net (List Entry) → Type 0
Matches net =
    (xs ys : List Entry) (x : LogId ℕ) → IsWholeLog net xs → IsWholeLog net ys → holds_id xs x ≡ true → holds_id ys x ≡ true
    → take (x.index + 1) xs ≡ take (x.index + 1) ys

-- what is recorded of a leader's whole log: all of it once the leader is established, and what it decides
abbrev pub IsRecordOf : Records (List Entry) → LeaderId ℕ → List Entry → Type 0
IsRecordOf records d es =
    ((l : Established (List Entry)) × Contains records.established l × (l.leader_id ≡ d) × (l.log ≡ es))
    ⊎ ((r : Decided (List Entry)) × Contains records.decided r × (r.leader_id ≡ d) × (r.log ≡ es))

-- leader append-only (Raft paper, section 5.3): a leader's log only grows, so of two records of it the longer begins with
-- the shorter
abbrev pub RecordsGrow : Records (List Entry) → Type 0
RecordsGrow records = (d : LeaderId ℕ) (es fs : List Entry) → IsRecordOf records d es → IsRecordOf records d fs → length es ≤ length fs → take (length es) fs ≡ es

abbrev pub AppendsOnly : Net (List Entry) → Type 0
AppendsOnly net = RecordsGrow net.records

-- of the entries that two state machines have taken, the longer list begins with the shorter
abbrev pub AppliedAgree : {L : Type 0} → Net L → Type 0
AppliedAgree net =
    (m n : NodeView) → Contains net.nodes m → Contains net.nodes n → length m.store.applied ≤ length n.store.applied
    → take (length m.store.applied) n.store.applied ≡ m.store.applied

-- what a leader wrote, and a node holds, stands above all that leaders of smaller ids ever decide: so a read that waits
-- for it misses nothing
abbrev pub StandsAbove : Net (List Entry) → Type 0
StandsAbove net =
    (r : Decided (List Entry)) (n : NodeView) (x : LogId ℕ) → Contains net.records.decided r → Contains net.nodes n → holds_id (whole n.store) x ≡ true
    → leader_id_cmp nat_cmp r.leader_id x.leader_id ≡ Less → r.log_id.index < x.index

-- What a leader answers to a read is at or above, by id and by index, all that leaders of smaller ids ever decide, before
-- the read or after it. So a node that has applied the log up to there has all that was committed before the read (Raft
-- paper, section 8).
abbrev pub ReadsSee : Net (List Entry) → Type 0
ReadsSee net =
    (a : Answer) (r : Decided (List Entry)) → Contains net.records.answers a → Contains net.records.decided r
    → leader_id_cmp nat_cmp r.leader_id a.leader_id ≡ Less → is_within nat_cmp (Some r.log_id) a.log_id ≡ true

-- between two events each running engine is what its store says
abbrev pub Mirrored : {L : Type 0} → Net L → Type 0
Mirrored net = (n : NodeView) (e : EngineView) → Contains net.nodes n → n.engine ≡ Some e → Mirrors entry_meaning n.store e.machine.core.state

-- this holds at each moment of a run, between any two commands
abbrev pub AtEachMoment : (Net (List Entry) → Type 0) → Given → List Event → Type 0
AtEachMoment P given es = (k n : ℕ) → P (moment given es k n)

-- The refusals of a leader's request that doesn't fit what its node has are 11 to 16: VoteNotCommitted, OwnVote,
-- NotFollowing, ContradictsHeld, SnapshotUnfit, CommittedNotHeld. Of the others, 7 to 10 are those of a reply, as of one that
-- comes again; the rest speak of the caller, of ends of numbers, or of memory.
abbrev pub IsOtherRefusal : ℕ → Type 0
IsOtherRefusal k = (k < 11) ⊎ (16 < k)

-- an event wasn't refused because a leader's request doesn't fit
abbrev pub IsUnrefused : Outcome → Type 0
IsUnrefused (Refused k) = IsOtherRefusal k
IsUnrefused _ = Unit {0}
