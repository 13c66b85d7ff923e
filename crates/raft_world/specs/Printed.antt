-- The text of a report.
use Rattle.std.specs.Prelude.{◌≡◌, ℕ, suc, Option, None, Some, ◌==◌, if◌then◌else◌, List, [], ◌∷◌, ◌++◌, map, flat_map, nat_eq, codes}
use Rattle.std.specs.Fmt.{decimal}
use Rattle.std.specs.Ordering.{nat_cmp, ordering_then}
use Rattle.std.specs.List.{filter, dedup}
use Rattle.std.specs.List.Sorted.{IsPermutation, IsSorted, IsStable}
use Rattle.std.specs.declared.cmp.Ordering.{Ordering}
use Rattle.std.specs.Io.KnownBytes.{Appends}
use Rattle.raft_state.specs.declared.ids.LogId.{LogId}
use Rattle.raft_state.specs.Texts.{log_id_text}
use Rattle.raft_store.specs.declared.entry.Entry.{Entry}
use Rattle.raft_store.specs.declared.entry.Payload.{Payload}
use Rattle.raft_store.specs.declared.entry.Payload.TheVariants.{Blank, Value, Membership}
use Rattle.raft_store.specs.declared.entry.Value.TheVariants.{Bytes, Number}
use Rattle.raft_store.specs.Values.{hex_text}
use Rattle.raft_schedule.specs.declared.event.AppliedEvent.{AppliedEvent}
use Rattle.raft_schedule.specs.declared.event.Event.{Event}
use Rattle.raft_schedule.specs.declared.event.Outcome.{Outcome}
use Rattle.raft_schedule.specs.declared.event.Outcome.TheVariants.{Done, Refused, Skipped, Stopped}
use Rattle.raft_schedule.specs.declared.event.SkipReason.{SkipReason}
use Rattle.raft_schedule.specs.declared.event.SkipReason.TheVariants.{NoMessage, NotRunning, HasLeader, NotVoter, NotMember, StaleSession, NotOwnVote, NothingInFlight, NothingBuilt, MembershipPending, BlankPending, BadGroups, NoSharedGroup, BadLearners, NotLeader}
use Rattle.raft_schedule.specs.declared.schedule.Language.{Language}
use Rattle.raft_schedule.specs.declared.schedule.Language.TheVariants.{First, Second}
use Rattle.raft_schedule.specs.Written.{event_text}
use Rattle.raft_world.specs.declared.agreement.Agreement.{Agreement}
use Rattle.raft_world.specs.declared.agreement.Agreement.TheVariants.{Agree, Differ}
use Rattle.raft_node.specs.Safety.{entries_of}
use Rattle.raft_world.specs.Agreed.{Checks}
use Rattle.raft_world.specs.Reported.{Reported}

-- why an event is skipped
abbrev pub reason_text : SkipReason → List ℕ
reason_text NoMessage = codes "no-message"
reason_text NotRunning = codes "not-running"
reason_text HasLeader = codes "has-leader"
reason_text NotVoter = codes "not-voter"
reason_text NotMember = codes "not-member"
reason_text StaleSession = codes "stale-session"
reason_text NotOwnVote = codes "not-own-vote"
reason_text NothingInFlight = codes "nothing-in-flight"
reason_text NothingBuilt = codes "nothing-built"
reason_text MembershipPending = codes "membership-pending"
reason_text BlankPending = codes "blank-pending"
reason_text BadGroups = codes "bad-groups"
reason_text NoSharedGroup = codes "no-shared-group"
reason_text BadLearners = codes "bad-learners"
reason_text NotLeader = codes "not-leader"

-- the outcome of an event
abbrev pub outcome_text : Outcome → List ℕ
outcome_text Done = codes "done"
outcome_text (Refused number) = codes "refused " ++ decimal number
outcome_text (Skipped why) = codes "skipped " ++ reason_text why
outcome_text Stopped = codes "stopped"

-- the event, which stands in its line in the second language
abbrev pub told_event : Language → Event → List ℕ
told_event First event = []
told_event Second event = event_text event ++ codes " "

-- an event's line: `N OUTCOME sent MESSAGES`, in the second language `N EVENT OUTCOME sent MESSAGES`
abbrev pub past_text : Language → ℕ → AppliedEvent → List ℕ
past_text language number past = decimal number ++ codes " " ++ told_event language past.event ++ outcome_text past.outcome ++ codes " sent " ++ decimal past.sent ++ codes "\n"

-- a line for each event, with numbers from here on
abbrev pub pasts_text : Language → ℕ → List AppliedEvent → List ℕ
pasts_text language before [] = []
pasts_text language before (past ∷ rest) = past_text language (suc before) past ++ pasts_text language (suc before) rest

-- an entry that a node applied: executed, or installed with a snapshot
pub record Taken : Type 0 where
  pub node : ℕ
  pub entry : Entry

-- what the nodes applied, in the order of the records
abbrev pub taken_of : Reported → List Taken
taken_of r =
    map (λ x. record { node = x.node; entry = x.entry }) r.executed
    ++ flat_map (λ x. map (λ e. record { node = x.node; entry = e }) x.entries) r.installed

-- by index, then by node
abbrev pub taken_cmp : Taken → Taken → Ordering
taken_cmp x y = ordering_then (nat_cmp x.entry.log_id.index y.entry.log_id.index) (nat_cmp x.node y.node)

-- the same by index and node; those of the same index and node keep their order
pub record Ordered (from lines : List Taken) : Type 0 where
  pub same : IsPermutation from lines
  pub rising : IsSorted taken_cmp lines
  pub stable : IsStable taken_cmp from lines

-- the payload of an entry
abbrev pub payload_text : Payload → List ℕ
payload_text Blank = codes "blank"
payload_text (Value (Number value)) = codes "value " ++ decimal value
payload_text (Value (Bytes bytes)) = codes "bytes " ++ hex_text bytes
payload_text (Membership m) = codes "membership"

abbrev pub id_text : LogId ℕ → List ℕ
id_text id = log_id_text id.leader_id.term (decimal id.leader_id.node_id) id.index

-- the head of an entry's line: `entry I T-N-I PAYLOAD nodes`
abbrev pub head_text : Entry → List ℕ
head_text e = codes "entry " ++ decimal e.log_id.index ++ codes " " ++ id_text e.log_id ++ codes " " ++ payload_text e.payload ++ codes " nodes"

abbrev pub node_text : ℕ → List ℕ
node_text node = codes " " ++ decimal node

-- the line of the entries of one index: the first one's head, and each node once
abbrev pub line_text : List Taken → List ℕ
line_text [] = []
line_text (x ∷ rest) = head_text x.entry ++ flat_map node_text (dedup nat_eq (map (λ y. y.node) (x ∷ rest))) ++ codes "\n"

-- a line for each index
abbrev pub lines_text : List Taken → List ℕ
lines_text lines = flat_map (λ i. line_text (filter (λ x. x.entry.log_id.index == i) lines)) (dedup nat_eq (map (λ x. x.entry.log_id.index) lines))

-- the last line
abbrev pub verdict_text : Agreement → List ℕ
verdict_text Agree = codes "agree\n"
verdict_text (Differ i) = codes "differ " ++ decimal i ++ codes "\n"

-- the text of a report: a line for each event, one for each index, and whether the nodes agree
pub record IsText (language : Language) (r : Reported) (text : List ℕ) : Type 0 where
  pub lines : List Taken
  pub ordered : Ordered (taken_of r) lines
  pub agreement : Agreement
  pub checked : Checks (entries_of r.executed r.installed) agreement
  pub is : text ≡ pasts_text language 0 r.past ++ lines_text lines ++ verdict_text agreement

-- a writer gets the text of a report
abbrev pub Prints : Language → Reported → Option (List ℕ) → Option (List ℕ) → Type 0
Prints language r old new = (text : List ℕ) × IsText language r text × Appends old new text

-- the index and the node of an entry
abbrev pub place : Taken → ℕ × ℕ
place x = (x.entry.log_id.index, x.node)

-- what an entry adds after the one before, of this place: its node, unless it is the same, or a line
abbrev pub next_text : Option (ℕ × ℕ) → Taken → List ℕ
next_text None x = head_text x.entry ++ node_text x.node
next_text (Some before) x =
    if x.entry.log_id.index == before.0 then (if x.node == before.1 then [] else node_text x.node)
    else codes "\n" ++ (head_text x.entry ++ node_text x.node)
