-- Reads that need no entry in the log: one step asks the node for all that wait, and they are answered once a quorum has answered requests
-- that left later (Raft paper, section 8; Ongaro, Consensus: Bridging Theory and Practice, section 6.4: the read index). Meanwhile the next
-- step may ask for those that came since.
use Rattle.std.specs.Prelude.{ℕ, ◌-◌, ◌&&◌, ◌||◌, Bool, true, false, not, List, [], ◌∷◌, ◌++◌, length, map, filter, drop, take, nat_eq, nat_le}
use Rattle.std.specs.Prelude.{nat_lt, Option, None, Some, if◌then◌else◌}
use Rattle.std.specs.List.{fold, list_all, prefix_len}
use Rattle.std.specs.Ordering.{nat_cmp}
use Rattle.raft_state.specs.declared.ids.LogId.{LogId}
use Rattle.raft_state.specs.IdEquality.{leader_id_eq}
use Rattle.raft_state.specs.Sorted.{has_id}
use Rattle.raft_command.specs.declared.message.AppendEntriesResponse.TheVariants.{HigherVote}
use Rattle.raft_progress.specs.Quorum.{is_quorum}
use Rattle.raft_calls.specs.declared.lead.Answer as node_answer
use Rattle.raft_calls.specs.declared.message.Body.{Body}
use Rattle.raft_calls.specs.declared.message.Body.TheVariants.{AppendReply}
use Rattle.raft_calls.specs.declared.message.Message.{Message}
use Rattle.raft_answers.specs.declared.answer.Answer.{Answer}
use Rattle.raft_answers.specs.declared.answer.Answer.TheVariants.{Failed, NotLeader, Ok}
use Rattle.raft_answers.specs.declared.answer.Reply.{Reply}
use Rattle.raft_answers.specs.declared.request.Token.{Token}
use Rattle.raft_reads.specs.declared.reads.Reader.{Reader}

-- One step asked for reads: what the node answered, at which moment, and the voter groups that were effective then; of how many of the first
-- reads it is, those of the rounds before it included; whether that answer has left, so that all steps before it are on disk; and who was
-- heard since, the server itself included.
pub record RoundView : Type 0 where
  pub answer : node_answer.Answer
  pub moment : ℕ
  pub groups : List (List ℕ)
  pub asked : ℕ
  pub left : Bool
  pub heard : List ℕ

-- The rounds under way, in the order in which they began, and the reads without an answer, in the order in which they came: those behind the
-- last round's wait for the next.
pub record ReadsView : Type 0 where
  pub rounds : List RoundView
  pub readers : List Reader

abbrev pub no_reads : ReadsView
no_reads = record { rounds = []; readers = [] }

-- their tokens
abbrev pub read_tokens : ReadsView → List Token
read_tokens r = map (λ x. x.token) r.readers

-- Rounds

-- of how many of the first reads the last round is
abbrev pub asked_by : ℕ → RoundView → ℕ
asked_by before o = o.asked

abbrev pub asked_for : List RoundView → ℕ
asked_for os = fold asked_by 0 os

-- so many rounds may be under way at once
abbrev pub most_rounds : ℕ
most_rounds = 16

-- those that are under way: none of no reads, once all reads were answered
abbrev pub under_way : List RoundView → List RoundView
under_way os = if nat_eq (asked_for os) 0 then [] else os

-- a round may begin: each answer before it has left, a read waits for it, and not too many are under way
abbrev pub is_free : ReadsView → Bool
is_free r =
    list_all (λ o. o.left) r.rounds
    && (nat_lt (asked_for r.rounds) (length r.readers) && (nat_eq (asked_for r.rounds) 0 || nat_lt (length r.rounds) most_rounds))

-- one that begins, of so many reads: its server alone is heard
abbrev pub round_of : node_answer.Answer → ℕ → List (List ℕ) → ℕ → RoundView
round_of a at groups asked = record { answer = a; moment = at; groups = groups; asked = asked; left = false; heard = a.node ∷ [] }

-- a round of all that wait begins
abbrev pub with_round : node_answer.Answer → ℕ → List (List ℕ) → ReadsView → ReadsView
with_round a at groups r = record { rounds = under_way r.rounds ++ round_of a at groups (length r.readers) ∷ []; readers = r.readers }

-- its answer leaves
abbrev pub answer_left : RoundView → RoundView
answer_left o = record o { left = true }

-- the node's answers leave: that of the last round is among them, since it is the only one that waits
abbrev pub with_left : List node_answer.Answer → ReadsView → ReadsView
with_left [] r = r
with_left (a ∷ more) r = record r { rounds = map answer_left r.rounds }

-- a reply that tells no higher vote, to a request that the round's leader sent after the round's moment: heartbeats have no numbers
abbrev pub is_late : Body → RoundView → Bool
is_late (AppendReply origin (HigherVote v) prev upto) o = false
is_late (AppendReply origin reply prev upto) o =
    leader_id_eq nat_eq origin.session_id.vote.leader_id o.answer.leader_id && nat_lt o.moment origin.sent_at
is_late _ o = false

-- its sender is heard by it, who wasn't
abbrev pub is_news : Message → RoundView → Bool
is_news m o = is_late m.body o && not (has_id nat_cmp o.heard m.from)

abbrev pub heard_in : Message → RoundView → RoundView
heard_in m o = if is_news m o then record o { heard = o.heard ++ m.from ∷ [] } else o

abbrev pub with_heard : Message → ReadsView → ReadsView
with_heard m r = record r { rounds = map (heard_in m) r.rounds }

-- Answers

-- all up to a log id is executed, if that is so up to this index
abbrev pub reaches : Option (LogId ℕ) → ℕ → Bool
reaches None index = true
reaches (Some id) index = nat_le id.index index

-- A round is over at a server that has handed out entries up to an index: its answer has left, all up to its log id is executed, and a quorum
-- consists of the server and those that it heard.
abbrev pub is_over : ℕ → RoundView → Bool
is_over index o = o.left && (reaches o.answer.log_id index && is_quorum nat_cmp o.groups o.heard)

-- the most reads of a round that is over
abbrev pub over_more : ℕ → ℕ → RoundView → ℕ
over_more index most o = if is_over index o && nat_lt most o.asked then o.asked else most

abbrev pub count_over : ℕ → List RoundView → ℕ
count_over index os = fold (over_more index) 0 os

-- the rounds that aren't over
abbrev pub not_over : ℕ → List RoundView → List RoundView
not_over index os = filter (λ o. not (is_over index o)) os

-- a round once so many of the first reads have an answer
abbrev pub answered_in : ℕ → RoundView → RoundView
answered_in count o = record o { asked = o.asked - count }

-- so many of the first reads have an answer
abbrev pub without_first : ℕ → ReadsView → ReadsView
without_first count r = record { rounds = map (answered_in count) r.rounds; readers = drop count r.readers }

-- these reads get this answer
abbrev pub told : Answer → List Reader → List Reply
told answer reads = map (λ x. record { token = x.token; answer = answer }) reads

-- those of each round that is over are answered, with an index up to which all was handed out
abbrev pub read_left : Option ℕ → ReadsView → ReadsView
read_left None r = r
read_left (Some index) r = without_first (count_over index r.rounds) (record r { rounds = not_over index r.rounds })

abbrev pub read_replies : Option ℕ → ReadsView → List Reply
read_replies None r = []
read_replies (Some index) r = told (Ok index) (take (count_over index r.rounds) r.readers)

-- The lead under which they came, or were asked for, is over: all are refused, by the leader that is known then. A read that isn't
-- answered has no effect, so it may be asked again anywhere.
abbrev pub refused_left : Option (Option ℕ) → ReadsView → ReadsView
refused_left gone r = elim gone [ None ↦ r | Some leader ↦ without_first (length r.readers) r ]

abbrev pub refused_replies : Option (Option ℕ) → ReadsView → List Reply
refused_replies gone r = elim gone [ None ↦ [] | Some leader ↦ told (NotLeader leader) r.readers ]

-- the first of those that came before a moment have failed
abbrev pub came_before : ℕ → Reader → Bool
came_before moment x = nat_lt x.since moment

abbrev pub count_overdue : ℕ → ReadsView → ℕ
count_overdue upto r = prefix_len (came_before upto) r.readers

abbrev pub failed_left : ℕ → ReadsView → ReadsView
failed_left upto r = without_first (count_overdue upto r) r

abbrev pub failed_replies : ℕ → ReadsView → List Reply
failed_replies upto r = told Failed (take (count_overdue upto r) r.readers)

-- Execution
