-- Statements, written as the lines of a text in a language.
use Rattle.std.specs.Prelude.{◌≡◌, ◌≢◌, ℕ, ◌<◌, ◌+◌, ◌^◌, true, false, if◌then◌else◌, List, [], ◌∷◌, ◌++◌, length, Option, Some, None, Ok, IfSome, fold, map, flat_map, codes}
use Rattle.std.specs.Fmt.{decimal}
use Rattle.std.specs.List.{AllByRecursion, join_with_byte}
use Rattle.raft_state.specs.declared.policy.SnapshotPolicy.TheVariants.{LogsSinceLast, Never}
use Rattle.raft_store.specs.raft_command.Config.{default_config}
use Rattle.raft_store.specs.raft_command.declared.config.EngineConfig.{EngineConfig}
use Rattle.raft_schedule.specs.declared.event.EventKind.{EventKind}
use Rattle.raft_schedule.specs.declared.event.EventKind.TheVariants.{Init, Timeout, Stand, Deliver, Propose, Heartbeat, Fail, Snapshot, Built, Purge, Restart, Member, Change, Read, Down, Stop}
use Rattle.raft_schedule.specs.declared.event.Start.{Start as NodeStart}
use Rattle.raft_schedule.specs.declared.event.Start.TheVariants.{Plain, Saved, Bare}
use Rattle.raft_store.specs.declared.entry.Value.{Value}
use Rattle.raft_store.specs.declared.entry.Value.TheVariants.{Number, Bytes}
use Rattle.raft_store.specs.Values.{hex_text}
use Rattle.raft_schedule.specs.declared.schedule.Language.{Language}
use Rattle.raft_schedule.specs.declared.schedule.Language.TheVariants.{First, Second}
use Rattle.raft_schedule.specs.declared.schedule.Place.{Place}
use Rattle.raft_schedule.specs.declared.schedule.Place.TheVariants.{Start}
use Rattle.raft_schedule.specs.declared.schedule.Setting.{Setting}
use Rattle.raft_schedule.specs.declared.schedule.Setting.TheVariants.{Lease, Policy, Keep, Batch, Payload}
use Rattle.raft_schedule.specs.declared.event.Event.{Event}
use Rattle.raft_schedule.specs.declared.step.Expectation.{Expectation}
use Rattle.raft_schedule.specs.declared.step.Expectation.TheVariants as Expectation
use Rattle.raft_schedule.specs.declared.step.Expectation.TheVariants.{Node, Agree}
use Rattle.raft_schedule.specs.declared.step.Fact.{Fact}
use Rattle.raft_schedule.specs.declared.step.Fact.TheVariants as Fact
use Rattle.raft_schedule.specs.declared.step.Fact.TheVariants.{Stopped, Role, Last, Committed, Applied}
use Rattle.raft_schedule.specs.declared.step.Link.{Link}
use Rattle.raft_schedule.specs.declared.step.MessageKind.{MessageKind}
use Rattle.raft_schedule.specs.declared.step.MessageKind.TheVariants as MessageKind
use Rattle.raft_schedule.specs.declared.step.MessageKind.TheVariants.{VoteRequest, VoteReply, Append, AppendReply, SnapshotReply}
use Rattle.raft_schedule.specs.declared.step.Numbered.{Numbered}
use Rattle.raft_schedule.specs.declared.step.Step.{Step}
use Rattle.raft_schedule.specs.declared.step.Step.TheVariants.{Happens, Next, All, Expects}
use Rattle.raft_state.specs.declared.ids.LogId.{LogId}
use Rattle.raft_state.specs.declared.ids.Vote.{Vote}
use Rattle.raft_state.specs.declared.state.ServerState.{ServerState}
use Rattle.raft_state.specs.declared.state.ServerState.TheVariants.{Learner, Follower, Candidate, Leader}
use Rattle.raft_state.specs.Texts.{leader_id_text, log_id_text}
use Rattle.raft_schedule.specs.Line.{Statement, Speaks, Nodes, Voters, Learners, Sets, Does, is_count, takes_time}
use Rattle.raft_schedule.specs.Text.{Said, stands, behind, nothing, with_setting, and_said, plan_of, schedule_of}

abbrev pub setting_words : Setting → List (List ℕ)
setting_words (Lease n) = codes "lease" ∷ decimal n ∷ []
setting_words (Policy Never) = codes "policy" ∷ codes "never" ∷ []
setting_words (Policy (LogsSinceLast n)) = codes "policy" ∷ decimal n ∷ []
setting_words (Keep n) = codes "keep" ∷ decimal n ∷ []
setting_words (Batch n) = codes "batch" ∷ decimal n ∷ []
setting_words (Payload n) = codes "payload" ∷ decimal n ∷ []

-- the ids of a group, separated by commas
abbrev pub group_word : List ℕ → List ℕ
group_word ids = join_with_byte 44 (map decimal ids)

-- the word `learners` and their ids, if there are learners
abbrev pub learner_words : List ℕ → List (List ℕ)
learner_words [] = []
learner_words (n ∷ ids) = codes "learners" ∷ map decimal (n ∷ ids)

-- a value: a number, or `x` and two digits for each byte
abbrev pub value_word : Value → List ℕ
value_word (Number n) = decimal n
value_word (Bytes bytes) = codes "x" ++ hex_text bytes

abbrev pub kind_words : EventKind → List (List ℕ)
kind_words (Init n) = codes "init" ∷ decimal n ∷ []
kind_words (Timeout n) = codes "timeout" ∷ decimal n ∷ []
kind_words (Stand n) = codes "stand" ∷ decimal n ∷ []
kind_words (Deliver n) = codes "deliver" ∷ decimal n ∷ []
kind_words (Propose n values) = codes "propose" ∷ decimal n ∷ map value_word values
kind_words (Heartbeat n) = codes "heartbeat" ∷ decimal n ∷ []
kind_words (Fail n t) = codes "fail" ∷ decimal n ∷ decimal t ∷ []
kind_words (Snapshot n) = codes "snapshot" ∷ decimal n ∷ []
kind_words (Built n) = codes "built" ∷ decimal n ∷ []
kind_words (Purge n i) = codes "purge" ∷ decimal n ∷ decimal i ∷ []
kind_words (Restart n Plain) = codes "restart" ∷ decimal n ∷ []
kind_words (Restart n Saved) = codes "restart" ∷ decimal n ∷ codes "saved" ∷ []
kind_words (Restart n Bare) = codes "restart" ∷ decimal n ∷ codes "bare" ∷ []
kind_words (Member n learners) = codes "member" ∷ decimal n ∷ map decimal learners
kind_words (Change n groups learners) = codes "change" ∷ decimal n ∷ (map group_word groups ++ learner_words learners)
kind_words (Read n) = codes "read" ∷ decimal n ∷ []
kind_words (Down n) = codes "down" ∷ decimal n ∷ []
kind_words (Stop n) = codes "stop" ∷ decimal n ∷ []

abbrev pub time_words : Option ℕ → List (List ℕ)
time_words None = []
time_words (Some t) = codes "at" ∷ decimal t ∷ []

abbrev pub stop_words : Option ℕ → List (List ℕ)
stop_words None = []
stop_words (Some j) = codes "stop" ∷ decimal j ∷ []

abbrev pub event_words : Event → List (List ℕ)
event_words event = kind_words event.kind ++ time_words event.at ++ stop_words event.stop

-- a sender and an addressee
abbrev pub ends_word : ℕ → ℕ → List ℕ
ends_word from to = join_with_byte 62 (decimal from ∷ decimal to ∷ [])

abbrev pub message_word : MessageKind → List ℕ
message_word VoteRequest = codes "vote-request"
message_word VoteReply = codes "vote-reply"
message_word Append = codes "append"
message_word MessageKind.Heartbeat = codes "heartbeat"
message_word AppendReply = codes "append-reply"
message_word MessageKind.Snapshot = codes "snapshot"
message_word SnapshotReply = codes "snapshot-reply"

-- `T-N-I`
abbrev pub id_word : LogId ℕ → List ℕ
id_word id = log_id_text id.leader_id.term (decimal id.leader_id.node_id) id.index

abbrev pub optional_word : {A : Type 0} → (A → List ℕ) → Option A → List ℕ
optional_word word None = codes "None"
optional_word word (Some x) = word x

-- `T-N:Q` if a quorum has granted it, else `T-N:-`
abbrev pub vote_word : Vote ℕ → List ℕ
vote_word v = leader_id_text v.leader_id.term (decimal v.leader_id.node_id) ++ codes ":" ++ (if v.committed then codes "Q" else codes "-")

abbrev pub role_word : ServerState → List ℕ
role_word Learner = codes "Learner"
role_word Follower = codes "Follower"
role_word Candidate = codes "Candidate"
role_word Leader = codes "Leader"

abbrev pub fact_words : Fact → List (List ℕ)
fact_words Stopped = codes "stopped" ∷ []
fact_words (Role role) = role_word role ∷ []
fact_words (Fact.Vote v) = codes "vote" ∷ vote_word v ∷ []
fact_words (Last id) = codes "last" ∷ optional_word id_word id ∷ []
fact_words (Committed id) = codes "committed" ∷ optional_word id_word id ∷ []
fact_words (Applied index) = codes "applied" ∷ optional_word decimal index ∷ []

abbrev pub expectation_words : Expectation → List (List ℕ)
expectation_words (Node n facts) = decimal n ∷ flat_map fact_words facts
expectation_words (Expectation.Read id) = codes "read" ∷ optional_word id_word id ∷ []
expectation_words Agree = codes "agree" ∷ []

-- words, each behind a space
abbrev pub spaced : List (List ℕ) → List ℕ
spaced words = flat_map (λ w. 32 ∷ w) words

-- as they stand in a line
abbrev pub kind_text : EventKind → List ℕ
kind_text kind = join_with_byte 32 (kind_words kind)

abbrev pub event_text : Event → List ℕ
event_text event = join_with_byte 32 (event_words event)

abbrev pub fact_text : Fact → List ℕ
fact_text fact = join_with_byte 32 (fact_words fact)

abbrev pub expectation_text : Expectation → List ℕ
expectation_text e = join_with_byte 32 (expectation_words e)

abbrev pub step_words : Step → List (List ℕ)
step_words (Happens event) = event_words event
step_words (Next link at stop) = codes "deliver" ∷ ends_word link.from link.to ∷ message_word link.kind ∷ (time_words at ++ stop_words stop)
step_words (All n) = codes "deliver" ∷ codes "all" ∷ decimal n ∷ []
step_words (Expects e) = codes "expect" ∷ expectation_words e

abbrev pub statement_words : Statement → List (List ℕ)
statement_words Speaks = codes "language" ∷ codes "2" ∷ []
statement_words (Nodes ids) = codes "nodes" ∷ map decimal ids
statement_words (Voters ids) = codes "voters" ∷ map decimal ids
statement_words (Learners ids) = codes "learners" ∷ map decimal ids
statement_words (Sets setting) = codes "set" ∷ setting_words setting
statement_words (Does step) = step_words step

-- a line for each statement, its words separated by spaces
abbrev pub text_of : List Statement → List ℕ
text_of [] = []
text_of (s ∷ ss) = join_with_byte 32 (statement_words s) ++ 10 ∷ text_of ss

-- the text of statements; one of the second language begins with the line `language 2`
abbrev pub text_in : Language → List Statement → List ℕ
text_in First ss = text_of ss
text_in Second ss = codes "language 2" ++ 10 ∷ text_of ss

abbrev pub IsU64 : ℕ → Type 0
IsU64 n = n < 2 ^ 64

-- one or more ids, each a u64
abbrev pub IsGroup : List ℕ → Type 0
IsGroup ids = (ids ≢ []) × AllByRecursion IsU64 ids

abbrev pub IsByte : ℕ → Type 0
IsByte b = b < 256

-- a value with a word: a u64, or in the second language bytes
abbrev pub HasWord : Language → Value → Type 0
HasWord language (Number v) = IsU64 v
HasWord First (Bytes bytes) = ⊥
HasWord Second (Bytes bytes) = AllByRecursion IsByte bytes

-- a start with a word: a bare one only in the second language
abbrev pub HasStart : Language → NodeStart → Type 0
HasStart First Bare = ⊥
HasStart _ _ = Unit {0}

abbrev pub HasU64s : Language → EventKind → Type 0
HasU64s language (Init n) = IsU64 n
HasU64s language (Timeout n) = IsU64 n
HasU64s language (Deliver n) = IsU64 n
HasU64s language (Propose n values) = IsU64 n × AllByRecursion (HasWord language) values × (is_count language (length values) ≡ true)
HasU64s language (Heartbeat n) = IsU64 n
HasU64s language (Fail n t) = IsU64 n × IsU64 t
HasU64s language (Snapshot n) = IsU64 n
HasU64s language (Built n) = IsU64 n
HasU64s language (Purge n i) = IsU64 n × IsU64 i
HasU64s language (Restart n start) = IsU64 n × HasStart language start
HasU64s language (Member n learners) = IsU64 n × AllByRecursion IsU64 learners
HasU64s language (Change n groups learners) = IsU64 n × AllByRecursion IsGroup groups × AllByRecursion IsU64 learners × (groups ≢ [])
HasU64s language (Read n) = IsU64 n
HasU64s language (Down n) = IsU64 n
HasU64s First (Stop n) = ⊥
HasU64s Second (Stop n) = IsU64 n
HasU64s First (Stand n) = ⊥
HasU64s Second (Stand n) = IsU64 n

-- its numbers are a u64's, and a restart has no time
abbrev pub HasEvent : Language → Event → Type 0
HasEvent language event = HasU64s language event.kind × IfSome event.at IsU64 × IfSome event.stop IsU64 × (takes_time event.kind ≡ false → event.at ≡ None)

abbrev pub IsId : LogId ℕ → Type 0
IsId id = IsU64 id.leader_id.term × IsU64 id.leader_id.node_id × IsU64 id.index

-- a fact that is said by a name and a word
abbrev pub IsNamed : Fact → Type 0
IsNamed Stopped = ⊥
IsNamed (Role role) = ⊥
IsNamed (Fact.Vote v) = IsU64 v.leader_id.term × IsU64 v.leader_id.node_id
IsNamed (Last id) = IfSome id IsId
IsNamed (Committed id) = IfSome id IsId
IsNamed (Applied index) = IfSome index IsU64

-- only the first may be a role
abbrev pub AreFacts : List Fact → Type 0
AreFacts [] = Unit {0}
AreFacts (Stopped ∷ facts) = AllByRecursion IsNamed facts
AreFacts (Role role ∷ facts) = AllByRecursion IsNamed facts
AreFacts (fact ∷ facts) = AllByRecursion IsNamed (fact ∷ facts)

abbrev pub HasExpectation : Expectation → Type 0
HasExpectation (Node n facts) = IsU64 n × AreFacts facts
HasExpectation (Expectation.Read id) = IfSome id IsId
HasExpectation Agree = Unit {0}

-- an event, and in the second language other steps
abbrev pub HasStep : Language → Step → Type 0
HasStep language (Happens event) = HasEvent language event
HasStep First _ = ⊥
HasStep Second (Next link at stop) = IsU64 link.from × IsU64 link.to × IfSome at IsU64 × IfSome stop IsU64
HasStep Second (All n) = IsU64 n
HasStep Second (Expects e) = HasExpectation e

-- its numbers are a u64's, a proposal has one value or more, in the first language only one, no bytes, and no node is stopped,
-- stands or starts bare there, a restart has no time, and a change has one or more groups, none of them empty
abbrev pub HasWords : Language → Statement → Type 0
HasWords language Speaks = ⊥
HasWords language (Nodes ids) = AllByRecursion IsU64 ids
HasWords language (Voters ids) = AllByRecursion IsU64 ids
HasWords language (Learners ids) = AllByRecursion IsU64 ids
HasWords language (Sets (Lease n)) = IsU64 n
HasWords language (Sets (Policy Never)) = Unit {0}
HasWords language (Sets (Policy (LogsSinceLast n))) = IsU64 n
HasWords language (Sets (Keep n)) = IsU64 n
HasWords language (Sets (Batch n)) = IsU64 n
HasWords language (Sets (Payload n)) = IsU64 n
HasWords language (Does step) = HasStep language step

-- each may come after the one before it, the first in this place, and the nodes are among them
abbrev pub AreInOrder : Language → Place → List Statement → Type 0
AreInOrder language p [] = p ≢ Start
AreInOrder language p (s ∷ ss) = (stands p s ≡ true) × HasWords language s × AreInOrder language (behind s) ss

-- statements, one to a line, from line n on
abbrev pub numbered : ℕ → List Statement → List (ℕ × Statement)
numbered n [] = []
numbered n (s ∷ ss) = (n, s) ∷ numbered (n + 1) ss

-- the lines of such a text
abbrev pub lines_in : Language → List Statement → List (ℕ × Statement)
lines_in First ss = numbered 1 ss
lines_in Second ss = (1, Speaks) ∷ numbered 2 ss

-- statements in order, written one to a line, are read as these statements
abbrev pub ReadsWritten : Type 0
ReadsWritten = (language : Language) (ss : List Statement) → AreInOrder language Start ss → schedule_of (text_in language ss) ≡ Ok (plan_of (fold and_said nothing (lines_in language ss)))

-- each setting that a line can set
abbrev pub settings_of : EngineConfig ℕ → List Setting
settings_of c = Lease c.timer_config.leader_lease ∷ Policy c.snapshot_policy ∷ Keep c.max_in_snapshot_log_to_keep ∷ Batch c.purge_batch_size ∷ Payload c.max_payload_entries ∷ []

-- the learners, if there are any
abbrev pub learners_said : List ℕ → List Statement
learners_said [] = []
learners_said (n ∷ ids) = Learners (n ∷ ids) ∷ []

-- the line of the nodes
abbrev pub first_line : Language → ℕ
first_line First = 1
first_line Second = 2

-- the statement of a step
abbrev pub does : Numbered → Statement
does s = Does s.step

-- the statements of a schedule: its nodes, each group, its learners, each setting, each step
abbrev pub statements_of : Said → List Statement
statements_of d = Nodes d.nodes ∷ map Voters d.groups ++ (learners_said d.learners ++ (map Sets (settings_of d.settings) ++ map does d.steps))

-- the line of the first step
abbrev pub steps_at : Said → ℕ
steps_at d = first_line d.language + 1 + length d.groups + length (learners_said d.learners) + length (settings_of d.settings)

-- its steps stand on the lines from this one on
abbrev pub StandFrom : ℕ → List Numbered → Type 0
StandFrom n [] = Unit {0}
StandFrom n (s ∷ ss) = (s.line ≡ n) × StandFrom (n + 1) ss

-- the default settings, but for those that lines can set
abbrev pub as_set : EngineConfig ℕ → EngineConfig ℕ
as_set c = fold with_setting (default_config 0) (settings_of c)

-- each of its statements has words, its steps stand on the lines behind the others, and its other settings are the default's
pub record CanBeWritten (d : Said) : Type 0 where
  pub words : AllByRecursion (HasWords d.language) (statements_of d)
  pub lines : StandFrom (steps_at d) d.steps
  pub settings : d.settings ≡ as_set d.settings

-- a schedule that is so written is read again
abbrev pub ReadsSchedules : Type 0
ReadsSchedules = (d : Said) → CanBeWritten d → schedule_of (text_in d.language (statements_of d)) ≡ Ok (plan_of d)
