-- What a line of a schedule says, in a language.
use Rattle.std.specs.Prelude.{ℕ, ◌^◌, ◌-◌, ◌==◌, Bool, true, false, not, ◌&&◌, List, [], ◌∷◌, length, take, drop, get_or, Option, Some, None, is_some, nat_lt, nat_le, nat_eq, if◌then◌else◌, codes}
use Rattle.std.specs.Cmp.Lexicographic.{pointwise}
use Rattle.std.specs.Fmt.{decimal}
use Rattle.std.specs.List.{slice_split, take_while}
use Rattle.std.specs.Option.{option_map}
use Rattle.std.specs.Result.{result_ok}
use Rattle.std.specs.Str.Parse.{digits_value}
use Rattle.hex.specs.Hex.{decode_of}
use Rattle.raft_state.specs.declared.policy.SnapshotPolicy.{SnapshotPolicy}
use Rattle.raft_state.specs.declared.policy.SnapshotPolicy.TheVariants.{LogsSinceLast, Never}
use Rattle.raft_store.specs.declared.entry.Value.{Value}
use Rattle.raft_store.specs.declared.entry.Value.TheVariants.{Number, Bytes}
use Rattle.raft_store.specs.Values.{hex_text}
use Rattle.raft_schedule.specs.declared.event.Event.{Event}
use Rattle.raft_schedule.specs.declared.event.EventKind.{EventKind}
use Rattle.raft_schedule.specs.declared.event.EventKind.TheVariants.{Init, Timeout, Stand, Deliver, Propose, Heartbeat, Fail, Snapshot, Built, Purge, Restart, Member, Change, Read, Down, Stop}
use Rattle.raft_schedule.specs.declared.event.Start.{Start}
use Rattle.raft_schedule.specs.declared.event.Start.TheVariants.{Plain, Saved, Bare}
use Rattle.raft_state.specs.declared.ids.LogId.{LogId}
use Rattle.raft_state.specs.declared.ids.Vote.{Vote}
use Rattle.raft_state.specs.declared.state.ServerState.TheVariants.{Learner, Follower, Candidate, Leader}
use Rattle.raft_schedule.specs.declared.step.Expectation.{Expectation}
use Rattle.raft_schedule.specs.declared.step.Expectation.TheVariants as Expectation
use Rattle.raft_schedule.specs.declared.step.Expectation.TheVariants.{Node, Agree}
use Rattle.raft_schedule.specs.declared.step.Fact.{Fact}
use Rattle.raft_schedule.specs.declared.step.Fact.TheVariants as Fact
use Rattle.raft_schedule.specs.declared.step.Fact.TheVariants.{Stopped, Role, Last, Committed, Applied}
use Rattle.raft_schedule.specs.declared.step.MessageKind.{MessageKind}
use Rattle.raft_schedule.specs.declared.step.MessageKind.TheVariants as MessageKind
use Rattle.raft_schedule.specs.declared.step.MessageKind.TheVariants.{VoteRequest, VoteReply, Append, AppendReply, SnapshotReply}
use Rattle.raft_schedule.specs.declared.step.Step.{Step}
use Rattle.raft_schedule.specs.declared.step.Step.TheVariants.{Happens, Next, All, Expects}
use Rattle.raft_schedule.specs.declared.schedule.Language.{Language}
use Rattle.raft_schedule.specs.declared.schedule.Language.TheVariants.{First, Second}
use Rattle.raft_schedule.specs.declared.schedule.Setting.{Setting}
use Rattle.raft_schedule.specs.declared.schedule.Setting.TheVariants.{Lease, Policy, Keep, Batch, Payload}

infixl 10 ◌>>=◌
abbrev pub ◌>>=◌ : {A B : Type 0} → Option A → (A → Option B) → Option B
(Some x) >>= f = f x
None >>= f = None

-- a line begins the second language, or names the nodes, the voters of a group, the learners, a setting, or a step
pub data Statement : Type 0 where
  Speaks : Statement
  Nodes : (ids : List ℕ) → Statement
  Voters : (ids : List ℕ) → Statement
  Learners : (ids : List ℕ) → Statement
  Sets : (setting : Setting) → Statement
  Does : (step : Step) → Statement

-- what stands between the bytes of this value
abbrev pub parts : ℕ → List ℕ → List (List ℕ)
parts separator text = slice_split (λ b. b == separator) text

-- the first byte is this
abbrev pub begins : ℕ → List ℕ → Bool
begins byte [] = false
begins byte (b ∷ text) = b == byte

-- the words of a line, separated by single spaces; in the second language those before one that begins with `#`
abbrev pub words : Language → List ℕ → List (List ℕ)
words First line = parts 32 line
words Second line = take_while (λ word. not (begins 35 word)) (parts 32 line)

abbrev pub is : List ℕ → List ℕ → Bool
is word name = pointwise nat_eq word name

-- the number below 2 ^ 64 of which a word is the decimal
unfoldable pub number : List ℕ → Option ℕ
number word = let n = digits_value 10 word in if nat_lt n (2 ^ 64) && is word (decimal n) then Some n else None

-- each word's number
unfoldable pub numbers : List (List ℕ) → Option (List ℕ)
numbers [] = Some []
numbers (word ∷ rest) = do
  n ← number word
  ns ← numbers rest
  Some (n ∷ ns)

-- `never`, or how many log ids
unfoldable pub policy : List ℕ → Option SnapshotPolicy
policy value = if is value (codes "never") then Some Never else option_map LogsSinceLast (number value)

-- `lease T`, `policy never`, `policy N`, `keep N`, `batch N` or `payload N`
unfoldable pub named_setting : List ℕ → List ℕ → Option Setting
named_setting name value =
    if is name (codes "lease") then option_map Lease (number value)
    else if is name (codes "policy") then option_map Policy (policy value)
    else if is name (codes "keep") then option_map Keep (number value)
    else if is name (codes "batch") then option_map Batch (number value)
    else if is name (codes "payload") then option_map Payload (number value)
    else None

abbrev pub setting : List (List ℕ) → Option Setting
setting (name ∷ value ∷ []) = named_setting name value
setting _ = None

-- an event whose name is a word of the second language alone
abbrev pub of_second : Language → EventKind → Option EventKind
of_second First kind = None
of_second Second kind = Some kind

-- `init N`, `timeout N`, `deliver M`, `heartbeat N`, `snapshot N`, `built N`, `restart N`, `read N` or `down N`; in the second language
-- also `stop N` or `stand N`
unfoldable pub kind_of_one : Language → List ℕ → ℕ → Option EventKind
kind_of_one language name n =
    if is name (codes "init") then Some (Init n)
    else if is name (codes "timeout") then Some (Timeout n)
    else if is name (codes "deliver") then Some (Deliver n)
    else if is name (codes "heartbeat") then Some (Heartbeat n)
    else if is name (codes "snapshot") then Some (Snapshot n)
    else if is name (codes "built") then Some (Built n)
    else if is name (codes "restart") then Some (Restart n Plain)
    else if is name (codes "read") then Some (Read n)
    else if is name (codes "down") then Some (Down n)
    else if is name (codes "stop") then of_second language (Stop n)
    else if is name (codes "stand") then of_second language (Stand n)
    else None

-- the bytes whose hexadecimal text this is, in small letters
unfoldable pub hex_bytes : List ℕ → Option (List ℕ)
hex_bytes text = do
  bytes ← result_ok (decode_of text)
  if is text (hex_text bytes) then Some bytes else None

-- what is proposed: a number; in the second language also bytes, as `x` and their hexadecimal text
unfoldable pub value : Language → List ℕ → Option Value
value First word = option_map Number (number word)
value Second word = if begins 120 word then option_map Bytes (hex_bytes (drop 1 word)) else option_map Number (number word)

-- each word's value
unfoldable pub each_value : Language → List (List ℕ) → Option (List Value)
each_value language [] = Some []
each_value language (word ∷ rest) = do
  v ← value language word
  vs ← each_value language rest
  Some (v ∷ vs)

-- so many values may be proposed by one event: one, in the second language one or more
abbrev pub is_count : Language → ℕ → Bool
is_count First n = nat_eq n 1
is_count Second n = nat_lt 0 n

-- the values of a proposal
unfoldable pub values : Language → List (List ℕ) → Option (List Value)
values language words = if is_count language (length words) then each_value language words else None

-- how a node starts: `saved`; in the second language also `bare`
unfoldable pub start_of : Language → List ℕ → Option Start
start_of First word = if is word (codes "saved") then Some Saved else None
start_of Second word = if is word (codes "saved") then Some Saved else if is word (codes "bare") then Some Bare else None

-- `fail N T`, `purge N I`, `restart N saved` or `restart N bare`
unfoldable pub kind_of_two : Language → List ℕ → ℕ → List ℕ → Option EventKind
kind_of_two language name n second =
    if is name (codes "fail") then option_map (Fail n) (number second)
    else if is name (codes "purge") then option_map (Purge n) (number second)
    else if is name (codes "restart") then option_map (Restart n) (start_of language second)
    else None

-- one or more of them
abbrev pub one_or_more : {A : Type 0} → List A → Option (List A)
one_or_more [] = None
one_or_more (x ∷ xs) = Some (x ∷ xs)

-- the ids of a group, separated by commas
abbrev pub group : List ℕ → Option (List ℕ)
group word = numbers (parts 44 word)

-- each word is a group; then, if there are learners, the word `learners` and their ids
unfoldable pub groups_and_learners : List (List ℕ) → Option (List (List ℕ) × List ℕ)
groups_and_learners [] = Some ([], [])
groups_and_learners (word ∷ rest) =
    if is word (codes "learners") then (do
      ids ← numbers rest
      learners ← one_or_more ids
      Some ([], learners))
    else (do
      ids ← group word
      others ← groups_and_learners rest
      Some (ids ∷ others.0, others.1))

-- `change N G.. learners L..`: one or more groups, and learners
unfoldable pub change : ℕ → List (List ℕ) → Option EventKind
change n words = do
  members ← groups_and_learners words
  groups ← one_or_more members.0
  Some (Change n groups members.1)

-- a kind with as many arguments as there are words
abbrev pub short_kind : Language → List ℕ → ℕ → List (List ℕ) → Option EventKind
short_kind language name n [] = kind_of_one language name n
short_kind language name n (second ∷ []) = kind_of_two language name n second
short_kind language name n _ = None

-- `propose N V..`, `member N L..`, `change N G.. learners L..`, or a kind with one argument or two
unfoldable pub named_kind : Language → List ℕ → ℕ → List (List ℕ) → Option EventKind
named_kind language name n rest =
    if is name (codes "propose") then option_map (Propose n) (values language rest)
    else if is name (codes "member") then option_map (Member n) (numbers rest)
    else if is name (codes "change") then change n rest
    else short_kind language name n rest

-- what happens: a name, a number, and what else belongs to it
abbrev pub kind : Language → List (List ℕ) → Option EventKind
kind language (name ∷ first ∷ rest) = do
  n ← number first
  named_kind language name n rest
kind language _ = None

-- behind one word or more the last two are this name and an argument
abbrev pub ends_with : List ℕ → List (List ℕ) → Bool
ends_with name words = nat_le 3 (length words) && is (get_or words (length words - 2) []) name

-- the words before a trailing pair of this name and a number, and that number; or all words and none
unfoldable pub trailing : List ℕ → List (List ℕ) → Option (List (List ℕ) × Option ℕ)
trailing name words =
    if ends_with name words then (do
      n ← number (get_or words (length words - 1) [])
      Some (take (length words - 2) words, Some n))
    else Some (words, None)

-- a restart has no time: it happens at its node's last moment
abbrev pub takes_time : EventKind → Bool
takes_time (Restart id start) = false
takes_time _ = true

-- the event, unless it has a time and takes none
abbrev pub timed_event : EventKind → Option ℕ → Option ℕ → Option Event
timed_event kind at stop = if is_some at && not (takes_time kind) then None else Some (record { kind = kind; at = at; stop = stop })

-- what happens; then `at T` if it has a time, and then `stop J` if its node stops after J commands
unfoldable pub event : Language → List (List ℕ) → Option Event
event language words = do
  stopped ← trailing (codes "stop") words
  timed ← trailing (codes "at") stopped.0
  kind ← kind language timed.0
  timed_event kind timed.1 stopped.1

-- a kind of messages, by its name
unfoldable pub message_kind : List ℕ → Option MessageKind
message_kind word =
    if is word (codes "vote-request") then Some VoteRequest
    else if is word (codes "vote-reply") then Some VoteReply
    else if is word (codes "append") then Some Append
    else if is word (codes "heartbeat") then Some MessageKind.Heartbeat
    else if is word (codes "append-reply") then Some AppendReply
    else if is word (codes "snapshot") then Some MessageKind.Snapshot
    else if is word (codes "snapshot-reply") then Some SnapshotReply
    else None

-- a pair of ids
abbrev pub pair : List ℕ → Option (ℕ × ℕ)
pair (a ∷ b ∷ []) = Some (a, b)
pair _ = None

-- `A>B`: a sender and an addressee
unfoldable pub ends : List ℕ → Option (ℕ × ℕ)
ends word = do
  ids ← numbers (parts 62 word)
  pair ids

abbrev pub only_kind : List (List ℕ) → Option MessageKind
only_kind (word ∷ []) = message_kind word
only_kind _ = None

-- `A>B KIND`, then `at T` and `stop J` as of an event
unfoldable pub next : ℕ × ℕ → List (List ℕ) → Option Step
next ends words = do
  stopped ← trailing (codes "stop") words
  timed ← trailing (codes "at") stopped.0
  kind ← only_kind timed.0
  Some (Next (record { from = ends.0; to = ends.1; kind = kind }) timed.1 stopped.1)

-- `all`, at most 10,000 times, or `all N`
unfoldable pub all_of : List (List ℕ) → Option Step
all_of [] = Some (All 10000)
all_of (word ∷ []) = option_map All (number word)
all_of _ = None

-- `deliver all`, `deliver all N` and `deliver A>B KIND`, or an event
unfoldable pub delivery : List ℕ → List (List ℕ) → Option Step
delivery first rest =
    if is first (codes "all") then all_of rest
    else elim (ends first) [
      | Some ids ↦ next ids rest
      | None ↦ option_map Happens (event Second (codes "deliver" ∷ first ∷ rest))
    ]

-- three numbers: a log id
abbrev pub id_of : List ℕ → Option (LogId ℕ)
id_of (term ∷ node ∷ index ∷ []) = Some (record { leader_id = record { term = term; node_id = node }; index = index })
id_of _ = None

-- `T-N-I`
unfoldable pub log_id : List ℕ → Option (LogId ℕ)
log_id word = do
  ns ← numbers (parts 45 word)
  id_of ns

-- `None`, or `T-N-I`
unfoldable pub optional_id : List ℕ → Option (Option (LogId ℕ))
optional_id word = if is word (codes "None") then Some None else option_map Some (log_id word)

-- `None`, or an index
unfoldable pub optional_index : List ℕ → Option (Option ℕ)
optional_index word = if is word (codes "None") then Some None else option_map Some (number word)

-- a vote that a quorum has granted has `Q`, another `-`
unfoldable pub mark : List ℕ → Option Bool
mark word = if is word (codes "Q") then Some true else if is word (codes "-") then Some false else None

abbrev pub marked : List (List ℕ) → Option (Vote ℕ)
marked (ids ∷ word ∷ []) = do
  ns ← numbers (parts 45 ids)
  leader ← pair ns
  committed ← mark word
  Some (record { leader_id = record { term = leader.0; node_id = leader.1 }; committed = committed })
marked _ = None

-- `T-N:Q` or `T-N:-`
abbrev pub vote : List ℕ → Option (Vote ℕ)
vote word = marked (parts 58 word)

-- a role, or `stopped`
unfoldable pub role : List ℕ → Option Fact
role word =
    if is word (codes "Learner") then Some (Role Learner)
    else if is word (codes "Follower") then Some (Role Follower)
    else if is word (codes "Candidate") then Some (Role Candidate)
    else if is word (codes "Leader") then Some (Role Leader)
    else if is word (codes "stopped") then Some Stopped
    else None

-- `vote V`, `last L`, `committed L` or `applied I`
unfoldable pub named_fact : List ℕ → List ℕ → Option Fact
named_fact name word =
    if is name (codes "vote") then option_map Fact.Vote (vote word)
    else if is name (codes "last") then option_map Last (optional_id word)
    else if is name (codes "committed") then option_map Committed (optional_id word)
    else if is name (codes "applied") then option_map Applied (optional_index word)
    else None

-- pairs of a name and a word
unfoldable pub named_facts : List (List ℕ) → Option (List Fact)
named_facts [] = Some []
named_facts (name ∷ word ∷ rest) = do
  fact ← named_fact name word
  facts ← named_facts rest
  Some (fact ∷ facts)
named_facts _ = None

-- a role, if it is there, and pairs
unfoldable pub facts : List (List ℕ) → Option (List Fact)
facts [] = Some []
facts (word ∷ rest) = elim (role word) [
  | Some fact ↦ option_map (λ facts. fact ∷ facts) (named_facts rest)
  | None ↦ named_facts (word ∷ rest)
]

-- what a read answered
abbrev pub answer : List (List ℕ) → Option (Option (LogId ℕ))
answer (word ∷ []) = optional_id word
answer _ = None

-- nothing more
abbrev pub agreed : List (List ℕ) → Option Expectation
agreed [] = Some Agree
agreed _ = None

-- `agree`, `read L`, or a node and facts
unfoldable pub expectation : List ℕ → List (List ℕ) → Option Expectation
expectation first rest =
    if is first (codes "agree") then agreed rest
    else if is first (codes "read") then option_map Expectation.Read (answer rest)
    else (do
      n ← number first
      facts ← facts rest
      Some (Node n facts))

-- what stands in the place of events: an event; in the second language also a delivery that the run resolves, or what is expected, each of
-- two words or more
unfoldable pub step : Language → List (List ℕ) → Option Step
step First words = option_map Happens (event First words)
step Second (name ∷ first ∷ rest) =
    if is name (codes "deliver") then delivery first rest
    else if is name (codes "expect") then option_map Expects (expectation first rest)
    else option_map Happens (event Second (name ∷ first ∷ rest))
step Second _ = None

-- what the words of a line say: `nodes`, `voters` or `learners` and ids, `set` and a setting, or a step
unfoldable pub meaning : Language → List (List ℕ) → Option Statement
meaning language [] = None
meaning language (first ∷ rest) =
    if is first (codes "nodes") then option_map Nodes (numbers rest)
    else if is first (codes "voters") then option_map Voters (numbers rest)
    else if is first (codes "learners") then option_map Learners (numbers rest)
    else if is first (codes "set") then option_map Sets (setting rest)
    else option_map Does (step language (first ∷ rest))
