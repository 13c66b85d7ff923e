-- Statements that are written, one to a line, are read again.
use Rattle.std.proofs.Common.{◌≡◌, ◌≢◌, ℕ, zero, suc, ◌+◌, ◌-◌, ◌/◌, ◌%◌, ◌<◌, ◌≤◌, Bool, true, false, not, ◌&&◌, length, take, get_or, List, [], ◌∷◌, ◌++◌, Option, Some, None, Ok, map, codes, eqb, nat_le, refl, ap, sym, subst, ◌∙◌, IfSome, append_assoc, arith, fold, flat_map, cond}
use Rattle.std.proofs.lemmas.Bool.{ne_eqb, eq-eqb, le-leb, leb-true}
use Rattle.std.proofs.lemmas.Bool.Decides.{nat_tests}
use Rattle.std.proofs.lemmas.Fmt.{decimal_is_IsNumeral, hex_one_digit}
use Rattle.std.proofs.lemmas.List.{append-nil, length-map}
use Rattle.std.proofs.lemmas.List.Folds.{list_all-append}
use Rattle.std.proofs.lemmas.List.Sums.{take_while-cons}
use Rattle.std.proofs.lemmas.Str.Parse.{digit_from_value}
use Rattle.std.specs.Fmt.{decimal, digit_glyph}
use Rattle.std.specs.List.{AllByRecursion, join_with_byte, list_all, take_while}
use Rattle.std.specs.Option.{option_map}
use Rattle.std.specs.Str.Parse.{AllDigits}
use Rattle.hex.specs.Hex.{IsBytes}
use Rattle.raft_state.specs.declared.policy.SnapshotPolicy.TheVariants.{LogsSinceLast, Never}
use Rattle.raft_store.specs.raft_command.declared.config.EngineConfig.{EngineConfig}
use Rattle.raft_schedule.specs.declared.event.Event.{Event}
use Rattle.raft_schedule.specs.declared.event.EventKind.{EventKind}
use Rattle.raft_schedule.specs.declared.event.EventKind.TheVariants.{Init, Timeout, Stand, Deliver, Propose, Heartbeat, Fail, Snapshot, Built, Purge, Restart, Member, Change, Read, Down, Stop}
use Rattle.raft_schedule.specs.declared.event.Start.TheVariants.{Plain, Saved, Bare}
use Rattle.raft_schedule.specs.declared.schedule.Language.{Language}
use Rattle.raft_schedule.specs.declared.schedule.Language.TheVariants.{First, Second}
use Rattle.raft_schedule.specs.declared.schedule.Place.{Place}
use Rattle.raft_schedule.specs.declared.schedule.Place.TheVariants.{Start, Voters as AtVoters, Learners as AtLearners, Settings, Events}
use Rattle.raft_schedule.specs.declared.schedule.Setting.{Setting}
use Rattle.raft_schedule.specs.declared.schedule.Setting.TheVariants.{Lease, Policy, Keep, Batch, Payload}
use Rattle.raft_schedule.specs.declared.step.Expectation.{Expectation}
use Rattle.raft_schedule.specs.declared.step.Expectation.TheVariants as Expectation
use Rattle.raft_schedule.specs.declared.step.Expectation.TheVariants.{Node, Agree}
use Rattle.raft_schedule.specs.declared.step.Fact.{Fact}
use Rattle.raft_schedule.specs.declared.step.Fact.TheVariants as Fact
use Rattle.raft_schedule.specs.declared.step.Fact.TheVariants.{Stopped, Role, Last, Committed, Applied}
use Rattle.raft_schedule.specs.declared.step.MessageKind.{MessageKind}
use Rattle.raft_schedule.specs.declared.step.MessageKind.TheVariants as MessageKind
use Rattle.raft_schedule.specs.declared.step.MessageKind.TheVariants.{VoteRequest, VoteReply, Append, AppendReply, SnapshotReply}
use Rattle.raft_schedule.specs.declared.step.Numbered.{Numbered}
use Rattle.raft_schedule.specs.declared.step.Step.{Step}
use Rattle.raft_schedule.specs.declared.step.Step.TheVariants.{Happens, Next, All, Expects}
use Rattle.raft_state.specs.declared.ids.LogId.{LogId}
use Rattle.raft_state.specs.declared.ids.Vote.{Vote}
use Rattle.raft_state.specs.declared.state.ServerState.{ServerState}
use Rattle.raft_state.specs.declared.state.ServerState.TheVariants.{Learner, Follower, Candidate, Leader}
use Rattle.raft_state.specs.Texts.{leader_id_text}
use Rattle.raft_schedule.specs.Line.{Statement, Speaks, Nodes, Voters, Learners, Sets, Does, parts, begins, words, is, numbers, value, each_value, is_count, values, start_of, policy, named_setting, kind_of_one, kind_of_two, one_or_more, group, groups_and_learners, change, named_kind, kind, ends_with, trailing, takes_time, timed_event, event, message_kind, ends, next, all_of, delivery, log_id, optional_id, optional_index, mark, marked, vote, role, named_fact, named_facts, facts, expectation, step, meaning}
use Rattle.raft_schedule.specs.Text.{Said, nothing, and_said, with_setting, plan_of, lines, is_skipped, begins_second, stands, behind, standing, said_at, ended, statements}
use Rattle.raft_store.specs.declared.entry.Value.{Value}
use Rattle.raft_store.specs.declared.entry.Value.TheVariants.{Number, Bytes}
use Rattle.raft_store.specs.Values.{hex_text}
use Rattle.raft_schedule.specs.Written.{group_word, learner_words, kind_words, value_word, time_words, stop_words, event_words, ends_word, message_word, id_word, optional_word, vote_word, role_word, fact_words, expectation_words, step_words, statement_words, text_of, IsU64, IsGroup, IsByte, HasWord, HasU64s, HasEvent, IsId, IsNamed, AreFacts, HasExpectation, HasStep, HasWords, AreInOrder, numbered, lines_in, ReadsWritten, settings_of, learners_said, does, first_line, steps_at, StandFrom, statements_of, as_set, ReadsSchedules}
use Rattle.raft_schedule.proofs.Numbers.{number_of}
use Rattle.raft_schedule.proofs.Values.{hex_again, bytes_value, number_value}

-- ---- bytes that no word has

-- each byte is above `#`, so none is a space
abbrev is_high : List ℕ → Bool
is_high w = list_all (λ b. nat_le 36 b) w

abbrev lacks : ℕ → List ℕ → Bool
lacks c w = list_all (λ b. not (eqb b c)) w

both_true : (x y : Bool) → x && y ≡ true → (x ≡ true) × (y ≡ true)
both_true true y h = (refl, h)
both_true false y h = cc

is_false : (x : Bool) → not x ≡ true → x ≡ false
is_false true h = cc
is_false false h = refl

high_lacks : (c : ℕ) (w : List ℕ) → c < 36 → is_high w ≡ true → lacks c w ≡ true
high_lacks c [] low h = refl
high_lacks c (b ∷ w) low h =
    let p = both_true (nat_le 36 b) (is_high w) h in
    rw (ne_eqb b c (λ e. omega (arith, leb-true 36 b p.0)), high_lacks c w low p.1) refl

digits_high : (ds : List ℕ) → AllDigits 10 ds → is_high ds ≡ true
digits_high [] h = refl
digits_high (d ∷ ds) h = rw (le-leb 36 d (omega (arith, digit_from_value d h.0)), digits_high ds h.1) refl

-- a digit is no separator
digits_lack : (c : ℕ) (ds : List ℕ) → c < 48 → AllDigits 10 ds → lacks c ds ≡ true
digits_lack c [] low h = refl
digits_lack c (d ∷ ds) low h = rw (ne_eqb d c (λ e. omega (arith, digit_from_value d h.0)), digits_lack c ds low h.1) refl

decimal_high : (n : ℕ) → IsU64 n → is_high (decimal n) ≡ true
decimal_high n small = digits_high (decimal n) (decimal_is_IsNumeral n small).0.1

abbrev AreHigh : List (List ℕ) → Type 0
AreHigh ws = AllByRecursion (λ w. is_high w ≡ true) ws

abbrev AllLack : ℕ → List (List ℕ) → Type 0
AllLack c ws = AllByRecursion (λ w. lacks c w ≡ true) ws

all_lack : (c : ℕ) (ws : List (List ℕ)) → c < 36 → AreHigh ws → AllLack c ws
all_lack c [] low h = tt
all_lack c (w ∷ ws) low h = (high_lacks c w low h.0, all_lack c ws low h.1)

decimals_lack : (c : ℕ) (ids : List ℕ) → c < 48 → AllByRecursion IsU64 ids → AllLack c (map decimal ids)
decimals_lack c [] low h = tt
decimals_lack c (n ∷ ids) low h = (digits_lack c (decimal n) low (decimal_is_IsNumeral n h.0).0.1, decimals_lack c ids low h.1)

decimals_high : (ids : List ℕ) → AllByRecursion IsU64 ids → AreHigh (map decimal ids)
decimals_high [] h = tt
decimals_high (n ∷ ids) h = (decimal_high n h.0, decimals_high ids h.1)

high_more : (vs ws : List (List ℕ)) → AreHigh vs → AreHigh ws → AreHigh (vs ++ ws)
high_more [] ws h g = g
high_more (v ∷ vs) ws h g = (h.0, high_more vs ws h.1 g)

-- words that are joined by a byte above `#`
joined_high : (c : ℕ) (ws : List (List ℕ)) → 36 ≤ c → AreHigh ws → is_high (join_with_byte c ws) ≡ true
joined_high c [] high h = refl
joined_high c (w ∷ []) high h = h.0
joined_high c (w ∷ v ∷ vs) high h = list_all-append (λ b. nat_le 36 b) w (c ∷ join_with_byte c (v ∷ vs)) ∙ rw (h.0, le-leb 36 c high, joined_high c (v ∷ vs) high h.1) refl

groups_high : (groups : List (List ℕ)) → AllByRecursion IsGroup groups → AreHigh (map group_word groups)
groups_high [] h = tt
groups_high (ids ∷ groups) h = (joined_high 44 (map decimal ids) (omega arith) (decimals_high ids h.0.1), groups_high groups h.1)

learners_high : (ids : List ℕ) → AllByRecursion IsU64 ids → AreHigh (learner_words ids)
learners_high [] h = tt
learners_high (n ∷ ids) h = (refl, decimals_high (n ∷ ids) h)

glyph_high : (d : ℕ) → nat_le 36 (digit_glyph false d) ≡ true
glyph_high d = grind (arith, nat_tests)

hex_high : (bytes : List ℕ) → AllByRecursion IsByte bytes → is_high (hex_text bytes) ≡ true
hex_high [] h = refl
hex_high (b ∷ bytes) h =
    let small : b < 256 = h.0 in
    rw (hex_one_digit false (b / 16) (omega arith), hex_one_digit false (b % 16) (omega arith), glyph_high (b / 16), glyph_high (b % 16), hex_high bytes h.1) refl

value_high : (language : Language) (v : Value) → HasWord language v → is_high (value_word v) ≡ true
value_high language (Number v) small = decimal_high v small
value_high First (Bytes bytes) small = absurd small
value_high Second (Bytes bytes) small = hex_high bytes small

values_high : (language : Language) (vs : List Value) → AllByRecursion (HasWord language) vs → AreHigh (map value_word vs)
values_high language [] h = tt
values_high language (v ∷ vs) h = (value_high language v h.0, values_high language vs h.1)

kind_high : (language : Language) (k : EventKind) → HasU64s language k → AreHigh (kind_words k)
kind_high language (Init n) small = (refl, (decimal_high n small, tt))
kind_high language (Timeout n) small = (refl, (decimal_high n small, tt))
kind_high language (Deliver n) small = (refl, (decimal_high n small, tt))
kind_high language (Propose n vs) small = (refl, (decimal_high n small.0, values_high language vs small.1))
kind_high language (Heartbeat n) small = (refl, (decimal_high n small, tt))
kind_high language (Fail n v) small = (refl, (decimal_high n small.0, (decimal_high v small.1, tt)))
kind_high language (Snapshot n) small = (refl, (decimal_high n small, tt))
kind_high language (Built n) small = (refl, (decimal_high n small, tt))
kind_high language (Purge n v) small = (refl, (decimal_high n small.0, (decimal_high v small.1, tt)))
kind_high language (Restart n Plain) small = (refl, (decimal_high n small.0, tt))
kind_high language (Restart n Saved) small = (refl, (decimal_high n small.0, (refl, tt)))
kind_high language (Restart n Bare) small = (refl, (decimal_high n small.0, (refl, tt)))
kind_high language (Member n ids) small = (refl, (decimal_high n small.0, decimals_high ids small.1))
kind_high language (Change n groups ids) small =
    (refl, (decimal_high n small.0, high_more (map group_word groups) (learner_words ids) (groups_high groups small.1) (learners_high ids small.2)))
kind_high language (Read n) small = (refl, (decimal_high n small, tt))
kind_high language (Down n) small = (refl, (decimal_high n small, tt))
kind_high First (Stop n) small = absurd small
kind_high Second (Stop n) small = (refl, (decimal_high n small, tt))
kind_high First (Stand n) small = absurd small
kind_high Second (Stand n) small = (refl, (decimal_high n small, tt))

time_high : (at : Option ℕ) → IfSome at IsU64 → AreHigh (time_words at)
time_high None small = tt
time_high (Some t) small = (refl, (decimal_high t small, tt))

stop_high : (stop : Option ℕ) → IfSome stop IsU64 → AreHigh (stop_words stop)
stop_high None small = tt
stop_high (Some j) small = (refl, (decimal_high j small, tt))

event_high : (language : Language) (e : Event) → HasEvent language e → AreHigh (event_words e)
event_high language e h = high_more (kind_words e.kind ++ time_words e.at) (stop_words e.stop) (high_more (kind_words e.kind) (time_words e.at) (kind_high language e.kind h.0) (time_high e.at h.1)) (stop_high e.stop h.2)

message_high : (k : MessageKind) → is_high (message_word k) ≡ true
message_high VoteRequest = refl
message_high VoteReply = refl
message_high Append = refl
message_high MessageKind.Heartbeat = refl
message_high AppendReply = refl
message_high MessageKind.Snapshot = refl
message_high SnapshotReply = refl

both_high : (v w : List ℕ) → is_high v ≡ true → is_high w ≡ true → is_high (v ++ w) ≡ true
both_high v w h g = list_all-append (λ b. nat_le 36 b) v w ∙ rw (h, g) refl

-- a leader's id
abbrev leader_word : ℕ → ℕ → List ℕ
leader_word term node = decimal term ++ 45 ∷ decimal node

leader_is : (term node : ℕ) → leader_id_text term (decimal node) ≡ leader_word term node
leader_is term node = append_assoc (decimal term) (45 ∷ []) (decimal node)

-- a log id's numbers, each behind the one before
id_is : (id : LogId ℕ) → id_word id ≡ decimal id.leader_id.term ++ 45 ∷ (decimal id.leader_id.node_id ++ 45 ∷ decimal id.index)
id_is id =
    append_assoc (leader_id_text id.leader_id.term (decimal id.leader_id.node_id)) (45 ∷ []) (decimal id.index) ∙ ap (λ l. l ++ 45 ∷ decimal id.index) (leader_is id.leader_id.term id.leader_id.node_id)
    ∙ append_assoc (decimal id.leader_id.term) (45 ∷ decimal id.leader_id.node_id) (45 ∷ decimal id.index)

-- a vote's mark
abbrev mark_word : Bool → List ℕ
mark_word b = cond b (codes "Q") (codes "-")

vote_is : (v : Vote ℕ) → vote_word v ≡ leader_word v.leader_id.term v.leader_id.node_id ++ 58 ∷ mark_word v.committed
vote_is v =
    append_assoc (leader_id_text v.leader_id.term (decimal v.leader_id.node_id)) (58 ∷ []) (mark_word v.committed)
    ∙ ap (λ l. l ++ 58 ∷ mark_word v.committed) (leader_is v.leader_id.term v.leader_id.node_id)

leader_high : (term node : ℕ) → IsU64 term → IsU64 node → is_high (leader_word term node) ≡ true
leader_high term node t n = both_high (decimal term) (45 ∷ decimal node) (decimal_high term t) (decimal_high node n)

id_high : (id : LogId ℕ) → IsId id → is_high (id_word id) ≡ true
id_high id h =
    ap is_high (id_is id)
    ∙ both_high (decimal id.leader_id.term) (45 ∷ (decimal id.leader_id.node_id ++ 45 ∷ decimal id.index)) (decimal_high id.leader_id.term h.0)
    (both_high (decimal id.leader_id.node_id) (45 ∷ decimal id.index) (decimal_high id.leader_id.node_id h.1) (decimal_high id.index h.2))

optional_id_high : (id : Option (LogId ℕ)) → IfSome id IsId → is_high (optional_word id_word id) ≡ true
optional_id_high None h = refl
optional_id_high (Some id) h = id_high id h

index_high : (index : Option ℕ) → IfSome index IsU64 → is_high (optional_word decimal index) ≡ true
index_high None h = refl
index_high (Some i) h = decimal_high i h

marks_high : (b : Bool) → is_high (58 ∷ mark_word b) ≡ true
marks_high true = refl
marks_high false = refl

vote_high : (v : Vote ℕ) → IsU64 v.leader_id.term → IsU64 v.leader_id.node_id → is_high (vote_word v) ≡ true
vote_high v t n =
    ap is_high (vote_is v) ∙ both_high (leader_word v.leader_id.term v.leader_id.node_id) (58 ∷ mark_word v.committed) (leader_high v.leader_id.term v.leader_id.node_id t n) (marks_high v.committed)

role_high : (r : ServerState) → is_high (role_word r) ≡ true
role_high Learner = refl
role_high Follower = refl
role_high Candidate = refl
role_high Leader = refl

named_high : (fact : Fact) → IsNamed fact → AreHigh (fact_words fact)
named_high Stopped h = absurd h
named_high (Role r) h = absurd h
named_high (Fact.Vote v) h = (refl, (vote_high v h.0 h.1, tt))
named_high (Last id) h = (refl, (optional_id_high id h, tt))
named_high (Committed id) h = (refl, (optional_id_high id h, tt))
named_high (Applied index) h = (refl, (index_high index h, tt))

named_all_high : (facts : List Fact) → AllByRecursion IsNamed facts → AreHigh (flat_map fact_words facts)
named_all_high [] h = tt
named_all_high (fact ∷ facts) h = high_more (fact_words fact) (flat_map fact_words facts) (named_high fact h.0) (named_all_high facts h.1)

facts_high : (facts : List Fact) → AreFacts facts → AreHigh (flat_map fact_words facts)
facts_high [] h = tt
facts_high (Stopped ∷ facts) h = (refl, named_all_high facts h)
facts_high (Role r ∷ facts) h = (role_high r, named_all_high facts h)
facts_high (Fact.Vote v ∷ facts) h = named_all_high (Fact.Vote v ∷ facts) h
facts_high (Last id ∷ facts) h = named_all_high (Last id ∷ facts) h
facts_high (Committed id ∷ facts) h = named_all_high (Committed id ∷ facts) h
facts_high (Applied index ∷ facts) h = named_all_high (Applied index ∷ facts) h

expectation_high : (e : Expectation) → HasExpectation e → AreHigh (expectation_words e)
expectation_high (Node n facts) h = (decimal_high n h.0, facts_high facts h.1)
expectation_high (Expectation.Read id) h = (refl, (optional_id_high id h, tt))
expectation_high Agree h = (refl, tt)

step_high : (language : Language) (s : Step) → HasStep language s → AreHigh (step_words s)
step_high language (Happens e) h = event_high language e h
step_high First (Next link at stop) h = absurd h
step_high First (All n) h = absurd h
step_high First (Expects e) h = absurd h
step_high Second (Next link at stop) h =
    (refl, (joined_high 62 (decimal link.from ∷ decimal link.to ∷ []) (omega arith) (decimal_high link.from h.0, (decimal_high link.to h.1, tt)), (message_high link.kind, high_more (time_words at) (stop_words stop) (time_high at h.2) (stop_high stop h.3))))
step_high Second (All n) h = (refl, (refl, (decimal_high n h, tt)))
step_high Second (Expects e) h = (refl, expectation_high e h)

words_high : (language : Language) (s : Statement) → HasWords language s → AreHigh (statement_words s)
words_high language Speaks h = absurd h
words_high language (Nodes ids) h = (refl, decimals_high ids h)
words_high language (Voters ids) h = (refl, decimals_high ids h)
words_high language (Learners ids) h = (refl, decimals_high ids h)
words_high language (Sets (Lease n)) h = (refl, (refl, (decimal_high n h, tt)))
words_high language (Sets (Policy Never)) h = (refl, (refl, (refl, tt)))
words_high language (Sets (Policy (LogsSinceLast n))) h = (refl, (refl, (decimal_high n h, tt)))
words_high language (Sets (Keep n)) h = (refl, (refl, (decimal_high n h, tt)))
words_high language (Sets (Batch n)) h = (refl, (refl, (decimal_high n h, tt)))
words_high language (Sets (Payload n)) h = (refl, (refl, (decimal_high n h, tt)))
words_high language (Does step) h = step_high language step h

-- ---- a line and its words

cut : (c : ℕ) (w rest : List ℕ) → lacks c w ≡ true → parts c (w ++ c ∷ rest) ≡ w ∷ parts c rest
cut c [] rest h = rw (eq-eqb c c refl) refl
cut c (b ∷ w) rest h = let p = both_true (not (eqb b c)) (lacks c w) h in rw (is_false (eqb b c) p.0, cut c w rest p.1) refl

uncut : (c : ℕ) (w : List ℕ) → lacks c w ≡ true → parts c w ≡ w ∷ []
uncut c [] h = refl
uncut c (b ∷ w) h = let p = both_true (not (eqb b c)) (lacks c w) h in rw (is_false (eqb b c) p.0, uncut c w p.1) refl

-- words that are joined are parted again
parts_joined : (c : ℕ) (ws : List (List ℕ)) → 0 < length ws → AllLack c ws → parts c (join_with_byte c ws) ≡ ws
parts_joined c [] some h = absurd (omega arith)
parts_joined c (w ∷ []) some h = uncut c w h.0
parts_joined c (w ∷ v ∷ vs) some h = cut c w (join_with_byte c (v ∷ vs)) h.0 ∙ ap (λ ws. w ∷ ws) (parts_joined c (v ∷ vs) (omega arith) h.1)

no_comment : (w : List ℕ) → is_high w ≡ true → begins 35 w ≡ false
no_comment [] h = refl
no_comment (b ∷ w) h = let p = both_true (nat_le 36 b) (is_high w) h in ne_eqb b 35 (λ e. omega (arith, leb-true 36 b p.0))

no_comments : (ws : List (List ℕ)) → AreHigh ws → take_while (λ w. not (begins 35 w)) ws ≡ ws
no_comments [] h = refl
no_comments (w ∷ ws) h = take_while-cons (λ w. not (begins 35 w)) w ws ∙ rw (no_comment w h.0) (ap (λ ws. w ∷ ws) (no_comments ws h.1))

words_joined : (language : Language) (ws : List (List ℕ)) → 0 < length ws → AreHigh ws → words language (join_with_byte 32 ws) ≡ ws
words_joined First ws some h = parts_joined 32 ws some (all_lack 32 ws (omega arith) h)
words_joined Second ws some h = ap (take_while (λ w. not (begins 35 w))) (parts_joined 32 ws some (all_lack 32 ws (omega arith) h)) ∙ no_comments ws h

line_lacks : (ws : List (List ℕ)) → AreHigh ws → lacks 10 (join_with_byte 32 ws) ≡ true
line_lacks [] h = refl
line_lacks (w ∷ []) h = high_lacks 10 w (omega arith) h.0
line_lacks (w ∷ v ∷ vs) h = list_all-append (λ b. not (eqb b 10)) w (32 ∷ join_with_byte 32 (v ∷ vs)) ∙ rw (high_lacks 10 w (omega arith) h.0, line_lacks (v ∷ vs) h.1) refl

line_cut : (line rest : List ℕ) → lacks 10 line ≡ true → lines (line ++ 10 ∷ rest) ≡ line ∷ lines rest
line_cut [] rest h = refl
line_cut (b ∷ line) rest h = let p = both_true (not (eqb b 10)) (lacks 10 line) h in rw (is_false (eqb b 10) p.0, line_cut line rest p.1) refl

-- ---- what a written line says

numbers_written : (ids : List ℕ) → AllByRecursion IsU64 ids → numbers (map decimal ids) ≡ Some ids
unfolding numbers
numbers_written [] h = refl
numbers_written (n ∷ ids) h = rw (number_of (decimal n) n h.0 refl, numbers_written ids h.1) refl

-- it begins with a digit
abbrev BeginsLow : List ℕ → Type 0
BeginsLow word = get_or word 0 0 < 58

-- so it is no name, which begins with a letter
no_name : (word : List ℕ) (letter : ℕ) (name : List ℕ) → 58 ≤ letter → BeginsLow word → is word (letter ∷ name) ≡ false
no_name [] letter name high low = refl
no_name (b ∷ word) letter name high low = rw (ne_eqb b letter (λ e. omega arith)) refl

digits_low : (word : List ℕ) → AllDigits 10 word → BeginsLow word
digits_low [] h = omega arith
digits_low (d ∷ word) h = omega (arith, digit_from_value d h.0)

decimal_low : (n : ℕ) → IsU64 n → BeginsLow (decimal n)
decimal_low n small = digits_low (decimal n) (decimal_is_IsNumeral n small).0.1

joined_low : (c : ℕ) (w : List ℕ) (ws : List (List ℕ)) → 0 < length w → BeginsLow w → BeginsLow (join_with_byte c (w ∷ ws))
joined_low c [] ws some low = absurd (omega arith)
joined_low c (b ∷ w) [] some low = low
joined_low c (b ∷ w) (v ∷ vs) some low = low

group_low : (ids : List ℕ) → IsGroup ids → BeginsLow (group_word ids)
group_low [] h = absurd (h.0 refl)
group_low (n ∷ ids) h = joined_low 44 (decimal n) (map decimal ids) (decimal_is_IsNumeral n h.1.0).0.0 (decimal_low n h.1.0)

-- a group that is written is read
group_written : (ids : List ℕ) → IsGroup ids → group (group_word ids) ≡ Some ids
group_written [] h = absurd (h.0 refl)
group_written (n ∷ ids) h = ap numbers (parts_joined 44 (map decimal (n ∷ ids)) (omega arith) (decimals_lack 44 (n ∷ ids) (omega arith) h.1)) ∙ numbers_written (n ∷ ids) h.1

learners_written : (ids : List ℕ) → AllByRecursion IsU64 ids → groups_and_learners (learner_words ids) ≡ Some ([], ids)
unfolding groups_and_learners
learners_written [] h = refl
learners_written (n ∷ ids) h = rw (numbers_written (n ∷ ids) h) refl

members_written : (groups : List (List ℕ)) (ids : List ℕ) → AllByRecursion IsGroup groups → AllByRecursion IsU64 ids → groups_and_learners (map group_word groups ++ learner_words ids) ≡ Some (groups, ids)
unfolding groups_and_learners
members_written [] ids h g = learners_written ids g
members_written (first ∷ groups) ids h g =
    rw (no_name (group_word first) 108 (codes "earners") (omega arith) (group_low first h.0), group_written first h.0, members_written groups ids h.1 g) refl

some_written : {A : Type 0} (xs : List A) → xs ≢ [] → one_or_more xs ≡ Some xs
some_written [] h = absurd (h refl)
some_written (x ∷ xs) h = refl

change_written : (n : ℕ) (groups : List (List ℕ)) (ids : List ℕ) → AllByRecursion IsGroup groups → AllByRecursion IsU64 ids → groups ≢ [] → change n (map group_word groups ++ learner_words ids) ≡ Some (Change n groups ids)
unfolding change
change_written n groups ids h g some = rw (members_written groups ids h g, some_written groups some) refl

-- a name and a number behind words
length_more : (ws : List (List ℕ)) (v w : List ℕ) → length (ws ++ v ∷ w ∷ []) ≡ length ws + 2
length_more [] v w = refl
length_more (x ∷ ws) v w = omega (arith, length_more ws v w)

name_there : (ws : List (List ℕ)) (v w : List ℕ) → get_or (ws ++ v ∷ w ∷ []) (length ws) [] ≡ v
name_there [] v w = refl
name_there (x ∷ ws) v w = name_there ws v w

number_there : (ws : List (List ℕ)) (v w : List ℕ) → get_or (ws ++ v ∷ w ∷ []) (suc (length ws)) [] ≡ w
number_there [] v w = refl
number_there (x ∷ ws) v w = number_there ws v w

others_there : (ws : List (List ℕ)) (v w : List ℕ) → take (length ws) (ws ++ v ∷ w ∷ []) ≡ ws
others_there [] v w = refl
others_there (x ∷ ws) v w = ap (λ xs. x ∷ xs) (others_there ws v w)

ends_more : (name : List ℕ) (ws : List (List ℕ)) (v w : List ℕ) → 0 < length ws → ends_with name (ws ++ v ∷ w ∷ []) ≡ is v name
ends_more name ws v w some =
    let two : nat_le 3 (length ws + 2) ≡ true = le-leb 3 (length ws + 2) (omega arith) in
    let at : (length ws + 2) - 2 ≡ length ws = omega arith in
    rw (length_more ws v w, two, at, name_there ws v w) refl

-- they are split off
split_written : (name : List ℕ) (ws : List (List ℕ)) (n : ℕ) → 0 < length ws → is name name ≡ true → IsU64 n → trailing name (ws ++ name ∷ decimal n ∷ []) ≡ Some (ws, Some n)
unfolding trailing
split_written name ws n some same small =
    let before : (length ws + 2) - 2 ≡ length ws = omega arith in
    let last : (length ws + 2) - 1 ≡ suc (length ws) = omega arith in
    rw (ends_more name ws name (decimal n) some, same, length_more ws name (decimal n), before, last, number_there ws name (decimal n), number_of (decimal n) n small refl, others_there ws name (decimal n)) refl

-- where there are none, all words are left
kept_written : (name : List ℕ) (ws : List (List ℕ)) → ends_with name ws ≡ false → trailing name ws ≡ Some (ws, None)
unfolding trailing
kept_written name ws h = rw h refl

-- no word of an event's kind but the first is `at` or `stop`
abbrev IsPlain : List ℕ → Type 0
IsPlain w = (is w (codes "at") ≡ false) × (is w (codes "stop") ≡ false)

low_plain : (w : List ℕ) → BeginsLow w → IsPlain w
low_plain w low = (no_name w 97 (codes "t") (omega arith) low, no_name w 115 (codes "top") (omega arith) low)

decimal_plain : (n : ℕ) → IsU64 n → IsPlain (decimal n)
decimal_plain n small = low_plain (decimal n) (decimal_low n small)

abbrev ArePlain : List (List ℕ) → Type 0
ArePlain ws = AllByRecursion IsPlain ws

decimals_plain : (ids : List ℕ) → AllByRecursion IsU64 ids → ArePlain (map decimal ids)
decimals_plain [] h = tt
decimals_plain (n ∷ ids) h = (decimal_plain n h.0, decimals_plain ids h.1)

learners_plain : (ids : List ℕ) → AllByRecursion IsU64 ids → ArePlain (learner_words ids)
learners_plain [] h = tt
learners_plain (n ∷ ids) h = ((refl, refl), decimals_plain (n ∷ ids) h)

members_plain : (groups : List (List ℕ)) (ids : List ℕ) → AllByRecursion IsGroup groups → AllByRecursion IsU64 ids → ArePlain (map group_word groups ++ learner_words ids)
members_plain [] ids h g = learners_plain ids g
members_plain (first ∷ groups) ids h g = (low_plain (group_word first) (group_low first h.0), members_plain groups ids h.1 g)

value_plain : (language : Language) (v : Value) → HasWord language v → IsPlain (value_word v)
value_plain language (Number v) small = decimal_plain v small
value_plain First (Bytes bytes) small = absurd small
value_plain Second (Bytes bytes) small = (refl, refl)

values_plain : (language : Language) (vs : List Value) → AllByRecursion (HasWord language) vs → ArePlain (map value_word vs)
values_plain language [] h = tt
values_plain language (v ∷ vs) h = (value_plain language v h.0, values_plain language vs h.1)

plain_there : (ws : List (List ℕ)) (i : ℕ) → ArePlain ws → IsPlain (get_or ws i [])
plain_there [] i h = (refl, refl)
plain_there (w ∷ ws) zero h = h.0
plain_there (w ∷ ws) (suc i) h = plain_there ws i h.1

never : (b c : Bool) → c ≡ false → b && c ≡ false
never true c h = h
never false c h = refl

-- so neither ends it
abbrev EndsPlain : List (List ℕ) → Type 0
EndsPlain ws = (ends_with (codes "at") ws ≡ false) × (ends_with (codes "stop") ws ≡ false)

ends_plain : (w : List ℕ) (ws : List (List ℕ)) → ArePlain ws → EndsPlain (w ∷ ws)
ends_plain w [] h = (refl, refl)
ends_plain w (v ∷ []) h = (refl, refl)
ends_plain w (v ∷ u ∷ us) h =
    let plain = plain_there (v ∷ u ∷ us) (length us) h in
    let at : length (w ∷ v ∷ u ∷ us) - 2 ≡ suc (length us) = omega arith in
    let no : (name : List ℕ) → is (get_or (v ∷ u ∷ us) (length us) []) name ≡ false → ends_with name (w ∷ v ∷ u ∷ us) ≡ false = λ name k.
    subst (λ i. nat_le 3 (length (w ∷ v ∷ u ∷ us)) && is (get_or (w ∷ v ∷ u ∷ us) i []) name ≡ false) (sym at) (never (nat_le 3 (length (w ∷ v ∷ u ∷ us))) _ k) in
    (no (codes "at") plain.0, no (codes "stop") plain.1)

kind_ends : (language : Language) (k : EventKind) → HasU64s language k → EndsPlain (kind_words k)
kind_ends language (Init n) small = ends_plain (codes "init") (decimal n ∷ []) (decimal_plain n small, tt)
kind_ends language (Timeout n) small = ends_plain (codes "timeout") (decimal n ∷ []) (decimal_plain n small, tt)
kind_ends language (Deliver n) small = ends_plain (codes "deliver") (decimal n ∷ []) (decimal_plain n small, tt)
kind_ends language (Propose n vs) small = ends_plain (codes "propose") (decimal n ∷ map value_word vs) (decimal_plain n small.0, values_plain language vs small.1)
kind_ends language (Heartbeat n) small = ends_plain (codes "heartbeat") (decimal n ∷ []) (decimal_plain n small, tt)
kind_ends language (Fail n v) small = ends_plain (codes "fail") (decimal n ∷ decimal v ∷ []) (decimal_plain n small.0, (decimal_plain v small.1, tt))
kind_ends language (Snapshot n) small = ends_plain (codes "snapshot") (decimal n ∷ []) (decimal_plain n small, tt)
kind_ends language (Built n) small = ends_plain (codes "built") (decimal n ∷ []) (decimal_plain n small, tt)
kind_ends language (Purge n v) small = ends_plain (codes "purge") (decimal n ∷ decimal v ∷ []) (decimal_plain n small.0, (decimal_plain v small.1, tt))
kind_ends language (Restart n Plain) small = ends_plain (codes "restart") (decimal n ∷ []) (decimal_plain n small.0, tt)
kind_ends language (Restart n Saved) small = ends_plain (codes "restart") (decimal n ∷ codes "saved" ∷ []) (decimal_plain n small.0, ((refl, refl), tt))
kind_ends language (Restart n Bare) small = ends_plain (codes "restart") (decimal n ∷ codes "bare" ∷ []) (decimal_plain n small.0, ((refl, refl), tt))
kind_ends language (Member n ids) small = ends_plain (codes "member") (decimal n ∷ map decimal ids) (decimal_plain n small.0, decimals_plain ids small.1)
kind_ends language (Change n groups ids) small =
    ends_plain (codes "change") (decimal n ∷ (map group_word groups ++ learner_words ids)) (decimal_plain n small.0, members_plain groups ids small.1 small.2)
kind_ends language (Read n) small = ends_plain (codes "read") (decimal n ∷ []) (decimal_plain n small, tt)
kind_ends language (Down n) small = ends_plain (codes "down") (decimal n ∷ []) (decimal_plain n small, tt)
kind_ends First (Stop n) small = absurd small
kind_ends Second (Stop n) small = ends_plain (codes "stop") (decimal n ∷ []) (decimal_plain n small, tt)
kind_ends First (Stand n) small = absurd small
kind_ends Second (Stand n) small = ends_plain (codes "stand") (decimal n ∷ []) (decimal_plain n small, tt)

some_more : (ws vs : List (List ℕ)) → 0 < length ws → 0 < length (ws ++ vs)
some_more [] vs some = absurd (omega arith)
some_more (w ∷ ws) vs some = omega arith

stop_written : (ws : List (List ℕ)) (at stop : Option ℕ) → 0 < length ws → EndsPlain ws → IfSome stop IsU64 → trailing (codes "stop") (ws ++ time_words at ++ stop_words stop) ≡ Some (ws ++ time_words at, stop)
stop_written ws at (Some j) some plain timely = split_written (codes "stop") (ws ++ time_words at) j (some_more ws (time_words at) some) refl timely
stop_written ws None None some plain timely = rw (append-nil (ws ++ []), append-nil ws) (kept_written (codes "stop") ws plain.1)
stop_written ws (Some t) None some plain timely =
    rw (append-nil (ws ++ codes "at" ∷ decimal t ∷ [])) (kept_written (codes "stop") (ws ++ codes "at" ∷ decimal t ∷ []) (ends_more (codes "stop") ws (codes "at") (decimal t) some))

time_written : (ws : List (List ℕ)) (at : Option ℕ) → 0 < length ws → EndsPlain ws → IfSome at IsU64 → trailing (codes "at") (ws ++ time_words at) ≡ Some (ws, at)
time_written ws (Some t) some plain timely = split_written (codes "at") ws t some refl timely
time_written ws None some plain timely = rw (append-nil ws) (kept_written (codes "at") ws plain.0)

low_begins : (w : List ℕ) → BeginsLow w → begins 120 w ≡ false
low_begins [] low = refl
low_begins (b ∷ w) low = ne_eqb b 120 (λ e. omega arith)

are_bytes : (bytes : List ℕ) → AllByRecursion IsByte bytes → IsBytes bytes
are_bytes [] h i = omega arith
are_bytes (b ∷ bytes) h zero = h.0
are_bytes (b ∷ bytes) h (suc i) = are_bytes bytes h.1 i

value_written : (language : Language) (v : Value) → HasWord language v → value language (value_word v) ≡ Some v
value_written language (Number v) small = number_value language (decimal v) (λ second. low_begins (decimal v) (decimal_low v small)) ∙ ap (option_map Number) (number_of (decimal v) v small refl)
value_written First (Bytes bytes) small = absurd small
value_written Second (Bytes bytes) small = bytes_value Second (value_word (Bytes bytes)) (hex_text bytes) refl refl ∙ ap (option_map Bytes) (hex_again bytes (are_bytes bytes small))

each_written : (language : Language) (vs : List Value) → AllByRecursion (HasWord language) vs → each_value language (map value_word vs) ≡ Some vs
unfolding each_value
each_written language [] h = refl
each_written language (v ∷ vs) h = rw (value_written language v h.0, each_written language vs h.1) refl

values_written : (language : Language) (vs : List Value) → AllByRecursion (HasWord language) vs → is_count language (length vs) ≡ true → values language (map value_word vs) ≡ Some vs
unfolding values
values_written language vs h count = rw (length-map vs value_word, count) (each_written language vs h)

kind_written : (language : Language) (k : EventKind) → HasU64s language k → kind language (kind_words k) ≡ Some k
unfolding named_kind kind_of_one kind_of_two start_of
kind_written language (Init n) small = rw (number_of (decimal n) n small refl) refl
kind_written language (Timeout n) small = rw (number_of (decimal n) n small refl) refl
kind_written language (Deliver n) small = rw (number_of (decimal n) n small refl) refl
kind_written language (Propose n vs) small = rw (number_of (decimal n) n small.0 refl, values_written language vs small.1 small.2) refl
kind_written language (Heartbeat n) small = rw (number_of (decimal n) n small refl) refl
kind_written language (Fail n v) small = rw (number_of (decimal n) n small.0 refl, number_of (decimal v) v small.1 refl) refl
kind_written language (Snapshot n) small = rw (number_of (decimal n) n small refl) refl
kind_written language (Built n) small = rw (number_of (decimal n) n small refl) refl
kind_written language (Purge n v) small = rw (number_of (decimal n) n small.0 refl, number_of (decimal v) v small.1 refl) refl
kind_written language (Restart n Plain) small = rw (number_of (decimal n) n small.0 refl) refl
kind_written First (Restart n Saved) small = rw (number_of (decimal n) n small.0 refl) refl
kind_written Second (Restart n Saved) small = rw (number_of (decimal n) n small.0 refl) refl
kind_written First (Restart n Bare) small = absurd small.1
kind_written Second (Restart n Bare) small = rw (number_of (decimal n) n small.0 refl) refl
kind_written language (Member n ids) small = rw (number_of (decimal n) n small.0 refl, numbers_written ids small.1) refl
kind_written language (Change n groups ids) small = rw (number_of (decimal n) n small.0 refl, change_written n groups ids small.1 small.2 small.3) refl
kind_written language (Read n) small = rw (number_of (decimal n) n small refl) refl
kind_written language (Down n) small = rw (number_of (decimal n) n small refl) refl
kind_written First (Stop n) small = absurd small
kind_written Second (Stop n) small = rw (number_of (decimal n) n small refl) refl
kind_written First (Stand n) small = absurd small
kind_written Second (Stand n) small = rw (number_of (decimal n) n small refl) refl

timed_written : (k : EventKind) (at stop : Option ℕ) → (takes_time k ≡ false → at ≡ None) → timed_event k at stop ≡ Some (record { kind = k; at = at; stop = stop })
timed_written k None stop h = refl
timed_written k (Some t) stop h = go (takes_time k) refl where
  go : (b : Bool) → takes_time k ≡ b → timed_event k (Some t) stop ≡ Some (record { kind = k; at = Some t; stop = stop })
  go true e = rw e refl
  go false e = let none : Some t ≡ None = h e in cc

-- a line that begins with another byte than `#` isn't skipped
line_starts : (name : List ℕ) (ws : List (List ℕ)) → is_skipped name ≡ false → (0 < length (name ∷ ws)) × (is_skipped (join_with_byte 32 (name ∷ ws)) ≡ false)
line_starts [] ws h = cc
line_starts (b ∷ name) [] h = (omega arith, h)
line_starts (b ∷ name) (v ∷ vs) h = (omega arith, h)

kind_starts : (k : EventKind) (rest : List (List ℕ)) → (0 < length (kind_words k ++ rest)) × (is_skipped (join_with_byte 32 (kind_words k ++ rest)) ≡ false)
kind_starts (Init n) rest = line_starts (codes "init") (decimal n ∷ rest) refl
kind_starts (Timeout n) rest = line_starts (codes "timeout") (decimal n ∷ rest) refl
kind_starts (Stand n) rest = line_starts (codes "stand") (decimal n ∷ rest) refl
kind_starts (Deliver n) rest = line_starts (codes "deliver") (decimal n ∷ rest) refl
kind_starts (Propose n vs) rest = line_starts (codes "propose") (decimal n ∷ map value_word vs ++ rest) refl
kind_starts (Heartbeat n) rest = line_starts (codes "heartbeat") (decimal n ∷ rest) refl
kind_starts (Fail n v) rest = line_starts (codes "fail") (decimal n ∷ decimal v ∷ rest) refl
kind_starts (Snapshot n) rest = line_starts (codes "snapshot") (decimal n ∷ rest) refl
kind_starts (Built n) rest = line_starts (codes "built") (decimal n ∷ rest) refl
kind_starts (Purge n v) rest = line_starts (codes "purge") (decimal n ∷ decimal v ∷ rest) refl
kind_starts (Restart n Plain) rest = line_starts (codes "restart") (decimal n ∷ rest) refl
kind_starts (Restart n Saved) rest = line_starts (codes "restart") (decimal n ∷ codes "saved" ∷ rest) refl
kind_starts (Restart n Bare) rest = line_starts (codes "restart") (decimal n ∷ codes "bare" ∷ rest) refl
kind_starts (Member n ids) rest = line_starts (codes "member") (decimal n ∷ map decimal ids ++ rest) refl
kind_starts (Change n groups ids) rest = line_starts (codes "change") (decimal n ∷ (map group_word groups ++ learner_words ids) ++ rest) refl
kind_starts (Read n) rest = line_starts (codes "read") (decimal n ∷ rest) refl
kind_starts (Down n) rest = line_starts (codes "down") (decimal n ∷ rest) refl
kind_starts (Stop n) rest = line_starts (codes "stop") (decimal n ∷ rest) refl

event_written : (language : Language) (e : Event) → HasEvent language e → event language (event_words e) ≡ Some e
unfolding event
event_written language e h =
    let some : 0 < length (kind_words e.kind) = subst (λ ws. 0 < length ws) (append-nil (kind_words e.kind)) (kind_starts e.kind []).0 in
    let plain : EndsPlain (kind_words e.kind) = kind_ends language e.kind h.0 in
    rw (stop_written (kind_words e.kind) e.at e.stop some plain h.2, time_written (kind_words e.kind) e.at some plain h.1, kind_written language e.kind h.0) (timed_written e.kind e.at e.stop h.3)

-- a step with another name than `deliver` and `expect` is an event
plain_step : (language : Language) (name first : List ℕ) (rest : List (List ℕ)) → is name (codes "deliver") ≡ false → is name (codes "expect") ≡ false
    → step language (name ∷ first ∷ rest) ≡ option_map Happens (event language (name ∷ first ∷ rest))
unfolding step
plain_step First name first rest h g = refl
plain_step Second name first rest h g = rw (h, g) refl

digits_lack_above : (c : ℕ) (ds : List ℕ) → 57 < c → AllDigits 10 ds → lacks c ds ≡ true
digits_lack_above c [] high h = refl
digits_lack_above c (d ∷ ds) high h = rw (ne_eqb d c (λ e. omega (arith, digit_from_value d h.0)), digits_lack_above c ds high h.1) refl

decimal_lacks_above : (c n : ℕ) → 57 < c → IsU64 n → lacks c (decimal n) ≡ true
decimal_lacks_above c n high small = digits_lack_above c (decimal n) high (decimal_is_IsNumeral n small).0.1

decimal_lacks : (c n : ℕ) → c < 48 → IsU64 n → lacks c (decimal n) ≡ true
decimal_lacks c n low small = digits_lack c (decimal n) low (decimal_is_IsNumeral n small).0.1

-- one number is no sender and addressee
no_ends : (n : ℕ) → IsU64 n → ends (decimal n) ≡ None
unfolding ends
no_ends n small = rw (uncut 62 (decimal n) (decimal_lacks_above 62 n (omega arith) small), numbers_written (n ∷ []) (small, tt)) refl

ends_written : (a b : ℕ) → IsU64 a → IsU64 b → ends (ends_word a b) ≡ Some (a, b)
unfolding ends
ends_written a b ha hb =
    rw (parts_joined 62 (decimal a ∷ decimal b ∷ []) (omega arith) (decimal_lacks_above 62 a (omega arith) ha, (decimal_lacks_above 62 b (omega arith) hb, tt)), numbers_written (a ∷ b ∷ []) (ha, (hb, tt))) refl

deliver_step : (language : Language) (n : ℕ) (rest : List (List ℕ)) → IsU64 n → step language (codes "deliver" ∷ decimal n ∷ rest) ≡ option_map Happens (event language (codes "deliver" ∷ decimal n ∷ rest))
unfolding step delivery
deliver_step First n rest small = refl
deliver_step Second n rest small = rw (no_name (decimal n) 97 (codes "ll") (omega arith) (decimal_low n small), no_ends n small) refl

-- no event begins as another statement does
is_event : (language : Language) (k : EventKind) (rest : List (List ℕ)) → HasU64s language k → meaning language (kind_words k ++ rest) ≡ option_map Does (option_map Happens (event language (kind_words k ++ rest)))
unfolding meaning
is_event language (Init n) rest small = ap (option_map Does) (plain_step language (codes "init") (decimal n) (rest) refl refl)
is_event language (Timeout n) rest small = ap (option_map Does) (plain_step language (codes "timeout") (decimal n) (rest) refl refl)
is_event language (Stand n) rest small = ap (option_map Does) (plain_step language (codes "stand") (decimal n) (rest) refl refl)
is_event language (Deliver n) rest small = ap (option_map Does) (deliver_step language n rest small)
is_event language (Propose n vs) rest small = ap (option_map Does) (plain_step language (codes "propose") (decimal n) (map value_word vs ++ rest) refl refl)
is_event language (Heartbeat n) rest small = ap (option_map Does) (plain_step language (codes "heartbeat") (decimal n) (rest) refl refl)
is_event language (Fail n v) rest small = ap (option_map Does) (plain_step language (codes "fail") (decimal n) (decimal v ∷ rest) refl refl)
is_event language (Snapshot n) rest small = ap (option_map Does) (plain_step language (codes "snapshot") (decimal n) (rest) refl refl)
is_event language (Built n) rest small = ap (option_map Does) (plain_step language (codes "built") (decimal n) (rest) refl refl)
is_event language (Purge n v) rest small = ap (option_map Does) (plain_step language (codes "purge") (decimal n) (decimal v ∷ rest) refl refl)
is_event language (Restart n Plain) rest small = ap (option_map Does) (plain_step language (codes "restart") (decimal n) (rest) refl refl)
is_event language (Restart n Saved) rest small = ap (option_map Does) (plain_step language (codes "restart") (decimal n) (codes "saved" ∷ rest) refl refl)
is_event language (Restart n Bare) rest small = ap (option_map Does) (plain_step language (codes "restart") (decimal n) (codes "bare" ∷ rest) refl refl)
is_event language (Member n ids) rest small = ap (option_map Does) (plain_step language (codes "member") (decimal n) (map decimal ids ++ rest) refl refl)
is_event language (Change n groups ids) rest small = ap (option_map Does) (plain_step language (codes "change") (decimal n) ((map group_word groups ++ learner_words ids) ++ rest) refl refl)
is_event language (Read n) rest small = ap (option_map Does) (plain_step language (codes "read") (decimal n) (rest) refl refl)
is_event language (Down n) rest small = ap (option_map Does) (plain_step language (codes "down") (decimal n) (rest) refl refl)
is_event language (Stop n) rest small = ap (option_map Does) (plain_step language (codes "stop") (decimal n) (rest) refl refl)

happens_written : (language : Language) (e : Event) → HasEvent language e → meaning language (event_words e) ≡ Some (Does (Happens e))
happens_written language e h =
    let grouped : event_words e ≡ kind_words e.kind ++ (time_words e.at ++ stop_words e.stop) = append_assoc (kind_words e.kind) (time_words e.at) (stop_words e.stop) in
    ap (meaning language) grouped ∙ is_event language e.kind (time_words e.at ++ stop_words e.stop) h.0 ∙ ap (λ ws. option_map Does (option_map Happens (event language ws))) (sym grouped)
    ∙ ap (λ o. option_map Does (option_map Happens o)) (event_written language e h)

kind_again : (k : MessageKind) → message_kind (message_word k) ≡ Some k
unfolding message_kind
kind_again VoteRequest = refl
kind_again VoteReply = refl
kind_again Append = refl
kind_again MessageKind.Heartbeat = refl
kind_again AppendReply = refl
kind_again MessageKind.Snapshot = refl
kind_again SnapshotReply = refl

next_written : (a b : ℕ) (k : MessageKind) (at stop : Option ℕ) → IfSome at IsU64 → IfSome stop IsU64 → next (a, b) (message_word k ∷ (time_words at ++ stop_words stop)) ≡ Some (Next (record { from = a; to = b; kind = k }) at stop)
unfolding next
next_written a b k at stop timely stopped =
    let ws : List (List ℕ) = message_word k ∷ [] in
    rw (stop_written ws at stop (omega arith) (refl, refl) stopped, time_written ws at (omega arith) (refl, refl) timely, kind_again k) refl

-- a leader's id is parted again
leader_parts : (term node : ℕ) → IsU64 term → IsU64 node → parts 45 (leader_word term node) ≡ decimal term ∷ decimal node ∷ []
leader_parts term node t n = cut 45 (decimal term) (decimal node) (decimal_lacks 45 term (omega arith) t) ∙ ap (λ ws. decimal term ∷ ws) (uncut 45 (decimal node) (decimal_lacks 45 node (omega arith) n))

id_parts : (id : LogId ℕ) → IsId id → parts 45 (id_word id) ≡ decimal id.leader_id.term ∷ decimal id.leader_id.node_id ∷ decimal id.index ∷ []
id_parts id h =
    let term = id.leader_id.term in
    let node = id.leader_id.node_id in
    ap (parts 45) (id_is id) ∙ cut 45 (decimal term) (decimal node ++ 45 ∷ decimal id.index) (decimal_lacks 45 term (omega arith) h.0)
    ∙ ap (λ ws. decimal term ∷ ws) (cut 45 (decimal node) (decimal id.index) (decimal_lacks 45 node (omega arith) h.1) ∙ ap (λ ws. decimal node ∷ ws) (uncut 45 (decimal id.index) (decimal_lacks 45 id.index (omega arith) h.2)))

id_written : (id : LogId ℕ) → IsId id → log_id (id_word id) ≡ Some id
unfolding log_id
id_written id h = rw (id_parts id h, numbers_written (id.leader_id.term ∷ id.leader_id.node_id ∷ id.index ∷ []) (h.0, (h.1, (h.2, tt)))) refl

low_more : (w rest : List ℕ) → 0 < length w → BeginsLow w → BeginsLow (w ++ rest)
low_more [] rest some low = absurd (omega arith)
low_more (b ∷ w) rest some low = low

id_low : (id : LogId ℕ) → IsId id → BeginsLow (id_word id)
id_low id h = subst BeginsLow (sym (id_is id)) (low_more (decimal id.leader_id.term) (45 ∷ (decimal id.leader_id.node_id ++ 45 ∷ decimal id.index)) (decimal_is_IsNumeral id.leader_id.term h.0).0.0 (decimal_low id.leader_id.term h.0))

optional_id_written : (id : Option (LogId ℕ)) → IfSome id IsId → optional_id (optional_word id_word id) ≡ Some id
unfolding optional_id
optional_id_written None h = refl
optional_id_written (Some id) h = rw (no_name (id_word id) 78 (codes "one") (omega arith) (id_low id h), id_written id h) refl

index_written : (index : Option ℕ) → IfSome index IsU64 → optional_index (optional_word decimal index) ≡ Some index
unfolding optional_index
index_written None h = refl
index_written (Some i) h = rw (no_name (decimal i) 78 (codes "one") (omega arith) (decimal_low i h), number_of (decimal i) i h refl) refl

leader_lacks : (term node : ℕ) → IsU64 term → IsU64 node → lacks 58 (leader_word term node) ≡ true
leader_lacks term node t n =
    list_all-append (λ b. not (eqb b 58)) (decimal term) (45 ∷ decimal node) ∙ rw (decimal_lacks_above 58 term (omega arith) t, decimal_lacks_above 58 node (omega arith) n) refl

marks_again : (b : Bool) → (parts 58 (mark_word b) ≡ mark_word b ∷ []) × (mark (mark_word b) ≡ Some b)
unfolding mark
marks_again true = (refl, refl)
marks_again false = (refl, refl)

vote_written : (v : Vote ℕ) → IsU64 v.leader_id.term → IsU64 v.leader_id.node_id → vote (vote_word v) ≡ Some v
vote_written v t n =
    let leader : List ℕ = leader_word v.leader_id.term v.leader_id.node_id in
    ap marked
    (ap (parts 58) (vote_is v) ∙ cut 58 leader (mark_word v.committed) (leader_lacks v.leader_id.term v.leader_id.node_id t n) ∙ ap (λ ws. leader ∷ ws) (marks_again v.committed).0)
    ∙ rw (leader_parts v.leader_id.term v.leader_id.node_id t n, numbers_written (v.leader_id.term ∷ v.leader_id.node_id ∷ []) (t, (n, tt)), (marks_again v.committed).1) refl

named_written : (fact : Fact) (rest : List Fact) → IsNamed fact → named_facts (flat_map fact_words rest) ≡ Some rest → named_facts (fact_words fact ++ flat_map fact_words rest) ≡ Some (fact ∷ rest)
unfolding named_facts named_fact
named_written Stopped rest h g = absurd h
named_written (Role r) rest h g = absurd h
named_written (Fact.Vote v) rest h g = rw (vote_written v h.0 h.1, g) refl
named_written (Last id) rest h g = rw (optional_id_written id h, g) refl
named_written (Committed id) rest h g = rw (optional_id_written id h, g) refl
named_written (Applied index) rest h g = rw (index_written index h, g) refl

named_all_written : (fs : List Fact) → AllByRecursion IsNamed fs → named_facts (flat_map fact_words fs) ≡ Some fs
unfolding named_facts
named_all_written [] h = refl
named_all_written (fact ∷ fs) h = named_written fact fs h.0 (named_all_written fs h.1)

facts_written : (fs : List Fact) → AreFacts fs → facts (flat_map fact_words fs) ≡ Some fs
unfolding facts role
facts_written [] h = refl
facts_written (Stopped ∷ fs) h = rw (named_all_written fs h) refl
facts_written (Role Learner ∷ fs) h = rw (named_all_written fs h) refl
facts_written (Role Follower ∷ fs) h = rw (named_all_written fs h) refl
facts_written (Role Candidate ∷ fs) h = rw (named_all_written fs h) refl
facts_written (Role Leader ∷ fs) h = rw (named_all_written fs h) refl
facts_written (Fact.Vote v ∷ fs) h = named_all_written (Fact.Vote v ∷ fs) h
facts_written (Last id ∷ fs) h = named_all_written (Last id ∷ fs) h
facts_written (Committed id ∷ fs) h = named_all_written (Committed id ∷ fs) h
facts_written (Applied index ∷ fs) h = named_all_written (Applied index ∷ fs) h

expects_written : (e : Expectation) → HasExpectation e → step Second (codes "expect" ∷ expectation_words e) ≡ Some (Expects e)
unfolding step expectation
expects_written (Node n fs) h =
    rw (no_name (decimal n) 97 (codes "gree") (omega arith) (decimal_low n h.0), no_name (decimal n) 114 (codes "ead") (omega arith) (decimal_low n h.0), number_of (decimal n) n h.0 refl, facts_written fs h.1) refl
expects_written (Expectation.Read id) h = rw (optional_id_written id h) refl
expects_written Agree h = refl

ends_low : (a b : ℕ) → IsU64 a → BeginsLow (ends_word a b)
ends_low a b h = joined_low 62 (decimal a) (decimal b ∷ []) (decimal_is_IsNumeral a h).0.0 (decimal_low a h)

step_written : (language : Language) (s : Step) → HasStep language s → meaning language (step_words s) ≡ Some (Does s)
unfolding meaning step delivery all_of
step_written language (Happens e) h = happens_written language e h
step_written First (Next link at stop) h = absurd h
step_written First (All n) h = absurd h
step_written First (Expects e) h = absurd h
step_written Second (Next link at stop) h =
    rw (no_name (ends_word link.from link.to) 97 (codes "ll") (omega arith) (ends_low link.from link.to h.0), ends_written link.from link.to h.0 h.1, next_written link.from link.to link.kind at stop h.2 h.3) refl
step_written Second (All n) h = rw (number_of (decimal n) n h refl) refl
step_written Second (Expects e) h = ap (option_map Does) (expects_written e h)

meaning_written : (language : Language) (s : Statement) → HasWords language s → meaning language (statement_words s) ≡ Some s
unfolding meaning named_setting policy
meaning_written language Speaks h = absurd h
meaning_written language (Nodes ids) h = rw (numbers_written ids h) refl
meaning_written language (Voters ids) h = rw (numbers_written ids h) refl
meaning_written language (Learners ids) h = rw (numbers_written ids h) refl
meaning_written language (Sets (Lease n)) h = rw (number_of (decimal n) n h refl) refl
meaning_written language (Sets (Policy Never)) h = refl
meaning_written language (Sets (Policy (LogsSinceLast n))) h = rw (no_name (decimal n) 110 (codes "ever") (omega arith) (decimal_low n h), number_of (decimal n) n h refl) refl
meaning_written language (Sets (Keep n)) h = rw (number_of (decimal n) n h refl) refl
meaning_written language (Sets (Batch n)) h = rw (number_of (decimal n) n h refl) refl
meaning_written language (Sets (Payload n)) h = rw (number_of (decimal n) n h refl) refl
meaning_written language (Does step) h = step_written language step h

step_starts : (s : Step) → (0 < length (step_words s)) × (is_skipped (join_with_byte 32 (step_words s)) ≡ false)
step_starts (Happens e) =
    subst (λ ws. (0 < length ws) × (is_skipped (join_with_byte 32 ws) ≡ false)) (sym (append_assoc (kind_words e.kind) (time_words e.at) (stop_words e.stop))) (kind_starts e.kind (time_words e.at ++ stop_words e.stop))
step_starts (Next link at stop) = line_starts (codes "deliver") (ends_word link.from link.to ∷ message_word link.kind ∷ (time_words at ++ stop_words stop)) refl
step_starts (All n) = line_starts (codes "deliver") (codes "all" ∷ decimal n ∷ []) refl
step_starts (Expects e) = line_starts (codes "expect") (expectation_words e) refl

starts : (s : Statement) → (0 < length (statement_words s)) × (is_skipped (join_with_byte 32 (statement_words s)) ≡ false)
starts Speaks = (omega arith, refl)
starts (Nodes []) = (omega arith, refl)
starts (Nodes (n ∷ ids)) = (omega arith, refl)
starts (Voters []) = (omega arith, refl)
starts (Voters (n ∷ ids)) = (omega arith, refl)
starts (Learners []) = (omega arith, refl)
starts (Learners (n ∷ ids)) = (omega arith, refl)
starts (Sets (Lease n)) = (omega arith, refl)
starts (Sets (Policy Never)) = (omega arith, refl)
starts (Sets (Policy (LogsSinceLast n))) = (omega arith, refl)
starts (Sets (Keep n)) = (omega arith, refl)
starts (Sets (Batch n)) = (omega arith, refl)
starts (Sets (Payload n)) = (omega arith, refl)
starts (Does step) = step_starts step

-- ---- all lines

ended_well : (n : ℕ) (p : Place) → p ≢ Start → ended n p ≡ Ok []
ended_well n Start h = absurd (h refl)
ended_well n AtVoters h = refl
ended_well n AtLearners h = refl
ended_well n Settings h = refl
ended_well n Events h = refl

said_written : (language : Language) (p : Place) (s : Statement) → stands p s ≡ true → HasWords language s → said_at language p (words language (join_with_byte 32 (statement_words s))) ≡ Some s
said_written language p s may h =
    ap (said_at language p) (words_joined language (statement_words s) (starts s).0 (words_high language s h)) ∙ ap (standing p) (meaning_written language s h) ∙ rw may refl

-- the first statement is no `language 2`
no_head : (language : Language) (p : Place) (s : Statement) → stands p s ≡ true → begins_second language p (join_with_byte 32 (statement_words s)) ≡ false
no_head First Start Speaks may = cc
no_head First Start (Nodes []) may = refl
no_head First Start (Nodes (n ∷ ids)) may = refl
no_head First Start (Voters ids) may = cc
no_head First Start (Learners ids) may = cc
no_head First Start (Sets setting) may = cc
no_head First Start (Does step) may = cc
no_head First AtVoters s may = refl
no_head First AtLearners s may = refl
no_head First Settings s may = refl
no_head First Events s may = refl
no_head Second p s may = refl

statements_written : (n : ℕ) (language : Language) (p : Place) (ss : List Statement) → AreInOrder language p ss → statements n language p (lines (text_of ss)) ≡ Ok (numbered n ss)
unfolding statements
statements_written n language p [] h = ended_well n p h
statements_written n language p (s ∷ ss) h =
    ap (statements n language p) (line_cut (join_with_byte 32 (statement_words s)) (text_of ss) (line_lacks (statement_words s) (words_high language s h.1)))
    ∙ rw ((starts s).1, no_head language p s h.0, said_written language p s h.0 h.1, statements_written (n + 1) language (behind s) ss h.2) refl

pub reads_written : ReadsWritten
unfolding statements
reads_written First ss h = rw (statements_written 1 First Start ss h) refl
reads_written Second ss h = rw (statements_written 2 Second Start ss h) refl

-- ---- a whole schedule

steps_in_order : (language : Language) (es : List Numbered) → AllByRecursion (HasWords language) (map does es) → AreInOrder language Events (map does es)
steps_in_order language [] h = λ e. cc
steps_in_order language (e ∷ es) h = (refl, h.0, steps_in_order language es h.1)

after_settings : (language : Language) (es : List Numbered) → AllByRecursion (HasWords language) (map does es) → AreInOrder language Settings (map does es)
after_settings language [] h = λ e. cc
after_settings language (e ∷ es) h = (refl, h.0, steps_in_order language es h.1)

groups_in_order : (language : Language) (groups : List (List ℕ)) (rest : List Statement) → (AllByRecursion (HasWords language) rest → AreInOrder language AtVoters rest) → AllByRecursion (HasWords language) (map Voters groups ++ rest)
    → AreInOrder language AtVoters (map Voters groups ++ rest)
groups_in_order language [] rest f h = f h
groups_in_order language (ids ∷ groups) rest f h = (refl, h.0, groups_in_order language groups rest f h.1)

-- where settings may stand, all of them may, and then the events
settings_in_order : (language : Language) (p : Place) (c : EngineConfig ℕ) (es : List Numbered) → ((x : Setting) → stands p (Sets x) ≡ true) → AllByRecursion (HasWords language) (map Sets (settings_of c) ++ map does es)
    → AreInOrder language p (map Sets (settings_of c) ++ map does es)
settings_in_order language p c es may h = (may _, h.0, (refl, h.1.0, (refl, h.1.1.0, (refl, h.1.1.1.0, (refl, h.1.1.1.1.0, after_settings language es h.1.1.1.1.1)))))

learners_in_order : (language : Language) (ids : List ℕ) (c : EngineConfig ℕ) (es : List Numbered) → AllByRecursion (HasWords language) (learners_said ids ++ (map Sets (settings_of c) ++ map does es))
    → AreInOrder language AtVoters (learners_said ids ++ (map Sets (settings_of c) ++ map does es))
learners_in_order language [] c es h = settings_in_order language AtVoters c es (λ x. refl) h
learners_in_order language (n ∷ ids) c es h = (refl, h.0, settings_in_order language AtLearners c es (λ x. refl) h.1)

all_in_order : (language : Language) (d : Said) → AllByRecursion (HasWords language) (statements_of d) → AreInOrder language Start (statements_of d)
all_in_order language d h = (refl, h.0, groups_in_order language d.groups _ (learners_in_order language d.learners d.settings d.steps) h.1)

-- the same statements, on the same lines
same_lines : (x : Said) (n m : ℕ) (rest : List Statement) → n ≡ m → fold and_said x (numbered n rest) ≡ fold and_said x (numbered m rest)
same_lines x n m rest h = ap (λ k. fold and_said x (numbered k rest)) h

groups_said : (n : ℕ) (x : Said) (groups : List (List ℕ)) (rest : List Statement)
    → fold and_said x (numbered n (map Voters groups ++ rest)) ≡ fold and_said (record x { groups = x.groups ++ groups }) (numbered (n + length groups) rest)
groups_said n x [] rest = ap (λ groups. fold and_said (record x { groups = groups }) (numbered n rest)) (sym (append-nil x.groups)) ∙ same_lines _ n (n + 0) rest (omega arith)
groups_said n x (ids ∷ groups) rest =
    groups_said (n + 1) (record x { groups = x.groups ++ ids ∷ [] }) groups rest
    ∙ ap (λ all. fold and_said (record x { groups = all }) (numbered (n + 1 + length groups) rest)) (append_assoc x.groups (ids ∷ []) groups)
    ∙ same_lines _ (n + 1 + length groups) (n + length (ids ∷ groups)) rest (omega arith)

learners_again : (n : ℕ) (x : Said) (ids : List ℕ) (rest : List Statement) → x.learners ≡ []
    → fold and_said x (numbered n (learners_said ids ++ rest)) ≡ fold and_said (record x { learners = ids }) (numbered (n + length (learners_said ids)) rest)
learners_again n x [] rest h = ap (λ ids. fold and_said (record x { learners = ids }) (numbered n rest)) h ∙ same_lines _ n (n + 0) rest (omega arith)
learners_again n x (id ∷ ids) rest h = same_lines _ (n + 1) (n + length (learners_said (id ∷ ids))) rest (omega arith)

settings_again : (n : ℕ) (x : Said) (c : EngineConfig ℕ) (rest : List Statement)
    → fold and_said x (numbered n (map Sets (settings_of c) ++ rest)) ≡ fold and_said (record x { settings = fold with_setting x.settings (settings_of c) }) (numbered (n + length (settings_of c)) rest)
settings_again n x c rest = same_lines (record x { settings = fold with_setting x.settings (settings_of c) }) (n + 1 + 1 + 1 + 1 + 1) (n + length (settings_of c)) rest (omega arith)

steps_said : (n : ℕ) (x : Said) (ss : List Numbered) → StandFrom n ss → fold and_said x (numbered n (map does ss)) ≡ record x { steps = x.steps ++ ss }
steps_said n x [] h = ap (λ steps. record x { steps = steps }) (sym (append-nil x.steps))
steps_said n x (s ∷ ss) h =
    let there : Numbered = record { line = n; step = s.step } in
    let one : there ≡ s = λ i. record { line = sym h.0 i; step = s.step } in
    steps_said (n + 1) (record x { steps = x.steps ++ there ∷ [] }) ss h.1 ∙ ap (λ all. record x { steps = all }) (append_assoc x.steps (there ∷ []) ss)
    ∙ ap (λ (t : Numbered). record x { steps = x.steps ++ t ∷ ss }) one

-- behind line n the steps stand here
abbrev behind_heads : ℕ → Said → ℕ
behind_heads n d = n + 1 + length d.groups + length (learners_said d.learners) + length (settings_of d.settings)

said_again : (d : Said) (n : ℕ) → StandFrom (behind_heads n d) d.steps → d.settings ≡ as_set d.settings → fold and_said (record nothing { language = d.language }) (numbered n (statements_of d)) ≡ d
said_again d n stand h =
    let named : Said = record nothing { language = d.language; nodes = d.nodes } in
    let grouped : Said = record named { groups = d.groups } in
    let learned : Said = record grouped { learners = d.learners } in
    let set : Said = record learned { settings = as_set d.settings } in
    let rest : List Statement = map Sets (settings_of d.settings) ++ map does d.steps in
    groups_said (n + 1) named d.groups (learners_said d.learners ++ rest) ∙ learners_again (n + 1 + length d.groups) grouped d.learners rest refl
    ∙ settings_again (n + 1 + length d.groups + length (learners_said d.learners)) learned d.settings (map does d.steps) ∙ steps_said (behind_heads n d) set d.steps stand
    ∙ ap (λ (c : EngineConfig ℕ). record d { settings = c }) (sym h)

lines_again : (language : Language) (d : Said) → d.language ≡ language → StandFrom (behind_heads (first_line language) d) d.steps → d.settings ≡ as_set d.settings
    → fold and_said nothing (lines_in language (statements_of d)) ≡ d
lines_again First d is stand h = subst (λ (l : Language). fold and_said (record nothing { language = l }) (numbered 1 (statements_of d)) ≡ d) is (said_again d 1 stand h)
lines_again Second d is stand h = subst (λ (l : Language). fold and_said (record nothing { language = l }) (numbered 2 (statements_of d)) ≡ d) is (said_again d 2 stand h)

pub reads_schedules : ReadsSchedules
reads_schedules d h =
    reads_written d.language (statements_of d) (all_in_order d.language d h.words) ∙ ap (λ (x : Said). Ok (plan_of x)) (lines_again d.language d refl h.lines h.settings)
